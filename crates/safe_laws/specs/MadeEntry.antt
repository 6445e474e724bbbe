-- The tree of an image whose reached directories have the entries of another's, each changed in nothing that a path asks of it, and one of them one entry more, which was not there by its folded name.
-- Where the facts of the old entries are the same and a new directory is empty, that is the new tree.
use Rattle.std.specs.Prelude.{ℕ, ◌≡◌, Bool, eqb}
use Rattle.std.proofs.Math.Path.{refl, sym, ap}
use Rattle.std.proofs.Common.{◌∙◌, eqb→eq}
use Rattle.std.proofs.Math.Bool.{true, false, cond}
use mathlib.Core.List.{List, [], ◌∷◌, ◌++◌}
use Rattle.std.proofs.Math.Option.{Option, none, some, none-ne-some}
use Rattle.rules.specs.Counting.{same_bytes}
use Rattle.rules.specs.Anodes.{Anodes, anodes_of}
use Rattle.rules.specs.Walk.{Entered}
use Rattle.rules.specs.Folding.{folded}
use Rattle.rules.specs.Lookup.{is_named, first_named, entry_named, of_entry}
use Rattle.laws.specs.Tests.{both}
use Rattle.laws.specs.Apart.{same_name}
use Rattle.change_laws.specs.Image.{AcceptedImage, ReachedDir}
use Rattle.change_laws.specs.Reached.{EntryIn}
use Rattle.paths.specs.Paths.{Path, Site, site, site_from, of_site, entry_from}
use Rattle.paths.specs.Facts.{Facts, facts_of, facts_at}
use Rattle.paths.specs.FoundNames.{named-folded}
use Rattle.paths.specs.Reached.{found_in, root-reached, sub-reached, site-reached}
use Rattle.safe_laws.specs.Claims.{same_spot, leads_to}

-- ---- a list with one more entry

-- a name that the new one has not finds what it found
pub more_other : (name : List ℕ) (x : Entered) → is_named name x ≡ false → (front back : List Entered) → first_named name (front ++ (x ∷ back)) ≡ first_named name (front ++ back)
unfolding first_named
more_other name x off [] back = ap (λ (b : Bool). elim b [ true ↦ some x | false ↦ first_named name back ]) off
more_other name x off (y ∷ front) back = ap (λ (o : Option Entered). elim (is_named name y) [ true ↦ some y | false ↦ o ]) (more_other name x off front back)

-- a name that it has, and no other, finds it
pub more_own : (name : List ℕ) (x : Entered) → is_named name x ≡ true → (front back : List Entered) → first_named name (front ++ back) ≡ none → first_named name (front ++ (x ∷ back)) ≡ some x
unfolding first_named
more_own name x on [] back e = ap (λ (b : Bool). elim b [ true ↦ some x | false ↦ first_named name back ]) on
more_own name x on (y ∷ front) back e = go (is_named name y) e (more_own name x on front back)
  where
    go : (b : Bool) → ◌≡◌ {A = Option Entered} (elim b [ true ↦ some y | false ↦ first_named name (front ++ back) ]) none → (first_named name (front ++ back) ≡ none → first_named name (front ++ (x ∷ back)) ≡ some x) →
        elim b [ true ↦ some y | false ↦ first_named name (front ++ (x ∷ back)) ] ≡ some x
    go true e rest = absurd (none-ne-some y (sym e))
    go false e rest = rest e

-- ---- paths, step by step

-- what a path of two names or more finds
pub entry_step : (img : List ℕ) (s : Anodes) (k : ℕ) (name next : List ℕ) (rest : Path) → entry_from img s k (name ∷ next ∷ rest) ≡ of_entry (entry_named img s k name) (λ x. cond x.dir (entry_from img s x.anode (next ∷ rest)) none) none
unfolding entry_from site_from
entry_step img s k name next rest = go (entry_named img s k name)
  where
    at : (b : Bool) (o : Option Site) → of_site (cond b o none) (λ p. entry_named img s p.directory p.name) none ≡ cond b (of_site o (λ p. entry_named img s p.directory p.name) none) none
    at true o = refl
    at false o = refl

    go : (o : Option Entered) → of_site (of_entry o (λ e. cond e.dir (site_from img s e.anode (next ∷ rest)) none) none) (λ p. entry_named img s p.directory p.name) none
        ≡ of_entry o (λ x. cond x.dir (of_site (site_from img s x.anode (next ∷ rest)) (λ p. entry_named img s p.directory p.name) none) none) none
    go none = refl
    go (some x) = at x.dir (site_from img s x.anode (next ∷ rest))

-- whether a path from the directory of k leads to a site
unfoldable pub leads_from : List ℕ → Anodes → ℕ → Path → Site → Bool
leads_from img s k path q = of_site (site_from img s k path) (λ p. same_spot p q) false

-- whether a path of two names or more does
lead_step : (img : List ℕ) (s : Anodes) (k : ℕ) (name next : List ℕ) (rest : Path) (q : Site) → leads_from img s k (name ∷ next ∷ rest) q ≡ of_entry (entry_named img s k name) (λ x. cond x.dir (leads_from img s x.anode (next ∷ rest) q) false) false
unfolding leads_from site_from
lead_step img s k name next rest q = go (entry_named img s k name)
  where
    at : (b : Bool) (o : Option Site) → of_site (cond b o none) (λ p. same_spot p q) false ≡ cond b (of_site o (λ p. same_spot p q) false) false
    at true o = refl
    at false o = refl

    go : (o : Option Entered) → of_site (of_entry o (λ e. cond e.dir (site_from img s e.anode (next ∷ rest)) none) none) (λ p. same_spot p q) false
        ≡ of_entry o (λ x. cond x.dir (of_site (site_from img s x.anode (next ∷ rest)) (λ p. same_spot p q) false) false) false
    go none = refl
    go (some x) = at x.dir (site_from img s x.anode (next ∷ rest))

-- a directory that finds no name has nothing under it
none_under : (j : List ℕ) (t : Anodes) (k : ℕ) → ((name : List ℕ) → entry_named j t k name ≡ none) → (path : Path) → entry_from j t k path ≡ none
unfolding entry_from site_from
none_under j t k empty [] = refl
none_under j t k empty (name ∷ []) = empty name
none_under j t k empty (name ∷ next ∷ rest) = rw (empty name) refl

-- ---- the tree

-- j has the anodes t, and in the reached directories of img the entries of img under φ, which keeps their kinds and anodes; h has e beside them, found by a name that was not there
module _ {img : List ℕ} (image : AcceptedImage img) (j : List ℕ) {t : Anodes} (anodes : anodes_of j ≡ t) (φ : Entered → Entered) (keeps : (x : Entered) → ((φ x).dir ≡ x.dir) × ((φ x).anode ≡ x.anode))
    (h : ℕ) (name : List ℕ) (e : Entered) (unused : entry_named img (anodes_of img) h name ≡ none)
    (others : (k : ℕ) → ReachedDir img k → (n : List ℕ) → same_spot (site k n) (site h name) ≡ false → entry_named j t k n ≡ of_entry (entry_named img (anodes_of img) k n) (λ x. some (φ x)) none)
    (found : entry_named j t h name ≡ some e) (empty : e.dir ≡ true → (n : List ℕ) → entry_named j t e.anode n ≡ none) where
  abbrev s : Anodes
  s = anodes_of img

  -- another name of the same spot
  same_spot_lem : (k : ℕ) (n : List ℕ) → same_spot (site k n) (site h name) ≡ true → (k ≡ h) × (folded n ≡ folded name)
  unfolding same_spot
  same_spot_lem k n same =
      let (d, f) = both (eqb k h) (same_bytes (folded n) (folded name)) (rw same tt) in
      (eqb→eq k h d, same_name (folded n) (folded name) f)

  -- which finds the new entry
  spot_new : (k : ℕ) (n : List ℕ) → same_spot (site k n) (site h name) ≡ true → entry_named j t k n ≡ some e
  spot_new k n same = let (i, f) = same_spot_lem k n same in ap (λ (x : ℕ). entry_named j t x n) i ∙ named-folded j t h n name f ∙ found

  -- and found none
  spot_old : (k : ℕ) (n : List ℕ) → same_spot (site k n) (site h name) ≡ true → entry_named img s k n ≡ none
  spot_old k n same = let (i, f) = same_spot_lem k n same in ap (λ (x : ℕ). entry_named img s x n) i ∙ named-folded img s h n name f ∙ unused

  -- what a path finds: the new entry at its site, and else what it found
  abbrev finds : ℕ → Path → Option Entered
  finds k path = cond (leads_from img s k path (site h name)) (some e) (of_entry (entry_from img s k path) (λ x. some (φ x)) none)

  -- behind one name
  one_name : (k : ℕ) → ReachedDir img k → (n : List ℕ) (b : Bool) → same_spot (site k n) (site h name) ≡ b → entry_named j t k n ≡ cond b (some e) (of_entry (entry_named img s k n) (λ x. some (φ x)) none)
  one_name k r n true q = spot_new k n q
  one_name k r n false q = others k r n q

  -- under the new entry there is nothing
  under_new : (b : Bool) → e.dir ≡ b → (path : Path) → cond b (entry_from j t e.anode path) none ≡ none
  under_new true q path = none_under j t e.anode (empty q) path
  under_new false q path = refl

  -- what every path finds
  pub entry-made : (path : Path) (k : ℕ) → ReachedDir img k → entry_from j t k path ≡ cond (leads_from img (anodes_of img) k path (site h name)) (some e) (of_entry (entry_from img (anodes_of img) k path) (λ x. some (φ x)) none)
  unfolding entry_from site_from leads_from
  entry-made [] k r = refl
  entry-made (n ∷ []) k r = one_name k r n (same_spot (site k n) (site h name)) refl
  entry-made (n ∷ next ∷ rest) k r =
      entry_step j t k n next rest ∙ at_spot (same_spot (site k n) (site h name)) refl (entry-made (next ∷ rest))
      ∙ sym (ap (λ (b : Bool). cond b (some e) (of_entry (entry_from img s k (n ∷ next ∷ rest)) (λ x. some (φ x)) none)) (lead_step img s k n next rest (site h name))
      ∙ ap (λ (o : Option Entered). cond (of_entry (entry_named img s k n) (λ x. cond x.dir (leads_from img s x.anode (next ∷ rest) (site h name)) false) false) (some e) (of_entry o (λ x. some (φ x)) none)) (entry_step img s k n next rest))
    where
      at_dir : (x : Entered) → EntryIn img k x → ((l : ℕ) → ReachedDir img l → entry_from j t l (next ∷ rest) ≡ finds l (next ∷ rest)) → (b : Bool) → x.dir ≡ b →
          cond b (entry_from j t x.anode (next ∷ rest)) none ≡ cond (cond b (leads_from img s x.anode (next ∷ rest) (site h name)) false) (some e) (of_entry (cond b (entry_from img s x.anode (next ∷ rest)) none) (λ x. some (φ x)) none)
      at_dir x m deeper true q = deeper x.anode (sub-reached m q)
      at_dir x m deeper false q = refl

      at_entry : (o : Option Entered) → entry_named img s k n ≡ o → ((l : ℕ) → ReachedDir img l → entry_from j t l (next ∷ rest) ≡ finds l (next ∷ rest)) →
          of_entry (of_entry o (λ x. some (φ x)) none) (λ x. cond x.dir (entry_from j t x.anode (next ∷ rest)) none) none
          ≡ cond (of_entry o (λ x. cond x.dir (leads_from img s x.anode (next ∷ rest) (site h name)) false) false) (some e) (of_entry (of_entry o (λ x. cond x.dir (entry_from img s x.anode (next ∷ rest)) none) none) (λ x. some (φ x)) none)
      at_entry none is deeper = refl
      at_entry (some x) is deeper = rw ((keeps x).0, (keeps x).1) (at_dir x (found_in r n x is) deeper x.dir refl)

      at_spot : (b : Bool) → same_spot (site k n) (site h name) ≡ b → ((l : ℕ) → ReachedDir img l → entry_from j t l (next ∷ rest) ≡ finds l (next ∷ rest)) →
          of_entry (entry_named j t k n) (λ x. cond x.dir (entry_from j t x.anode (next ∷ rest)) none) none
          ≡ cond (of_entry (entry_named img s k n) (λ x. cond x.dir (leads_from img s x.anode (next ∷ rest) (site h name)) false) false) (some e) (of_entry (of_entry (entry_named img s k n) (λ x. cond x.dir (entry_from img s x.anode (next ∷ rest)) none) none) (λ x. some (φ x)) none)
      at_spot true q deeper = rw (spot_new k n q, spot_old k n q) (under_new e.dir refl (next ∷ rest))
      at_spot false q deeper = rw (others k r n q) (at_entry (entry_named img s k n) refl deeper)

  -- the old entries have the facts that they had, and the new one has these
  module _ (g : Facts) (old : (k : ℕ) (x : Entered) → EntryIn img k x → facts_of j (φ x) ≡ facts_of img x) (new : facts_of j e ≡ g) where
    -- THE NEW TREE
    pub made_tree : (path : Path) → facts_at j path ≡ cond (leads_to img path (site h name)) (some g) (facts_at img path)
    unfolding facts_at leads_to leads_from entry_from
    made_tree path =
        ap (λ (a : Anodes). of_entry (entry_from j a 5 path) (λ x. some (facts_of j x)) none) anodes
        ∙ ap (λ (o : Option Entered). of_entry o (λ x. some (facts_of j x)) none) (entry-made path 5 (root-reached image))
        ∙ at_lead (of_site (site_from img s 5 path) (λ p. same_spot p (site h name)) false) (of_site (site_from img s 5 path) (λ p. entry_named img s p.directory p.name) none) (old-facts (site_from img s 5 path) refl)
      where
        at_entry : (k : ℕ) → ReachedDir img k → (n : List ℕ) (o : Option Entered) → entry_named img s k n ≡ o → of_entry (of_entry o (λ x. some (φ x)) none) (λ x. some (facts_of j x)) none ≡ of_entry o (λ x. some (facts_of img x)) none
        at_entry k r n none is = refl
        at_entry k r n (some x) is = ap (λ (f : Facts). some f) (old k x (found_in r n x is))

        old-facts : (o : Option Site) → site_from img s 5 path ≡ o →
            of_entry (of_entry (of_site o (λ p. entry_named img s p.directory p.name) none) (λ x. some (φ x)) none) (λ x. some (facts_of j x)) none
            ≡ of_entry (of_site o (λ p. entry_named img s p.directory p.name) none) (λ x. some (facts_of img x)) none
        old-facts none is = refl
        old-facts (some p) is = at_entry p.directory (site-reached path 5 (root-reached image) p is) p.name (entry_named img s p.directory p.name) refl

        at_lead : (b : Bool) (o : Option Entered) → of_entry (of_entry o (λ x. some (φ x)) none) (λ x. some (facts_of j x)) none ≡ of_entry o (λ x. some (facts_of img x)) none →
            of_entry (cond b (some e) (of_entry o (λ x. some (φ x)) none)) (λ x. some (facts_of j x)) none ≡ cond b (some g) (of_entry o (λ x. some (facts_of img x)) none)
        at_lead true o q = ap (λ (f : Facts). some f) new
        at_lead false o q = q
