-- The tree of an image whose reached directories have the entries of another's but one, each of the rest changed in nothing that a path asks of it: a path that led to that one leads to nothing, every other leads where it led.
-- A directory that goes is empty, so that no path led below it.
use Rattle.std.specs.Prelude.{ℕ, ◌≢◌, ◌⊎◌, Bool, cond, eqb}
use Rattle.std.proofs.Math.Path.{◌≡◌, refl, sym, ap}
use Rattle.std.proofs.Common.{◌∙◌, arith, eq-eqb, ne_eqb, eqb-true}
use Rattle.std.proofs.Math.Logic.{inl, inr}
use Rattle.std.proofs.Math.Bool.{true, false}
use mathlib.Core.List.{List, [], ◌∷◌, ◌++◌, map}
use Rattle.std.proofs.Math.Option.{Option, none, some}
use Rattle.std.proofs.lemmas.Bool.{eqb-false}
use Rattle.rules.specs.Counting.{same_bytes}
use Rattle.rules.specs.Folding.{folded}
use Rattle.rules.specs.Anodes.{Anodes, anodes_of}
use Rattle.rules.specs.Walk.{Entered}
use Rattle.rules.specs.Lookup.{entries_of, is_named, first_named, entry_named, of_entry}
use Rattle.laws.specs.Apart.{same_name}
use Rattle.laws.specs.Members.{Member, member-first, member-later}
use Rattle.change_laws.specs.Image.{AcceptedImage, ReachedDir}
use Rattle.change_laws.specs.Reached.{EntryIn, entry-facts}
use Rattle.paths.specs.Paths.{Path, Site, site, site_from, of_site, entry_from}
use Rattle.paths.specs.Facts.{Facts, facts_of, facts_at}
use Rattle.paths.specs.Reached.{found_in, root-reached, sub-reached, site-reached}
use Rattle.safe_rules.specs.SafeCalls.{safe_remove}
use Rattle.safe_laws.specs.Claims.{same_spot, leads_to, facts_after, tree_after, NewTree}
use Rattle.safe_laws.specs.ChangedEntry.{same-entry, other_site, this_site}

-- an entry under φ, or none where it names the chain that goes
abbrev pub kept : ℕ → (Entered → Entered) → Entered → Option Entered
kept gone φ x = cond (eqb x.anode gone) none (some (φ x))

-- ---- what a name finds where one entry is gone

-- φ keeps names
module _ (gone : ℕ) (φ : Entered → Entered) (names : (x : Entered) → (φ x).name ≡ x.name) (name : List ℕ) where
  -- an entry matches a name as it did
  test_same : (x : Entered) → is_named name (φ x) ≡ is_named name x
  unfolding is_named
  test_same x = rw (names x) refl

  -- so a lookup goes by the old entry
  first_under : (x : Entered) (l : List Entered) → first_named name (φ x ∷ l) ≡ elim (is_named name x) [ true ↦ some (φ x) | false ↦ first_named name l ]
  unfolding first_named
  first_under x l = ap (λ (b : Bool). elim b [ true ↦ some (φ x) | false ↦ first_named name l ]) (test_same x)

  -- in a list of which none names the chain that goes
  pub under_named : (l : List Entered) → ((x : Entered) → Member x l → x.anode ≢ gone) → first_named name (map φ l) ≡ of_entry (first_named name l) (kept gone φ) none
  unfolding first_named
  under_named [] o = refl
  under_named (x ∷ l) o = first_under x (map φ l) ∙ go (is_named name x) (under_named l (λ y q. o y (member-later y x l q)))
    where
      go : (b : Bool) → first_named name (map φ l) ≡ of_entry (first_named name l) (kept gone φ) none →
          elim b [ true ↦ some (φ x) | false ↦ first_named name (map φ l) ] ≡ of_entry (elim b [ true ↦ some x | false ↦ first_named name l ]) (kept gone φ) none
      go true rest = rw (ne_eqb x.anode gone (o x (member-first x l))) refl
      go false rest = rest

  -- and where none has that name
  none_named : (l : List Entered) → ((x : Entered) → Member x l → folded x.name ≢ folded name) → first_named name (map φ l) ≡ none
  unfolding first_named is_named
  none_named [] o = refl
  none_named (x ∷ l) o = first_under x (map φ l) ∙ go (same_bytes (folded x.name) (folded name)) refl (none_named l (λ y q. o y (member-later y x l q)))
    where
      go : (b : Bool) → same_bytes (folded x.name) (folded name) ≡ b → first_named name (map φ l) ≡ none → ◌≡◌ {A = Option Entered} (elim b [ true ↦ some (φ x) | false ↦ first_named name (map φ l) ]) none
      go true q rest = absurd (o x (member-first x l) (same_name (folded x.name) (folded name) (rw q tt)))
      go false q rest = rest

  -- e names that chain and is gone; of the others none names it, and none has the name of e
  pub gone-named : (e : Entered) → e.anode ≡ gone → (behind before : List Entered) → ((x : Entered) → Member x before ⊎ Member x behind → (x.anode ≢ gone) × (folded x.name ≢ folded e.name)) →
      first_named name (map φ (before ++ behind)) ≡ of_entry (first_named name (before ++ (e ∷ behind))) (kept gone φ) none
  unfolding first_named is_named
  gone-named e is behind [] o = go (same_bytes (folded e.name) (folded name)) refl
    where
      go : (b : Bool) → same_bytes (folded e.name) (folded name) ≡ b → first_named name (map φ behind) ≡ of_entry (elim b [ true ↦ some e | false ↦ first_named name behind ]) (kept gone φ) none
      go true q = rw (eq-eqb e.anode gone is) (none_named behind (λ x n i. (o x (inr n)).1 (i ∙ sym (same_name (folded e.name) (folded name) (rw q tt)))))
      go false q = under_named behind (λ x n. (o x (inr n)).0)
  gone-named e is behind (x ∷ before) o = first_under x (map φ (before ++ behind)) ∙ go (same_bytes (folded x.name) (folded name)) (gone-named e is behind before (λ y n. o y (elim n [ inl q ↦ inl (member-later y x before q) | inr q ↦ inr q ])))
    where
      go : (b : Bool) → first_named name (map φ (before ++ behind)) ≡ of_entry (first_named name (before ++ (e ∷ behind))) (kept gone φ) none →
          elim b [ true ↦ some (φ x) | false ↦ first_named name (map φ (before ++ behind)) ] ≡ of_entry (elim b [ true ↦ some x | false ↦ first_named name (before ++ (e ∷ behind)) ]) (kept gone φ) none
      go true rest = rw (ne_eqb x.anode gone (o x (inl (member-first x before))).0) refl
      go false rest = rest

-- ---- what a path leads to

-- the entry that a path of two names or more leads to is one below the first of them
entry-below : (img : List ℕ) (s : Anodes) (k : ℕ) (name next : List ℕ) (rest : Path) →
    entry_from img s k (name ∷ next ∷ rest) ≡ of_entry (entry_named img s k name) (λ x. cond x.dir (entry_from img s x.anode (next ∷ rest)) none) none
unfolding entry_from site_from
entry-below img s k name next rest = go (entry_named img s k name)
  where
    at_dir : (x : Entered) (b : Bool) → of_site (cond b (site_from img s x.anode (next ∷ rest)) none) (λ p. entry_named img s p.directory p.name) none
        ≡ cond b (of_site (site_from img s x.anode (next ∷ rest)) (λ p. entry_named img s p.directory p.name) none) none
    at_dir x true = refl
    at_dir x false = refl

    go : (o : Option Entered) → of_site (of_entry o (λ x. cond x.dir (site_from img s x.anode (next ∷ rest)) none) none) (λ p. entry_named img s p.directory p.name) none
        ≡ of_entry o (λ x. cond x.dir (of_site (site_from img s x.anode (next ∷ rest)) (λ p. entry_named img s p.directory p.name) none) none) none
    go none = refl
    go (some x) = at_dir x x.dir

-- a path of one name leads to its entry
entry-one : (img : List ℕ) (s : Anodes) (k : ℕ) (name : List ℕ) → entry_from img s k (name ∷ []) ≡ entry_named img s k name
unfolding entry_from site_from
entry-one img s k name = refl

-- the empty path leads to none
entry_nowhere : (img : List ℕ) (s : Anodes) (k : ℕ) → entry_from img s k [] ≡ none
unfolding entry_from site_from
entry_nowhere img s k = refl

-- no path leads to an entry from a directory that has none
empty_named : (img : List ℕ) (s : Anodes) (k : ℕ) → entries_of img s k ≡ [] → (name : List ℕ) → entry_named img s k name ≡ none
unfolding entry_named first_named
empty_named img s k none_in name = ap (first_named name) none_in

-- nor to any path below it
empty_below : (img : List ℕ) (s : Anodes) (k : ℕ) → entries_of img s k ≡ [] → (path : Path) → entry_from img s k path ≡ none
empty_below img s k none_in [] = entry_nowhere img s k
empty_below img s k none_in (name ∷ []) = entry-one img s k name ∙ empty_named img s k none_in name
empty_below img s k none_in (name ∷ next ∷ rest) = entry-below img s k name next rest ∙ rw (empty_named img s k none_in name) refl

-- e is the entry of that name in h, and has no entry below it; j has the anodes t, and in the reached directories of img but that of e the entries of img but e, under φ, which keeps their kinds and anodes
module _ {img : List ℕ} (image : AcceptedImage img) {h : ℕ} {e : Entered} (r : ReachedDir img h) (name : List ℕ) (found : entry_named img (anodes_of img) h name ≡ some e)
    (empty : e.dir ≡ true → entries_of img (anodes_of img) e.anode ≡ [])
    (j : List ℕ) {t : Anodes} (anodes : anodes_of j ≡ t) (φ : Entered → Entered) (keeps : (x : Entered) → ((φ x).dir ≡ x.dir) × ((φ x).anode ≡ x.anode))
    (named : (k : ℕ) → ReachedDir img k → k ≢ e.anode → (other : List ℕ) → entry_named j t k other ≡ of_entry (entry_named img (anodes_of img) k other) (kept e.anode φ) none) where
  abbrev s : Anodes
  s = anodes_of img

  -- the entry that goes
  m : EntryIn img h e
  m = found_in r name e found

  -- what a path leads to is what it led to, or none where that was e
  entry_kept : (path : Path) (k : ℕ) → ReachedDir img k → k ≢ e.anode → entry_from j t k path ≡ of_entry (entry_from img s k path) (kept e.anode φ) none
  entry_kept [] k at other = rw (entry_nowhere j t k, entry_nowhere img s k) refl
  entry_kept (first ∷ []) k at other = rw (entry-one j t k first, entry-one img s k first) (named k at other first)
  entry_kept (first ∷ next ∷ rest) k at other = rw (entry-below j t k first next rest, entry-below img s k first next rest, named k at other first) (go (entry_named img s k first) refl (entry_kept (next ∷ rest)))
    where
      go : (o : Option Entered) → entry_named img s k first ≡ o → ((l : ℕ) → ReachedDir img l → l ≢ e.anode → entry_from j t l (next ∷ rest) ≡ of_entry (entry_from img s l (next ∷ rest)) (kept e.anode φ) none) →
          of_entry (of_entry o (kept e.anode φ) none) (λ x. cond x.dir (entry_from j t x.anode (next ∷ rest)) none) none
          ≡ of_entry (of_entry o (λ x. cond x.dir (entry_from img s x.anode (next ∷ rest)) none) none) (kept e.anode φ) none
      go none is deeper = refl
      go (some x) is deeper = at_anode (eqb x.anode e.anode) refl
        where
          -- below e there is none
          at-gone : (b : Bool) → x.anode ≡ e.anode → x.dir ≡ b → none ≡ of_entry (cond b (entry_from img s x.anode (next ∷ rest)) none) (kept e.anode φ) none
          at-gone true q i =
              let (home, one) = same-entry (found_in at first x is) m q in
              let none_in = empty (ap (λ (y : Entered). y.dir) (sym one) ∙ i) in
              rw (q, empty_below img s e.anode none_in (next ∷ rest)) refl
          at-gone false q i = refl

          at_dir : (b : Bool) → x.anode ≢ e.anode → x.dir ≡ b → cond b (entry_from j t x.anode (next ∷ rest)) none ≡ of_entry (cond b (entry_from img s x.anode (next ∷ rest)) none) (kept e.anode φ) none
          at_dir true o i = deeper x.anode (sub-reached (found_in at first x is) i) o
          at_dir false o i = refl

          at_anode : (b : Bool) → eqb x.anode e.anode ≡ b → of_entry (cond b none (some (φ x))) (λ x. cond x.dir (entry_from j t x.anode (next ∷ rest)) none) none
              ≡ of_entry (cond x.dir (entry_from img s x.anode (next ∷ rest)) none) (kept e.anode φ) none
          at_anode true q = at-gone x.dir (eqb-true x.anode e.anode q) refl
          at_anode false q = rw ((keeps x).0, (keeps x).1) (at_dir x.dir (eqb-false x.anode e.anode q) refl)

  -- the root is not what goes
  root_other : 5 ≢ e.anode
  root_other q = omega (arith, q, (entry-facts m).from_6)

  -- the facts of every other entry are the same
  module _ (others : (k : ℕ) (x : Entered) → EntryIn img k x → x.anode ≢ e.anode → facts_of j (φ x) ≡ facts_of img x) where
    -- THE NEW TREE
    pub removed_tree : NewTree img (safe_remove h name) j
    unfolding tree_after facts_after leads_to facts_at entry_from
    removed_tree path = rw (anodes, entry_kept path 5 (root-reached image) root_other) (go (site_from img s 5 path) refl)
      where
        at_other : (p : Site) → ReachedDir img p.directory → same_spot p (site h name) ≡ false → (o : Option Entered) → entry_named img s p.directory p.name ≡ o →
            of_entry (of_entry o (kept e.anode φ) none) (λ x. some (facts_of j x)) none ≡ of_entry o (λ x. some (facts_of img x)) none
        at_other p at apart none is = refl
        at_other p at apart (some x) is =
            let o = other_site r name found p at apart x is in
            rw (ne_eqb x.anode e.anode o) (ap (λ (g : Facts). some g) (others p.directory x (found_in at p.name x is) o))

        at-site : (p : Site) → ReachedDir img p.directory → (b : Bool) → same_spot p (site h name) ≡ b →
            of_entry (of_entry (entry_named img s p.directory p.name) (kept e.anode φ) none) (λ x. some (facts_of j x)) none
            ≡ cond b none (of_entry (entry_named img s p.directory p.name) (λ x. some (facts_of img x)) none)
        at-site p at true q = rw (this_site r name found p q, eq-eqb e.anode e.anode refl) refl
        at-site p at false q = at_other p at q (entry_named img s p.directory p.name) refl

        go : (o : Option Site) → site_from img s 5 path ≡ o →
            of_entry (of_entry (of_site o (λ p. entry_named img s p.directory p.name) none) (kept e.anode φ) none) (λ x. some (facts_of j x)) none
            ≡ cond (of_site o (λ p. same_spot p (site h name)) false) none (of_entry (of_site o (λ p. entry_named img s p.directory p.name) none) (λ x. some (facts_of img x)) none)
        go none is = refl
        go (some p) is = at-site p (site-reached path 5 (root-reached image) p is) (same_spot p (site h name)) refl
