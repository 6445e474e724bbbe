-- The tree of an image whose reached directories have the entries of another's, each changed in nothing that a path asks of it: every path leads where it led.
-- Where one entry's facts have changed alone, that is the new tree.
use Rattle.std.specs.Prelude.{ℕ, ◌≡◌, ◌≢◌, Bool, ◌&&◌, eqb}
use Rattle.std.proofs.Math.Path.{refl, sym, ap}
use Rattle.std.proofs.Common.{subst, ◌∙◌, inl, inr, eqb→eq}
use Rattle.std.proofs.Math.Bool.{true, false, cond}
use mathlib.Core.List.{List, [], ◌∷◌}
use Rattle.std.proofs.Math.Option.{Option, none, some}
use Rattle.std.proofs.Math.Dec.{T}
use Rattle.rules.specs.Counting.{same_bytes}
use Rattle.rules.specs.Anodes.{Anodes, anodes_of}
use Rattle.rules.specs.Walk.{Entered, entries_in}
use Rattle.rules.specs.Folding.{folded}
use Rattle.rules.specs.Lookup.{entry_named, of_entry}
use Rattle.laws.specs.Tests.{same?, both, and, eq→eqb}
use Rattle.laws.specs.Apart.{same_name, name_same}
use Rattle.laws.specs.Members.{Member, member-append, member-cons}
use Rattle.change_laws.specs.Image.{AcceptedImage, head_in, ReachedDir}
use Rattle.change_laws.specs.Reached.{EntryIn, entry-facts}
use Rattle.change_laws.specs.NamedOnce.{only_here, only_this}
use Rattle.paths.specs.Paths.{Path, Site, site, site_from, of_site, entry_from}
use Rattle.paths.specs.Facts.{Facts, facts_of, facts_at}
use Rattle.paths.specs.FoundNames.{named_name, named-folded}
use Rattle.paths.specs.Reached.{found_in, root-reached, sub-reached, site-reached}
use Rattle.safe_laws.specs.Claims.{same_spot, leads_to, facts_changed}

-- an entry is the only one with its anode
pub same-entry : {img : List ℕ} {k h : ℕ} {x e : Entered} → EntryIn img k x → EntryIn img h e → x.anode ≡ e.anode → (k ≡ h) × (x ≡ e)
same-entry {img} {k} {h} {x} {e} mx me same =
    let image = me.directory.image in
    let f = entry-facts mx in
    let g = entry-facts me in
    elim (same? f.a₀ g.a₀) [
      | inr o ↦ absurd (only_here image g f.block_facts.dir f.block_facts.reached f.a₀ (rw f.block_facts.dir_head f.member-chain) o x f.member same)
      | inl i ↦ (
        sym f.block_facts.on_chain_lem ∙ ap (head_in img) i ∙ g.block_facts.on_chain_lem,
        (let (before, after, parted) = g.member in
            let there = subst (λ (l : List Entered). Member x l) parted (subst (λ (a : ℕ). Member x (entries_in img ((anodes_of img).block a))) i f.member) in
            elim (member-append x before (e ∷ after) there) [
              | inl q ↦ absurd (only_this image g before after parted x (inl q) same)
              | inr q ↦ elim (member-cons x e after q) [ inl z ↦ z | inr z ↦ absurd (only_this image g before after parted x (inr z) same) ]
            ]),
      )
    ]

-- e is the entry of that name in h
module _ {img : List ℕ} {h : ℕ} {e : Entered} (r : ReachedDir img h) (name : List ℕ) (found : entry_named img (anodes_of img) h name ≡ some e) where
  -- what is found at another site is another entry
  pub other_site : (p : Site) → ReachedDir img p.directory → same_spot p (site h name) ≡ false → (x : Entered) → entry_named img (anodes_of img) p.directory p.name ≡ some x → x.anode ≢ e.anode
  unfolding same_spot
  other_site p at apart x is same =
      let (home, one) = same-entry (found_in at p.name x is) (found_in r name e found) same in
      let fold : folded p.name ≡ folded name = sym (named_name img (anodes_of img) p.directory p.name x is) ∙ ap (λ (y : Entered). folded y.name) one ∙ named_name img (anodes_of img) h name e found in
      let alike : T (same_bytes (folded p.name) (folded name)) = rw fold (name_same (folded name)) in
      let t : T (eqb p.directory h && same_bytes (folded p.name) (folded name)) = and (eqb p.directory h) (same_bytes (folded p.name) (folded name)) (eq→eqb p.directory h home) alike in
      absurd (rw apart at t)

  -- what is found at that site is e
  pub this_site : (p : Site) → same_spot p (site h name) ≡ true → entry_named img (anodes_of img) p.directory p.name ≡ some e
  unfolding same_spot
  this_site p same =
      let (d, n) = both (eqb p.directory h) (same_bytes (folded p.name) (folded name)) (rw same tt) in
      ap (λ (k : ℕ). entry_named img (anodes_of img) k p.name) (eqb→eq p.directory h d) ∙ named-folded img (anodes_of img) h p.name name (same_name (folded p.name) (folded name) n) ∙ found

-- j has the anodes t, and in the reached directories of img the entries of img under φ, which keeps their kinds and anodes
module _ {img : List ℕ} (image : AcceptedImage img) (j : List ℕ) {t : Anodes} (anodes : anodes_of j ≡ t) (φ : Entered → Entered) (keeps : (x : Entered) → ((φ x).dir ≡ x.dir) × ((φ x).anode ≡ x.anode))
    (named : (k : ℕ) → ReachedDir img k → (name : List ℕ) → entry_named j t k name ≡ of_entry (entry_named img (anodes_of img) k name) (λ x. some (φ x)) none) where
  abbrev s : Anodes
  s = anodes_of img

  site-same : (path : Path) (k : ℕ) → ReachedDir img k → site_from j t k path ≡ site_from img s k path
  unfolding site_from
  site-same [] k r = refl
  site-same (name ∷ []) k r = refl
  site-same (name ∷ next ∷ rest) k r = rw (named k r name) (go (entry_named img s k name) refl (site-same (next ∷ rest)))
    where
      go : (o : Option Entered) → entry_named img s k name ≡ o → ((h : ℕ) → ReachedDir img h → site_from j t h (next ∷ rest) ≡ site_from img s h (next ∷ rest)) →
          of_entry (of_entry o (λ x. some (φ x)) none) (λ x. cond x.dir (site_from j t x.anode (next ∷ rest)) none) none ≡ of_entry o (λ x. cond x.dir (site_from img s x.anode (next ∷ rest)) none) none
      go none is deeper = refl
      go (some x) is deeper = rw ((keeps x).0, (keeps x).1) (at_dir x.dir refl)
        where
          at_dir : (b : Bool) → x.dir ≡ b → cond b (site_from j t x.anode (next ∷ rest)) none ≡ cond b (site_from img s x.anode (next ∷ rest)) none
          at_dir true q = deeper x.anode (sub-reached (found_in r name x is) q)
          at_dir false q = refl

  -- the facts at a path are those of the entry there, as it is now
  facts_under : (path : Path) → facts_at j path ≡ of_entry (entry_from img s 5 path) (λ x. some (facts_of j (φ x))) none
  unfolding facts_at entry_from
  facts_under path = rw (anodes, site-same path 5 (root-reached image)) (go (site_from img s 5 path) refl)
    where
      at_entry : (o : Option Entered) → of_entry (of_entry o (λ x. some (φ x)) none) (λ x. some (facts_of j x)) none ≡ of_entry o (λ x. some (facts_of j (φ x))) none
      at_entry none = refl
      at_entry (some x) = refl

      go : (o : Option Site) → site_from img s 5 path ≡ o →
          of_entry (of_site o (λ p. entry_named j t p.directory p.name) none) (λ x. some (facts_of j x)) none
          ≡ of_entry (of_site o (λ p. entry_named img s p.directory p.name) none) (λ x. some (facts_of j (φ x))) none
      go none is = refl
      go (some p) is = rw (named p.directory (site-reached path 5 (root-reached image) p is) p.name) (at_entry (entry_named img s p.directory p.name))

  -- of which the facts of e, the entry of that name in h, alone have changed
  module _ {h : ℕ} {e : Entered} (r : ReachedDir img h) (name : List ℕ) (found : entry_named img (anodes_of img) h name ≡ some e) (f : Facts → Facts)
      (others : (k : ℕ) (x : Entered) → EntryIn img k x → x.anode ≢ e.anode → facts_of j (φ x) ≡ facts_of img x) (own : facts_of j (φ e) ≡ f (facts_of img e)) where
    -- THE NEW TREE
    pub changed_tree : (path : Path) → facts_at j path ≡ cond (leads_to img path (site h name)) (facts_changed img (site h name) f) (facts_at img path)
    unfolding leads_to facts_at entry_from facts_changed
    changed_tree path = facts_under path ∙ go (site_from img s 5 path) refl
      where
        at_other : (p : Site) → ReachedDir img p.directory → same_spot p (site h name) ≡ false → (o : Option Entered) → entry_named img s p.directory p.name ≡ o →
            of_entry o (λ x. some (facts_of j (φ x))) none ≡ of_entry o (λ x. some (facts_of img x)) none
        at_other p at apart none is = refl
        at_other p at apart (some x) is = ap (λ (g : Facts). some g) (others p.directory x (found_in at p.name x is) (other_site r name found p at apart x is))

        at-site : (p : Site) → ReachedDir img p.directory → (b : Bool) → same_spot p (site h name) ≡ b →
            of_entry (entry_named img s p.directory p.name) (λ x. some (facts_of j (φ x))) none
            ≡ cond b (of_entry (entry_named img s h name) (λ x. some (f (facts_of img x))) none) (of_entry (entry_named img s p.directory p.name) (λ x. some (facts_of img x)) none)
        at-site p at true q = rw (this_site r name found p q, found) (ap (λ (g : Facts). some g) own)
        at-site p at false q = at_other p at q (entry_named img s p.directory p.name) refl

        go : (o : Option Site) → site_from img s 5 path ≡ o →
            of_entry (of_site o (λ p. entry_named img s p.directory p.name) none) (λ x. some (facts_of j (φ x))) none
            ≡ cond (of_site o (λ p. same_spot p (site h name)) false) (of_entry (entry_named img s h name) (λ x. some (f (facts_of img x))) none)
            (of_entry (of_site o (λ p. entry_named img s p.directory p.name) none) (λ x. some (facts_of img x)) none)
        go none is = refl
        go (some p) is = at-site p (site-reached path 5 (root-reached image) p is) (same_spot p (site h name)) refl
