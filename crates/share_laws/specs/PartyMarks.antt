-- The use of a directory as one pass finds it: a mark for each chain, handed down along the walk, and a count over the block table.
use Rattle.std.specs.Prelude.{ℕ, ◌≡◌, ◌≢◌, Bool, ◌||◌, eqb}
use Rattle.std.proofs.Math.Path.{refl, ap}
use Rattle.std.proofs.Common.{sym, ◌∙◌, inl, inr, arith}
use Rattle.std.proofs.Math.Bool.{true, false, cond}
use mathlib.Core.List.{List, [], ◌∷◌}
use Rattle.std.proofs.Math.Dec.{leb}
use borrow.Author.Tests.{eq-eqb, ne_eqb, le-leb}
use Rattle.rules.specs.Counting.{occurrences}
use Rattle.rules.specs.Anodes.{anodes_of}
use Rattle.rules.specs.Walk.{Dir}
use Rattle.laws.specs.Tests.{same?}
use Rattle.laws.specs.Sums.{one_at-same, one_at_other}
use Rattle.laws.specs.Bags.{occurrences-nil, occurrences-cons}
use Rattle.laws.specs.Members.{Member}
use Rattle.change_laws.specs.Image.{AcceptedImage}
use Rattle.change_laws.specs.Reached.{member-reached}
use Rattle.share_rules.specs.Shares.{Shares, way_up, lies_in, party_of}
use Rattle.share_laws.specs.Parents.{its-parent}
use Rattle.share_laws.specs.Ways.{way_up_lem, way_root}
use Rattle.share_laws.specs.Fitting.{TwoTops, one_party, top_not-root}
use Rattle.share_laws.specs.KeptWays.{walked_dirs}

-- one step of a way up
way_test : (a top : ℕ) (l : List ℕ) → leb 1 (occurrences top (a ∷ l)) ≡ (eqb a top || leb 1 (occurrences top l))
way_test a top l = elim (same? a top) [
  | inl e ↦ rw (eq-eqb a top e, le-leb 1 (occurrences top (a ∷ l)) (omega (arith, occurrences-cons top a l, one_at-same a top e)))
  | inr e ↦ (let q : occurrences top (a ∷ l) ≡ occurrences top l = omega (arith, occurrences-cons top a l, one_at_other a top e) in rw (ne_eqb a top e, q))
]

module _ {img : List ℕ} (image : AcceptedImage img) where
  abbrev dirs : List Dir
  dirs = walked_dirs img

  -- the root lies in itself alone
  pub lies_root : (top : ℕ) → lies_in (walked_dirs img) top 5 ≡ eqb 5 top
  unfolding lies_in
  lies_root top = rw (way_root image, way_test 5 top [], occurrences-nil top) (last (eqb 5 top))
    where
      last : (b : Bool) → (b || leb 1 0) ≡ b
      last true = refl
      last false = refl

  -- every other directory in itself, and where its parent lies
  pub lies_next : (d : Dir) → Member d (walked_dirs img) → d.head ≢ 5 → (top : ℕ) → lies_in (walked_dirs img) top d.head ≡ (eqb d.head top || lies_in (walked_dirs img) top d.parent)
  unfolding lies_in
  lies_next d m off top =
      let way : way_up dirs d.head ≡ d.head ∷ way_up dirs d.parent = way_up_lem image (member-reached image d m) off ∙ ap (λ (k : ℕ). d.head ∷ way_up dirs k) (its-parent image d m) in
      rw (way, way_test d.head top (way_up dirs d.parent))

  module _ (sh : Shares) (two : TwoTops img (anodes_of img) sh) where
    -- so the root is the keeper's
    pub party_root : party_of (walked_dirs img) sh 5 ≡ 0
    unfolding party_of
    party_root = rw (
      lies_root sh.first,
      ne_eqb 5 sh.first (λ i. top_not-root image sh.first two.first_top (sym i)),
      lies_root sh.second,
      ne_eqb 5 sh.second (λ i. top_not-root image sh.second two.second_top (sym i)),
    )

    -- and every other is its own party's top, or its parent's party has it
    pub party_next : (d : Dir) → Member d (walked_dirs img) → d.head ≢ 5 →
        party_of (walked_dirs img) sh d.head ≡ cond (eqb d.head sh.first) 1 (cond (eqb d.head sh.second) 2 (party_of (walked_dirs img) sh d.parent))
    unfolding party_of
    party_next d m off = rw (lies_next d m off sh.first, lies_next d m off sh.second)
        (go (eqb d.head sh.first) (eqb d.head sh.second) (lies_in dirs sh.first d.parent) (lies_in dirs sh.second d.parent)
        (λ a b. one_party image sh two d.head (lies_next d m off sh.first ∙ a) (lies_next d m off sh.second ∙ b)))
      where
        go : (a b l k : Bool) → ((a || l) ≡ true → (b || k) ≡ true → ⊥) → cond {A = ℕ} (a || l) 1 (cond (b || k) 2 0) ≡ cond a 1 (cond b 2 (cond l 1 (cond k 2 0)))
        go true b l k apart = refl
        go false true true k apart = absurd (apart refl refl)
        go false true false k apart = refl
        go false false l k apart = refl
