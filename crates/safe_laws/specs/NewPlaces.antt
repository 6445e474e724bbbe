-- An old block takes a new place: the first free block comes to an anode of one block, or to a slot in use, and the old one is in nobody's hand then, with the system's.
use Rattle.std.specs.Prelude.{ℕ, ◌+◌, ◌/◌, ◌<◌, ◌≡◌, ◌≢◌, Bool, true, T, leb}
use Rattle.std.proofs.Math.Path.{refl, ap}
use Rattle.std.proofs.Common.{sym, ◌∙◌, arith, leb→le, le→leb}
use Rattle.std.proofs.Math.Logic.{inl, inr}
use Rattle.rules.specs.Counting.{one_at, least, changed}
use Rattle.rules.specs.Anodes.{Anodes, limit, exists_by}
use Rattle.rules.specs.Chains.{one_if_covers, owners}
use Rattle.rules.specs.Plans.{Slotted}
use Rattle.rules.specs.Space.{found, free_extent, without_first, rewritten}
use Rattle.rules.specs.Growth.{slot_from}
use Rattle.laws.specs.Tests.{same?}
use Rattle.laws.specs.Sums.{one_at-same, one_at_other, changed-same, changed_other, least_cases, sum_members}
use Rattle.laws.specs.Ownership.{covers_in, covers_one}
use Rattle.laws.specs.Blocks.{blocks, blocks_rewrite}
use Rattle.laws.specs.Held.{held, held_rewrite}
use Rattle.laws.specs.Space.{Good, good_more, rewrite_good}
use Rattle.laws.specs.Owners.{full_used, full_inside, full-0, full-1}
use Rattle.laws.specs.Sides.{SideHead, side-free}
use Rattle.laws.specs.SlotSearch.{one-exists}
use Rattle.laws.specs.Moves.{RunOut}
use Rattle.laws.specs.FreeExtent.{extent-found}
use Rattle.laws.specs.Take.{without_first-out}
use Rattle.safe_rules.specs.SafePlans.{owner_of, block_from}

-- an anode of one block is its owner
pub owner_is : {ex : ℕ → Bool} {n last : ℕ} {s : Anodes} {system hd sd : ℕ → ℕ} → Good limit ex n last s system hd sd → (a : ℕ) → s.count a ≡ 1 → owner_of s (s.block a) ≡ a
unfolding owner_of owners
owner_is {s = s} g a one =
    let full : 0 < s.count a = omega (arith, one) in
    let y = s.block a in
    let low = g.linked.view.below a (full_used g a full) in
    let here : one_if_covers (s.count a) y y ≡ 1 = covers_in (s.count a) y y (omega arith) (omega (arith, one)) in
    let test : ℕ → Bool = λ b. leb 1 (one_if_covers (s.count b) (s.block b) y) in
    elim (least_cases test limit) [
      | inl c ↦ elim (same? (least test limit) a) [
        | inl e ↦ e
        | inr o ↦ absurd (omega (
          arith,
          leb→le 1 (one_if_covers (s.count (least test limit)) (s.block (least test limit)) y) c.1,
          here,
          g.own.not-two y (omega (arith, full_inside g a full, one)),
          sum_members (λ b. one_if_covers (s.count b) (s.block b) y) (least test limit) a limit c.0 low o,
        ))
      ]
      | inr c ↦ absurd (c.1 a low (le→leb 1 (one_if_covers (s.count a) (s.block a) y) (omega (arith, here))))
    ]

-- x after p is the first free extent, looking where directories look
module _ {n last : ℕ} (s : Slotted) {system hd sd : ℕ → ℕ} (g : Good limit (exists_by s.slots) n last s.anodes system hd sd) (p x : ℕ) (first : free_extent limit true s.anodes ≡ found p x) where
  -- its first block
  abbrev z : ℕ
  z = s.anodes.block x

  pub place_out : RunOut limit (exists_by s.slots) n last s.anodes system hd 1 1 (s.anodes.block x) (without_first s.anodes p x)
  place_out = let (m, o, f) = extent-found limit true s.anodes g p x first in without_first-out g m o p x f

  pub place_some : s.anodes.block x ≢ 0
  place_some = let (m, o, f) = extent-found limit true s.anodes g p x first in full_used g x f.full

  pub place_inside : s.anodes.block x < n
  place_inside = let (m, o, f) = extent-found limit true s.anodes g p x first in omega (arith, full_inside g x f.full, f.full)

  -- ---- an anode of one block that is not the free list's
  module _ (a : ℕ) (one : s.anodes.count a ≡ 1) (away : hd a ≢ 1) where
    full : 0 < s.anodes.count a
    full = omega (arith, one)

    used : s.anodes.block a ≢ 0
    used = full_used g a full

    -- a block taken from the free list has left it alone
    left : ((without_first s.anodes p x).count a ≡ 1) × ((without_first s.anodes p x).block a ≡ s.anodes.block a) × (place_out.hd' a ≡ hd a)
    left = let k = place_out.shift.apart a used away away in (k.same_count ∙ one, k.same_block, place_out.shift.same_hd a used away away)

    off_side : (m : ℕ) → SideHead m → place_out.sd' a ≢ m
    off_side m o e = away (sym left.2 ∙ side-free place_out.good m o a (full-0 g a full) (λ q. used (sym left.1 ∙ q)) e)

    -- THE BLOCK RELOCATED: a good state, its old place in limbo
    pub relocate_good : Good limit (exists_by s.slots) n last (block_from s a p x).anodes (λ y. system y + one_at (s.anodes.block a) y) place_out.hd' place_out.sd'
    unfolding block_from
    relocate_good = rewrite_good place_out.good a 1 z (λ y. system y + one_at (s.anodes.block a) y) (λ q. used (sym left.1 ∙ q)) place_some (full-0 g a full) (full-1 g a full)
        (λ y. rw (left.0, left.1) (omega (arith, covers_one (s.anodes.block a) y, covers_one z y))) (λ q. omega (arith, place_inside))
        (λ q. absurd (off_side 1 (inl refl) q)) (λ q. absurd (off_side 2 (inr refl) q))

    -- the free list has lost that block alone
    pub relocate_fewer : blocks limit place_out.hd' (block_from s a p x).anodes.count 1 + 1 ≡ blocks limit hd s.anodes.count 1
    unfolding block_from rewritten
    relocate_fewer =
        let t = without_first s.anodes p x in
        omega (arith, place_out.fewer 1, one_at-same 1 1 refl, rw (left.2, one_at_other (hd a) 1 away) at (blocks_rewrite limit place_out.hd' t.count a 1 (g.linked.view.below a used) 1))

    pub relocate_lost : (y : ℕ) → held limit place_out.hd' (block_from s a p x).anodes.count (block_from s a p x).anodes.block 1 y + one_at (s.anodes.block x) y ≡ held limit hd s.anodes.count s.anodes.block 1 y
    unfolding block_from rewritten
    relocate_lost y =
        let t = without_first s.anodes p x in
        omega (arith, rw (one_at-same 1 1 refl, covers_one z y) at (place_out.lost 1 y), rw (left.2, one_at_other (hd a) 1 away) at (held_rewrite limit place_out.hd' t.count t.block a 1 z (g.linked.view.below a used) 1 y))

  -- ---- a slot in use

  module _ (k : ℕ) (used : s.slots k ≢ 0) where
    -- every anode that existed still does
    exists_still : (a : ℕ) → T (exists_by s.slots a) → T (exists_by (changed s.slots k z) a)
    unfolding exists_by
    exists_still a t = elim (same? (a / 82) k) [
      | inl i ↦ rw (one-exists (changed s.slots k z) a (λ q. place_some (sym (changed-same s.slots k z) ∙ ap (changed s.slots k z) (sym i) ∙ q))) tt
      | inr i ↦ rw (changed_other s.slots k z (a / 82) i) t
    ]

    -- THE SLOT MOVED: a good state, with the new block beside the system's; the old one stays among them
    pub reslot_good : Good limit (exists_by (slot_from s k p x).slots) n last (slot_from s k p x).anodes (λ y. system y + one_at (s.anodes.block x) y) place_out.hd' place_out.sd'
    unfolding slot_from
    reslot_good = good_more place_out.good exists_still (λ y. omega (arith, covers_one z y))

    pub reslot_fewer : blocks limit place_out.hd' (slot_from s k p x).anodes.count 1 + 1 ≡ blocks limit hd s.anodes.count 1
    unfolding slot_from
    reslot_fewer = omega (arith, place_out.fewer 1, one_at-same 1 1 refl)

    pub reslot_lost : (y : ℕ) → held limit place_out.hd' (slot_from s k p x).anodes.count (slot_from s k p x).anodes.block 1 y + one_at (s.anodes.block x) y ≡ held limit hd s.anodes.count s.anodes.block 1 y
    unfolding slot_from
    reslot_lost y = omega (arith, rw (one_at-same 1 1 refl, covers_one z y) at (place_out.lost 1 y))
