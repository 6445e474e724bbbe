-- What the tests 5 to 8 say in numbers where they find nothing, and the links that follow.
use Rattle.std.specs.Prelude.{ℕ, ◌+◌, ◌*◌, ◌≤◌, ◌<◌, ◌≡◌, refl, ◌≢◌, ◌&&◌, ◌||◌, List, ltb, leb, length}
use Rattle.std.proofs.Common.{sym, ap, ◌∙◌, arith}
use Rattle.std.proofs.Math.Logic.{inl, inr}
use Rattle.std.proofs.Math.Bool.{false, not, and-eq-true_iff}
use Rattle.std.proofs.Math.Dec.{eqb}
use borrow.Author.Tests.{ltb-false, leb-false, eqb-true, eqb-false, not-false, lt-ltb, eq-eqb, ne_eqb}
use Rattle.disk.specs.Blocks.{block_of}
use Rattle.disk.specs.Root.{slot_of}
use Rattle.disk.specs.AnodeBlocks.{anode_mark, anode_header_in}
use Rattle.disk.proofs.Laws.{slot_of_high}
use Rattle.rules.specs.Counting.{any_below}
use Rattle.rules.specs.Anodes.{Anodes, limit, is_free}
use Rattle.rules.specs.Chains.{preds, followed}
use Rattle.rules.specs.Accepted.{disk_size, wrong_slot, wrong_slots, wrong_fixed, half_cleared, wrong_extent, out_of_range, wrong_link, wrong_at, wrong_links}
use Rattle.counting.specs.Laws.{neither, and_none, none-and, any_below_each}
use Rattle.laws.specs.Tests.{same?, less?, other}
use Rattle.laws.specs.Segments.{followed-zero}
use Rattle.laws.specs.Links.{View, Checked, next_below}
use Rattle.laws.specs.Space.{FixedAnodes}

-- ---- 5

-- a slot in use is one of the 42
pub slot_low : (img : List ℕ) (s : ℕ) → slot_of img s ≢ 0 → s < 42
slot_low img s u = elim (less? s 42) [ inl l ↦ l | inr l ↦ absurd (u (slot_of_high img s l)) ]

-- a slot holds an anode block with its number
pub record RightSlot (img : List ℕ) (s : ℕ) : Type 0 where
  pub above : 3 ≤ slot_of img s
  pub below : slot_of img s < disk_size img
  pub inside : slot_of img s * 512 + 512 ≤ length img
  pub marked : (anode_header_in (block_of img (slot_of img s))).mark ≡ anode_mark
  pub numbered : (anode_header_in (block_of img (slot_of img s))).sequence ≡ s

-- a slot in use holds an anode block of the disk
pub right_slot : (img : List ℕ) → wrong_slots img ≡ false → (s : ℕ) → slot_of img s ≢ 0 → RightSlot img s
unfolding wrong_slots wrong_slot disk_size
right_slot img right s u =
    let b = slot_of img s in
    let head = anode_header_in (block_of img b) in
    let mark = not (eqb head.mark anode_mark) in
    let number = not (eqb head.sequence s) in
    let wrong = any_below_each (wrong_slot img) s 42 (slot_low img s u) (neither (eqb (slot_of img 0) 0) (any_below (wrong_slot img) 42) right).1 in
    let low = neither (ltb b 3) (leb (disk_size img) b || (mark || number)) (and_none (not (eqb b 0)) _ wrong (other b 0 u)) in
    let high = neither (leb (disk_size img) b) (mark || number) low.1 in
    let named = neither mark number high.1 in
    let below : b < disk_size img = leb-false (disk_size img) b high.0 in
    record {
      above = ltb-false b 3 low.0;
      below = below;
      inside = omega arith;
      marked = eqb-true head.mark anode_mark (not-false (eqb head.mark anode_mark) named.0);
      numbered = eqb-true head.sequence s (not-false (eqb head.sequence s) named.1);
    }

-- no block stands in two slots
pub one_slot : (img : List ℕ) → wrong_slots img ≡ false → (s t : ℕ) → slot_of img s ≢ 0 → slot_of img s ≡ slot_of img t → s ≡ t
one_slot img right s t u e = sym (right_slot img right s u).numbered ∙ rw e (right_slot img right t (λ z. u (e ∙ z))).numbered

-- ---- 7: half-cleared anodes

module _ (s : Anodes) (n : ℕ) (right : any_below (out_of_range s n) limit ≡ false) where
  -- an anode whose block field is 0 has all three fields 0
  pub block_cleared : (a : ℕ) → a < limit → s.block a ≡ 0 → (s.count a ≡ 0) × (s.next a ≡ 0)
  unfolding out_of_range half_cleared is_free
  block_cleared a l z =
      let half = (neither (half_cleared s a) (wrong_extent s n a) (any_below_each (out_of_range s n) a limit l right)).0 in
      let free = not-false (is_free s a) (and_none (eqb (s.block a) 0) (not (is_free s a)) half (eq-eqb (s.block a) 0 z)) in
      let counted = (and-eq-true_iff (eqb (s.count a) 0) (eqb (s.block a) 0 && eqb (s.next a) 0)).0 free in
      (eqb-true _ _ counted.0, eqb-true _ _ ((and-eq-true_iff (eqb (s.block a) 0) (eqb (s.next a) 0)).0 counted.1).1)

  -- so it is free exactly if its block field is 0
  pub free_by_block : (a : ℕ) → a < limit → is_free s a ≡ eqb (s.block a) 0
  unfolding is_free
  free_by_block a l = elim (same? (s.block a) 0) [
    | inl z ↦ (let k = block_cleared a l z in rw (eq-eqb (s.count a) 0 k.0, eq-eqb (s.block a) 0 z, eq-eqb (s.next a) 0 k.1))
    | inr u ↦ rw (ne_eqb (s.block a) 0 u) (none-and (eqb (s.count a) 0) false (λ e. refl))
  ]

-- ---- 6

module _ (s : Anodes) (fixed : wrong_fixed s ≡ false) where
  -- what 6 finds right of anode 0, of anode 1, and of 2 and 5
  fixed_parts : (not (eqb (s.count 0) 0 && (eqb (s.block 0) 65535 && eqb (s.next 0) 0)) ≡ false) × (not (eqb (s.count 1) 0 && eqb (s.block 1) 65535) ≡ false) × (is_free s 2 ≡ false) × (is_free s 5 ≡ false)
  unfolding wrong_fixed
  fixed_parts =
      let zero = not (eqb (s.count 0) 0 && (eqb (s.block 0) 65535 && eqb (s.next 0) 0)) in
      let one = not (eqb (s.count 1) 0 && eqb (s.block 1) 65535) in
      let all = neither zero (one || (is_free s 2 || is_free s 5)) fixed in
      let rest = neither one (is_free s 2 || is_free s 5) all.1 in
      let used = neither (is_free s 2) (is_free s 5) rest.1 in
      (all.0, rest.0, used.0, used.1)

  -- anode 0 is (0, 65535, 0)
  pub zero_anode : (s.count 0 ≡ 0) × (s.block 0 ≡ 65535) × (s.next 0 ≡ 0)
  zero_anode =
      let zeros = (and-eq-true_iff (eqb (s.count 0) 0) _).0 (not-false _ fixed_parts.0) in
      let more = (and-eq-true_iff (eqb (s.block 0) 65535) (eqb (s.next 0) 0)).0 zeros.1 in
      (eqb-true _ _ zeros.0, eqb-true _ _ more.0, eqb-true _ _ more.1)

  -- ---- 7

  module _ (n : ℕ) (right : any_below (out_of_range s n) limit ≡ false) where
    -- anode 0 is (0, 65535, 0), anode 1 is empty, 2 and 5 are in use
    pub fixed_anodes : FixedAnodes s
    fixed_anodes =
        let ones = (and-eq-true_iff (eqb (s.count 1) 0) (eqb (s.block 1) 65535)).0 (not-false _ fixed_parts.1) in
        record {
          count-0 = zero_anode.0;
          block_0 = zero_anode.1;
          count-1 = eqb-true _ _ ones.0;
          block_1 = eqb-true _ _ ones.1;
          block_2 = eqb-false _ _ (sym (free_by_block s n right 2 (omega arith)) ∙ fixed_parts.2);
          block_5 = eqb-false _ _ (sym (free_by_block s n right 5 (omega arith)) ∙ fixed_parts.3);
        }

    in_range : (a : ℕ) → a < limit → a ≢ 0 → ((ltb 0 (s.count a) && ltb n (s.block a + s.count a)) ≡ false) × ((not (eqb (s.next a) 0) && eqb (s.block (s.next a)) 0) ≡ false)
    unfolding out_of_range wrong_extent
    in_range a l a0 = neither _ _ (and_none (not (eqb a 0)) _ (neither (half_cleared s a) _ (any_below_each (out_of_range s n) a limit l right)).1 (other a 0 a0))

    -- an anode's blocks are on the disk
    pub extent_inside : (a : ℕ) → a < limit → 0 < s.count a → s.block a + s.count a ≤ n
    extent_inside a l c = elim (same? a 0) [
      | inl e ↦ absurd (omega (arith, c, ap s.count e, zero_anode.0))
      | inr e ↦ ltb-false n _ (and_none _ _ (in_range a l e).0 (lt-ltb 0 _ c))
    ]

    -- a next is in use
    pub next_used : (a : ℕ) → a < limit → s.next a ≢ 0 → s.block (s.next a) ≢ 0
    next_used a l h = elim (same? a 0) [
      | inl e ↦ absurd (h (ap s.next e ∙ zero_anode.2))
      | inr e ↦ eqb-false _ 0 (and_none _ _ (in_range a l e).1 (other (s.next a) 0 h))
    ]

  -- ---- 8

  module _ (links : wrong_links s ≡ false) where
    right_link : (a : ℕ) → a < limit → a ≢ 0 → s.block a ≢ 0 → (ltb 1 (preds limit s.next a) ≡ false) × (not (eqb (followed s.next limit a) 0) ≡ false)
    unfolding wrong_links wrong_at wrong_link
    right_link a l a0 u = neither _ _ (and_none _ _ (and_none _ _ (any_below_each (wrong_at s) a limit l (neither (any_below (wrong_at s) limit) _ links).0) (other a 0 a0)) (other (s.block a) 0 u))

    one_pred : (a : ℕ) → a < limit → a ≢ 0 → s.block a ≢ 0 → preds limit s.next a ≤ 1
    one_pred a l a0 u = ltb-false 1 _ (right_link a l a0 u).0

    chain_ends : (a : ℕ) → a < limit → s.block a ≢ 0 → followed s.next limit a ≡ 0
    chain_ends a l u = elim (same? a 0) [
      | inl e ↦ rw e (followed-zero s.next limit zero_anode.2)
      | inr e ↦ eqb-true _ 0 (not-false _ (right_link a l e u).1)
    ]

  -- ---- the links that the checked anodes have

  pub tested_checked : View limit s.next s.block → (n : ℕ) → any_below (out_of_range s n) limit ≡ false → wrong_links s ≡ false → Checked limit s.next s.block
  tested_checked v n right links = record {
    closed = λ a h. next_used n right a (next_below v a h) h;
    one_pred = λ a a0 u. one_pred links a (v.below a u) a0 u;
    ends = λ a u. chain_ends links a (v.below a u) u;
  }
