-- The image that a done safe change leaves differs from the old one in the new blocks and the root alone. So the crash theorem asks two things more of it: that it is sound and holds the new tree.
use Prim.Native.Nat.{ℕ, zero, suc, ◌+◌, ◌≤◌, ◌<◌}
use Rattle.std.specs.Prelude.{◌≡◌, refl, ◌≢◌, take}
use Rattle.std.proofs.Common.{sym, ◌∙◌, inl, inr, arith, ne_eqb}
use Rattle.std.proofs.Math.Path.{ap}
use mathlib.Core.List.{List, [], ◌∷◌, ◌++◌}
use Rattle.std.proofs.Math.ListN.{length, length-take}
use Rattle.disk.specs.Root.{slot_of}
use Rattle.disk.proofs.Laws.{slot_of_high}
use Rattle.rules.specs.Counting.{one_at, sum_below, occurrences}
use Rattle.rules.specs.Anodes.{limit}
use Rattle.rules.specs.Chains.{one_if_holds}
use Rattle.rules.specs.Accepted.{last_reserved}
use Rattle.rules.specs.Totals.{Sound}
use Rattle.rules.specs.Plans.{Slotted, planned, ◌and_then◌, no_growth}
use Rattle.rules.specs.Space.{release}
use Rattle.rules.specs.Table.{with_table}
use Rattle.laws.specs.Tests.{same?, less?}
use Rattle.laws.specs.Sums.{one_at-same, sum-member, sum_members}
use Rattle.laws.specs.Bags.{occurrences-nil, occurrences-cons, occurrences-append}
use Rattle.laws.specs.Space.{head_1}
use Rattle.laws.specs.Plans.{planned_same, then_planned}
use Rattle.laws.specs.FixedSlots.{release_slots}
use Rattle.frames.specs.Kept.{Kept, kept_both}
use Rattle.frames.specs.StoredBlocks.{spread-kept}
use Rattle.frames.specs.StoredSlots.{SlotsFor, slots_stored, table_kept}
use Rattle.frames.specs.DisjointBlocks.{DataBlock, chain_block, chain_once}
use Rattle.change_laws.specs.Image.{AcceptedWhole, AcceptedImage, accepted_whole, accepted_right}
use Rattle.safe_rules.specs.SafePlans.{SafeChange, all_relocated, reslotted_from, given_back, taking_steps, old_blocks, safe_steps}
use Rattle.safe_rules.specs.SafeWrites.{applied, new_image, list_of}
use Rattle.safe_rules.specs.SafeCalls.{SafeCall, safe_done}
use Rattle.safe_laws.specs.Claims.{NewTree, OldFree, CrashSafe}
use Rattle.safe_laws.specs.AllDone.{applied_is}
use Rattle.safe_laws.specs.Crash.{take_few, crash_safe}
use Rattle.safe_laws.specs.AllTaken.{OwnSteps, both_slots, takes_first, taken_free, safe_taken}
use Rattle.safe_laws.specs.NewSlots.{holds_from, new_slots}

-- the slots that hold a block, counted in another way
holds_sum : (slots : ℕ → ℕ) (x m k : ℕ) → sum_below (one_if_holds slots x) k + holds_from slots x m k ≡ sum_below (one_if_holds slots x) (k + m)
unfolding holds_from sum_below
holds_sum slots x zero k = let e : k + 0 ≡ k = omega arith in rw e (omega arith)
holds_sum slots x (suc m) k = let e : k + suc m ≡ suc k + m = omega arith in rw e (omega (arith, holds_sum slots x m (suc k)))

pub holds_all : (slots : ℕ → ℕ) (x m : ℕ) → holds_from slots x m 0 ≡ sum_below (one_if_holds slots x) m
unfolding sum_below
holds_all slots x m =
    let e : 0 + m ≡ m = omega arith in
    let h : holds_from slots x m 0 ≡ sum_below (one_if_holds slots x) (0 + m) = omega (arith, holds_sum slots x m 0) in
    rw e at h

pub holds_own : (slots : ℕ → ℕ) (x k : ℕ) → slots k ≢ 0 → slots k ≡ x → one_if_holds slots x k ≡ 1
unfolding one_if_holds
holds_own slots x k u e = rw (ne_eqb (slots k) 0 u) (one_at-same (slots k) x e)

-- the give-backs leave the slots
pub back_slots : (last : ℕ) (ys : List ℕ) (s t : Slotted) (zs : List ℕ) → given_back last ys s ≡ planned t zs → t.slots ≡ s.slots
unfolding given_back
back_slots last [] s t zs e = ap (λ (u : Slotted). u.slots) (sym (planned_same s t [] zs e).0)
back_slots last (y ∷ ys) s t zs e =
    let (r, xs, us, p, q, i) = then_planned (release limit no_growth last 1 y s) (given_back last ys) t zs e in
    back_slots last ys r t us q ∙ release_slots limit last 1 y s r xs p

module _ {img : List ℕ} (image : AcceptedImage img) {left : ℕ → Type 0} {c : SafeChange} (own : OwnSteps img left c) (t : Slotted) (ys : List ℕ) (plan : safe_steps img c ≡ planned t ys) where
  w : AcceptedWhole img
  w = accepted_whole image

  -- the blocks taken
  pub free : OldFree img ys
  free = let (s, zs, p, q) = safe_taken image own t ys plan in taken_free image own s ys p

  pub data_block : (y : ℕ) → 0 < occurrences y ys → DataBlock img y
  data_block y p = chain_block img w.good 1 (head_1 w.good) y (omega (arith, p, free y))

  once : (y : ℕ) → occurrences y ys ≤ 1
  once y = omega (arith, free y, chain_once w.good 1 (head_1 w.good) y)

  -- the slots: those in use hold blocks taken, each another
  pub record Held : Type 0 where
    pub empty : (i : ℕ) → slot_of img i ≡ 0 → t.slots i ≡ 0
    pub used : (i : ℕ) → slot_of img i ≢ 0 → t.slots i ≢ 0
    pub past : (i : ℕ) → 42 ≤ i → t.slots i ≡ 0
    pub few : (x : ℕ) → sum_below (one_if_holds t.slots x) 42 ≤ occurrences x ys

  pub slots_held : Held
  unfolding taking_steps
  slots_held =
      let (s, gs, p, q) = safe_taken image own t ys plan in
      let (r, xs, us, f, k, i) = then_planned (c.steps and_then all_relocated c.changing) (reslotted_from 42 0) s ys p in
      let v = ((takes_first image own).done r xs f).0 in
      let n = new_slots 42 0 r s us v.system' v.hd' v.sd' v.good k in
      let was : (j : ℕ) → r.slots j ≡ slot_of img j = λ j. ap (λ (g : ℕ → ℕ). g j) (both_slots image own r xs f) in
      let now = back_slots (last_reserved img) (old_blocks img c) s t gs q in
      let is : (j : ℕ) → t.slots j ≡ s.slots j = λ j. ap (λ (g : ℕ → ℕ). g j) now in
      record {
        empty = λ j z. is j ∙ n.empty j (was j ∙ z);
        used = λ j u z. n.used j (λ y. u (sym (was j) ∙ y)) (sym (is j) ∙ z);
        past = λ j l. is j ∙ n.past j l ∙ was j ∙ slot_of_high img j l;
        few = λ x. omega (arith, n.holds x, holds_all s.slots x 42, ap (occurrences x) i, occurrences-append x xs us, ap (λ (g : ℕ → ℕ). sum_below (one_if_holds g x) 42) now);
      }

  low : (k : ℕ) → t.slots k ≢ 0 → k < 42
  low k u = elim (less? k 42) [ inl l ↦ l | inr l ↦ absurd (u (slots_held.past k l)) ]

  -- a slot in use holds a block taken
  pub slot_taken : (k : ℕ) → t.slots k ≢ 0 → 0 < occurrences (t.slots k) ys
  slot_taken k u = omega (arith, slots_held.few (t.slots k), sum-member (one_if_holds t.slots (t.slots k)) k 42 (low k u), holds_own t.slots (t.slots k) k u refl)

  -- the slots may stand in the image
  pub slots_for : SlotsFor img t.slots
  slots_for = record {
    used = slots_held.used;
    placed = λ k u. let b = data_block (t.slots k) (slot_taken k u) in (b.above, b.below);
    once = λ k l u e. elim (same? k l) [
      | inl q ↦ q
      | inr q ↦ absurd (omega (
        arith,
        once (t.slots k),
        slots_held.few (t.slots k),
        sum_members (one_if_holds t.slots (t.slots k)) k l 42 (low k u) (low l (λ z. u (e ∙ z))) q,
        holds_own t.slots (t.slots k) k u refl,
        holds_own t.slots (t.slots k) l (λ z. u (e ∙ z)) (sym e),
      ))
    ];
    none_past = slots_held.past;
  }

  -- every block of the image but the root and the new ones is as it was
  pub left-kept : Kept (λ d. occurrences d (ys ++ (2 ∷ [])) ≡ 0) img (new_image img c t ys)
  unfolding new_image
  left-kept = kept_both
      (λ d z. (
        λ e. omega (arith, ends d, z, one_at-same 2 d (sym e)),
        λ k u e. let is = ap (λ (g : ℕ → ℕ). g k) (slots_stored img (accepted_right image) t.slots slots_for) in
            omega (arith, ends d, z, slot_taken k (λ q. u (is ∙ q)), ap (λ (y : ℕ). occurrences y ys) (sym is ∙ e)),
      ))
      (λ d z. omega (arith, ends d, z, take_few d (c.takes + length c.changing) ys))
      (table_kept img (accepted_right image) t slots_for)
      (spread-kept (with_table img t) (take (c.takes + length c.changing) ys) c.bytes (omega (arith, own.bytes_long, length-take (c.takes + length c.changing) ys)))
    where
      ends : (d : ℕ) → occurrences d (ys ++ (2 ∷ [])) ≡ occurrences d ys + one_at 2 d
      ends d = omega (arith, occurrences-append d ys (2 ∷ []), occurrences-cons d 2 [], occurrences-nil d)

  -- the writes of its list, done on the image, leave that one
  pub writes_leave : applied img (list_of img c t ys) ≡ new_image img c t ys
  unfolding list_of
  writes_leave = applied_is (new_image img c t ys) (ys ++ (2 ∷ [])) img left-kept

  -- THE CRASH THEOREM BUT FOR TWO FACTS: a done safe change is safe against a cut, if the image left is sound and holds the new tree
  pub left_safe : (blocks anodes buffer : List ℕ) (call : SafeCall) → Sound (new_image img c t ys) → NewTree img call (new_image img c t ys) →
      CrashSafe img call (safe_done img blocks anodes buffer (list_of img c t ys))
  unfolding list_of
  left_safe blocks anodes buffer call sound tree = crash_safe image (new_image img c t ys) ys free left-kept blocks anodes buffer call sound tree
