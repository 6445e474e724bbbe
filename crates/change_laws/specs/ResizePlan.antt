-- The steps that a resize plans: from the chain of 1 to the file's, or back, and which blocks change hands.
use Rattle.std.specs.Prelude.{ℕ, ◌+◌, ◌-◌, ◌≤◌, ◌≡◌, ◌≢◌, ◌⊎◌, cond, leb, length, drop}
use Rattle.std.proofs.Math.Path.{refl, sym, ap}
use Rattle.std.proofs.Common.{◌∙◌, arith, le-leb}
use Rattle.std.proofs.Math.Logic.{inl, inr}
use Rattle.std.proofs.Math.Bool.{false}
use mathlib.Core.List.{List, [], ◌++◌, append-nil}
use Rattle.std.proofs.Math.ListN.{drop_of_length-le}
use Rattle.std.proofs.lemmas.Bool.{lt-leb}
use Rattle.disk.specs.Root.{slot_of}
use Rattle.rules.specs.Counting.{occurrences}
use Rattle.rules.specs.Anodes.{Anodes, limit}
use Rattle.rules.specs.Chains.{system_owns, blocks_of, block_count}
use Rattle.rules.specs.Accepted.{disk_size, last_reserved}
use Rattle.rules.specs.Plans.{Slotted, slotted, refused, planned, Growth}
use Rattle.rules.specs.Changes.{resize_plan}
use Rattle.laws.specs.Tests.{less?}
use Rattle.laws.specs.Sums.{one_at-same, one_at_other}
use Rattle.laws.specs.Heads.{Head}
use Rattle.laws.specs.Blocks.{blocks}
use Rattle.laws.specs.Moves.{Grows, Moved}
use Rattle.laws.specs.FixedSlots.{start_owned}
use Rattle.laws.specs.Whole.{blocks-count}
use Rattle.laws.specs.GiveRuns.{runs_moved}
use Rattle.laws.specs.Resize.{takes_moved}
use Rattle.laws.specs.RefusedSteps.{takes_refused}
use Rattle.laws.specs.RefusedRuns.{runs_refused}
use Rattle.laws.specs.TakenBlocks.{takes_blocks}
use Rattle.laws.specs.GivenBlocks.{runs_blocks}
use Rattle.change_laws.specs.Image.{GoodOn}

-- the head whose chain the moved blocks come to: h where it does not shrink, else the free list's
abbrev pub new_owner : ℕ → ℕ → ℕ → ℕ
new_owner h have want = cond (leb have want) h 1

-- the blocks that change hands: those behind the first that it had, where it does not shrink, else those behind the first that it keeps
abbrev pub moved_blocks : Anodes → Anodes → ℕ → ℕ → ℕ → List ℕ
moved_blocks s t h have want = cond (leb have want) (drop have (blocks_of t h)) (drop want (blocks_of s h))

-- the chain of h has so many blocks now; those of ys came from 1's chain, or went to it
pub record Resizing (img : List ℕ) (s : Anodes) (hd : ℕ → ℕ) (h size : ℕ) (t : Slotted) (ys : List ℕ) : Type 0 where
  pub from : ℕ
  pub to : ℕ
  pub apart : from ≢ to
  pub from_is : (from ≡ 1) ⊎ (from ≡ h)
  pub to_is : to ≡ new_owner h (block_count s h) size
  pub gs : List ℕ
  pub moves : Moved limit (disk_size img) (last_reserved img) (slotted s (slot_of img)) (system_owns img) hd from to h ys gs t
  pub has : blocks limit moves.hd' t.anodes.count h ≡ size
  -- the free blocks, those that the system got and those of the chain are the free ones and the chain's of before
  pub sum : blocks limit moves.hd' t.anodes.count 1 + length gs + size ≡ blocks limit hd s.count 1 + block_count s h

module _ (img : List ℕ) {growth : Growth} (grows : Grows limit (disk_size img) (last_reserved img) growth) {s : Anodes} {hd sd : ℕ → ℕ} (g : GoodOn img s hd sd)
    (h : ℕ) (d : Head s.next s.block h) (h1 : h ≢ 1) where
  abbrev S : Slotted
  S = slotted s (slot_of img)

  abbrev last : ℕ
  last = last_reserved img

  pub plan_runs : (size : ℕ) (t : Slotted) (ys : List ℕ) → resize_plan growth (last_reserved img) (slotted s (slot_of img)) h size ≡ planned t ys → Resizing img s hd h size t ys
  unfolding resize_plan
  plan_runs size t ys plan = elim (less? size (block_count s h)) [
    | inl l ↦ (let gives = rw (lt-leb (block_count s h) size l) at plan in
        let (gs, w, len) = runs_moved grows h h1 (block_count s h - size) t ys S (system_owns img) hd sd (start_owned (slot_of img)) g d (omega (arith, blocks-count g h d)) gives in
        record {
          from = h;
          to = 1;
          apart = h1;
          from_is = inr refl;
          to_is = rw (lt-leb (block_count s h) size l);
          gs = gs;
          moves = w;
          has = omega (arith, l, len, blocks-count g h d, rw (one_at-same h h refl, one_at_other 1 h (λ e. h1 (sym e))) at (w.moved h));
          sum = omega (arith, l, len, blocks-count g h d, rw (one_at-same 1 1 refl, one_at_other h 1 h1) at (w.moved 1));
        })
    | inr l ↦ (let takes = rw (le-leb (block_count s h) size l) at plan in
        let (gs, w, len) = takes_moved grows (size - block_count s h) h h1 false t ys S (system_owns img) hd sd (start_owned (slot_of img)) g d takes in
        record {
          from = 1;
          to = h;
          apart = λ e. h1 (sym e);
          from_is = inl refl;
          to_is = rw (le-leb (block_count s h) size l);
          gs = gs;
          moves = w;
          has = omega (arith, l, len, blocks-count g h d, rw (one_at-same h h refl, one_at_other 1 h (λ e. h1 (sym e))) at (w.moved h));
          sum = omega (arith, l, len, blocks-count g h d, rw (one_at-same 1 1 refl, one_at_other h 1 h1) at (w.moved 1));
        })
  ]

  pub plan_refused : (size k : ℕ) → resize_plan growth (last_reserved img) (slotted s (slot_of img)) h size ≡ refused k → (k ≡ 27) ⊎ (k ≡ 28)
  unfolding resize_plan
  plan_refused size k plan = elim (less? size (block_count s h)) [
    | inl l ↦ inr (runs_refused limit growth last (block_count s h - size) h k S (rw (lt-leb (block_count s h) size l) at plan))
    | inr l ↦ takes_refused limit growth false (size - block_count s h) h k S (rw (le-leb (block_count s h) size l) at plan)
  ]

  -- the list of blocks of the chain: more of them behind, or fewer
  module _ (size : ℕ) (t : Slotted) (ys : List ℕ) (plan : resize_plan growth (last_reserved img) (slotted s (slot_of img)) h size ≡ planned t ys) where
    pub plan-longer : block_count s h ≤ size → (blocks_of t.anodes h ≡ blocks_of s h ++ ys) × (length ys ≡ size - block_count s h)
    unfolding resize_plan
    plan-longer l = takes_blocks grows (size - block_count s h) h h1 false t ys S (system_owns img) hd sd (start_owned (slot_of img)) g d (rw (le-leb (block_count s h) size l) at plan)

    pub plan_shorter : size ≤ block_count s h → (rest : List ℕ) × (blocks_of s h ≡ blocks_of t.anodes h ++ rest) × ((x : ℕ) → occurrences x rest ≡ occurrences x ys)
    unfolding resize_plan
    plan_shorter l = elim (less? size (block_count s h)) [
      | inl m ↦ (let b = runs_blocks grows h h1 (block_count s h - size) t ys S (system_owns img) hd sd (start_owned (slot_of img)) g d (omega (arith, blocks-count g h d)) (rw (lt-leb (block_count s h) size m) at plan) in (b.0, b.1, b.3))
      | inr m ↦ (let q = plan-longer m in let none : ys ≡ [] = drop_of_length-le ys {i = 0} (omega (arith, q.1)) in
          ([], sym (append-nil (blocks_of s h)) ∙ ap (λ (l : List ℕ). blocks_of s h ++ l) (sym none) ∙ sym q.0 ∙ sym (append-nil (blocks_of t.anodes h)), λ x. ap (occurrences x) (sym none)))
    ]
