-- Laws of bytes written over some blocks. Assumes nothing.
use Prim.Native.Nat.{ℕ, ◌+◌, ◌-◌, ◌*◌, ◌<◌, ◌≤◌}
use mathlib.Core.Path.{◌≡◌, refl, sym, ◌∙◌}
use mathlib.Core.List.{List, [], ◌∷◌, ◌++◌}
use native.Mathlib.Omega.{arith}
use native.Mathlib.Nat.{le_of_eq}
use lib.ListN.{length, take, drop, drop_of_length-le}
use lib.Seq.{take_at, drop_at, drop-drop, drop-nil}
use borrow.Rule.Slice.PartMut.{put_mid}
use Rattle.endian.specs.Bytes.{stored}
use Rattle.endian.proofs.Laws.{length-stored, stored-none, stored-out, stored-take, stored-append}
use Rattle.disk.specs.Blocks.{block_of, with_block}
use Rattle.disk.proofs.Laws.{length-block_of, with_block_own, part_block, block_back}
use Rattle.disk.proofs.Store.{length-with_block, block_of-with_block_other}
use Rattle.rules.specs.Counting.{occurrences, gather}
use Rattle.rules.specs.Anodes.{Anodes}
use Rattle.rules.specs.Chains.{run, blocks_of}
use Rattle.rules.specs.Walk.{Entered}
use Rattle.rules.specs.Lookup.{bytes_of}
use Rattle.rules.specs.Changes.{spread, written}
use Rattle.laws.specs.Chains.{run_step, Inside}
use Rattle.laws.specs.Sums.{one_at-same}
use Rattle.laws.specs.Bags.{occurrences-cons, occurrences-append, occurrences-here}
use Rattle.contents.specs.Written.{written_over, InsideOnce}

-- ---- one block

-- no block is left
pub over_empty : (img ys bytes : List ℕ) (offset : ℕ) → ys ≡ [] → written_over img ys offset bytes ≡ img
unfolding written_over
over_empty img ys bytes offset e = rw e

-- no byte is left
over_none : (img ys : List ℕ) (offset : ℕ) → written_over img ys offset [] ≡ img
unfolding written_over
over_none img [] offset = refl
over_none img (y ∷ ys) offset =
    rw (stored-none (block_of img y) offset, with_block_own img y, drop-nil {A = ℕ} (512 - offset)) (over_none img ys (offset - 512))

pub over_done : (img ys bytes : List ℕ) (offset done : ℕ) → length bytes ≤ done → written_over img ys offset (drop done bytes) ≡ img
over_done img ys bytes offset done h = rw (drop_of_length-le bytes {i = done} h) (over_none img ys offset)

module _ (img : List ℕ) (y : ℕ) (inside : y * 512 + 512 ≤ length img) (ys bytes : List ℕ) (offset : ℕ) where
  -- the offset lies behind the block
  pub over_skipped : 512 ≤ offset → written_over img ys (offset - 512) bytes ≡ written_over img (y ∷ ys) offset bytes
  unfolding written_over
  over_skipped h =
      let none : 512 - offset ≡ 0 = omega arith in
      rw (stored-out (block_of img y) offset bytes (rw (length-block_of img y inside) h), with_block_own img y, none)

  -- the block was lent, and the bytes that fall into it were stored
  pub over_stored : (done : ℕ) (new : List ℕ) → offset < 512 → new ≡ stored (take (y * 512 + 512 - y * 512) (drop (y * 512) img)) offset (take (512 - offset) (drop done bytes))
      → written_over (put_mid (y * 512) (y * 512 + 512 - y * 512) img new) ys 0 (drop (done + (512 - offset)) bytes) ≡ written_over img (y ∷ ys) offset (drop done bytes)
  unfolding written_over
  over_stored done new h is =
      let long = length-block_of img y inside in
      let is_stored : new ≡ stored (block_of img y) offset (drop done bytes) =
      is ∙ rw (part_block img y (y * 512 + 512) (omega arith) (omega arith)) (stored-take (block_of img y) offset (drop done bytes) (512 - offset) (omega arith)) in
      let same : length new ≡ length (block_of img y) = rw is_stored (length-stored (block_of img y) offset (drop done bytes)) in
      let none : offset - 512 ≡ 0 = omega arith in
      rw (block_back img y (y * 512 + 512) (omega arith) (omega arith) new same, is_stored, none, drop-drop (512 - offset) done bytes)

-- ---- the whole

-- what the rules spread over the blocks is what each block's own store leaves, where j still has the blocks of img
over_spread : (img j ys bytes : List ℕ) (offset : ℕ) → length j ≡ length img → InsideOnce img ys → ((y : ℕ) → 0 < occurrences y ys → block_of j y ≡ block_of img y)
    → written_over j ys offset bytes ≡ spread j ys (stored (gather (block_of img) ys) offset bytes)
unfolding written_over spread gather
over_spread img j [] bytes offset long i same = refl
over_spread img j (y ∷ ys) bytes offset long i same =
    let first = one_at-same y y refl in
    let here = i.0 y (occurrences-here y ys) in
    let kept = same y (occurrences-here y ys) in
    let new = stored (block_of img y) offset bytes in
    let whole : length new ≡ 512 = length-stored (block_of img y) offset bytes ∙ length-block_of img y here in
    let enough : length (block_of j y) ≤ length new = rw kept (le_of_eq (sym (length-stored (block_of img y) offset bytes))) in
    let rest = stored (gather (block_of img) ys) (offset - 512) (drop (512 - offset) bytes) in
    let split : stored (block_of img y ++ gather (block_of img) ys) offset bytes ≡ new ++ rest =
    rw (← length-block_of img y here) (stored-append (block_of img y) (gather (block_of img) ys) offset bytes) in
    rw (kept, split, take_at new rest 512 whole, drop_at new rest 512 whole)
    (over_spread img (with_block j y new) ys (drop (512 - offset) bytes) (offset - 512) (length-with_block j y new enough ∙ long)
    (λ z p. i.0 z (omega (arith, p, occurrences-cons z y ys)), λ z. omega (arith, i.1 z, occurrences-cons z y ys))
    (λ z p. block_of-with_block_other j y new enough z (λ e. omega (arith, rw e at p, i.1 y, occurrences-cons y y ys)) ∙ same z (omega (arith, p, occurrences-cons z y ys))))

-- the rules' image of a write
pub over_written : (img : List ℕ) (s : Anodes) (h : ℕ) (e : Entered) (offset : ℕ) (bytes : List ℕ) → e.anode ≡ h → InsideOnce img (blocks_of s h)
    → written_over img (blocks_of s h) offset bytes ≡ written img s e offset bytes
unfolding written bytes_of
over_written img s h e offset bytes is i = rw is (over_spread img img (blocks_of s h) bytes offset refl i (λ y p. refl))

-- ---- blocks that the image has whole

pub inside_append : (img l n : List ℕ) → Inside img (l ++ n) → Inside img l × Inside img n
inside_append img l n i = (λ y p. i y (omega (arith, p, occurrences-append y l n)), λ y p. i y (omega (arith, p, occurrences-append y l n)))

-- the first block of a run, and those behind it
module _ (img : List ℕ) (b n m : ℕ) (more : n ≡ m + 1) (i : Inside img (run b n)) where
  pub first_inside : b * 512 + 512 ≤ length img
  first_inside = (rw (run_step b n m more) at i) b (occurrences-here b (run (b + 1) m))

  pub rest_inside : Inside img (run (b + 1) m)
  rest_inside = (inside_append img (b ∷ []) (run (b + 1) m) (rw (run_step b n m more) at i)).1
