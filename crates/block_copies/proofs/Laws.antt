-- Laws of a block that is copied, and of the slots that take new places one after the other.
use Prim.Native.Nat.{ℕ, ◌+◌, ◌*◌, ◌-◌, ◌≤◌, ◌<◌}
use mathlib.Core.Path.{◌≡◌, sym, ap, ◌∙◌}
use mathlib.Core.Logic.{◌≢◌}
use mathlib.Core.Bool.{false}
use mathlib.Core.List.{List, ◌++◌, append-nil}
use native.Mathlib.Omega.{arith}
use lib.ListN.{length, take, drop, drop_of_length-le}
use lib.Seq.{sets-eq}
use borrow.Author.Tests.{ne_eqb}
use borrow.Rule.Slice.PartMut.{put_mid}
use Rattle.endian.specs.Bytes.{stored}
use Rattle.endian.proofs.Laws.{length-put16}
use Rattle.disk.specs.Blocks.{block_of, with_block}
use Rattle.disk.specs.Root.{slot_byte, slot_of, put_slot}
use Rattle.disk.proofs.Laws.{length-block_of, part_block, block_back}
use Rattle.rules.specs.Accepted.{wrong_size}
use Rattle.rules.specs.Table.{in_block, slot_block, with_slot, store_slots}
use Rattle.frames.specs.StoredBlocks.{in_block-kept}
use Rattle.frames.specs.StoredSlots.{block_inside}
use Rattle.anode_blocks.proofs.Laws.{root-back, kept-below, slot_before, slot_room, slot_comes}
use Rattle.block_copies.specs.Moved.{SlotsMove}

-- ---- one block

-- a run over the whole of some bytes
pub stored_whole : (l s : List ℕ) → length s ≡ length l → stored l 0 s ≡ s
unfolding stored
stored_whole l s e = sets-eq s l 0 (omega arith) ∙ ap (λ (q : List ℕ). s ++ q) (drop_of_length-le l {i = 0 + length s} (omega arith)) ∙ append-nil s

-- block y was lent and is back with the bytes of block d
pub block_copied : (img : List ℕ) (d y : ℕ) → d * 512 + 512 ≤ length img → y * 512 + 512 ≤ length img
    → (blank source block new : List ℕ) → length blank ≡ 512 → source ≡ block_of img d → block ≡ stored blank 0 source
    → new ≡ stored (take (y * 512 + 512 - y * 512) (drop (y * 512) img)) 0 block
    → put_mid (y * 512) (y * 512 + 512 - y * 512) img new ≡ with_block img y (block_of img d)
block_copied img d y there inside blank source block new long is copied back =
    let whole : length source ≡ 512 = ap length is ∙ length-block_of img d there in
    let same : block ≡ source = copied ∙ stored_whole blank source (whole ∙ sym long) in
    let here = length-block_of img y inside in
    let lent = part_block img y (y * 512 + 512) (omega arith) (omega arith) in
    let full : new ≡ block = back ∙ stored_whole _ block (ap length same ∙ whole ∙ sym (ap length lent ∙ here)) in
    block_back img y (y * 512 + 512) (omega arith) (omega arith) new (ap length (full ∙ same) ∙ whole ∙ sym here)
    ∙ ap (with_block img y) (full ∙ same ∙ is)

-- ---- one slot

-- the root block is back with slot k in it, and then block y has the bytes of block d
pub slot_moved : (img : List ℕ) (k d y : ℕ) → 1536 ≤ length img → y * 512 + 512 ≤ length img → d ≢ 2 → (root : List ℕ) → root ≡ put_slot (take 512 (drop 1024 img)) k y
    → with_block (put_mid 1024 512 img root) y (block_of (put_mid 1024 512 img root) d) ≡ with_slot img k y (block_of img d)
unfolding with_slot
slot_moved img k d y rooted inside apart root is =
    let e = root-back img k y rooted inside root is in
    let kept = (in_block-kept img 2 (λ b. put_slot b k y) (length-put16 (block_of img 2) (slot_byte k) y)).block_kept d apart in
    rw e (ap (with_block (in_block img 2 (λ b. put_slot b k y)) y) kept)

-- ---- the slots below a bound

module _ (img : List ℕ) (slots : ℕ → ℕ) (w : SlotsMove img slots) where
  -- a slot that comes to hold another block was in use, and so its block has the old one's bytes
  old_block : (k : ℕ) → slots k ≢ slot_of img k → slot_block img k ≡ block_of img (slot_of img k)
  unfolding slot_block
  old_block k o = rw (ne_eqb (slot_of img k) 0 (w.used k o))

  old_inside : (k : ℕ) → slots k ≢ slot_of img k → slot_of img k * 512 + 512 ≤ length img
  old_inside k o = block_inside img (slot_of img k) (w.old-placed k (w.used k o)).1

  pub old_whole : (k : ℕ) → slots k ≢ slot_of img k → length (slot_block img k) ≡ 512
  old_whole k o = ap length (old_block k o) ∙ length-block_of img (slot_of img k) (old_inside k o)

  -- j is img with the slots below k moved, d is the block of slot k and y the one that it is to hold
  module _ (right : wrong_size img ≡ false) (k d y : ℕ) (j : List ℕ) (low : k < 42) (is : j ≡ store_slots img slots k) (now : y ≡ slots k) (held : d ≡ slot_of j k) (other : d ≢ y) where
    was : d ≡ slot_of img k
    was = held ∙ slot_before img slots w.new-placed old_whole right k y j low is now

    differs : slots k ≢ slot_of img k
    differs e = other (was ∙ sym e ∙ sym now)

    -- there is room for both stores, and the old block is there and not the root
    pub move_room : (1536 ≤ length j) × (d * 512 + 512 ≤ length j) × (y * 512 + 512 ≤ length j) × (d ≢ 2)
    move_room =
        let room = slot_room img slots w.new-placed old_whole right k y j low is now (λ e. other (held ∙ e)) in
        let long = (kept-below img slots w.new-placed old_whole right k y j low is now).length-same in
        let old = old_inside k differs in
        let above = (w.old-placed k (w.used k differs)).0 in
        (room.0, rw (was, long) old, room.1, λ e. omega (arith, above, was, e))

    -- no slot moved before has taken the old block
    pub slot_moves : with_slot j k y (block_of j d) ≡ store_slots img slots (k + 1)
    slot_moves =
        let kept = kept-below img slots w.new-placed old_whole right k y j low is now in
        let above = (w.old-placed k (w.used k differs)).0 in
        let same : block_of j d ≡ slot_block img k =
        rw was (kept.block_same (slot_of img k) (λ e. omega (arith, above, e)) (λ i o. w.apart i k o)) ∙ sym (old_block k differs) in
        slot_comes img slots w.new-placed old_whole right k y j low is now (λ e. other (held ∙ e)) (block_of j d) (λ n. same)
