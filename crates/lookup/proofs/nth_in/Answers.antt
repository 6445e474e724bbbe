use mathlib.Core.Path.{◌≡◌, sym, ◌∙◌}
use Prim.Native.Nat.{◌-◌}
use native.Mathlib.Omega.{arith}
use Rattle.disk.specs.Blocks.{block_of}
use Rattle.laws.specs.Entries.{reads_none, read_within}
use Rattle.lookup.proofs.Laws.{reader_whole, reads_placed, reads_same, unbroken_no_fault, unbroken_rest, nth-none, nth_here, nth-behind}
use Rattle.lookup.proofs.nth_in.Goals as goal

pub loop-item-init : goal.loop-item-init
loop-item-init c = rw c.into_iter-item-iterator.ensures.into_iter_gives
    (let r = c.of-item-items in
    let same : r.result.block.now ≡ block_of c.args.image.now c.args.b.0 = rw r.ensures.0 c.block_part.ensures in
    let w = reader_whole _ _ r.result same r.ensures.1 r.ensures.2 in
    (same, rw w c.requires, λ rest. rw w))

pub returns-in_default : goal.returns-in_default
returns-in_default c = let l = c.loop-item in
    absurd (unbroken_no_fault _ _ l.item-iterator c.next.new.self l.invariant.0 _ (rw c.in_default.is at c.in-Some.ensures.steps) l.invariant.1)

pub entry_in_image-requires : goal.entry_in_image-requires
entry_in_image-requires c = omega (arith, read_within c.args.b.0 _ _ _ (rw c.in-Ok.is at c.in-Some.ensures.steps))

pub returns-then-left-eq0 : goal.returns-then-left-eq0
returns-then-left-eq0 c = let l = c.loop-item in
    let placed = reads_placed _ c.args.b.0 _ _ l.invariant.0 _ (rw c.in-Ok.is at c.in-Some.ensures.steps) in
    λ rest. rw c.entry_in_image.ensures (sym (nth_here _ _ _ c.if-left-eq0.true) ∙ (rw placed at (l.invariant.2 rest)))

pub loop-item-preserved : goal.loop-item-preserved
loop-item-preserved c = let l = c.loop-item in
    let y = c.args.b.0 in
    let read = rw c.in-Ok.is at c.in-Some.ensures.steps in (
      reads_same _ y _ _ l.invariant.0 _ read,
      unbroken_rest _ y _ _ l.invariant.0 _ read l.invariant.1,
      λ rest. sym (nth-behind _ _ _ (l.left - 1) (omega arith)) ∙ (rw (reads_placed _ y _ _ l.invariant.0 _ read) at (l.invariant.2 rest)),
    )

pub returns : goal.returns
returns c = λ rest. sym (nth-none _ rest _ (reads_none _ c.loop-item.item-iterator c.next.new.self c.in-None.ensures.steps)) ∙ c.loop-item.invariant.2 rest
