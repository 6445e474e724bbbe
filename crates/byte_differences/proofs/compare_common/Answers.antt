use mathlib.Core.Path.{◌≡◌, sym, ◌∙◌}
use native.Mathlib.Omega.{arith}
use Rattle.byte_differences.proofs.Comparing.{compared-none, compared-joined, compared-most}
use Rattle.byte_differences.proofs.Places.{start-bytes, start-at, settled_some, read_long, read_part, at-passed}
use borrow.Author.Rules.{rules}
use Rattle.byte_differences.proofs.compare_common.Goals as goal

pub loop-at-init : goal.loop-at-init
loop-at-init c = let own = c.started-here.ensures in
    let others = c.started-there.ensures in
    (search rules, rw (start-bytes _ _ _ _ _ _ own) c.requires.common_in_bounds, rw (start-bytes _ _ _ _ _ _ others) c.requires.common_in_bounds_2, start-at _ _ _ _ _ _ own, start-at _ _ _ _ _ _ others, compared-none _ _)

pub compare_parts-behind-requires : goal.compare_parts-behind-requires
compare_parts-behind-requires c = let l = c.loop-at.invariant in
    let n = c.part_length-n.ensures in
    let own = read_long _ _ _ _ _ _ l.3 c.next_bytes-one.ensures _ n.own _ c.part.ensures in
    let others = read_long _ _ _ _ _ _ l.4 c.next_bytes-two.ensures _ n.others _ c.part-in-loop-at.ensures in
    (own ∙ sym others, rw own n.small)

pub with_behind-d-requires : goal.with_behind-d-requires
with_behind-d-requires c = let l = c.loop-at.invariant in
    let n = c.part_length-n.ensures in
    let own = read_long _ _ _ _ _ _ l.3 c.next_bytes-one.ensures _ n.own _ c.part.ensures in
    let so_far = compared-most _ _ _ _ l.5 in
    let behind = compared-most _ _ _ _ c.compare_parts-behind.ensures in
    (omega (arith, n.asked, own, so_far, behind, l.0, c.loop-at-test.true, c.ranges.common), omega (arith, n.asked, own, so_far, behind, l.0, c.loop-at-test.true, c.ranges.common))

pub moved_on-here-requires : goal.moved_on-here-requires
moved_on-here-requires c = (c.part_length-n.ensures.own, c.next_bytes-one.ensures.within.small)

pub moved_on-there-requires : goal.moved_on-there-requires
moved_on-there-requires c = (c.part_length-n.ensures.others, c.next_bytes-two.ensures.within.small)

pub overflow_add-at : goal.overflow_add-at
overflow_add-at c = omega (arith, c.part_length-n.ensures.asked, c.loop-at-test.true, c.ranges.common)

pub loop-at-smaller : goal.loop-at-smaller
loop-at-smaller c = let l = c.loop-at.invariant in
    let n = c.part_length-n.ensures in
    let before = c.loop-at-test.true in
    let own = settled_some _ _ _ _ _ _ l.3 c.next_bytes-one.ensures (omega (arith, l.1)) in
    let others = settled_some _ _ _ _ _ _ l.4 c.next_bytes-two.ensures (omega (arith, l.2)) in
    omega (arith, n.some own others (λ e. omega (arith, e)), n.asked)

pub loop-at-preserved : goal.loop-at-preserved
loop-at-preserved c = let l = c.loop-at.invariant in
    let n = c.part_length-n.ensures in
    let is = c.part.ensures in
    let own = c.next_bytes-one.ensures in
    let others = c.next_bytes-two.ensures in (
      omega (arith, n.asked),
      l.1,
      l.2,
      rw c.moved_on-here.ensures (at-passed _ _ _ _ _ _ l.3 own _ n.own),
      rw c.moved_on-there.ensures (at-passed _ _ _ _ _ _ l.4 others _ n.others),
      rw c.with_behind-d.ensures (compared-joined _ _ _ _ _ _ _ _ (read_part _ _ _ _ _ _ l.3 own _ n.own _ is) (read_part _ _ _ _ _ _ l.4 others _ n.others _ c.part-in-loop-at.ensures) (read_long _ _ _ _ _ _ l.3 own _ n.own _ is) l.5 c.compare_parts-behind.ensures),
    )

pub returns : goal.returns
returns c = let e : c.loop-at.at ≡ c.args.common = omega arith in
    rw (← start-bytes _ _ _ _ _ _ c.started-here.ensures, ← start-bytes _ _ _ _ _ _ c.started-there.ensures, ← e) c.loop-at.invariant.5
