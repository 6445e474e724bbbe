use Prim.Native.Nat.{◌-◌, ◌≤◌}
use lib.ListN.{length}
use Rattle.byte_differences.specs.BytesCompared.{BytesCompared, extents_of, to_come, At}
use Rattle.byte_differences.proofs.compare_common.Given as goal

abbrev pub invariant-loop-at : goal.invariant-loop-at
invariant-loop-at l = let x = extents_of l.counts l.firsts in
    let y = extents_of l.other_counts l.other_firsts in
    let own = to_come l.image x l.initial.here in
    let m = to_come l.other y l.initial.there in
    (l.at ≤ l.common) × (l.common ≤ length own) × (l.common ≤ length m) × At l.image x own l.at l.here × At l.other y m l.at l.there × BytesCompared own m l.at l.d

abbrev pub decreases-loop-at : goal.decreases-loop-at
decreases-loop-at l = l.common - l.at
