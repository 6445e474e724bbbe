use Prim.Native.Nat.{◌-◌}
use Rattle.giving_back.proofs.OldTable.{Searched}
use Rattle.giving_back.proofs.next_old.Given as goal

abbrev pub invariant-loop-y : goal.invariant-loop-y
invariant-loop-y l = Searched l.blocks l.old.head.0 l.old.moved.0 l.from l.size l.y

abbrev pub decreases-loop-y : goal.decreases-loop-y
decreases-loop-y l = l.size - l.y
