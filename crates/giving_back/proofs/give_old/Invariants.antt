use Prim.Native.Nat.{◌-◌, ◌≤◌}
use Rattle.anodes.specs.Loaded.{table_from}
use Rattle.giving_back.specs.OldTable.{old_from}
use Rattle.giving_back.proofs.Giving.{GoesBack}
use Rattle.giving_back.proofs.give_old.Given as goal

abbrev pub invariant-loop-y : goal.invariant-loop-y
invariant-loop-y l = (l.from ≤ l.size) × GoesBack l.last.0 (old_from l.blocks l.old.head.0 l.old.moved.0 l.size 0) (table_from l.initial.counts l.initial.firsts l.initial.nexts l.slots) (old_from l.blocks l.old.head.0 l.old.moved.0 (l.size - l.from) l.from) l.ends (table_from l.counts l.firsts l.nexts l.slots)

abbrev pub decreases-loop-y : goal.decreases-loop-y
decreases-loop-y l = l.size - l.from
