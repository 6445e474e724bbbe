use Rattle.disk.specs.Root.{slot_of}
use Rattle.tables.specs.Held.{HeldBelow}
use Rattle.searches.proofs.slots_of.Given as goal

abbrev pub invariant-loop-k : goal.invariant-loop-k
invariant-loop-k l = HeldBelow (slot_of l.image) l.slot-items l.k
