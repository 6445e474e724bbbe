use Rattle.bitmap.specs.Table.{free_bit, Carried}
use Rattle.bitmap.proofs.Laws.{SameBelow}
use Rattle.bitmap.proofs.first_differing.Given as goal

abbrev pub invariant-loop-p : goal.invariant-loop-p
invariant-loop-p l = Carried (free_bit l.table l.n l.first) l.w l.p × SameBelow (free_bit l.table l.n l.first) l.bitmap l.p
