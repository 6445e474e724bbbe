use Rattle.std.proofs.Common.{◌≡◌, ◌+◌}
use Rattle.tables.specs.Held.{ZeroFrom}
use Rattle.tables.proofs.zeros_from.Given as goal

abbrev pub invariant-loop-x : goal.invariant-loop-x
invariant-loop-x l = l.any ≡ 0 → ZeroFrom l.table l.from (l.from + l.x-index)
