use Prim.Native.Nat.{◌≤◌, ◌<◌}
use mathlib.Core.Path.{◌≡◌}
use Rattle.rules.specs.Counting.{any_below}
use Rattle.chains.specs.Endings.{unmarked}
use Rattle.chains.proofs.any_unmarked.Given as goal

abbrev pub invariant-loop-a : goal.invariant-loop-a
invariant-loop-a l = (0 < l.a) × (l.a ≤ 3444) × (l.any ≡ any_below (unmarked l.firsts l.marks) l.a)
