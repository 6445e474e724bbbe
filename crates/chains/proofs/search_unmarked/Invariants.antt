use Prim.Native.Nat.{◌≤◌}
use mathlib.Core.Path.{◌≡◌}
use mathlib.Core.Bool.{false}
use Rattle.rules.specs.Counting.{any_below}
use Rattle.chains.specs.Endings.{unmarked}
use Rattle.chains.proofs.search_unmarked.Given as goal

abbrev pub invariant-loop-a : goal.invariant-loop-a
invariant-loop-a l = (l.a ≤ 3444) × (any_below (unmarked l.firsts l.marks) l.a ≡ false)
