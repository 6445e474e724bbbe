use mathlib.Core.Path.{◌≡◌}
use mathlib.Core.Bool.{false}
use Prim.Native.Nat.{◌≤◌}
use Rattle.rules.specs.Counting.{any_below}
use Rattle.walk_steps.specs.Steps.{unnamed_at}
use Rattle.tree.proofs.any_unnamed.Given as goal

abbrev pub invariant-loop-x : goal.invariant-loop-x
invariant-loop-x l = (l.x ≤ 3444) × (any_below (unnamed_at l.heads l.marks) l.x ≡ false)
