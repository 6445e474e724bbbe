use Rattle.rules.specs.Counting.{any_below}
use lib.Dec.{eqb}
use lib.ListN.{get_or}
use Prim.Native.Nat.{◌≤◌}
use mathlib.Core.Bool.{not}
use mathlib.Core.Path.{◌≡◌}
use Rattle.owners.proofs.no_owner.Given as goal

abbrev pub invariant-loop-x : goal.invariant-loop-x
invariant-loop-x l = (l.x ≤ l.n) × (not (eqb l.free 0) ≡ any_below (λ y. eqb (get_or l.blocks y 0) 0) l.x)
