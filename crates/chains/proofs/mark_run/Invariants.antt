use Prim.Native.Nat.{◌≤◌}
use mathlib.Core.Path.{◌≡◌}
use lib.ListN.{length}
use Rattle.chains.specs.Endings.{EndsBelow}
use Rattle.chains.proofs.mark_run.Given as goal

abbrev pub invariant-loop-a : goal.invariant-loop-a
invariant-loop-a l = (l.a ≤ l.end) × (length l.marks ≡ length l.initial.marks) × EndsBelow l.marks l.nexts l.firsts l.a
