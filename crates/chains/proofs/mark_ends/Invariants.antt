use Prim.Native.Nat.{◌*◌, ◌≤◌}
use mathlib.Core.Path.{◌≡◌}
use lib.ListN.{length}
use Rattle.chains.specs.Endings.{EndsBelow}
use Rattle.chains.proofs.mark_ends.Given as goal

abbrev pub invariant-loop-k : goal.invariant-loop-k
invariant-loop-k l = (l.k ≤ 42) × (length l.marks ≡ length l.initial.marks) × EndsBelow l.marks l.nexts l.firsts (l.k * 82)
