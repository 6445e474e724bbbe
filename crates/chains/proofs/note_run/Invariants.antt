use Prim.Native.Nat.{◌≤◌}
use mathlib.Core.Path.{◌≡◌}
use lib.ListN.{length}
use Rattle.chains.specs.Predecessors.{NotedBelow}
use Rattle.chains.proofs.note_run.Given as goal

abbrev pub invariant-loop-a : goal.invariant-loop-a
invariant-loop-a l = (l.a ≤ l.end) × (length l.preds ≡ length l.initial.preds) × NotedBelow l.preds l.nexts l.a
