use Prim.Native.Nat.{◌*◌, ◌≤◌}
use mathlib.Core.Path.{◌≡◌}
use lib.ListN.{length}
use Rattle.chains.specs.Predecessors.{NotedBelow}
use Rattle.chains.proofs.note_preds.Given as goal

abbrev pub invariant-loop-k : goal.invariant-loop-k
invariant-loop-k l = (l.k ≤ 42) × (length l.preds ≡ length l.initial.preds) × NotedBelow l.preds l.nexts (l.k * 82)
