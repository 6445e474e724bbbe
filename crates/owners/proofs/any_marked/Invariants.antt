use Rattle.owners.proofs.Laws.{Summed}
use Prim.Native.Nat.{◌+◌, ◌*◌, ◌≤◌}
use Rattle.owners.proofs.any_marked.Given as goal

abbrev pub invariant-loop-i : goal.invariant-loop-i
invariant-loop-i l = (l.sum + 65535 * l.fn.first.0 ≤ 65535 * l.i) × Summed l.sum l.blocks l.fn.first.0 l.i
