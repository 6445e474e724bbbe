use Prim.Native.Nat.{◌*◌, ◌≤◌, ◌<◌}
use mathlib.Core.Path.{◌≡◌}
use lib.ListN.{length, drop}
use Rattle.chains.specs.Filling.{FilledBelow}
use Rattle.chains.proofs.fill_heads.Given as goal

abbrev pub invariant-loop-k : goal.invariant-loop-k
invariant-loop-k l = (0 < l.k) × (l.k ≤ 42) × (length l.heads ≡ length l.initial.heads) × (drop 3444 l.heads ≡ drop 3444 l.initial.heads) × FilledBelow l.heads l.nexts l.firsts (l.k * 82)
