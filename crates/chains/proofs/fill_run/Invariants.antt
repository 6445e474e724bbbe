use Prim.Native.Nat.{◌≤◌, ◌<◌}
use mathlib.Core.Path.{◌≡◌}
use lib.ListN.{length, drop}
use Rattle.chains.specs.Filling.{FilledBelow}
use Rattle.chains.proofs.fill_run.Given as goal

abbrev pub invariant-loop-a : goal.invariant-loop-a
invariant-loop-a l = (0 < l.a) × (l.a ≤ l.end) × (length l.heads ≡ length l.initial.heads) × (drop 3444 l.heads ≡ drop 3444 l.initial.heads) × FilledBelow l.heads l.nexts l.firsts l.a
