use Prim.Native.Nat.{◌*◌, ◌≤◌}
use mathlib.Core.Path.{◌≡◌}
use mathlib.Core.Bool.{false}
use Rattle.rules.specs.Counting.{any_below}
use Rattle.rules.specs.Accepted.{out_of_range}
use Rattle.anodes.specs.Loaded.{anodes_from}
use Rattle.chains.proofs.out_of_range.Given as goal

abbrev pub invariant-loop-k : goal.invariant-loop-k
invariant-loop-k l = (l.k ≤ 42) × (any_below (out_of_range (anodes_from l.counts l.firsts l.nexts) l.size) (l.k * 82) ≡ false)
