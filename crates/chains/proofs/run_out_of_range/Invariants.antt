use Prim.Native.Nat.{◌≤◌}
use mathlib.Core.Path.{◌≡◌}
use mathlib.Core.Bool.{false}
use Rattle.rules.specs.Counting.{any_below}
use Rattle.rules.specs.Accepted.{out_of_range}
use Rattle.anodes.specs.Loaded.{anodes_from}
use Rattle.chains.proofs.run_out_of_range.Given as goal

abbrev pub invariant-loop-a : goal.invariant-loop-a
invariant-loop-a l = (l.a ≤ l.end) × (any_below (out_of_range (anodes_from l.counts l.firsts l.nexts) l.size) l.a ≡ false)
