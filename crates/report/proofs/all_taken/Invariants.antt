use Prim.Native.Nat.{◌*◌, ◌≤◌}
use mathlib.Core.Path.{◌≡◌}
use lib.ListN.{take}
use Rattle.rules.specs.Counting.{sum_list}
use Rattle.report.proofs.all_taken.Given as goal

abbrev pub invariant-loop-n : goal.invariant-loop-n
invariant-loop-n l = (l.sum ≤ l.n-index * 100000) × (l.sum ≡ sum_list (λ n. n) (take l.n-index l.totals))
