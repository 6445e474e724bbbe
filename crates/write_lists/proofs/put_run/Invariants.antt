use mathlib.Core.Path.{◌≡◌}
use Prim.Native.Nat.{◌+◌, ◌*◌, ◌-◌}
use Rattle.rules.specs.Chains.{run}
use Rattle.laws.specs.Chains.{Inside}
use Rattle.write_lists.specs.Puts.{with_writes}
use Rattle.write_lists.proofs.put_run.Given as goal

abbrev pub invariant-loop-i : goal.invariant-loop-i
invariant-loop-i l = (l.place ≡ l.at + l.i * 514)
    × Inside l.image (run (l.first.0 + l.i) (l.count - l.i))
    × (with_writes l.out l.place l.image (run (l.first.0 + l.i) (l.count - l.i)) ≡ with_writes l.initial.out l.at l.image (run l.first.0 l.count))
