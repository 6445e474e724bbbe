use mathlib.Core.Path.{◌≡◌}
use mathlib.Core.List.{List, ◌++◌}
use Prim.Native.Nat.{ℕ, ◌+◌, ◌-◌}
use lib.ListN.{drop}
use Rattle.rules.specs.Chains.{run}
use Rattle.laws.specs.Chains.{Inside}
use Rattle.contents.specs.Written.{written_over}
use Rattle.contents.proofs.write_run.Given as goal

abbrev pub invariant-loop-i : goal.invariant-loop-i
invariant-loop-i l = Inside l.initial.image (run (l.first.0 + l.i) (l.count - l.i))
    × ((rest : List ℕ) → written_over l.image (run (l.first.0 + l.i) (l.count - l.i) ++ rest) l.cursor.skip (drop l.cursor.done l.bytes) ≡ written_over l.initial.image (run l.first.0 l.count ++ rest) l.initial.cursor.skip (drop l.initial.cursor.done l.bytes))
