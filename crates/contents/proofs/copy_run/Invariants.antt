use mathlib.Core.Path.{◌≡◌}
use mathlib.Core.List.{List, ◌++◌}
use Prim.Native.Nat.{ℕ, ◌+◌, ◌-◌}
use lib.ListN.{drop}
use Rattle.disk.specs.Blocks.{block_of}
use Rattle.rules.specs.Counting.{gather}
use Rattle.rules.specs.Chains.{run}
use Rattle.contents.specs.Copied.{filled}
use Rattle.contents.proofs.copy_run.Given as goal

abbrev pub invariant-loop-i : goal.invariant-loop-i
invariant-loop-i l = (rest : List ℕ) → filled l.out l.cursor.done (drop l.cursor.skip (gather (block_of l.image) (run (l.first.0 + l.i) (l.count - l.i)) ++ rest)) ≡ filled l.initial.out l.initial.cursor.done (drop l.initial.cursor.skip (gather (block_of l.image) (run l.first.0 l.count) ++ rest))
