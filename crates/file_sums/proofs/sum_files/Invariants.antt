use Prim.Native.Nat.{◌-◌, ◌*◌, ℕ}
use mathlib.Core.Path.{◌≡◌}
use mathlib.Core.List.{List, []}
use Rattle.rules.specs.Counting.{gather}
use Rattle.rules.specs.Lookup.{entries_of}
use Rattle.anodes.specs.Loaded.{anodes_from}
use Rattle.walk_steps.specs.Steps.{dirs_from, queue_of}
use Rattle.file_sums.specs.Sums.{sums_made, sums_with, Within}
use Rattle.file_sums.proofs.sum_files.Given as goal

abbrev pub invariant-loop-i : goal.invariant-loop-i
invariant-loop-i l = Within (sums_made 0 0) l.sums (l.i * 96432) × ((parents : List ℕ) → sums_with l.starts l.sums (gather (λ d. entries_of l.image (anodes_from [] l.firsts l.nexts) d.head) (dirs_from l.queue parents l.i (l.dirs - l.i))) ≡ sums_with l.starts (sums_made 0 0) (gather (λ d. entries_of l.image (anodes_from [] l.firsts l.nexts) d.head) (queue_of l.queue parents l.dirs)))
