use Prim.Native.Nat.{ℕ, ◌-◌}
use mathlib.Core.Path.{◌≡◌}
use mathlib.Core.List.{List, []}
use Rattle.rules.specs.Counting.{gather}
use Rattle.rules.specs.Lookup.{entries_of}
use Rattle.anodes.specs.Loaded.{anodes_from}
use Rattle.walk_steps.specs.Steps.{queue_of}
use Rattle.differences.specs.Differences.{Difference}
use Rattle.differences.specs.Pairs.{unmet}
use Rattle.differences.specs.Handing.{hand_all}
use Rattle.handing.specs.Differs.{handing_with}
use Rattle.unmet_entries.specs.Along.{along_queue}
use Rattle.unmet_entries.proofs.hand_unmet.Given as goal

-- the differences of the directory that h heads
abbrev pub unmet_of : List ℕ → List ℕ → List ℕ → List ℕ → ℕ → List Difference
unmet_of image firsts nexts met h = gather (unmet met) (entries_of image (anodes_from [] firsts nexts) h)

abbrev pub invariant-loop-i : goal.invariant-loop-i
invariant-loop-i l = (parents : List ℕ) → hand_all (handing_with l.out l.so_far) (along_queue (unmet_of l.image l.firsts l.nexts l.met) l.queue parents l.i (l.dirs - l.i)) ≡ hand_all (handing_with l.initial.out l.initial.so_far) (gather (λ d. unmet_of l.image l.firsts l.nexts l.met d.head) (queue_of l.queue parents l.dirs))
