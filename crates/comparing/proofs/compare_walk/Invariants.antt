use Prim.Native.Nat.{ℕ}
use mathlib.Core.Path.{◌≡◌}
use mathlib.Core.List.{List}
use Rattle.rules.specs.Anodes.{anodes_of}
use Rattle.rules.specs.Walk.{reached_dirs}
use Rattle.names.specs.Index.{Indexed}
use Rattle.walk_steps.specs.Steps.{queue_of}
use Rattle.differences.specs.Pairs.{pairs_of}
use Rattle.handing.specs.Differs.{handing_with}
use Rattle.comparing.proofs.WalkedTo.{WalkedTo}
use Rattle.comparing.proofs.compare_walk.Given as goal

abbrev pub invariant-loop-i : goal.invariant-loop-i
invariant-loop-i l = Indexed l.other l.index l.indexed
    × ((parents : List ℕ) → queue_of l.queue parents l.dirs ≡ reached_dirs l.image (anodes_of l.image) → WalkedTo l.image l.other l.queue parents l.dirs l.i (pairs_of l.partners l.met) (handing_with l.out l.so_far) (handing_with l.initial.out l.initial.so_far))
