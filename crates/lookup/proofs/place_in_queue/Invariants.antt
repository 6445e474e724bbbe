use mathlib.Core.Path.{◌≡◌}
use Prim.Native.Nat.{◌-◌}
use Rattle.lookup.specs.Queued.{place_of}
use Rattle.lookup.proofs.place_in_queue.Given as goal

abbrev pub invariant-loop-i : goal.invariant-loop-i
invariant-loop-i l = place_of l.queue l.head.0 l.i (l.dirs - l.i) ≡ place_of l.queue l.head.0 0 l.dirs
