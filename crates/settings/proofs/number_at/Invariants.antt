use Prim.Native.Nat.{◌<◌, ◌^◌}
use mathlib.Core.Path.{◌≡◌}
use Rattle.settings.specs.Files.{number_at}
use Rattle.settings.proofs.number_at.Given as goal

abbrev pub invariant-loop-i : goal.invariant-loop-i
invariant-loop-i l = (l.v ≡ number_at l.i l.bytes l.at) × (l.v < 256 ^ l.i)
