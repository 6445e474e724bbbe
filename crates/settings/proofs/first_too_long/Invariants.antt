use lib.Dec.{leb}
use Rattle.settings.specs.Files.{seconds_at}
use Prim.Native.Nat.{ℕ, ◌<◌}
use mathlib.Core.Bool.{false}
use mathlib.Core.Path.{◌≡◌}
use Rattle.settings.proofs.first_too_long.Given as goal

abbrev pub invariant-loop-i : goal.invariant-loop-i
invariant-loop-i l = (j : ℕ) → j < l.i → leb l.past (seconds_at l.from l.file j) ≡ false
