use mathlib.Core.Path.{◌≡◌}
use mathlib.Core.Bool.{false}
use Rattle.rules.specs.Counting.{any_below}
use Rattle.differences.specs.Fields.{byte_differs}
use Rattle.byte_differences.proofs.first_byte_differing.Given as goal

abbrev pub invariant-loop-i : goal.invariant-loop-i
invariant-loop-i l = any_below (byte_differs l.one l.other) l.i ≡ false
