use mathlib.Core.Path.{◌≡◌}
use Rattle.endian.specs.Bytes.{stored}
use Rattle.settings.specs.Files.{number_bytes}
use Rattle.settings.proofs.put_number.Given as goal

abbrev pub invariant-loop-i : goal.invariant-loop-i
invariant-loop-i l = stored l.bytes l.at (number_bytes l.i l.rest) ≡ stored l.initial.bytes l.at (number_bytes l.width l.v)
