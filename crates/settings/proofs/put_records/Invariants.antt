use Prim.Native.Nat.{◌-◌}
use mathlib.Core.Path.{◌≡◌}
use Rattle.endian.specs.Bytes.{stored}
use Rattle.settings.specs.Files.{record_place, settings_from, file_of}
use Rattle.settings.proofs.put_records.Given as goal

abbrev pub invariant-loop-i : goal.invariant-loop-i
invariant-loop-i l = stored l.out (record_place l.to l.i) (file_of l.to (settings_from l.from l.file l.i (l.n - l.i))) ≡ stored l.initial.out 0 (file_of l.to (settings_from l.from l.file 0 l.n))
