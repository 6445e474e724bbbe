use mathlib.Core.Path.{◌≡◌}
use lib.ListN.{drop}
use Rattle.directory.specs.Entries.{good_name_byte, all_bytes, good_name}
use Rattle.directory.proofs.name_ok.Given as goal

abbrev pub invariant-loop-byte : goal.invariant-loop-byte
invariant-loop-byte l = all_bytes good_name_byte (drop l.byte-index l.name) ≡ good_name l.name
