use mathlib.Core.Path.{◌≡◌}
use Prim.Native.Nat.{◌+◌}
use lib.ListN.{length, drop}
use Rattle.endian.specs.Bytes.{stored}
use Rattle.endian.proofs.store.Given as goal

abbrev pub invariant-loop-j : goal.invariant-loop-j
invariant-loop-j l = (length l.bytes ≡ length l.initial.bytes) × (stored l.bytes (l.at + l.j) (drop l.j l.source) ≡ stored l.initial.bytes l.at l.source)
