use mathlib.Core.Path.{◌≡◌}
use Prim.Native.Nat.{◌≤◌}
use Rattle.byte_differences.specs.BytesCompared.{many_in}
use Rattle.byte_differences.proofs.bytes_differing.Given as goal

abbrev pub invariant-loop-i : goal.invariant-loop-i
invariant-loop-i l = (l.many ≤ l.i) × (l.many ≡ many_in l.one l.other l.i)
