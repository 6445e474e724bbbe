use mathlib.Core.Path.{◌≡◌}
use Prim.Native.Nat.{◌*◌, ◌-◌, ◌^◌}
use Rattle.bitmap.specs.Bits.{bits_from}
use Rattle.bitmap.specs.Table.{free_at}
use Rattle.bitmap.proofs.bits_in.Given as goal

abbrev pub invariant-loop-i : goal.invariant-loop-i
invariant-loop-i l = l.w ≡ bits_from (free_at l.part) 0 l.i * 2 ^ (32 - l.i)
