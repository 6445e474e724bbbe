use mathlib.Core.Path.{◌≡◌}
use mathlib.Core.List.{◌++◌}
use lib.ListN.{drop}
use Rattle.bitmap.specs.Bitmap.{bitmap_byte, tabulate}
use Rattle.bitmap.specs.Table.{free_bit, Carried}
use Rattle.bitmap.proofs.fill_bitmap.Given as goal

abbrev pub invariant-loop-p : goal.invariant-loop-p
invariant-loop-p l = Carried (free_bit l.table l.n l.first) l.w l.p × (l.bitmap ≡ tabulate (bitmap_byte (free_bit l.table l.n l.first)) l.p ++ drop l.p l.initial.bitmap)
