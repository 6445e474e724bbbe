use mathlib.Core.Path.{sym}
use Rattle.disk.proofs.Laws.{slot_of_high, slot_of-there}
use Rattle.disk.proofs.slot_of.Goals as goal

pub returns-then-s-ge42 : goal.returns-then-s-ge42
returns-then-s-ge42 c = sym (slot_of_high _ _ c.if-s-ge42.true)

pub returns : goal.returns
returns c = cc (slot_of-there c.args.image.now c.args.s c.if-s-ge42.false)
