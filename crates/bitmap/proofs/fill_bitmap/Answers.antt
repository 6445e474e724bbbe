use mathlib.Core.Path.{◌∙◌}
use native.Mathlib.Omega.{arith}
use Rattle.bitmap.proofs.Laws.{fill_none, fill_more, fill_whole, carried_none, carried_more, byte_is}
use Rattle.bitmap.proofs.fill_bitmap.Goals as goal

pub loop-p-init : goal.loop-p-init
loop-p-init c = (carried_none _ _, fill_none _ _)

pub loop-p-preserved : goal.loop-p-preserved
loop-p-preserved c = let e = c.loop-p.invariant.1 in
    (carried_more _ _ _ c.word_at-w.ensures, rw (e, byte_is _ _ _ _ c.word_at-w.ensures c.byte_of.ensures) (fill_more _ _ _ (omega arith)))

pub returns : goal.returns
returns c = c.loop-p.invariant.1 ∙ fill_whole _ _ c.loop-p.p (omega arith)
