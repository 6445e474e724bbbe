use native.Mathlib.Omega.{arith}
use Rattle.anodes.specs.Loaded.{table_from}
use Rattle.placing.proofs.Found.{passed_on}
use Rattle.relocating.proofs.NewPlaces.{reslots_first, reslots_next, reslots_stop, reslots_all}
use Rattle.relocating.proofs.reslot_all.Goals as goal

pub loop-k-init : goal.loop-k-init
loop-k-init c = reslots_first _ _ c.requires.by_index.1

pub reslot-requires-clause-by_index : goal.reslot-requires-clause-by_index
reslot-requires-clause-by_index c = (c.loop-k.invariant.last, c.loop-k.invariant.state)

pub returns-in_err-reslot : goal.returns-in_err-reslot
returns-in_err-reslot c = let t = c.reslot.new in
    rw (passed_on c.from_residual.result _ c.from_residual.ensures.1) (reslots_stop c.loop-k.invariant c.loop-k-test.true (table_from t.counts t.firsts t.nexts t.slots) _ c.in_err-reslot.ensures)

pub loop-k-preserved : goal.loop-k-preserved
loop-k-preserved c = reslots_next c.loop-k.invariant c.loop-k-test.true _ c.in_ok-reslot.ensures

pub returns : goal.returns
returns c = reslots_all c.loop-k.invariant (omega arith)
