use Rattle.std.proofs.Common.{◌≡◌, ◌*◌, ◌+◌, arith}
use Rattle.anodes.proofs.Laws.{loaded_none, loaded_all}
use Rattle.anodes.proofs.load.Goals as goal

pub loop-s-init : goal.loop-s-init
loop-s-init c = loaded_none _ _ _ _

pub loop-s-preserved : goal.loop-s-preserved
loop-s-preserved c = let s = c.loop-s.s in
    let e : (s + 1) * 82 ≡ s * 82 + 82 = omega arith in
    rw e c.load_slot.ensures

pub returns : goal.returns
returns c = let l = c.loop-s in
    let e : l.s ≡ 42 = omega arith in
    loaded_all _ _ _ _ (omega arith) (omega arith) (omega arith) (rw e at l.invariant)
