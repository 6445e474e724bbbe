use Rattle.std.proofs.Common.{◌≡◌, ◌+◌, ◌*◌, ◌∙◌, arith}
use Rattle.anodes.proofs.Laws.{read_fields, loaded_more, in_block_lem}
use Rattle.anodes.proofs.load_block.Goals as goal

pub loop-p-init : goal.loop-p-init
loop-p-init c = let e : c.args.s * 82 + 0 ≡ c.args.s * 82 = omega arith in
    rw e c.requires.loaded_below

pub loop-p-preserved : goal.loop-p-preserved
loop-p-preserved c = let l = c.loop-p in
    let s = c.args.s in
    let e : s * 82 + (l.p + 1) ≡ s * 82 + l.p + 1 = omega arith in
    let pre = c.requires in
    let x = rw c.block_part-part.ensures at c.anode_in-x.ensures ∙ in_block_lem _ s l.p _ c.loop-p-test.true pre.s_value.0 pre.s_value.1 in
    rw e (loaded_more _ _ _ _ (s * 82 + l.p) c.anode_in-x.result (omega arith) (omega arith) (omega arith) l.invariant (read_fields _ _ _ x))

pub returns : goal.returns
returns c = let e : c.loop-p.p ≡ 82 = omega arith in rw e at c.loop-p.invariant
