use Prim.Native.Nat.{◌+◌, ◌*◌}
use mathlib.Core.Path.{◌≡◌, refl, ◌∙◌}
use native.Mathlib.Omega.{arith}
use borrow.Author.Rules.{rules}
use Rattle.chains.proofs.Filling.{fill_none, fill_done}
use Rattle.chains.proofs.fill_heads.Goals as goal

pub fill_run-requires : goal.fill_run-requires
fill_run-requires c = let g = c.args in
    let p = c.requires in
    (search rules, search rules, p.2, p.3, fill_none g.nexts.now g.firsts.now p.2 g.heads.now p.0 p.1)

pub loop-k-init : goal.loop-k-init
loop-k-init c = (search rules, search rules, search rules, refl, c.fill_run.ensures.1)

pub fill_chunk-requires : goal.fill_chunk-requires
fill_chunk-requires c = let p = c.requires in let i = c.loop-k.invariant in (search rules, search rules, p.2, p.3, i.4)

pub loop-k-preserved : goal.loop-k-preserved
loop-k-preserved c = let e : (c.loop-k.k + 1) * 82 ≡ c.loop-k.k * 82 + 82 = omega arith in
    (search rules, search rules, search rules, c.fill_chunk.ensures.0 ∙ c.loop-k.invariant.3, rw e c.fill_chunk.ensures.1)

pub returns : goal.returns
returns c = let g = c.args in
    let p = c.requires in
    let e : c.loop-k.k ≡ 42 = omega arith in
    λ k. fill_done g.nexts.now g.firsts.now p.2 c.loop-k.heads (rw e at c.loop-k.invariant.4) k _ (c.loop-k.invariant.3 ∙ c.fill_run.ensures.0)
