use mathlib.Core.Path.{◌≡◌, refl, ◌∙◌}
use native.Mathlib.Omega.{arith}
use borrow.Author.Rules.{rules}
use Rattle.chains.proofs.fill_run.Goals as goal

pub loop-a-init : goal.loop-a-init
loop-a-init c = let p = c.requires in (p.0, p.1, refl, refl, p.4)

pub fill_head-requires : goal.fill_head-requires
fill_head-requires c = let p = c.requires in let i = c.loop-a.invariant in (i.0, p.2, p.3, i.4)

pub loop-a-preserved : goal.loop-a-preserved
loop-a-preserved c = (search rules, search rules, search rules, c.fill_head.ensures.0 ∙ c.loop-a.invariant.3, c.fill_head.ensures.1)

pub returns : goal.returns
returns c = let e : c.loop-a.a ≡ c.args.end = omega arith in (c.loop-a.invariant.3, rw e at c.loop-a.invariant.4)
