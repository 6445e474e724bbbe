use mathlib.Core.Path.{◌≡◌}
use native.Mathlib.Omega.{arith}
use borrow.Author.Rules.{rules}
use Rattle.chains.proofs.mark_run.Goals as goal

pub loop-a-init : goal.loop-a-init
loop-a-init c = (search rules, search rules, c.requires.5)

pub mark_end-requires : goal.mark_end-requires
mark_end-requires c = let p = c.requires in (search rules, p.2, p.3, p.4, c.loop-a.invariant.2)

pub loop-a-preserved : goal.loop-a-preserved
loop-a-preserved c = (search rules, search rules, c.mark_end.ensures)

pub returns : goal.returns
returns c = let e : c.loop-a.a ≡ c.args.end = omega arith in rw e at c.loop-a.invariant.2
