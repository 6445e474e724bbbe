use native.Mathlib.Omega.{arith}
use Rattle.report.proofs.Passes.{free_ends, none_ends}
use Rattle.report.proofs.longer.Goals as goal

pub returns-then-owner-ne1 : goal.returns-then-owner-ne1
returns-then-owner-ne1 c = omega (arith, none_ends c.args.owner c.args.len c.if-owner-ne1.true)

pub returns : goal.returns
returns c = omega (arith, free_ends c.args.owner c.args.len c.if-owner-ne1.false, c.max.ensures)
