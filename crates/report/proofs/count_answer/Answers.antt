use native.Mathlib.Omega.{arith}
use Rattle.report.proofs.Totals.{count_in, count-out}
use Rattle.report.proofs.count_answer.Goals as goal

pub overflow_add-totals : goal.overflow_add-totals
overflow_add-totals c = omega (arith, c.requires.1 c.args.n c.if-n-lt18.true)

pub returns-then-n-lt18 : goal.returns-then-n-lt18
returns-then-n-lt18 c = count_in _ c.requires.0 _ c.if-n-lt18.true

pub returns-else-n-lt18 : goal.returns-else-n-lt18
returns-else-n-lt18 c = count-out _ c.requires.0 _ c.if-n-lt18.false
