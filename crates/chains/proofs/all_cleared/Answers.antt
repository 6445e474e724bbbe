use mathlib.Core.Path.{sym}
use mathlib.Core.Bool.{true≢false}
use Rattle.chains.proofs.all_cleared.Goals as goal

pub returns-then-not-zeros_from : goal.returns-then-not-zeros_from
returns-then-not-zeros_from c = λ e. absurd (true≢false (sym e))

pub returns-then-not-zeros_from-2 : goal.returns-then-not-zeros_from-2
returns-then-not-zeros_from-2 c = λ e. absurd (true≢false (sym e))

pub returns : goal.returns
returns c = λ e. (c.zeros_from.ensures c.if-not-zeros_from.false, c.zeros_from-2.ensures c.if-not-zeros_from-2.false, c.zeros_from-3.ensures e)
