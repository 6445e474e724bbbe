use mathlib.Core.Path.{◌∙◌}
use native.Mathlib.Omega.{arith}
use Rattle.report.proofs.Totals.{figures_none, figures_next, figures_more, figures_all}
use Rattle.report.proofs.add_figures.Goals as goal

pub loop-i-init : goal.loop-i-init
loop-i-init c = figures_none _ _ c.requires.totals_len.0

pub overflow_add-totals-in-loop-i : goal.overflow_add-totals-in-loop-i
overflow_add-totals-in-loop-i c = omega (arith, figures_next _ _ c.requires.totals_len.0 _ _ (omega arith) c.loop-i.invariant, c.requires.sums_low.0 c.loop-i.i, c.requires.sums_low.1 c.loop-i.i)

pub loop-i-preserved : goal.loop-i-preserved
loop-i-preserved c = figures_more _ _ c.requires.totals_len.0 _ _ (omega arith) c.loop-i.invariant (omega arith)

pub returns : goal.returns
returns c = c.loop-i.invariant ∙ figures_all _ _ c.requires.totals_len.0 c.loop-i.i (omega arith)
