use mathlib.Core.Path.{sym}
use Rattle.giving_runs.proofs.Picking.{lower_above, lower_below, lower_crossing}
use Rattle.giving_runs.proofs.lower_run.Goals as goal

pub returns-then-last-first : goal.returns-then-last-first
returns-then-last-first c = sym (lower_above _ _ _ c.if-last-first.true)

pub returns-then-end-above : goal.returns-then-end-above
returns-then-end-above c = sym (lower_below _ _ _ c.if-last-first.false c.if-end-above.true)

pub returns : goal.returns
returns c = sym (lower_crossing _ _ _ c.if-last-first.false c.if-end-above.false)
