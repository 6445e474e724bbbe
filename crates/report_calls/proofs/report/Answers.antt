use mathlib.Core.Path.{sym, ◌∙◌}
use native.Mathlib.Omega.{arith}
use Rattle.disk.proofs.Laws.{number_some}
use Rattle.report_calls.proofs.Outcomes.{report_full, report_refused, report_accepted, reportable}
use Rattle.report_calls.proofs.report.Goals as goal

pub returns-then-is_full : goal.returns-then-is_full
returns-then-is_full c = report_full _ _ _ _ _ (sym c.is_full.ensures ∙ c.if-is_full.true)

pub take_accepted-requires : goal.take_accepted-requires
take_accepted-requires c = let o = c.open-checked.ensures in
    record { reportable = reportable _ _ _ _ _ _ o.outcome _ c.in-Ok.is o.tally _ _ _ _ _ o.opened; totals_value = sym c.is_full.ensures ∙ c.if-is_full.false }

pub add_refused-requires : goal.add_refused-requires
add_refused-requires c = (sym c.is_full.ensures ∙ c.if-is_full.false, omega (arith, c.from.ensures, number_some c.in-Err.refusal))

pub returns-in-Ok : goal.returns-in-Ok
returns-in-Ok c = report_accepted _ _ _ _ _ _ c.open-checked.ensures.outcome _ _ (sym c.is_full.ensures ∙ c.if-is_full.false) _ c.in-Ok.is _ _ c.take_accepted.ensures.five c.take_accepted.ensures.added

pub returns-in-Err : goal.returns-in-Err
returns-in-Err c = report_refused _ _ _ _ _ _ c.open-checked.ensures.outcome _ _ (sym c.is_full.ensures ∙ c.if-is_full.false) _ c.in-Err.is _ (rw c.from.ensures at c.add_refused.ensures)
