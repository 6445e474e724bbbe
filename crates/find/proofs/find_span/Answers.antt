use Rattle.std.proofs.lemmas.Result.{err_from_is_err_and}
use Rattle.change_laws.specs.Answers.{span_row}
use Rattle.find.proofs.Laws.{refused_before, refused_now, passed-now}
use Rattle.rules.specs.Lookup.{past_end}
use mathlib.Core.Path.{sym}
use Rattle.find.proofs.find_span.Goals as goal

pub returns-in_err-e : goal.returns-in_err-e
returns-in_err-e c = let p = err_from_is_err_and c.from_residual.result c.from_residual.ensures.1 in
    rw (p.1, p.2) (refused_before _ _ _ (span_row _ _ _ _ _ _) _ c.in_err-e.ensures)

pub returns-then-past_end : goal.returns-then-past_end
returns-then-past_end c = let a = c.args in
    refused_now (λ o. past_end o a.offset a.len) _ _ _ _ _ (span_row _ _ _ _ _ _) c.in_ok-e.ensures _ (sym c.past_end.ensures) c.if-past_end.true

pub returns : goal.returns
returns c = let a = c.args in
    passed-now (λ o. past_end o a.offset a.len) _ _ _ _ _ (span_row _ _ _ _ _ _) c.in_ok-e.ensures _ (sym c.past_end.ensures) c.if-past_end.false
