use mathlib.Core.Path.{sym, ◌∙◌}
use Rattle.safe_calls.proofs.Outcomes.{shown_kept, shown_checked}
use Rattle.safe_calls.proofs.show_again.Goals as goal

pub returns-then-is_err : goal.returns-then-is_err
returns-then-is_err c = shown_kept _ (sym c.is_err.ensures.value ∙ c.if-is_err.true) _ _ _

pub returns : goal.returns
returns c = shown_checked _ (sym c.is_err.ensures.value ∙ c.if-is_err.false) _ _ _ _ _ c.open.result c.open.ensures.outcome
