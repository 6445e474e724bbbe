use mathlib.Core.Path.{sym, ◌∙◌}
use Rattle.report.proofs.Totals.{full_by_count, full_by_sums}
use Rattle.report.proofs.is_full.Goals as goal

pub returns-then-all_taken : goal.returns-then-all_taken
returns-then-all_taken c = full_by_count _ (sym c.all_taken.ensures ∙ c.if-all_taken.true)

pub returns : goal.returns
returns c = full_by_sums _ _ (sym c.all_taken.ensures ∙ c.if-all_taken.false) c.some_over.ensures
