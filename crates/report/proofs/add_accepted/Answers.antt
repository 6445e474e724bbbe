use mathlib.Core.Path.{◌∙◌}
use Rattle.report.proofs.Totals.{counts_low, sums_low, still_low, with-accepted}
use borrow.Author.Rules.{rules}
use Rattle.report.proofs.add_accepted.Goals as goal

pub count_answer-requires : goal.count_answer-requires
count_answer-requires c = (search rules, counts_low _ (search rules) c.requires.0)

pub add_figures-requires : goal.add_figures-requires
add_figures-requires c = record { totals_len = (search rules, search rules); sums_low = (still_low _ _ 0 (search rules) c.count_answer.ensures (sums_low _ (search rules) c.requires.0), c.requires.1) }

pub returns : goal.returns
returns c = c.add_figures.ensures ∙ with-accepted _ _ (search rules) _ c.count_answer.ensures
