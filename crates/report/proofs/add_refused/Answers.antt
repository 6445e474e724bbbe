use Rattle.report.proofs.Totals.{counts_low, with_refused}
use mathlib.Core.Path.{◌∙◌}
use borrow.Author.Rules.{rules}
use Rattle.report.proofs.add_refused.Goals as goal

pub count_answer-requires : goal.count_answer-requires
count_answer-requires c = (search rules, counts_low _ (search rules) c.requires.0)

pub returns : goal.returns
returns c = λ figures. c.count_answer.ensures ∙ with_refused _ figures _ c.requires.1
