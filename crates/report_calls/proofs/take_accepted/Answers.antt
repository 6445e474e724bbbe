use Rattle.report_calls.proofs.Counted.{first_five, figures_modest}
use Rattle.report_calls.proofs.take_accepted.Goals as goal

pub count_figures-requires : goal.count_figures-requires
count_figures-requires c = c.requires.reportable

pub add_accepted-requires : goal.add_accepted-requires
add_accepted-requires c = (c.requires.totals_value, rw c.count_figures.ensures (figures_modest c.requires.reportable))

pub returns : goal.returns
returns c = record { five = first_five _ _ _ c.count_figures.ensures; added = rw c.count_figures.ensures at c.add_accepted.ensures }
