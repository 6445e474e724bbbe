use mathlib.Core.Path.{◌≡◌}
use Rattle.report.proofs.Totals.{totals_to}
use Rattle.report.proofs.add_figures.Given as goal

abbrev pub invariant-loop-i : goal.invariant-loop-i
invariant-loop-i l = l.totals ≡ totals_to l.initial.totals l.figures l.i
