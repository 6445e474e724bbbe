use mathlib.Core.Path.{sym, ◌∙◌}
use borrow.Author.Tests.{eq-eqb, ne_eqb}
use Rattle.laws.specs.Carried.{end_after}
use Rattle.giving_runs.proofs.end_after.Goals as goal

pub returns-then-next-eq0 : goal.returns-then-next-eq0
unfolding end_after
returns-then-next-eq0 c = rw (eq-eqb _ 0 (sym c.next_before_two-next.ensures ∙ c.if-next-eq0.true))

pub returns : goal.returns
unfolding end_after
returns c = rw (ne_eqb _ 0 (rw c.next_before_two-next.ensures at c.if-next-eq0.false)) c.next_before_two-next.ensures
