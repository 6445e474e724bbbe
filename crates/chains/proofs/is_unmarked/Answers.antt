use mathlib.Core.Path.{sym}
use borrow.Author.Tests.{eq-eqb, ne_eqb}
use Rattle.chains.specs.Endings.{unmarked}
use Rattle.chains.proofs.is_unmarked.Goals as goal

pub returns-then-a-eq0 : goal.returns-then-a-eq0
unfolding unmarked
returns-then-a-eq0 c = simp (eq-eqb _ _ c.if-a-eq0.true)

pub returns-then-entry-eq0 : goal.returns-then-entry-eq0
unfolding unmarked
returns-then-entry-eq0 c = simp (ne_eqb _ _ c.if-a-eq0.false, sym c.entry.ensures, eq-eqb _ _ c.if-entry-eq0.true)

pub returns : goal.returns
unfolding unmarked
returns c = simp (ne_eqb _ _ c.if-a-eq0.false, sym c.entry.ensures, ne_eqb _ _ c.if-entry-eq0.false, c.entry-2.ensures)
