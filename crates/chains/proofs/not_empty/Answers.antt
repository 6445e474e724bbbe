use mathlib.Core.Path.{sym}
use borrow.Author.Tests.{eq-eqb, ne_eqb}
use Rattle.chains.proofs.not_empty.Goals as goal

pub returns-then-entry-ne0 : goal.returns-then-entry-ne0
returns-then-entry-ne0 c = simp (sym c.entry.ensures, ne_eqb _ _ c.if-entry-ne0.true)

pub returns : goal.returns
returns c = simp (sym c.entry.ensures, eq-eqb _ _ c.if-entry-ne0.false, sym c.entry-2.ensures)
