use mathlib.Core.Path.{sym}
use borrow.Author.Tests.{eq-eqb, ne_eqb}
use Rattle.rules.specs.Anodes.{is_free}
use Rattle.anodes.specs.Loaded.{anodes_from}
use Rattle.chains.proofs.is_cleared.Goals as goal

pub returns-then-entry-ne0 : goal.returns-then-entry-ne0
unfolding is_free anodes_from
returns-then-entry-ne0 c = simp (sym c.entry.ensures, ne_eqb _ _ c.if-entry-ne0.true)

pub returns-then-entry-ne0-2 : goal.returns-then-entry-ne0-2
unfolding is_free anodes_from
returns-then-entry-ne0-2 c = simp (sym c.entry.ensures, eq-eqb _ _ c.if-entry-ne0.false, sym c.entry-2.ensures, ne_eqb _ _ c.if-entry-ne0-2.true)

pub returns : goal.returns
unfolding is_free anodes_from
returns c = simp (sym c.entry.ensures, eq-eqb _ _ c.if-entry-ne0.false, sym c.entry-2.ensures, eq-eqb _ _ c.if-entry-ne0-2.false, sym c.entry-3.ensures)
