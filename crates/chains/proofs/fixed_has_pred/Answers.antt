use mathlib.Core.Path.{◌≡◌, sym, ◌∙◌}
use mathlib.Core.Bool.{not, ◌||◌}
use lib.Dec.{eqb}
use lib.ListN.{get_or}
use borrow.Author.Tests.{eq-eqb, ne_eqb}
use Rattle.chains.specs.Predecessors.{fixed_noted}
use Rattle.chains.proofs.fixed_has_pred.Goals as goal

pub returns-then-entry-ne0 : goal.returns-then-entry-ne0
returns-then-entry-ne0 c = simp (sym c.entry.ensures, ne_eqb _ _ c.if-entry-ne0.true)

pub returns-then-entry-ne0-2 : goal.returns-then-entry-ne0-2
returns-then-entry-ne0-2 c = simp (sym c.entry.ensures, eq-eqb _ _ c.if-entry-ne0.false, sym c.entry-2.ensures, ne_eqb _ _ c.if-entry-ne0-2.true)

pub returns-then-entry-ne0-3 : goal.returns-then-entry-ne0-3
returns-then-entry-ne0-3 c = let four-left : let t = c.args.preds.now in fixed_noted t ≡ (not (eqb (get_or t 4 0) 0) || not (eqb (get_or t 5 0) 0)) = simp (sym c.entry.ensures, eq-eqb _ _ c.if-entry-ne0.false, sym c.entry-2.ensures, eq-eqb _ _ c.if-entry-ne0-2.false) in
    sym (four-left ∙ rw (← c.entry-3.ensures, ne_eqb _ _ c.if-entry-ne0-3.true))

pub returns : goal.returns
returns c = let four-left : let t = c.args.preds.now in fixed_noted t ≡ (not (eqb (get_or t 4 0) 0) || not (eqb (get_or t 5 0) 0)) = simp (sym c.entry.ensures, eq-eqb _ _ c.if-entry-ne0.false, sym c.entry-2.ensures, eq-eqb _ _ c.if-entry-ne0-2.false) in
    sym (four-left ∙ rw (← c.entry-3.ensures, eq-eqb _ _ c.if-entry-ne0-3.false, c.entry-4.ensures))
