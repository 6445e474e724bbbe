use mathlib.Core.Path.{sym, ◌∙◌}
use Rattle.laws.specs.Cut.{cut-two, cut_other}
use Rattle.searches.proofs.next_before_two.Goals as goal

pub returns-then-next-eq2 : goal.returns-then-next-eq2
returns-then-next-eq2 c = sym (cut-two _ _ (sym c.entry-next.ensures ∙ c.if-next-eq2.true))

pub returns : goal.returns
returns c = c.entry-next.ensures ∙ sym (cut_other _ _ (rw c.entry-next.ensures at c.if-next-eq2.false))
