use mathlib.Core.Path.{sym, ◌∙◌}
use Rattle.rules.specs.Space.{first_extent}
use Rattle.searches.proofs.Searches.{first_hit, first_step}
use Rattle.searches.proofs.first_extent.Goals as goal

pub returns-then-entry-ne0 : goal.returns-then-entry-ne0
returns-then-entry-ne0 c = sym (first_hit _ _ _ _ (rw c.entry.ensures at c.if-entry-ne0.true)) ∙ (rw c.in-Some.ensures.steps at c.loop-anode.invariant)

pub loop-anode-preserved : goal.loop-anode-preserved
loop-anode-preserved c = sym (first_step _ _ _ _ (sym c.entry.ensures ∙ c.if-entry-ne0.false)) ∙ (rw c.in-Some.ensures.steps at c.loop-anode.invariant)

pub returns : goal.returns
unfolding first_extent
returns c = rw c.in-None.ensures.steps.0 at c.loop-anode.invariant
