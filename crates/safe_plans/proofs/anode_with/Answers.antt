use mathlib.Core.Path.{sym, ◌∙◌}
use Rattle.safe_plans.specs.Planned.{anode_with}
use Rattle.safe_plans.proofs.Parts.{with_first, with-later}
use Rattle.safe_plans.proofs.anode_with.Goals as goal

pub returns-then-entry-y : goal.returns-then-entry-y
returns-then-entry-y c = sym (with_first _ _ _ _ (sym c.entry.ensures ∙ c.if-entry-y.true)) ∙ (rw c.in-Some.ensures.steps at c.loop-a.invariant)

pub loop-a-preserved : goal.loop-a-preserved
loop-a-preserved c = sym (with-later _ _ _ _ (λ q. c.if-entry-y.false (c.entry.ensures ∙ q))) ∙ (rw c.in-Some.ensures.steps at c.loop-a.invariant)

pub returns : goal.returns
unfolding anode_with
returns c = rw c.in-None.ensures.steps.0 at c.loop-a.invariant
