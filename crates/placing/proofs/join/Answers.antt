use mathlib.Core.Path.{sym, ap, ◌∙◌}
use Rattle.rules.specs.Anodes.{Anodes, exists_by}
use Rattle.rules.specs.Space.{append}
use Rattle.anodes.specs.Loaded.{slots_from}
use Rattle.placing.proofs.Cases.{join_one, join_other, could, could_not}
use Rattle.placing.proofs.join.Goals as goal

pub returns-then-z-eq1-clause-plan : goal.returns-then-z-eq1-clause-plan
returns-then-z-eq1-clause-plan c = c.append.ensures.plan ∙ sym (join_one _ _ _ _ _ c.if-z-eq1.true)

pub returns-then-grow-clause-plan : goal.returns-then-grow-clause-plan
returns-then-grow-clause-plan c = sym (join_other _ _ _ _ _ c.if-z-eq1.false ∙ could _ _ _ _ _ _ (c.grow.ensures _) c.if-grow.true _)

pub returns-clause-plan : goal.returns-clause-plan
returns-clause-plan c = let a = c.args in
    let n = could_not _ _ _ _ _ _ (c.grow.ensures a.nexts.now) c.if-grow.false in c.append-2.ensures.plan ∙ ap (λ (t : Anodes). append 3444 (exists_by (slots_from a.slots.now)) t a.z.0 a.count a.first.0) n.1 ∙ sym (join_other _ _ _ _ _ c.if-z-eq1.false ∙ n.0 _)
