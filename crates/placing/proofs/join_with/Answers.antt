use mathlib.Core.Path.{sym, ap, ◌∙◌}
use Rattle.rules.specs.Anodes.{Anodes}
use Rattle.rules.specs.Chains.{run}
use Rattle.rules.specs.Plans.{planned}
use Rattle.rules.specs.Space.{inserted_after}
use Rattle.placing.proofs.Cases.{with-one, with_other, could, could_not}
use borrow.Author.Tests.{eq-eqb, ne_eqb}
use Rattle.placing.proofs.join_with.Goals as goal

pub returns-then-one : goal.returns-then-one
returns-then-one c = let a = c.args in
    ap (λ (t : Anodes). planned t (run a.first.0 a.count)) c.insert_after.ensures ∙ sym (with-one _ _ _ _ _ (eq-eqb _ _ c.if-one.true))

pub returns-then-grow : goal.returns-then-grow
returns-then-grow c = sym (with_other _ _ _ _ _ (ne_eqb _ _ c.if-one.false) ∙ could _ _ _ _ _ _ (c.grow.ensures _) c.if-grow.true _)

pub returns : goal.returns
returns c = let a = c.args in
    let n = could_not _ _ _ _ _ _ (c.grow.ensures a.nexts.now) c.if-grow.false in
    ap (λ (t : Anodes). planned t (run a.first.0 a.count)) (c.insert_after-2.ensures ∙ ap (λ (t : Anodes). inserted_after t a.z.0 a.x.0 a.count a.first.0) n.1) ∙ sym (with_other _ _ _ _ _ (ne_eqb _ _ c.if-one.false) ∙ n.0 _)
