use mathlib.Core.Path.{refl, sym, ◌∙◌}
use mathlib.Core.Bool.{false}
use Rattle.laws.specs.FreeExtent.{take_nowhere}
use Rattle.anodes.specs.Loaded.{anodes_from, table_from}
use Rattle.placing.proofs.Found.{some_found, none_found, passed_on}
use Rattle.growing.specs.Grown.{growth_if}
use Rattle.taking.proofs.OneTake.{step_fits, step_done, step_ready, step_again}
use Rattle.taking.proofs.ManyTakes.{turn_done, turn_grown}
use borrow.Author.Rules.{rules}
use Rattle.taking.proofs.take_turn.Goals as goal

pub returns-in_err-found : goal.returns-in_err-found
returns-in_err-found c = λ last h k.
    (let a = c.args in
    let s = table_from a.counts.now a.firsts.now a.nexts.now a.slots.now in
    let n = none_found _ _ _ c.ok_or.ensures.value _ c.in_err-found.was in
    rw (passed_on c.from_residual.result _ c.from_residual.ensures.1, n.1) (take_nowhere 3444 (growth_if a.growing) false h s (sym k.extent ∙ sym (c.extent_left.ensures a.firsts.now) ∙ n.0)))

pub take_from-requires : goal.take_from-requires
unfolding anodes_from
take_from-requires c = let k = c.requires.by_index.2 in
    let extent = sym k.extent ∙ sym (c.extent_left.ensures c.args.firsts.now) ∙ some_found _ _ _ c.ok_or.ensures.value _ c.in_ok-found.was in
    let w = step_fits k.ready false _ _ extent _ k.ends in
    record { anode_tables = (c.requires.anode_tables.0, w.0, w.1, w.2); nonzero = (w.3, w.4, w.5, w.6) }

pub take_grown-requires : goal.take_grown-requires
unfolding anodes_from
take_grown-requires c = let k = c.requires.by_index.2 in
    let extent = sym k.extent ∙ sym (c.extent_left.ensures c.args.firsts.now) ∙ some_found _ _ _ c.ok_or.ensures.value _ c.in_ok-found.was in
    let step = c.take_from in
    let t = anodes_from step.new.counts step.new.firsts step.new.nexts in
    record { anode_tables = search rules; put_ready = step_ready k.ready false _ _ extent _ k.ends step.result t step.ensures.plan step.ensures.unmoved _ c.in_default.is }

pub returns-in_default : goal.returns-in_default
unfolding anodes_from
returns-in_default c = λ last h k.
    (let extent = sym k.extent ∙ sym (c.extent_left.ensures c.args.firsts.now) ∙ some_found _ _ _ c.ok_or.ensures.value _ c.in_ok-found.was in
    let step = c.take_from in
    let t = anodes_from step.new.counts step.new.firsts step.new.nexts in
    let turn = c.take_grown in
    turn_grown k c.args.growing _ (step_again k.ready false _ _ extent _ k.ends step.result t step.ensures.plan step.ensures.unmoved _ c.in_default.is c.args.growing _ c.entry.ensures) turn.result _ turn.ensures)

pub returns : goal.returns
unfolding anodes_from
returns c = λ last h k.
    (let extent = sym k.extent ∙ sym (c.extent_left.ensures c.args.firsts.now) ∙ some_found _ _ _ c.ok_or.ensures.value _ c.in_ok-found.was in
    let step = c.take_from in
    let t = anodes_from step.new.counts step.new.firsts step.new.nexts in
    turn_done k c.args.growing _ extent t _ (step_done k.ready false _ _ extent _ k.ends step.result t step.ensures.plan _ c.in-Ok.is) _ c.end_after.ensures _ (rw c.entry-count.ensures refl) c.then_some.ensures)
