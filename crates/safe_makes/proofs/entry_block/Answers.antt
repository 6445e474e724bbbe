use mathlib.Core.Path.{refl, sym, ◌∙◌}
use borrow.Author.Tests.{eq-eqb, ne_eqb}
use Rattle.rules.specs.Chains.{run}
use Rattle.safe_makes.specs.SafePlanned.{entry_plan}
use Rattle.safe_makes.proofs.Steps.{room_owner}
use Rattle.safe_makes.proofs.entry_block.Goals as goal

pub returns-then-parents-ne0 : goal.returns-then-parents-ne0
unfolding entry_plan run
returns-then-parents-ne0 c = λ slots. rw (ne_eqb c.args.plan.parents.0 0 c.if-parents-ne0.true) refl

pub relocate-requires : goal.relocate-requires
relocate-requires c = let s = c in
    let z = c.if-parents-ne0.false in
    let (last, slots, ready) = s.requires.by_index in
    let e = room_owner s.args.counts.now s.args.firsts.now s.args.nexts.now s.args.plan.parents.0 _ s.args.head.0 _ _ z c.room_block.ensures c.anode_with-owner.ensures in
    record { anode_tables = (s.requires.anode_tables.0, rw e (ready z).below); by_index = (last, slots, (ready z).state) }

pub returns : goal.returns
unfolding entry_plan
returns c = let s = c in
    let z = c.if-parents-ne0.false in
    let (last, held, ready) = s.requires.by_index in
    let e = room_owner s.args.counts.now s.args.firsts.now s.args.nexts.now s.args.plan.parents.0 _ s.args.head.0 _ _ z c.room_block.ensures c.anode_with-owner.ensures in
    λ slots. rw (eq-eqb s.args.plan.parents.0 0 z) (c.relocate.ensures _ slots ((ready z).owns ∙ sym e))
