use mathlib.Core.Path.{sym, ap, ◌∙◌}
use Rattle.rules.specs.Plans.{at_slots}
use Rattle.anodes.specs.Loaded.{anodes_from, table_from}
use Rattle.placing.proofs.Found.{step_slots}
use Rattle.growing.specs.Grown.{growth_if}
use Rattle.growing.proofs.States.{has-grown, has-not-grown}
use Rattle.taking.proofs.OneTake.{grown_used, puts_nowhere, puts_grown}
use borrow.Author.Rules.{rules}
use Rattle.taking.proofs.put_grown.Goals as goal

pub returns-then-not-grow_slots : goal.returns-then-not-grow_slots
returns-then-not-grow_slots c = let s = c in
    let w = c in
    sym (puts_nowhere (growth_if s.args.growing) s.args.dir _ _ (table_from c.args.counts.now c.args.firsts.now c.args.nexts.now c.args.slots.now) (has-not-grown w.grow_slots.result (growth_if s.args.growing) (table_from c.args.counts.now c.args.firsts.now c.args.nexts.now c.args.slots.now) (table_from c.grow_slots.new.counts c.grow_slots.new.firsts c.grow_slots.new.nexts c.grow_slots.new.slots) w.grow_slots.ensures c.if-not-grow_slots.true).0)

pub put-requires : goal.put-requires
unfolding anodes_from
put-requires c = let s = c in
    let w = c in
    (s.requires.put_ready.below, search rules, grown_used s.args.growing s.requires.put_ready (has-grown w.grow_slots.result (growth_if s.args.growing) (table_from c.args.counts.now c.args.firsts.now c.args.nexts.now c.args.slots.now) (table_from c.grow_slots.new.counts c.grow_slots.new.firsts c.grow_slots.new.nexts c.grow_slots.new.slots) w.grow_slots.ensures c.if-not-grow_slots.false))

pub returns : goal.returns
returns c = let s = c in
    let w = c in
    let step = c.put in
    sym (step_slots _ step.result 1 _) ∙ ap (at_slots _) step.ensures.plan
    ∙ sym (puts_grown (growth_if s.args.growing) s.args.dir _ _ (table_from c.args.counts.now c.args.firsts.now c.args.nexts.now c.args.slots.now) (table_from c.grow_slots.new.counts c.grow_slots.new.firsts c.grow_slots.new.nexts c.grow_slots.new.slots) (has-grown w.grow_slots.result (growth_if s.args.growing) (table_from c.args.counts.now c.args.firsts.now c.args.nexts.now c.args.slots.now) (table_from c.grow_slots.new.counts c.grow_slots.new.firsts c.grow_slots.new.nexts c.grow_slots.new.slots) w.grow_slots.ensures c.if-not-grow_slots.false))
