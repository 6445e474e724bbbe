use mathlib.Core.Path.{refl, ◌∙◌}
use Rattle.rules.specs.Chains.{side}
use Rattle.anodes.specs.Loaded.{anodes_from, slots_from, table_from}
use Rattle.placing.proofs.Found.{passed_on}
use Rattle.growing.specs.Grown.{growth_if}
use Rattle.growing.proofs.States.{has-grown, has-not-grown, grown_state}
use Rattle.giving_runs.proofs.Afresh.{joins_nowhere, end_fits, joins_grown, joins_refused}
use Rattle.giving_runs.proofs.give_grown.Goals as goal

pub grow_slots-requires : goal.grow_slots-requires
grow_slots-requires c = let s = c in record { anode_tables = s.requires.anode_tables; by_index = (s.args.last.0, s.requires.run_off.state) }

pub returns-then-not-grow_slots : goal.returns-then-not-grow_slots
returns-then-not-grow_slots c = let s = c in
    joins_nowhere s.args.last.0 s.args.run.length s.args.run.first.0 (growth_if c.args.growing) (table_from c.args.counts.now c.args.firsts.now c.args.nexts.now c.args.slots.now) (has-not-grown c.grow_slots.result (growth_if c.args.growing) (table_from c.args.counts.now c.args.firsts.now c.args.nexts.now c.args.slots.now) _ c.grow_slots.ensures c.if-not-grow_slots.true).0

pub join-requires : goal.join-requires
unfolding anodes_from
join-requires c = let s = c in
    let w = c.grow_slots in
    let state = grown_state s.args.growing s.requires.run_off.state (has-grown w.result (growth_if c.args.growing) (table_from c.args.counts.now c.args.firsts.now c.args.nexts.now c.args.slots.now) _ w.ensures c.if-not-grow_slots.false) in
    let e = end_fits _ _ (anodes_from w.new.counts w.new.firsts w.new.nexts) (slots_from w.new.slots) _ _ c.side_of.ensures c.last_anode-z.ensures state in
    record { z_bound = (e.0, (w.auto.counts ∙ s.requires.anode_tables.0.0, w.auto.firsts ∙ s.requires.anode_tables.0.1, w.auto.nexts ∙ s.requires.anode_tables.0.2)); z_bound_2 = (e.1, s.requires.run_off.inside) }

pub returns-in_err-join : goal.returns-in_err-join
unfolding anodes_from
returns-in_err-join c = let s = c in
    let w = c.grow_slots in
    let j = c.join in
    rw (passed_on c.from_residual.result _ c.from_residual.ensures.1) (joins_refused s.args.last.0 s.args.run.length s.args.run.first.0 (growth_if c.args.growing) (table_from c.args.counts.now c.args.firsts.now c.args.nexts.now c.args.slots.now) (anodes_from w.new.counts w.new.firsts w.new.nexts) (slots_from w.new.slots) (has-grown w.result (growth_if c.args.growing) (table_from c.args.counts.now c.args.firsts.now c.args.nexts.now c.args.slots.now) _ w.ensures c.if-not-grow_slots.false) _ _ c.side_of.ensures c.last_anode-z.ensures j.result (anodes_from j.new.counts j.new.firsts j.new.nexts) j.ensures.plan _ c.in_err-join.was)

pub anodes_left-requires : goal.anodes_left-requires
anodes_left-requires c = c.requires.run_off.placed

pub returns : goal.returns
unfolding anodes_from side
returns c = let s = c in
    let w = c.grow_slots in
    let j = c.join in (
      joins_grown s.args.last.0 s.args.run.length s.args.run.first.0 (growth_if c.args.growing) (table_from c.args.counts.now c.args.firsts.now c.args.nexts.now c.args.slots.now) (anodes_from w.new.counts w.new.firsts w.new.nexts) (slots_from w.new.slots) (has-grown w.result (growth_if c.args.growing) (table_from c.args.counts.now c.args.firsts.now c.args.nexts.now c.args.slots.now) _ w.ensures c.if-not-grow_slots.false) _ _ c.side_of.ensures c.last_anode-z.ensures j.result (anodes_from j.new.counts j.new.firsts j.new.nexts) j.ensures.plan _ c.in_ok-join.was,
      refl,
      c.anodes_left.ensures,
      c.last_anode.ensures,
      c.last_anode-2.ensures,
    )
