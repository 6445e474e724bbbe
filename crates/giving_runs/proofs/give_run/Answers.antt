use mathlib.Core.Path.{ap, ◌∙◌}
use Rattle.rules.specs.Anodes.{Anodes}
use Rattle.anodes.specs.Loaded.{anodes_from}
use Rattle.giving_runs.proofs.Turning.{other_kept, goes_with, goes-without, stays_out}
use Rattle.giving_runs.proofs.give_run.Goals as goal

pub join_with-requires : goal.join_with-requires
unfolding anodes_from
join_with-requires c = let s = c in
    let o = c.without_run in
    let w = other_kept (anodes_from s.args.counts.now s.args.firsts.now s.args.nexts.now) s.args.head.0 s.args.run.before.0 s.args.run.anode.0 s.args.run.length c.entry.result s.args.z.0 s.requires.anode_tables.4 in
    let k = ap (λ (t : Anodes). t.count s.args.z.0) o.ensures ∙ w.0 in
    let b = ap (λ (t : Anodes). t.block s.args.z.0) o.ensures ∙ w.1 in
    record { x_bound = (s.requires.anode_tables.2, s.requires.anode_tables.3, (o.auto.counts ∙ s.requires.anode_tables.0.0, o.auto.firsts ∙ s.requires.anode_tables.0.1, o.auto.nexts ∙ s.requires.anode_tables.0.2)); z_bound = (rw (k, b) s.requires.length_bound.2, s.requires.length_bound.1) }

pub returns-then-goes_along : goal.returns-then-goes_along
unfolding anodes_from
returns-then-goes_along c = let s = c in
    record { plan = c.join_with.ensures ∙ goes_with _ _ _ _ _ _ _ _ _ _ c.without_run.ensures c.entry.ensures s.requires.first_value.0 _ _ s.requires.first_value.1 c.goes_along.ensures c.if-goes_along.true; unmoved = tt }

pub join-requires : goal.join-requires
unfolding anodes_from
join-requires c = let s = c in
    let o = c.without_run in
    let w = other_kept (anodes_from s.args.counts.now s.args.firsts.now s.args.nexts.now) s.args.head.0 s.args.run.before.0 s.args.run.anode.0 s.args.run.length c.entry.result s.args.z.0 s.requires.anode_tables.4 in
    let k = ap (λ (t : Anodes). t.count s.args.z.0) o.ensures ∙ w.0 in
    let b = ap (λ (t : Anodes). t.block s.args.z.0) o.ensures ∙ w.1 in
    record { z_bound = (s.requires.anode_tables.3, (o.auto.counts ∙ s.requires.anode_tables.0.0, o.auto.firsts ∙ s.requires.anode_tables.0.1, o.auto.nexts ∙ s.requires.anode_tables.0.2)); z_bound_2 = (rw (k, b) s.requires.length_bound.2, s.requires.length_bound.1) }

pub returns : goal.returns
unfolding anodes_from
returns c = let s = c in
    let j = c.join in
    let o = c.without_run.ensures in
    let b = c.entry.ensures in
    let a = c.goes_along.ensures in record { plan = j.ensures.plan ∙ goes-without _ _ _ _ _ _ _ _ _ _ o b s.requires.first_value.0 _ _ s.requires.first_value.1 a c.if-goes_along.false; unmoved = stays_out _ _ _ _ _ _ _ o b j.result (anodes_from j.new.counts j.new.firsts j.new.nexts) j.ensures.unmoved }
