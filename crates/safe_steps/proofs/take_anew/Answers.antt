use Rattle.anodes.specs.Loaded.{table_from}
use mathlib.Core.Path.{ap, ◌∙◌}
use Rattle.rules.specs.Anodes.{Anodes}
use Rattle.rules.specs.Space.{rewritten}
use Rattle.anodes.specs.Loaded.{anodes_from}
use Rattle.safe_steps.proofs.Steps.{emptied_ready, ends_anew}
use Rattle.safe_steps.proofs.take_anew.Goals as goal

pub drop_chain-requires : goal.drop_chain-requires
unfolding anodes_from
drop_chain-requires c = let r = c.requires.by_index in (r.1.0.good.linked, r.1.1.0.in_use)

pub rewrite-requires : goal.rewrite-requires
unfolding anodes_from
rewrite-requires c = let s = c in (s.requires.by_index.1.0.good.linked.view.below _ s.requires.by_index.1.1.0.in_use, c.drop_chain.auto.counts ∙ s.requires.anode_tables.0.0, c.drop_chain.auto.firsts ∙ s.requires.anode_tables.0.1)

pub take_many-requires : goal.take_many-requires
unfolding anodes_from
take_many-requires c = let s = c in
    let w = c.drop_chain in
    let v = c.rewrite in
    record { anode_tables = ((v.auto.counts ∙ w.auto.counts ∙ s.requires.anode_tables.0.0, v.auto.firsts ∙ w.auto.firsts ∙ s.requires.anode_tables.0.1, w.auto.nexts ∙ s.requires.anode_tables.0.2), s.requires.anode_tables.1); by_index = (s.requires.by_index.0, emptied_ready _ _ _ s.requires.anode_tables.2 s.requires.by_index.1 _ (v.ensures w.new.nexts ∙ ap (λ (x : Anodes). rewritten x s.args.head.0 0 65535) w.ensures)) }

pub returns : goal.returns
returns c = let s = c in
    let w = c.drop_chain in
    let k = c.take_many in
    ends_anew (table_from s.args.counts.now s.args.firsts.now s.args.nexts.now s.args.slots.now) _ _ _ _ w.ensures (c.rewrite.ensures w.new.nexts) k.result (table_from k.new.counts k.new.firsts k.new.nexts k.new.slots) k.ensures
