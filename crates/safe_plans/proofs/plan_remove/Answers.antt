use mathlib.Core.Path.{sym, subst, ◌∙◌}
use Rattle.rules.specs.Anodes.{Anodes}
use Rattle.rules.specs.Plans.{slotted, ◌and_then◌}
use Rattle.anodes.specs.Loaded.{table_from, slots_from}
use Rattle.safe_rules.specs.SafePlans.{relocated}
use Rattle.placing.specs.Steps.{EndsIn}
use Rattle.giving_back.specs.OldTable.{old_from}
use Rattle.safe_plans.specs.Planned.{rest_from, MoveReady}
use Rattle.safe_plans.proofs.plan_remove.Goals as goal

pub drop_chain-requires : goal.drop_chain-requires
drop_chain-requires c = c.requires.linked_from.0

pub plan_move-requires : goal.plan_move-requires
plan_move-requires c = let s = c in
    let w = c.drop_chain in
    record { anode_tables = ((w.auto.counts ∙ s.requires.anode_tables.0.0, w.auto.firsts ∙ s.requires.anode_tables.0.1, w.auto.nexts ∙ s.requires.anode_tables.0.2), s.requires.anode_tables.1); move_ready = subst (λ (a : Anodes). MoveReady s.args.last.0 (old_from s.args.blocks.now s.args.old.head.0 s.args.old.moved.0 s.args.size 0) s.args.old.moved.0 s.args.owner.0 (slotted a (slots_from s.args.slots.now))) (sym w.ensures) s.requires.linked_from.1 }

pub returns : goal.returns
returns c = let s = c in
    let k = c.plan_move in
    subst (λ (a : Anodes). EndsIn k.result (table_from k.new.counts k.new.firsts k.new.nexts k.new.slots) (relocated s.args.old.moved.0 (slotted a (slots_from s.args.slots.now)) and_then rest_from s.args.last.0 (old_from s.args.blocks.now s.args.old.head.0 s.args.old.moved.0 s.args.size 0))) c.drop_chain.ensures k.ensures
