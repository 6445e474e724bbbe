use mathlib.Core.Path.{◌∙◌}
use Rattle.anodes.specs.Loaded.{table_from, slots_from}
use Rattle.placing.proofs.Found.{passed_on}
use Rattle.safe_rules.specs.SafePlans.{relocated}
use Rattle.giving_back.specs.OldTable.{old_from}
use Rattle.safe_plans.specs.Planned.{rest_from}
use Rattle.safe_steps.proofs.Steps.{ends_then}
use Rattle.safe_plans.proofs.Parts.{rest_ends, step_stops, step_planned}
use Rattle.safe_plans.proofs.plan_move.Goals as goal

pub relocate-requires : goal.relocate-requires
relocate-requires c = let s = c in record { anode_tables = (s.requires.anode_tables.0, s.requires.move_ready.below); by_index = (s.args.last.0, slots_from s.args.slots.now, s.requires.move_ready.state) }

pub returns-in_err-relocate : goal.returns-in_err-relocate
returns-in_err-relocate c = let s = c in
    let t = c.relocate.new in
    rw (passed_on c.from_residual.result _ c.from_residual.ensures.1) (step_stops _ _ _ (c.relocate.ensures _ (slots_from s.args.slots.now) s.requires.move_ready.owns) _ _ c.in_err-relocate.was (table_from t.counts t.firsts t.nexts s.args.slots.now))

pub settle-requires : goal.settle-requires
settle-requires c = let s = c in
    let w = c.relocate in
    let e = step_planned _ _ _ (w.ensures _ (slots_from s.args.slots.now) s.requires.move_ready.owns) (rest_from s.args.last.0 (old_from s.args.blocks.now s.args.old.head.0 s.args.old.moved.0 s.args.size 0)) _ c.in_ok-relocate.was in
    record { anode_tables = ((w.auto.counts ∙ s.requires.anode_tables.0.0, w.auto.firsts ∙ s.requires.anode_tables.0.1, w.auto.nexts ∙ s.requires.anode_tables.0.2), s.requires.anode_tables.1); settle_ready = s.requires.move_ready.settles _ _ e }

pub returns : goal.returns
returns c = let s = c in
    let k = c.settle in
    let w = c.relocate in
    let olds = old_from s.args.blocks.now s.args.old.head.0 s.args.old.moved.0 s.args.size 0 in
    let left = table_from k.new.counts k.new.firsts k.new.nexts k.new.slots in
    let e = step_planned _ _ _ (w.ensures _ (slots_from s.args.slots.now) s.requires.move_ready.owns) (rest_from s.args.last.0 olds) _ c.in_ok-relocate.was in
    ends_then (relocated s.args.old.moved.0 (table_from s.args.counts.now s.args.firsts.now s.args.nexts.now s.args.slots.now)) (rest_from s.args.last.0 olds) _ _ e k.result left (rest_ends _ olds _ k.result left k.ensures)
