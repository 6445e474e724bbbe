use mathlib.Core.Path.{◌∙◌}
use Rattle.rules.specs.Plans.{◌and_then◌}
use Rattle.anodes.specs.Loaded.{table_from}
use Rattle.placing.proofs.Found.{passed_on}
use Rattle.safe_rules.specs.SafePlans.{relocated, taken_anew}
use Rattle.giving_back.specs.OldTable.{old_from}
use Rattle.safe_plans.specs.Planned.{rest_from}
use Rattle.safe_steps.proofs.Steps.{ends_stopped}
use Rattle.safe_plans.proofs.Parts.{ends_twice}
use Rattle.safe_plans.proofs.plan_resize.Goals as goal

pub take_anew-requires : goal.take_anew-requires
take_anew-requires c = let s = c in record { anode_tables = (s.requires.anode_tables.0, s.requires.anode_tables.1, s.requires.resize_ready.from_6); by_index = (s.args.last.0, s.requires.resize_ready.ready) }

pub returns-in_err-take_anew : goal.returns-in_err-take_anew
returns-in_err-take_anew c = let s = c in
    let w = c.take_anew in
    let left = table_from w.new.counts w.new.firsts w.new.nexts w.new.slots in
    let p = taken_anew s.args.head.0 s.args.want (table_from s.args.counts.now s.args.firsts.now s.args.nexts.now s.args.slots.now) in
    rw (passed_on c.from_residual.result _ c.from_residual.ensures.1)
    (ends_stopped (p and_then relocated s.args.old.moved.0) (rest_from s.args.last.0 (old_from s.args.blocks.now s.args.old.head.0 s.args.old.moved.0 s.args.size 0)) left left _ (ends_stopped p (relocated s.args.old.moved.0) left left _ c.in_err-take_anew.ensures))

pub plan_move-requires : goal.plan_move-requires
plan_move-requires c = let s = c in
    let w = c.take_anew in
    let (us, e) = c.in_ok-take_anew.ensures in
    record { anode_tables = ((w.auto.counts ∙ s.requires.anode_tables.0.0, w.auto.firsts ∙ s.requires.anode_tables.0.1, w.auto.nexts ∙ s.requires.anode_tables.0.2), w.auto.slots ∙ s.requires.anode_tables.1); move_ready = s.requires.resize_ready.moves _ us e }

pub returns : goal.returns
returns c = let s = c in
    let k = c.plan_move in
    let olds = old_from s.args.blocks.now s.args.old.head.0 s.args.old.moved.0 s.args.size 0 in
    let left = table_from k.new.counts k.new.firsts k.new.nexts k.new.slots in
    let (us, e) = c.in_ok-take_anew.ensures in
    ends_twice (taken_anew s.args.head.0 s.args.want (table_from s.args.counts.now s.args.firsts.now s.args.nexts.now s.args.slots.now)) (relocated s.args.old.moved.0) (rest_from s.args.last.0 olds) _ us e k.result left k.ensures
