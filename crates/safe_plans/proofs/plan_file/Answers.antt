use mathlib.Core.Path.{◌∙◌}
use Rattle.anodes.specs.Loaded.{table_from}
use Rattle.placing.proofs.Found.{passed_on}
use Rattle.safe_rules.specs.SafePlans.{taken_anew}
use Rattle.giving_back.specs.OldTable.{old_from}
use Rattle.safe_plans.specs.Planned.{rest_from}
use Rattle.safe_steps.proofs.Steps.{ends_stopped, ends_then}
use Rattle.safe_plans.proofs.Parts.{rest_ends}
use Rattle.safe_plans.proofs.plan_file.Goals as goal

pub take_anew-requires : goal.take_anew-requires
take_anew-requires c = let s = c in record { anode_tables = (s.requires.anode_tables.0, s.requires.anode_tables.1, s.requires.file_ready.from_6); by_index = (s.args.last.0, s.requires.file_ready.ready) }

pub returns-in_err-take_anew : goal.returns-in_err-take_anew
returns-in_err-take_anew c = let t = c.take_anew.new in
    let s = table_from t.counts t.firsts t.nexts t.slots in
    rw (passed_on c.from_residual.result _ c.from_residual.ensures.1) (ends_stopped _ _ s s _ c.in_err-take_anew.ensures)

pub settle-requires : goal.settle-requires
settle-requires c = let s = c in
    let w = c.take_anew in
    let (us, e) = c.in_ok-take_anew.ensures in
    record { anode_tables = ((w.auto.counts ∙ s.requires.anode_tables.0.0, w.auto.firsts ∙ s.requires.anode_tables.0.1, w.auto.nexts ∙ s.requires.anode_tables.0.2), w.auto.slots ∙ s.requires.anode_tables.1); settle_ready = s.requires.file_ready.settles _ us e }

pub returns : goal.returns
returns c = let s = c in
    let k = c.settle in
    let olds = old_from s.args.blocks.now s.args.old.head.0 s.args.old.moved.0 s.args.size 0 in
    let left = table_from k.new.counts k.new.firsts k.new.nexts k.new.slots in
    let (us, e) = c.in_ok-take_anew.ensures in
    ends_then (taken_anew s.args.head.0 s.args.want (table_from s.args.counts.now s.args.firsts.now s.args.nexts.now s.args.slots.now)) (rest_from s.args.last.0 olds) _ us e k.result left (rest_ends _ olds _ k.result left k.ensures)
