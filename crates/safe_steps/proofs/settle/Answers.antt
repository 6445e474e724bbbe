use Rattle.anodes.specs.Loaded.{table_from}
use Rattle.placing.proofs.Found.{passed_on}
use Rattle.safe_rules.specs.SafePlans.{reslotted_from, given_back}
use Rattle.giving_back.specs.OldTable.{old_from}
use mathlib.Core.Path.{◌∙◌}
use Rattle.safe_steps.proofs.Steps.{ends_stopped, ends_then}
use Rattle.safe_steps.proofs.settle.Goals as goal

pub reslot_all-requires : goal.reslot_all-requires
reslot_all-requires c = let s = c in record { anode_tables = s.requires.anode_tables; by_index = (_, s.requires.settle_ready.0) }

pub returns-in_err-reslot_all : goal.returns-in_err-reslot_all
returns-in_err-reslot_all c = let t = c.reslot_all.new in
    let s = table_from t.counts t.firsts t.nexts t.slots in
    rw (passed_on c.from_residual.result _ c.from_residual.ensures.1) (ends_stopped _ _ s s _ c.in_err-reslot_all.ensures)

pub give_old-requires : goal.give_old-requires
give_old-requires c = let s = c in
    let w = c.reslot_all in
    let (us, e) = c.in_ok-reslot_all.ensures in
    record { anode_tables = ((w.auto.counts ∙ s.requires.anode_tables.0.0, w.auto.firsts ∙ s.requires.anode_tables.0.1, w.auto.nexts ∙ s.requires.anode_tables.0.2), w.auto.slots ∙ s.requires.anode_tables.1); in_limbo = s.requires.settle_ready.1 _ us e }

pub returns : goal.returns
returns c = let s = c in
    let w = c.reslot_all in
    let k = c.give_old in
    let (us, e) = c.in_ok-reslot_all.ensures in
    ends_then (reslotted_from 42 0 (table_from s.args.counts.now s.args.firsts.now s.args.nexts.now s.args.slots.now)) (given_back s.args.last.0 (old_from s.args.blocks.now s.args.old.head.0 s.args.old.moved.0 s.args.size 0)) _ us e k.result (table_from k.new.counts k.new.firsts k.new.nexts w.new.slots) k.ensures
