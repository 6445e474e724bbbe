use mathlib.Core.Path.{ap, ◌∙◌}
use lib.ListN.{length}
use Rattle.rules.specs.Walk.{blocks_for}
use Rattle.rules.specs.Accepted.{last_reserved}
use Rattle.rules.specs.Plans.{table_of}
use Rattle.rules.specs.Changes.{resize_plan}
use Rattle.anodes.specs.Loaded.{table_from}
use Rattle.lookup.specs.Answers.{entered}
use Rattle.placing.specs.Steps.{EndsIn}
use Rattle.growing.specs.Grown.{growth_if}
use Rattle.change_tables.specs.Chains.{plan_ready, chain-counted}
use Rattle.resizing.proofs.Laws.{plan-made, refused_leaves, file_planned, resized_is}
use borrow.Author.Rules.{rules}
use Rattle.resizing.proofs.resize_entry.Goals as goal
use Rattle.resizing.proofs.resize_entry.Goals.{After-plan_resize-planned}

pub plan_resize-planned-requires : goal.plan_resize-planned-requires
plan_resize-planned-requires c = let s = c in
    let slots = c.slots_of-slots in
    let w = plan_ready s.requires.loaded.0 (entered s.args.image.now s.args.e) s.requires.loaded.1 _ _ _ c.copied-new_counts.ensures c.copied-new_firsts.ensures c.copied-new_nexts.ensures slots.result slots.ensures _ c.chain_sum-have.ensures in
    let t = s.requires.loaded.0.tables in
    record { anode_tables = ((ap length c.copied-new_counts.ensures ∙ t.0, ap length c.copied-new_firsts.ensures ∙ t.1, ap length c.copied-new_nexts.ensures ∙ t.2), search rules); ready = rw c.last_reserved.ensures w.0; have_value = w.1 }

-- the plan on copies of the tables is that of the image
planned_as : (c : After-plan_resize-planned) → let g = c.args in let p = c.plan_resize-planned in EndsIn p.result (table_from p.new.counts p.new.firsts p.new.nexts p.new.slots) (resize_plan (growth_if g.growing) (last_reserved g.image.now) (table_of g.image.now) g.e.anode.0 (blocks_for g.size))
planned_as c = rw (plan-made c.requires.loaded.0 (entered c.args.image.now c.args.e) c.requires.loaded.1 c.args.size c.args.growing _ _ _ c.copied-new_counts.ensures c.copied-new_firsts.ensures c.copied-new_nexts.ensures c.slots_of-slots.result c.slots_of-slots.ensures _ c.blocks_for-want.ensures _ c.last_reserved.ensures) at c.plan_resize-planned.ensures

pub returns-in_default : goal.returns-in_default
returns-in_default c =
    rw c.in_default.is
    (refused_leaves c.requires.loaded.0 (entered c.args.image.now c.args.e) c.requires.loaded.1 c.args.size c.args.growing _ (rw c.in_default.is at (planned_as (goal.at.returns-in_default c).After-plan_resize-planned)) _ _)

pub commit_resize-requires : goal.commit_resize-requires
commit_resize-requires c =
    let done = rw c.in-Ok.is at (planned_as (goal.at.commit_resize-requires c).After-plan_resize-planned) in
    record {
      loaded = c.requires.loaded;
      in_bounds = (c.requires.kind_value.1, search rules);
      by_index = (done.0, file_planned c.requires.loaded.0 (entered c.args.image.now c.args.e) c.requires.loaded.1 c.args.size c.args.growing c.requires.kind_value.0 done.1);
      have_value = (chain-counted c.requires.loaded.0 _ _ c.chain_sum-have.ensures, c.blocks_for-want.ensures);
    }

pub returns : goal.returns
returns c =
    let e = entered c.args.image.now c.args.e in
    let done = rw c.in-Ok.is at (planned_as (goal.at.returns c).After-plan_resize-planned) in
    rw (resized_is c.requires.loaded.0 e c.requires.loaded.1 c.args.size c.args.growing done.1)
    (c.commit_resize.ensures done.0 (file_planned c.requires.loaded.0 e c.requires.loaded.1 c.args.size c.args.growing c.requires.kind_value.0 done.1))
