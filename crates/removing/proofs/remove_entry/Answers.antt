use mathlib.Core.Path.{ap, ◌∙◌}
use lib.ListN.{length}
use Rattle.rules.specs.Accepted.{last_reserved}
use Rattle.rules.specs.Plans.{table_of}
use Rattle.rules.specs.Changes.{remove_plan}
use Rattle.anodes.specs.Loaded.{table_from}
use Rattle.lookup.specs.Answers.{entered}
use Rattle.placing.specs.Steps.{EndsIn}
use Rattle.placing.proofs.Found.{passed_on}
use Rattle.growing.specs.Grown.{growth_if}
use Rattle.change_tables.specs.Chains.{plan_ready}
use Rattle.removing.proofs.Laws.{gives_made, refused_leaves, entry_planned, removed_is}
use borrow.Author.Rules.{rules}
use Rattle.removing.proofs.remove_entry.Goals as goal
use Rattle.removing.proofs.remove_entry.Goals.{After-give_all}

pub give_all-requires : goal.give_all-requires
give_all-requires c = let g = c in
    let w = plan_ready g.requires.loaded.0 (entered g.args.image.now g.args.e) g.requires.loaded.1 _ _ _ c.copied-new_counts.ensures c.copied-new_firsts.ensures c.copied-new_nexts.ensures c.slots_of-slots.result c.slots_of-slots.ensures _ c.chain_sum-have.ensures in
    let t = g.requires.loaded.0.tables in
    record { anode_tables = ((ap length c.copied-new_counts.ensures ∙ t.0, ap length c.copied-new_firsts.ensures ∙ t.1, ap length c.copied-new_nexts.ensures ∙ t.2), search rules); ready = rw c.last_reserved.ensures w.0; have_value = w.1 }

-- the plan on copies of the tables is that of the image
given_as : (c : After-give_all) → let g = c.args in let p = c.give_all in EndsIn p.result (table_from p.new.counts p.new.firsts p.new.nexts p.new.slots) (remove_plan (growth_if g.growing) (last_reserved g.image.now) (table_of g.image.now) g.e.anode.0)
given_as c = rw (gives_made c.requires.loaded.0 (entered c.args.image.now c.args.e) c.requires.loaded.1 c.args.growing _ _ _ c.copied-new_counts.ensures c.copied-new_firsts.ensures c.copied-new_nexts.ensures c.slots_of-slots.result c.slots_of-slots.ensures _ c.last_reserved.ensures) at c.give_all.ensures

pub returns-in_err-give_all : goal.returns-in_err-give_all
returns-in_err-give_all c =
    rw (passed_on c.from_residual.result _ c.from_residual.ensures.1)
    (refused_leaves c.requires.loaded.0 (entered c.args.image.now c.args.e) c.requires.loaded.1 c.args.growing _ (rw c.in_err-give_all.was at (given_as (goal.at.returns-in_err-give_all c).After-give_all)) _ _)

pub commit_remove-requires : goal.commit_remove-requires
commit_remove-requires c =
    let done = rw c.in_ok-give_all.was at (given_as (goal.at.commit_remove-requires c).After-give_all) in
    record { loaded = c.requires.loaded; in_bounds = (c.requires.in_bounds, search rules); by_index = (done.0, entry_planned c.requires.loaded.0 (entered c.args.image.now c.args.e) c.requires.loaded.1 c.args.growing done.1) }

pub returns : goal.returns
returns c =
    let done = rw c.in_ok-give_all.was at (given_as (goal.at.returns c).After-give_all) in
    rw (removed_is c.requires.loaded.0 (entered c.args.image.now c.args.e) c.requires.loaded.1 c.args.growing done.1) c.commit_remove.ensures
