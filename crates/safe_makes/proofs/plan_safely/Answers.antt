use native.Mathlib.Omega.{arith}
use mathlib.Core.Path.{◌≡◌, sym, ◌∙◌}
use Prim.Native.Nat.{ℕ, ◌/◌}
use mathlib.Core.Bool.{false}
use mathlib.Core.List.{[], ◌∷◌}
use lib.ListN.{length}
use borrow.Author.Tests.{leb-true}
use Rattle.directory.specs.Entries.{good_comment, is_dir, entry_length}
use Rattle.directory.proofs.Laws.{good_name-length}
use Rattle.rules.specs.Chains.{run}
use Rattle.rules.specs.Accepted.{last_reserved}
use Rattle.rules.specs.Plans.{planned, table_of}
use Rattle.rules.specs.Changes.{NewEntry, new_entry}
use Rattle.laws.specs.Acceptance.{size_bounds}
use Rattle.change_laws.specs.Image.{ReachedDir}
use Rattle.change_tables.specs.Chains.{loaded_image, loaded_size}
use Rattle.anodes.specs.Loaded.{slots_from, table_from}
use Rattle.growing.specs.Grown.{growth_if}
use Rattle.making.specs.Steps.{Plans}
use Rattle.safe_makes.specs.SafePlanned.{entry_plan}
use Rattle.safe_makes.proofs.Steps.{plan_stopped, room_small, room_ready, entry_stopped, settles_made, done-made, stopped_made}
use Rattle.placing.proofs.Found.{passed_on}
use borrow.Author.Rules.{rules}
use Rattle.safe_makes.proofs.plan_safely.Goals as goal
use Rattle.safe_makes.proofs.plan_safely.Goals.{Start, In_ok-plan, In_ok-to}

-- the entry and the directory
abbrev new : Start → ℕ → ℕ → ℕ → ℕ → NewEntry
new c day minute tick protection = let a = c.args in new_entry (is_dir a.kind) a.name.now a.comment.now day minute tick protection

home : (c : Start) → ReachedDir c.args.image.now c.args.head.0
home c = record { image = loaded_image c.requires.loaded.0; reached = c.requires.loaded.2 }

-- the plan as in place
planned_as : (c : In_ok-plan) → let a = c.args in let w = c.plan_make in
    Plans a.image.now (growth_if false) (is_dir a.kind) (entry_length (length a.name.now) (length a.comment.now)) a.head.0 c.in_ok-plan.plan (table_from w.new.counts w.new.firsts w.new.nexts w.new.slots)
planned_as c = rw (c.in_ok-plan.was, c.entry_len-len.ensures) at c.plan_make.ensures

-- the block that gets the entry
entry_as : (c : In_ok-to) → let w = c.plan_make in let b = c.entry_block in
    entry_plan c.in_ok-plan.plan.parents.0 (c.in_ok-plan.plan.start / 512) (table_from w.new.counts w.new.firsts w.new.nexts w.new.slots) ≡ planned (table_from b.new.counts b.new.firsts b.new.nexts w.new.slots) (c.in_ok-to.to.0 ∷ [])
unfolding run
entry_as c = sym (rw c.in_ok-to.was at (c.entry_block.ensures (slots_from c.plan_make.new.slots)))

pub overflow_cast-name : goal.overflow_cast-name
overflow_cast-name c = omega (arith, good_name-length c.args.name.now c.requires.name_value.0)

pub overflow_cast-comment : goal.overflow_cast-comment
unfolding good_comment
overflow_cast-comment c = omega (arith, leb-true (length c.args.comment.now) 79 c.requires.name_value.1)

pub plan_make-requires : goal.plan_make-requires
plan_make-requires c = record { loaded = (c.requires.loaded.0, c.requires.loaded.2); slots_value = c.requires.slots_value }

pub returns-in_err-plan : goal.returns-in_err-plan
returns-in_err-plan c =
    let at = (goal.at.returns-in_err-plan c).Start in
    λ day minute tick protection. rw (passed_on c.from_residual.result _ c.from_residual.ensures.1)
    (plan_stopped (home at) (new at day minute tick protection) _ (table_of c.args.image.now) (rw (c.in_err-plan.was, c.entry_len-len.ensures) at c.plan_make.ensures))

pub entry_block-requires : goal.entry_block-requires
entry_block-requires c =
    let at = (goal.at.entry_block-requires c).Start in
    let p = planned_as (goal.at.entry_block-requires c).In_ok-plan in
    let q = c.requires.name_value in
    let w = c.plan_make in
    record {
      anode_tables = ((search rules, search rules, search rules), λ z. room_small (home at) (new at 0 0 0 0) c.in_ok-plan.plan _ p q.0 q.1 z);
      by_index = (last_reserved c.args.image.now, slots_from w.new.slots, λ z. room_ready (home at) (new at 0 0 0 0) c.in_ok-plan.plan _ p q.0 q.1 z);
    }

pub returns-in_err-to : goal.returns-in_err-to
returns-in_err-to c =
    let at = (goal.at.returns-in_err-to c).Start in
    let p = planned_as (goal.at.returns-in_err-to c).In_ok-plan in
    let q = c.requires.name_value in
    let e = rw c.in_err-to.was at (c.entry_block.ensures (slots_from c.plan_make.new.slots)) in
    λ day minute tick protection. rw (passed_on c.from_residual-in_err-to.result _ c.from_residual-in_err-to.ensures.1)
    (entry_stopped (home at) (new at day minute tick protection) c.in_ok-plan.plan _ p q.0 q.1 _ (sym e))

pub room_block-requires : goal.room_block-requires
room_block-requires c =
    let at = (goal.at.room_block-requires c).Start in
    λ z. room_small (home at) (new at 0 0 0 0) c.in_ok-plan.plan _ (planned_as (goal.at.room_block-requires c).In_ok-plan) c.requires.name_value.0 c.requires.name_value.1 z

pub overflow_cast-size : goal.overflow_cast-size
overflow_cast-size c = omega (arith, c.disk_size-size.ensures, (size_bounds c.args.image.now (loaded_size c.requires.loaded.0)).1)

pub settle-requires : goal.settle-requires
settle-requires c =
    let at = (goal.at.settle-requires c).Start in
    let p = planned_as (goal.at.settle-requires c).In_ok-plan in
    let entry = entry_as (goal.at.settle-requires c).In_ok-to in
    let q = c.requires in
    let w = c.plan_make in
    let b = c.entry_block in
    record {
      anode_tables = ((b.auto.counts ∙ w.auto.counts ∙ q.loaded.0.tables.0, b.auto.firsts ∙ w.auto.firsts ∙ q.loaded.0.tables.1, b.auto.nexts ∙ w.auto.nexts ∙ q.loaded.0.tables.2), w.auto.slots ∙ q.slots_value.1);
      settle_ready = settles_made (home at) (new at 0 0 0 0) c.in_ok-plan.plan _ p q.name_value.0 q.name_value.1 _ c.in_ok-to.to.0 entry c.args.blocks.now q.loaded.1 _ _ _ c.last_reserved-last.ensures c.room_block.ensures c.disk_size-size.ensures;
    }

pub returns : goal.returns
returns c =
    let at = (goal.at.returns c).Start in
    let p = planned_as (goal.at.returns c).In_ok-plan in
    let entry = entry_as (goal.at.returns c).In_ok-to in
    let q = c.requires in
    let k = c.settle in
    λ day minute tick protection. done-made (home at) (new at day minute tick protection) c.in_ok-plan.plan _ p q.name_value.0 q.name_value.1 _ c.in_ok-to.to.0 entry c.args.blocks.now q.loaded.1 _ _ _ c.last_reserved-last.ensures c.room_block.ensures c.disk_size-size.ensures
    k.result (table_from k.new.counts k.new.firsts k.new.nexts k.new.slots) k.ensures _ c.in_ok-settle.was

pub returns-in_err-settle : goal.returns-in_err-settle
returns-in_err-settle c =
    let at = (goal.at.returns-in_err-settle c).Start in
    let p = planned_as (goal.at.returns-in_err-settle c).In_ok-plan in
    let entry = entry_as (goal.at.returns-in_err-settle c).In_ok-to in
    let q = c.requires in
    let k = c.settle in
    λ day minute tick protection. rw (passed_on c.from_residual-in_err-settle.result _ c.from_residual-in_err-settle.ensures.1)
    (stopped_made (home at) (new at day minute tick protection) c.in_ok-plan.plan _ p q.name_value.0 q.name_value.1 _ c.in_ok-to.to.0 entry c.args.blocks.now q.loaded.1 _ _ _ c.last_reserved-last.ensures c.room_block.ensures c.disk_size-size.ensures
    k.result (table_from k.new.counts k.new.firsts k.new.nexts k.new.slots) k.ensures _ c.in_err-settle.was)
