use mathlib.Core.Path.{◌≡◌}
use Prim.Native.Nat.{◌≤◌}
use native.Mathlib.Omega.{arith}
use lib.ListN.{length}
use Rattle.rules.specs.Anodes.{anodes_of}
use Rattle.rules.specs.Totals.{free_blocks}
use Rattle.rules.specs.Plans.{table_of}
use Rattle.safe_rules.specs.SafePlans.{resize_change, new_blocks}
use Rattle.anodes.specs.Loaded.{anodes_from}
use Rattle.placing.proofs.Found.{passed_on}
use Rattle.lookup.specs.Answers.{entered}
use Rattle.change_laws.specs.Reached.{EntryIn}
use Rattle.change_tables.specs.Leaves.{ReachedEntry}
use Rattle.change_tables.specs.Chains.{reached-entry, loaded_copies, chain-counted}
use Rattle.safe_plans.proofs.Counts.{too_few, enough_free}
use Rattle.safe_stores.proofs.Leaves.{leaves_few, leaves_stopped}
use Rattle.safe_removes.proofs.Plans.{block_small, owner_found}
use Rattle.safe_resizes.proofs.Staging.{blocks-counted}
use Rattle.safe_resizes.proofs.Plans.{new-counted, size_fits, plan-placed}
use borrow.Author.Rules.{rules}
use Rattle.safe_resizes.proofs.safe_resize_entry.Goals as goal
use Rattle.safe_resizes.proofs.safe_resize_entry.Goals.{Start, Else-chain_sum-need}

-- the entry stands in its directory
abbrev reached : (c : Start) → ReachedEntry c.args.image.now (entered c.args.image.now c.args.e)
reached c = (c.args.home.0, c.requires.home_value.0, c.requires.home_value.1)

member : (c : Start) → EntryIn c.args.image.now c.args.home.0 (entered c.args.image.now c.args.e)
member c = reached-entry c.requires.loaded.0 _ (reached c)

-- enough blocks are free
enough : (c : Else-chain_sum-need) → let a = c.args in new_blocks a.image.now (resize_change a.image.now (table_of a.image.now) (entered a.image.now a.e) a.size) ≤ free_blocks (anodes_of a.image.now)
enough c =
    enough_free _ _ _ _ (chain-counted c.requires.loaded.0 1 _ c.chain_sum.ensures)
    (new-counted (reached-entry c.requires.loaded.0 _ (c.args.home.0, c.requires.home_value.0, c.requires.home_value.1)) c.args.size c.requires.kind_value.1 c.slots_of-slots.result c.slots_of-slots.ensures _ _ c.blocks_for.ensures c.used_slots.ensures.0) c.if-chain_sum-need.false

pub overflow_add-need : goal.overflow_add-need
overflow_add-need c = omega (arith, c.used_slots.ensures.1, c.blocks_for.ensures, blocks-counted c.args.size c.ranges.size.fits)

pub overflow_add-need-2 : goal.overflow_add-need-2
overflow_add-need-2 c = omega (arith, c.used_slots.ensures.1, c.blocks_for.ensures, blocks-counted c.args.size c.ranges.size.fits)

pub returns-then-chain_sum-need : goal.returns-then-chain_sum-need
returns-then-chain_sum-need c =
    leaves_few _ _ _ (too_few _ _ _ _ (chain-counted c.requires.loaded.0 1 _ c.chain_sum.ensures)
    (new-counted (member (goal.at.returns-then-chain_sum-need c).Start) c.args.size c.requires.kind_value.1 c.slots_of-slots.result c.slots_of-slots.ensures _ _ c.blocks_for.ensures c.used_slots.ensures.0) c.if-chain_sum-need.true)

pub entry_block-requires : goal.entry_block-requires
entry_block-requires c = block_small (member (goal.at.entry_block-requires c).Start)

pub plan_resized-requires : goal.plan_resized-requires
plan_resized-requires c =
    let at = (goal.at.plan_resized-requires c).Start in
    let slots-long : length c.slots_of-slots.result ≡ 42 = search rules in
    record {
      loaded = (loaded_copies c.requires.loaded.0 _ _ _ c.copied-new_counts.ensures c.copied-new_firsts.ensures c.copied-new_nexts.ensures, c.requires.loaded.1);
      slots_len = (slots-long, c.slots_of-slots.ensures, c.requires.kind_value.1);
      reached_entry = (reached at, owner_found (member at) c.requires.loaded.0 _ c.entry_block.ensures _ c.anode_with-owner.ensures);
    }

pub returns-in_err-plan_resized : goal.returns-in_err-plan_resized
returns-in_err-plan_resized c =
    rw (passed_on c.from_residual.result _ c.from_residual.ensures.1)
    (leaves_stopped _ _ _ (enough (goal.at.returns-in_err-plan_resized c).Else-chain_sum-need) _ (rw c.in_err-plan_resized.was at c.plan_resized.ensures))

pub overflow_cast-size : goal.overflow_cast-size
overflow_cast-size c =
    omega (arith, size_fits (member (goal.at.overflow_cast-size c).Start) c.args.size c.requires.kind_value.1 (enough (goal.at.overflow_cast-size c).Else-chain_sum-need))

pub finish_resize-requires : goal.finish_resize-requires
unfolding anodes_from
finish_resize-requires c =
    let at = (goal.at.finish_resize-requires c).Start in
    let (ys, plan) = rw c.in_ok-plan_resized.was at c.plan_resized.ensures in
    record {
      loaded = (c.requires.loaded.0, reached at, c.requires.kind_value.0, c.requires.kind_value.1);
      size_bound = enough (goal.at.finish_resize-requires c).Else-chain_sum-need;
      resize_plan = plan-placed (member at) c.args.size c.requires.kind_value.1 c.requires.kind_value.0 _ ys plan _ (owner_found (member at) c.requires.loaded.0 _ c.entry_block.ensures _ c.anode_with-owner.ensures) _ c.entry.ensures;
    }
