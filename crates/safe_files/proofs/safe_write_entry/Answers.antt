use mathlib.Core.Path.{◌≡◌}
use Prim.Native.Nat.{◌≤◌}
use lib.ListN.{length}
use Rattle.rules.specs.Anodes.{anodes_of}
use Rattle.rules.specs.Totals.{free_blocks}
use Rattle.rules.specs.Plans.{table_of}
use Rattle.safe_rules.specs.SafePlans.{write_change, new_blocks}
use Rattle.anodes.specs.Loaded.{anodes_from}
use Rattle.placing.proofs.Found.{passed_on}
use Rattle.lookup.specs.Answers.{entered}
use Rattle.change_tables.specs.Chains.{reached-entry, loaded_copies, chain-counted}
use Rattle.safe_plans.proofs.Counts.{too_few, enough_free}
use Rattle.safe_stores.proofs.Leaves.{leaves_few, leaves_stopped}
use Rattle.safe_files.proofs.Plans.{new-counted}
use borrow.Author.Rules.{rules}
use Rattle.safe_files.proofs.safe_write_entry.Goals as goal
use Rattle.safe_files.proofs.safe_write_entry.Goals.{Else-chain_sum-need}

-- enough blocks are free
enough : (c : Else-chain_sum-need) → let a = c.args in new_blocks a.image.now (write_change a.image.now (table_of a.image.now) (entered a.image.now a.e) a.offset a.bytes.now) ≤ free_blocks (anodes_of a.image.now)
enough c =
    enough_free _ _ _ _ (chain-counted c.requires.loaded.0 1 _ c.chain_sum.ensures)
    (new-counted (reached-entry c.requires.loaded.0 _ c.requires.reached_entry.0) _ _ c.slots_of-slots.result c.slots_of-slots.ensures _ _ (chain-counted c.requires.loaded.0 _ _ c.chain_sum-have.ensures) c.used_slots.ensures.0) c.if-chain_sum-need.false

pub returns-then-chain_sum-need : goal.returns-then-chain_sum-need
returns-then-chain_sum-need c =
    leaves_few _ _ _ (too_few _ _ _ _ (chain-counted c.requires.loaded.0 1 _ c.chain_sum.ensures)
    (new-counted (reached-entry c.requires.loaded.0 _ c.requires.reached_entry.0) _ _ c.slots_of-slots.result c.slots_of-slots.ensures _ _ (chain-counted c.requires.loaded.0 _ _ c.chain_sum-have.ensures) c.used_slots.ensures.0) c.if-chain_sum-need.true)

pub plan_write-requires : goal.plan_write-requires
plan_write-requires c =
    let slots-long : length c.slots_of-slots.result ≡ 42 = search rules in
    record {
      loaded = (loaded_copies c.requires.loaded.0 _ _ _ c.copied-new_counts.ensures c.copied-new_firsts.ensures c.copied-new_nexts.ensures, c.requires.loaded.1);
      slots_len = (slots-long, c.slots_of-slots.ensures);
      reached_entry = (c.requires.reached_entry.0, chain-counted c.requires.loaded.0 _ _ c.chain_sum-have.ensures);
    }

pub returns-in_err-plan_write : goal.returns-in_err-plan_write
returns-in_err-plan_write c =
    rw (passed_on c.from_residual.result _ c.from_residual.ensures.1)
    (leaves_stopped _ _ _ (enough (goal.at.returns-in_err-plan_write c).Else-chain_sum-need) _ (rw c.in_err-plan_write.was at (c.plan_write.ensures c.args.offset c.args.bytes.now)))

pub finish_write-requires : goal.finish_write-requires
unfolding anodes_from
finish_write-requires c = record {
  loaded = (c.requires.loaded.0, c.requires.reached_entry.0, c.requires.reached_entry.1, chain-counted c.requires.loaded.0 _ _ c.chain_sum-have.ensures);
  bytes_bound = enough (goal.at.finish_write-requires c).Else-chain_sum-need;
  by_index = rw c.in_ok-plan_write.was at (c.plan_write.ensures c.args.offset c.args.bytes.now);
}
