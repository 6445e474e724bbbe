use native.Mathlib.Omega.{arith}
use mathlib.Core.Path.{◌≡◌}
use lib.ListN.{length}
use Rattle.directory.specs.Entries.{is_dir}
use Rattle.rules.specs.Changes.{new_entry}
use Rattle.change_tables.specs.Chains.{loaded_copies, chain-counted}
use Rattle.safe_plans.proofs.Counts.{too_few, enough_free}
use Rattle.safe_stores.proofs.Leaves.{leaves_few}
use Rattle.safe_makes.proofs.Made.{new-counted}
use borrow.Author.Rules.{rules}
use Rattle.safe_makes.proofs.safe_make_entry.Goals as goal

pub returns-then-chain_sum-need : goal.returns-then-chain_sum-need
returns-then-chain_sum-need c = let s = c in
    let img = s.args.image.now in
    let free = chain-counted s.requires.loaded.0 1 _ c.chain_sum.ensures in
    let need = new-counted img s.args.head.0 (let a = c.args in new_entry (is_dir a.kind) a.name.now a.comment.now a.day a.minute a.tick a.protection) c.slots_of-slots.result c.slots_of-slots.ensures _ c.new_count-need.ensures.0 in
    leaves_few img s.args.out.now _ (too_few img _ _ _ free need c.if-chain_sum-need.true)

pub overflow_add-need : goal.overflow_add-need
overflow_add-need c = omega (arith, c.new_count-need.ensures.1)

pub make_on_copies-requires : goal.make_on_copies-requires
make_on_copies-requires c = let all_slots : length c.slots_of-slots.result ≡ 42 = search rules in
    let s = c in
    let img = s.args.image.now in
    let free = chain-counted s.requires.loaded.0 1 _ c.chain_sum.ensures in
    let need = new-counted img s.args.head.0 (let a = c.args in new_entry (is_dir a.kind) a.name.now a.comment.now a.day a.minute a.tick a.protection) c.slots_of-slots.result c.slots_of-slots.ensures _ c.new_count-need.ensures.0 in
    let copies = loaded_copies s.requires.loaded.0 _ _ _ c.copied-new_counts.ensures c.copied-new_firsts.ensures c.copied-new_nexts.ensures in
    record { loaded = (s.requires.loaded.0, copies, s.requires.loaded.1); slots_value = (c.slots_of-slots.ensures, all_slots); head_value = s.requires.head_value; name_value = s.requires.name_value; count_value = (omega (arith, need), omega (arith, c.new_count-need.ensures.1), enough_free img _ _ _ free need c.if-chain_sum-need.false) }
