use Prim.Native.Nat.{◌<◌}
use mathlib.Core.Path.{refl, sym}
use mathlib.Core.Bool.{true}
use native.Mathlib.Omega.{arith}
use lib.ListN.{get_or}
use Rattle.rules.specs.Plans.{slotted}
use Rattle.anodes.specs.Loaded.{anodes_from, slots_from}
use Rattle.placing.proofs.Found.{extent-at}
use Rattle.growing.proofs.Growing.{grows_full, grows_out, grows_tables}
use Rattle.growing.proofs.grow_slots.Goals as goal

pub returns-in_default : goal.returns-in_default
returns-in_default c = (grows_full (slotted (anodes_from c.args.counts.now c.args.firsts.now c.args.nexts.now) (slots_from c.args.slots.now)) c.args.growing c.in_default.ensures, refl)

pub returns-in_default-free_extent : goal.returns-in_default-free_extent
returns-in_default-free_extent c = (grows_out (slotted (anodes_from c.args.counts.now c.args.firsts.now c.args.nexts.now) (slots_from c.args.slots.now)) c.args.growing (sym (c.in_default-free_extent.ensures c.args.firsts.now)), refl)

pub overflow_add-y : goal.overflow_add-y
unfolding anodes_from
overflow_add-y c = let e = c.in-Some-free_extent.found in
    let at : (e.before.0 < 3444) × (e.anode.0 < 3444) × (0 < get_or c.args.counts.now e.anode.0 0) × (get_or c.args.firsts.now e.anode.0 0 < 65535) = extent-at c.requires.by_index.1 true _ _ (sym (c.in-Some-free_extent.ensures c.args.firsts.now)) in
    record { fits = omega (arith, at, c.entry-y.ensures) }

pub without_run-requires : goal.without_run-requires
unfolding anodes_from
without_run-requires c = let e = c.in-Some-free_extent.found in
    let at : (e.before.0 < 3444) × (e.anode.0 < 3444) × (0 < get_or c.args.counts.now e.anode.0 0) × (get_or c.args.firsts.now e.anode.0 0 < 65535) = extent-at c.requires.by_index.1 true _ _ (sym (c.in-Some-free_extent.ensures c.args.firsts.now)) in
    (at.0, at.1, c.requires.anode_tables.0, omega (arith, at.2))

pub returns : goal.returns
returns c = let a = c.args in
    let k = c.in-Some.ensures in
    rw c.set_entry.ensures (grows_tables a.counts.now a.firsts.now a.nexts.now a.slots.now c.requires.anode_tables.1 _ _ _ _ (sym k.1) k.0 (sym (c.in-Some-free_extent.ensures a.firsts.now)) c.entry-y.ensures a.growing c.if-not-growing.false _ c.without_run.ensures)
