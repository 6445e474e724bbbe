use mathlib.Core.Path.{refl}
use Rattle.anodes.specs.Loaded.{table_from}
use Rattle.searches.proofs.Searches.{anode_found_lem}
use Rattle.growing.specs.Grown.{growth_if}
use Rattle.growing.proofs.States.{has-grown, has-not-grown}
use Rattle.growing.proofs.Spares.{spare-there, spare_nowhere, spare-grown}
use Rattle.growing.proofs.spare_anode.Goals as goal

pub returns-then-found-lt3444 : goal.returns-then-found-lt3444
returns-then-found-lt3444 c = let a = c.args in
    let s = table_from a.counts.now a.firsts.now a.nexts.now a.slots.now in
    spare-there (growth_if a.growing) s _ (anode_found_lem 3444 _ _ _ _ (c.lowest_free.ensures a.counts.now a.nexts.now)) _ refl c.if-found-lt3444.true

pub returns-then-not-grow_slots : goal.returns-then-not-grow_slots
returns-then-not-grow_slots c = let a = c.args in
    let s = table_from a.counts.now a.firsts.now a.nexts.now a.slots.now in
    let no = has-not-grown c.grow_slots.result (growth_if a.growing) s _ c.grow_slots.ensures c.if-not-grow_slots.true in
    spare_nowhere (growth_if a.growing) s _ (anode_found_lem 3444 _ _ _ _ (c.lowest_free.ensures a.counts.now a.nexts.now)) c.if-found-lt3444.false no.0

pub returns : goal.returns
returns c = let a = c.args in
    let s = table_from a.counts.now a.firsts.now a.nexts.now a.slots.now in
    rw c.then_some.ensures (spare-grown (growth_if a.growing) s _ (anode_found_lem 3444 _ _ _ _ (c.lowest_free.ensures a.counts.now a.nexts.now)) c.if-found-lt3444.false _
    (has-grown c.grow_slots.result (growth_if a.growing) s _ c.grow_slots.ensures c.if-not-grow_slots.false) _
    (anode_found_lem 3444 _ _ _ _ (c.lowest_free-2.ensures _ _)) _ refl)
