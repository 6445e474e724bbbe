use Rattle.anodes.specs.Loaded.{table_from}
use Rattle.making.specs.Steps.{Begun}
use mathlib.Core.Path.{◌∙◌}
use lib.ListN.{set}
use Rattle.rules.specs.Accepted.{last_reserved}
use Rattle.growing.specs.Grown.{growth_if}
use Rattle.making.proofs.Done.{loaded_state, no_anode, begun_is, room_is}
use Rattle.making.proofs.plan_make.Goals as goal
use Rattle.making.proofs.plan_make.Goals.{In-Some}

pub spare_anode-requires : goal.spare_anode-requires
spare_anode-requires c = let s = c in
    record { anode_tables = (s.requires.loaded.0.tables, s.requires.slots_value.1); by_index = (last_reserved s.args.image.now, loaded_state s.requires.loaded.0 s.args.slots.now s.requires.slots_value.0) }

pub returns-in_default : goal.returns-in_default
returns-in_default c =
    no_anode c.requires.loaded.0 c.args.slots.now c.requires.slots_value.0 (growth_if c.args.growing) c.in_default.ensures _ _ _

-- what the steps start from
begun : (c : In-Some) → Begun c.args.image.now (growth_if c.args.growing) c.args.head.0 c.in-Some.fresh.0 (table_from (set c.spare_anode.new.counts c.in-Some.fresh.0 0) (set c.spare_anode.new.firsts c.in-Some.fresh.0 65535) c.spare_anode.new.nexts c.spare_anode.new.slots)
begun c =
    let q = c.requires in
    let w = c.spare_anode in
    begun_is q.loaded.0 c.args.slots.now q.slots_value.0 (growth_if c.args.growing) _ _ _ _ _ (rw c.in-Some.is at w.ensures) _ q.loaded.1 (w.auto.counts ∙ q.loaded.0.tables.0) (w.auto.firsts ∙ q.loaded.0.tables.1)

pub take_blocks-requires-clause-by_index : goal.take_blocks-requires-clause-by_index
take_blocks-requires-clause-by_index c = (c.args.image.now, rw (c.set_entry.ensures, c.set_entry-2.ensures) (begun (goal.at.take_blocks-requires-clause-by_index c).In-Some))

pub returns : goal.returns
returns c =
    c.take_blocks.ensures c.args.image.now _ (rw (c.set_entry.ensures, c.set_entry-2.ensures) (begun (goal.at.returns c).In-Some)) (room_is c.requires.loaded.0 _ c.requires.loaded.1 _ _ c.first_room-room.ensures)
