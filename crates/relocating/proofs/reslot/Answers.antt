use mathlib.Core.Path.{sym, ◌∙◌}
use native.Mathlib.Omega.{arith}
use mathlib.Core.List.{[]}
use Rattle.anodes.specs.Loaded.{anodes_from, slots_from}
use Rattle.placing.proofs.Found.{passed_on}
use Rattle.relocating.proofs.NewPlaces.{slot_empty, slot_stops, slot_done}
use Rattle.relocating.proofs.reslot.Goals as goal

pub returns-then-entry-eq0 : goal.returns-then-entry-eq0
unfolding slots_from
returns-then-entry-eq0 c = ([], slot_empty _ _ (sym c.entry.ensures ∙ c.if-entry-eq0.true))

pub new_place-requires : goal.new_place-requires
new_place-requires c = record { anode_tables = c.requires.anode_tables.0; by_index = (c.requires.by_index.0, slots_from c.args.slots.now, c.requires.by_index.1) }

pub returns-in_err-y : goal.returns-in_err-y
returns-in_err-y c = rw (passed_on c.from_residual.result _ c.from_residual.ensures.1) (slot_stops _ _ _ _ _ (λ q. c.if-entry-eq0.false (c.entry.ensures ∙ q)) (anodes_from c.new_place.new.counts c.new_place.new.firsts c.new_place.new.nexts) _ c.in_err-y.ensures)

pub returns : goal.returns
returns c = rw c.set_entry.ensures (slot_done _ _ _ _ _ (λ q. c.if-entry-eq0.false (c.entry.ensures ∙ q)) _ _ c.in_ok-y.ensures (omega (arith, c.requires.anode_tables)))
