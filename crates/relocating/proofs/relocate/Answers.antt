use Rattle.anodes.specs.Loaded.{anodes_from}
use Rattle.placing.proofs.Found.{passed_on}
use Rattle.relocating.proofs.NewPlaces.{relocate_stops, relocate_done}
use Rattle.relocating.proofs.relocate.Goals as goal

pub returns-in_err-y : goal.returns-in_err-y
returns-in_err-y c = λ y slots own. rw (passed_on c.from_residual.result _ c.from_residual.ensures.1) (relocate_stops _ (anodes_from c.new_place.new.counts c.new_place.new.firsts c.new_place.new.nexts) _ c.in_err-y.ensures y slots)

pub returns : goal.returns
returns c = λ y slots own. relocate_done _ _ _ c.in_ok-y.ensures _ _ (c.rewrite.ensures _) y slots own
