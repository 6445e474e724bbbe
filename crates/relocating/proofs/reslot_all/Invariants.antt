use Rattle.anodes.specs.Loaded.{table_from}
use Rattle.relocating.proofs.NewPlaces.{Reslots}
use Rattle.relocating.proofs.reslot_all.Given as goal

abbrev pub invariant-loop-k : goal.invariant-loop-k
invariant-loop-k l = Reslots (table_from l.initial.counts l.initial.firsts l.initial.nexts l.initial.slots) l.k (table_from l.counts l.firsts l.nexts l.slots)
