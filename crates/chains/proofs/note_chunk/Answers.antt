use Rattle.chains.proofs.Runs.{noted_run}
use Rattle.chains.proofs.note_chunk.Goals as goal

pub returns-then-zeros_from : goal.returns-then-zeros_from
returns-then-zeros_from c = noted_run _ _ _ 82 (c.zeros_from.ensures c.if-zeros_from.true) c.requires.4
