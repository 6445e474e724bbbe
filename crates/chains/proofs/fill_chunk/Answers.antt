use mathlib.Core.Path.{refl}
use Rattle.chains.proofs.Runs.{filled-run}
use Rattle.chains.proofs.fill_chunk.Goals as goal

pub returns-then-zeros_from : goal.returns-then-zeros_from
returns-then-zeros_from c = (refl, filled-run _ _ _ _ 82 (c.zeros_from.ensures c.if-zeros_from.true) c.requires.4)
