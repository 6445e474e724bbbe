use mathlib.Core.Path.{sym}
use Rattle.chains.proofs.Runs.{range_run}
use Rattle.chains.proofs.chunk_out_of_range.Goals as goal

pub returns-then-all_cleared : goal.returns-then-all_cleared
returns-then-all_cleared c = let z = c.all_cleared.ensures c.if-all_cleared.true in sym (range_run _ _ _ _ _ 82 z.0 z.1 z.2 c.requires.1)
