use mathlib.Core.Path.{◌∙◌}
use Rattle.edits.proofs.Blocks.{run-zeroed}
use Rattle.edits.proofs.zero_run.Goals as goal

pub returns : goal.returns
returns c = c.clear.ensures ∙ run-zeroed _ _ _
