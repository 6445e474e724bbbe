use mathlib.Core.Path.{◌∙◌}
use Rattle.giving_runs.proofs.Picking.{run-min}
use Rattle.giving_runs.proofs.run_length.Goals as goal

pub returns : goal.returns
returns c = c.min.ensures ∙ run-min _ _ _ _ _ c.upper_run.ensures
