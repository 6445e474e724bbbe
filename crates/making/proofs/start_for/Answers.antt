use mathlib.Core.Path.{◌∙◌}
use Rattle.making.proofs.Steps.{start_is}
use Rattle.making.proofs.start_for.Goals as goal

pub returns : goal.returns
returns c = c.unwrap_or.ensures ∙ start_is c.args.room c.args.parents.0
