use Rattle.std.proofs.Common.{◌∙◌}
use Rattle.folding.proofs.Laws.{lower_fold}
use Rattle.folding.proofs.fold.Goals as goal

pub returns : goal.returns
returns c = c.to_ascii_lowercase.ensures.value ∙ lower_fold c.args.b
