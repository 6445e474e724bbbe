use mathlib.Core.Path.{ap, ◌∙◌}
use Rattle.disk.specs.declared.Root.{Root}
use Rattle.disk.specs.Root.{root_in}
use Rattle.rules.specs.Accepted.{last_reserved}
use Rattle.searches.proofs.last_reserved.Goals as goal

pub returns : goal.returns
unfolding last_reserved
returns c = ap (λ (r : Root). r.last.0) (c.root_in.ensures ∙ ap root_in c.block_part.ensures)
