use Rattle.rules.specs.Walk.{blocks_for}
use borrow.Author.Rules.{rules}
use Rattle.walk_steps.proofs.blocks_for.Goals as goal

pub returns : goal.returns
unfolding blocks_for
returns c = search rules
