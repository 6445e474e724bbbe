use Rattle.disk.specs.Root.{slot_in}
use borrow.Author.Rules.{rules}
use Rattle.disk.proofs.slot_in.Goals as goal

pub returns : goal.returns
unfolding slot_in
returns c = search rules
