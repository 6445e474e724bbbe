use Rattle.rules.specs.Accepted.{wrong_type}
use Rattle.header.proofs.wrong_type.Goals as goal

pub returns : goal.returns
unfolding wrong_type
returns c = rw (← c.block_part.ensures, ← c.root_in.ensures)
