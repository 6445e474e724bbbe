use Rattle.chains.proofs.Endings.{ends_of}
use Rattle.chains.proofs.some_endless.Goals as goal

pub returns : goal.returns
returns c = ends_of _ _ _ c.mark_ends.ensures c.requires.0 c.requires.4 _ c.some_unmarked.ensures
