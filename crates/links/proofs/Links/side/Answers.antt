use Rattle.std.proofs.Common.{refl}
use Rattle.rules.specs.Chains.{cut}
use Rattle.links.specs.Links.{follow}
use Rattle.links.proofs.Links.side.Goals as goal

pub returns : goal.returns
unfolding follow cut
returns c = refl
