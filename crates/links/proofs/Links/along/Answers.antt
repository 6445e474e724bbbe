use Rattle.std.proofs.Common.{ap}
use Rattle.std.proofs.Math.Path.{fun_ext}
use lib.ListN.{get_or}
use Rattle.rules.specs.Chains.{chain_of}
use Rattle.links.specs.Links.{follow}
use Rattle.links.proofs.Ends.{ends_at_0}
use Rattle.links.proofs.Links.along.Goals as goal

pub returns : goal.returns
unfolding follow
returns c = ap (λ f. chain_of f 3444 c.args.head.0) (fun_ext (λ a. ends_at_0 (get_or c.args.nexts.now a 0)))
