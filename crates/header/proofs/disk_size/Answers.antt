use mathlib.Core.Path.{refl}
use Rattle.rules.specs.Accepted.{disk_size}
use Rattle.header.proofs.disk_size.Goals as goal

pub returns : goal.returns
unfolding disk_size
returns c = refl
