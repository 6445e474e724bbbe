use mathlib.Core.Path.{refl, sym}
use Rattle.anodes.specs.Loaded.{anodes_from}
use Rattle.taking.proofs.take_grown.Goals as goal

pub returns : goal.returns
unfolding anodes_from
returns c = ((_, sym c.in_ok-put_grown.ensures), c.end_after.ensures, refl)
