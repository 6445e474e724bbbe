use mathlib.Core.Path.{refl}
use Rattle.bitmap.specs.Bits.{byte_of}
use Rattle.bitmap.proofs.byte_of.Goals as goal

pub returns : goal.returns
unfolding byte_of
returns c = refl
