use mathlib.Core.Path.{refl}
use Rattle.bitmap_calls.proofs.bytes_needed.Goals as goal

pub returns : goal.returns
returns c = refl
