use Rattle.bitmap.proofs.Laws.{set_by_or}
use Rattle.bitmap.proofs.set_bit.Goals as goal

pub returns : goal.returns
returns c = set_by_or _ _ c.requires
