use Rattle.edits.proofs.Gap.{moved-cleared}
use Rattle.edits.proofs.close_gap.Goals as goal

pub returns : goal.returns
returns c = rw (c.clear.ensures, c.copy_within.ensures.after) (moved-cleared _ _ _ _ c.requires.0 c.requires.1)
