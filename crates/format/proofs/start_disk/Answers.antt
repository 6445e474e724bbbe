use mathlib.Core.Path.{◌∙◌}
use Rattle.format.proofs.Parts.{all-cleared}
use Rattle.format.proofs.Laws.{start-stored}
use Rattle.format.proofs.start_disk.Goals as goal

pub returns : goal.returns
returns c = start-stored c.clear.new.bytes _ c.write32.new.bytes c.requires (c.clear.ensures ∙ all-cleared _) c.write32.ensures
