use Rattle.edits.proofs.Blocks.{new_head}
use mathlib.Core.Path.{◌∙◌}
use Rattle.edits.proofs.put_new_header.Goals as goal

pub returns : goal.returns
returns c = c.put_directory_header.ensures ∙ new_head _ _ _ _ c.requires c.clear.ensures
