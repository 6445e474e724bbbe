use Rattle.directory.specs.Entries.{name_length, comment_length}
use Rattle.paths.specs.Facts.{comment_in}
use Rattle.entry_fields.proofs.comment_part.Goals as goal

pub returns : goal.returns
unfolding comment_in name_length comment_length
returns c = cc
