use Rattle.paths.specs.Facts.{facts_of}
use Rattle.entry_fields.proofs.Laws.{fields_apart}
use Rattle.entry_fields.proofs.fields_differing.Goals as goal

pub returns : goal.returns
unfolding facts_of
returns c = (
  rw (c.fields_in.ensures.0, c.entry_block-block.ensures, c.entry_block-there.ensures, c.file_size.ensures, c.file_size-2.ensures)
      (fields_apart _ _ _ _ _ _ _ _),
  c.fields_in.ensures.1,
)
