use Rattle.directory.specs.Entries.{entry_in, name_length, comment_length}
use Rattle.rules.specs.Calls.{fields_at, field_list}
use Rattle.reading.proofs.put_fields.Goals as goal

pub returns : goal.returns
unfolding fields_at field_list entry_in name_length comment_length
returns c = rw (
  c.read8-3.ensures,
  c.read8-2.ensures,
  c.read16-4.ensures,
  c.read16-3.ensures,
  c.read16-2.ensures,
  c.read32.ensures,
  c.read16.ensures,
  c.read8.ensures,
  c.read8-name.ensures,
  c.block_part-block.ensures,
)
