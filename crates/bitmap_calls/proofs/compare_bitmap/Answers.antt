use native.Mathlib.Omega.{arith}
use mathlib.Core.Path.{◌∙◌}
use Rattle.rules.specs.Calls.{done_or}
use Rattle.bitmap_laws.specs.Read.{bytes_known, needed_is, read_known, place_is}
use Rattle.bitmap_laws.specs.Outcomes.{refusal_40, refusal_0, fields_some, fields_none}
use Rattle.bitmap_calls.proofs.compare_bitmap.Goals as goal

pub bytes_needed-requires : goal.bytes_needed-requires
bytes_needed-requires c = bytes_known _ _ c.requires.shown _ _ c.disk_size-n.ensures c.first_data-first.ensures.0

pub returns-then-bitmap-bytes_needed : goal.returns-then-bitmap-bytes_needed
unfolding done_or
returns-then-bitmap-bytes_needed c = record { answer = refusal_40 _ _ _ (needed_is _ _ c.requires.shown _ _ c.disk_size-n.ensures c.first_data-first.ensures.0 _ c.bytes_needed.ensures) c.if-bitmap-bytes_needed.true; told = c.requires.fields_value }

pub first_differing-p-requires : goal.first_differing-p-requires
first_differing-p-requires c = read_known _ _ c.requires.shown _ _ c.disk_size-n.ensures c.first_data-first.ensures.0 _ c.bytes_needed.ensures _ c.if-bitmap-bytes_needed.false

pub overflow_cast-fields : goal.overflow_cast-fields
overflow_cast-fields c = omega (arith, c.if-p-bitmap.true, (read_known _ _ c.requires.shown _ _ c.disk_size-n.ensures c.first_data-first.ensures.0 _ c.bytes_needed.ensures _ c.if-bitmap-bytes_needed.false).2)

pub returns-then-p-bitmap : goal.returns-then-p-bitmap
unfolding done_or
returns-then-p-bitmap c = record { answer = refusal_0 _ _ _ (needed_is _ _ c.requires.shown _ _ c.disk_size-n.ensures c.first_data-first.ensures.0 _ c.bytes_needed.ensures) c.if-bitmap-bytes_needed.false; told = fields_some _ _ c.if-p-bitmap.true ∙ rw (place_is _ _ c.requires.shown _ _ c.disk_size-n.ensures c.first_data-first.ensures.0 _ _ c.first_differing-p.ensures) }

pub returns-else-p-bitmap : goal.returns-else-p-bitmap
unfolding done_or
returns-else-p-bitmap c = record { answer = refusal_0 _ _ _ (needed_is _ _ c.requires.shown _ _ c.disk_size-n.ensures c.first_data-first.ensures.0 _ c.bytes_needed.ensures) c.if-bitmap-bytes_needed.false; told = c.requires.fields_value ∙ fields_none _ _ c.if-p-bitmap.false ∙ rw (place_is _ _ c.requires.shown _ _ c.disk_size-n.ensures c.first_data-first.ensures.0 _ _ c.first_differing-p.ensures) }
