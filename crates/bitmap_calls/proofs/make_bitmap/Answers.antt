use mathlib.Core.Path.{refl}
use Rattle.rules.specs.Calls.{done_or}
use Rattle.bitmap_laws.specs.Read.{bytes_known, needed_is, read_known, filled_is}
use Rattle.bitmap_laws.specs.Outcomes.{refusal_40, refusal_0}
use Rattle.bitmap_calls.proofs.make_bitmap.Goals as goal

pub bytes_needed-requires : goal.bytes_needed-requires
bytes_needed-requires c = bytes_known _ _ c.requires _ _ c.disk_size-n.ensures c.first_data-first.ensures.0

pub returns-then-bitmap-bytes_needed : goal.returns-then-bitmap-bytes_needed
unfolding done_or
returns-then-bitmap-bytes_needed c = record { answer = refusal_40 _ _ _ (needed_is _ _ c.requires _ _ c.disk_size-n.ensures c.first_data-first.ensures.0 _ c.bytes_needed.ensures) c.if-bitmap-bytes_needed.true; made = refl }

pub fill_bitmap-requires : goal.fill_bitmap-requires
fill_bitmap-requires c = read_known _ _ c.requires _ _ c.disk_size-n.ensures c.first_data-first.ensures.0 _ c.bytes_needed.ensures _ c.if-bitmap-bytes_needed.false

pub returns : goal.returns
unfolding done_or
returns c = record { answer = refusal_0 _ _ _ (needed_is _ _ c.requires _ _ c.disk_size-n.ensures c.first_data-first.ensures.0 _ c.bytes_needed.ensures) c.if-bitmap-bytes_needed.false; made = filled_is _ _ c.requires _ _ c.disk_size-n.ensures c.first_data-first.ensures.0 _ c.bytes_needed.ensures _ _ c.if-bitmap-bytes_needed.false c.fill_bitmap.ensures }
