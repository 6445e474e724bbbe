use Rattle.entry_pairs.proofs.Laws.{hand_empty, hand_single, both_same, both_differ}
use Rattle.handing.specs.HandLaws.{hand_full}
use mathlib.Core.Path.{sym, ◌∙◌}
use Rattle.entry_pairs.proofs.hand_both.Goals as goal

pub returns-then-has_no_room : goal.returns-then-has_no_room
returns-then-has_no_room c = sym (hand_full _ _ (sym c.has_no_room.ensures ∙ c.if-has_no_room.true))

pub returns-then-is_same : goal.returns-then-is_same
returns-then-is_same c = hand_empty _ _ (both_same _ _ _ _ _ _ c.fields_differing-fields.ensures.0 c.entry_bytes-bytes.ensures (sym c.is_same.ensures ∙ c.if-is_same.true))

pub returns : goal.returns
returns c = c.hand_out.ensures ∙ hand_single _ _ _ (both_differ _ _ _ _ _ _ c.fields_differing-fields.ensures.0 c.entry_bytes-bytes.ensures (sym c.is_same.ensures ∙ c.if-is_same.false))
