use Rattle.entry_fields.proofs.Laws.{fields_read}
use borrow.Author.Rules.{rules}
use Rattle.entry_fields.proofs.fields_in.Goals as goal

pub returns : goal.returns
returns c = (
  rw (
    c.unless_same.ensures.0,
    c.unless_same-2.ensures.0,
    c.unless_same-3.ensures.0,
    c.unless_same-4.ensures.0,
    c.unless_same-5.ensures.0,
    c.size_differing.ensures.0,
    c.read8.ensures,
    c.read8-2.ensures,
    c.same_bytes-name.ensures,
    c.stored_name.ensures,
    c.stored_name-2.ensures,
    c.same_bytes-comment.ensures,
    c.comment_part.ensures,
    c.comment_part-2.ensures,
    c.same_stamps-stamps.ensures,
    c.read8-3.ensures,
    c.read8-4.ensures,
  )
      (fields_read _ _ _ _ _ _),
  search rules,
)
