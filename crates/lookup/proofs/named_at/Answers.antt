use Rattle.rules.specs.Lookup.{is_named}
use Rattle.lookup.proofs.named_at.Goals as goal

pub returns-then-has_name : goal.returns-then-has_name
unfolding is_named
returns-then-has_name c = λ img there. rw (there, ← c.has_name.ensures, c.if-has_name.true, c.entry_in_image.ensures, there)

pub returns : goal.returns
unfolding is_named
returns c = λ img there. rw (there, ← c.has_name.ensures, c.if-has_name.false)
