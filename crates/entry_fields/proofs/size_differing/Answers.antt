use Rattle.entry_fields.proofs.size_differing.Goals as goal

pub returns-then-alike : goal.returns-then-alike
returns-then-alike c = (rw c.if-alike.true c.unless_same.ensures.0, c.unless_same.ensures.1)
