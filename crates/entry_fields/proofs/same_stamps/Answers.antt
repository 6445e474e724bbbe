use borrow.Author.Tests.{eq-eqb, ne_eqb}
use Rattle.paths.specs.Facts.{facts_in}
use Rattle.differences.specs.Fields.{same_stamps}
use Rattle.entry_fields.proofs.same_stamps.Goals as goal

pub returns-then-read16 : goal.returns-then-read16
unfolding same_stamps facts_in
returns-then-read16 c = rw (← c.read16.ensures, ← c.read16-2.ensures, ne_eqb _ _ c.if-read16.true)

pub returns-then-read16-2 : goal.returns-then-read16-2
unfolding same_stamps facts_in
returns-then-read16-2 c = rw (← c.read16.ensures, ← c.read16-2.ensures, eq-eqb _ _ c.if-read16.false, ← c.read16-3.ensures, ← c.read16-4.ensures, ne_eqb _ _ c.if-read16-2.true)

pub returns : goal.returns
unfolding same_stamps facts_in
returns c = rw (
  ← c.read16.ensures,
  ← c.read16-2.ensures,
  eq-eqb _ _ c.if-read16.false,
  ← c.read16-3.ensures,
  ← c.read16-4.ensures,
  eq-eqb _ _ c.if-read16-2.false,
  ← c.read16-5.ensures,
  ← c.read16-6.ensures,
)
