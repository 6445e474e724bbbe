use borrow.Author.Tests.{eq-eqb, ne_eqb}
use Rattle.directory.specs.Entries.{good_name_byte}
use Rattle.directory.proofs.name_byte.Goals as goal

pub returns-then-byte-eq0 : goal.returns-then-byte-eq0
unfolding good_name_byte
returns-then-byte-eq0 c = simp (eq-eqb _ _ c.if-byte-eq0.true)

pub returns-then-byte-eq58 : goal.returns-then-byte-eq58
unfolding good_name_byte
returns-then-byte-eq58 c = simp (ne_eqb _ _ c.if-byte-eq0.false, eq-eqb _ _ c.if-byte-eq58.true)

pub returns : goal.returns
unfolding good_name_byte
returns c = simp (ne_eqb _ _ c.if-byte-eq0.false, ne_eqb _ _ c.if-byte-eq58.false)
