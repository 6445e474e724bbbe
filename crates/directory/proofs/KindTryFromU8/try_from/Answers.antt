use borrow.Author.Tests.{eq-eqb, ne_eqb}
use Rattle.directory.specs.Entries.{kind_read}
use Rattle.directory.proofs.KindTryFromU8.try_from.Goals as goal

pub returns-then-byte-eq253 : goal.returns-then-byte-eq253
unfolding kind_read
returns-then-byte-eq253 c = simp (eq-eqb _ _ c.if-byte-eq253.true)

pub returns-then-byte-eq2 : goal.returns-then-byte-eq2
unfolding kind_read
returns-then-byte-eq2 c = simp (ne_eqb _ _ c.if-byte-eq253.false, eq-eqb _ _ c.if-byte-eq2.true)

pub returns : goal.returns
unfolding kind_read
returns c = simp (ne_eqb _ _ c.if-byte-eq253.false, ne_eqb _ _ c.if-byte-eq2.false)
