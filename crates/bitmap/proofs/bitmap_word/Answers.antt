use borrow.Author.Tests.{eq-eqb, ne_eqb}
use Rattle.bitmap.specs.Bitmap.{bitmap_word}
use Rattle.bitmap.proofs.bitmap_word.Goals as goal

pub returns-then-q-eq0 : goal.returns-then-q-eq0
unfolding bitmap_word
returns-then-q-eq0 c = rw (eq-eqb _ 0 c.if-q-eq0.true)

pub returns-then-q-eq1 : goal.returns-then-q-eq1
unfolding bitmap_word
returns-then-q-eq1 c = rw (ne_eqb _ 0 c.if-q-eq0.false, eq-eqb _ 1 c.if-q-eq1.true)

pub returns-then-q-eq2 : goal.returns-then-q-eq2
unfolding bitmap_word
returns-then-q-eq2 c = rw (ne_eqb _ 0 c.if-q-eq0.false, ne_eqb _ 1 c.if-q-eq1.false, eq-eqb _ 2 c.if-q-eq2.true)

pub returns : goal.returns
unfolding bitmap_word
returns c = rw (ne_eqb _ 0 c.if-q-eq0.false, ne_eqb _ 1 c.if-q-eq1.false, ne_eqb _ 2 c.if-q-eq2.false) c.longword.ensures
