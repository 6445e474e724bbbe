use mathlib.Core.Path.{refl, sym, ◌∙◌}
use Rattle.placing.proofs.Cases.{grow_empty, grow_end, grow_start, grow_not}
use Rattle.placing.proofs.grow.Goals as goal

pub returns-then-has-eq0 : goal.returns-then-has-eq0
returns-then-has-eq0 c = λ n other. rw (c.rewrite.ensures n) (grow_empty _ _ n _ _ _ other (sym c.entry-has.ensures ∙ c.if-has-eq0.true))

pub returns-then-from-has : goal.returns-then-from-has
returns-then-from-has c = λ n other. rw (c.rewrite-then-from-has.ensures n, c.entry-from.ensures, c.entry-has.ensures) (grow_end _ _ n _ _ _ other (rw c.entry-has.ensures at c.if-has-eq0.false) (rw (c.entry-from.ensures, c.entry-has.ensures) at c.if-from-has.true))

pub returns-then-first-count : goal.returns-then-first-count
returns-then-first-count c = λ n other. rw (c.rewrite-then-first-count.ensures n, c.entry-has.ensures) (grow_start _ _ n _ _ _ other (rw c.entry-has.ensures at c.if-has-eq0.false) (rw (c.entry-from.ensures, c.entry-has.ensures) at c.if-from-has.false) (rw c.entry-from.ensures at c.if-first-count.true))

pub returns : goal.returns
returns c = λ n. (λ other. grow_not _ _ n _ _ _ other (rw c.entry-has.ensures at c.if-has-eq0.false) (rw (c.entry-from.ensures, c.entry-has.ensures) at c.if-from-has.false) (rw c.entry-from.ensures at c.if-first-count.false), refl)
