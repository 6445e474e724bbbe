use mathlib.Core.Path.{◌≡◌, sym, ◌∙◌}
use mathlib.Core.Bool.{◌||◌}
use borrow.Author.Tests.{eq-eqb, ne_eqb}
use Rattle.rules.specs.Anodes.{is_free}
use Rattle.rules.specs.Accepted.{wrong_fixed}
use Rattle.anodes.specs.Loaded.{anodes_from}
use Rattle.chains.proofs.Laws.{fixed_tests}
use Rattle.chains.proofs.wrong_fixed.Goals as goal

pub returns-then-not_empty : goal.returns-then-not_empty
unfolding anodes_from
returns-then-not_empty c = rw (fixed_tests _, ← c.not_empty.ensures, c.if-not_empty.true)

pub returns-then-entry-ne0 : goal.returns-then-entry-ne0
unfolding anodes_from
returns-then-entry-ne0 c = rw (fixed_tests _, ← c.not_empty.ensures, c.if-not_empty.false, ← c.entry.ensures, ne_eqb _ 0 c.if-entry-ne0.true)

pub returns-then-not_empty-2 : goal.returns-then-not_empty-2
unfolding anodes_from
returns-then-not_empty-2 c = let one_left : let g = c.args in wrong_fixed (anodes_from g.counts.now g.firsts.now g.nexts.now) ≡ (c.not_empty-2.result || (is_free (anodes_from g.counts.now g.firsts.now g.nexts.now) 2 || is_free (anodes_from g.counts.now g.firsts.now g.nexts.now) 5)) = rw (fixed_tests _, ← c.not_empty.ensures, c.if-not_empty.false, ← c.entry.ensures, eq-eqb _ 0 c.if-entry-ne0.false, ← c.not_empty-2.ensures) in
    sym (one_left ∙ rw c.if-not_empty-2.true)

pub returns-then-is_cleared : goal.returns-then-is_cleared
unfolding anodes_from
returns-then-is_cleared c = let one_left : let g = c.args in wrong_fixed (anodes_from g.counts.now g.firsts.now g.nexts.now) ≡ (c.not_empty-2.result || (is_free (anodes_from g.counts.now g.firsts.now g.nexts.now) 2 || is_free (anodes_from g.counts.now g.firsts.now g.nexts.now) 5)) = rw (fixed_tests _, ← c.not_empty.ensures, c.if-not_empty.false, ← c.entry.ensures, eq-eqb _ 0 c.if-entry-ne0.false, ← c.not_empty-2.ensures) in
    sym (one_left ∙ rw (c.if-not_empty-2.false, ← c.is_cleared.ensures, c.if-is_cleared.true))

pub returns : goal.returns
unfolding anodes_from
returns c = let one_left : let g = c.args in wrong_fixed (anodes_from g.counts.now g.firsts.now g.nexts.now) ≡ (c.not_empty-2.result || (is_free (anodes_from g.counts.now g.firsts.now g.nexts.now) 2 || is_free (anodes_from g.counts.now g.firsts.now g.nexts.now) 5)) = rw (fixed_tests _, ← c.not_empty.ensures, c.if-not_empty.false, ← c.entry.ensures, eq-eqb _ 0 c.if-entry-ne0.false, ← c.not_empty-2.ensures) in
    sym (one_left ∙ rw (c.if-not_empty-2.false, ← c.is_cleared.ensures, c.if-is_cleared.false, c.is_cleared-2.ensures))
