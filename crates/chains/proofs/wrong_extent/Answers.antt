use mathlib.Core.Path.{◌≡◌, sym, ◌∙◌}
use mathlib.Core.Bool.{not, ◌&&◌, ◌||◌}
use lib.Dec.{eqb}
use lib.ListN.{get_or}
use borrow.Author.Tests.{eq-eqb, ne_eqb}
use Rattle.rules.specs.Accepted.{wrong_extent}
use Rattle.anodes.specs.Loaded.{anodes_from}
use Rattle.chains.proofs.wrong_extent.Goals as goal

pub returns-then-a-eq0 : goal.returns-then-a-eq0
unfolding wrong_extent anodes_from
returns-then-a-eq0 c = simp (eq-eqb _ _ c.if-a-eq0.true)

pub returns-then-ends_past : goal.returns-then-ends_past
unfolding wrong_extent anodes_from
returns-then-ends_past c = let extent-left : let g = c.args in let n = get_or g.nexts.now g.a 0 in wrong_extent (anodes_from g.counts.now g.firsts.now g.nexts.now) g.size g.a ≡ (c.ends_past.result || (not (eqb n 0) && eqb (get_or g.firsts.now n 0) 0)) = rw (ne_eqb _ _ c.if-a-eq0.false, ← c.entry.ensures, ← c.entry-2.ensures, ← c.ends_past.ensures) in
    sym (extent-left ∙ rw c.if-ends_past.true)

pub returns-then-next-eq0 : goal.returns-then-next-eq0
unfolding wrong_extent anodes_from
returns-then-next-eq0 c = let extent-left : let g = c.args in let n = get_or g.nexts.now g.a 0 in wrong_extent (anodes_from g.counts.now g.firsts.now g.nexts.now) g.size g.a ≡ (c.ends_past.result || (not (eqb n 0) && eqb (get_or g.firsts.now n 0) 0)) = rw (ne_eqb _ _ c.if-a-eq0.false, ← c.entry.ensures, ← c.entry-2.ensures, ← c.ends_past.ensures) in
    sym (extent-left ∙ rw (c.if-ends_past.false, ← c.entry-next.ensures, eq-eqb _ _ c.if-next-eq0.true))

pub returns : goal.returns
unfolding wrong_extent anodes_from
returns c = let extent-left : let g = c.args in let n = get_or g.nexts.now g.a 0 in wrong_extent (anodes_from g.counts.now g.firsts.now g.nexts.now) g.size g.a ≡ (c.ends_past.result || (not (eqb n 0) && eqb (get_or g.firsts.now n 0) 0)) = rw (ne_eqb _ _ c.if-a-eq0.false, ← c.entry.ensures, ← c.entry-2.ensures, ← c.ends_past.ensures) in
    sym (extent-left ∙ rw (c.if-ends_past.false, ← c.entry-next.ensures, ne_eqb _ _ c.if-next-eq0.false, c.entry-3.ensures))
