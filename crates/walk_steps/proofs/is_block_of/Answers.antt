use mathlib.Core.Path.{◌≡◌, sym, ◌∙◌}
use mathlib.Core.Bool.{◌&&◌, ◌||◌}
use lib.Dec.{eqb}
use borrow.Author.Tests.{eq-eqb, ne_eqb}
use Rattle.directory.specs.Entries.{directory_mark}
use Rattle.rules.specs.Walk.{is_block_of, dir_made}
use Rattle.walk_steps.proofs.is_block_of.Goals as goal

pub returns-then-found-ne17474 : goal.returns-then-found-ne17474
unfolding is_block_of
returns-then-found-ne17474 c = let by-head : let g = c.args in let h = c.directory_header_in-found.result in is_block_of g.image.now (dir_made g.head.0 g.parent.0) g.b.0 ≡ (eqb h.mark directory_mark && (eqb h.owner.0 g.head.0 && (eqb g.head.0 5 || eqb h.parent.0 g.parent.0))) = rw (← c.block_part.ensures, ← c.directory_header_in-found.ensures) in
    sym (by-head ∙ rw (ne_eqb _ _ c.if-found-ne17474.true))

pub returns-then-found-head : goal.returns-then-found-head
unfolding is_block_of
returns-then-found-head c = let by-head : let g = c.args in let h = c.directory_header_in-found.result in is_block_of g.image.now (dir_made g.head.0 g.parent.0) g.b.0 ≡ (eqb h.mark directory_mark && (eqb h.owner.0 g.head.0 && (eqb g.head.0 5 || eqb h.parent.0 g.parent.0))) = rw (← c.block_part.ensures, ← c.directory_header_in-found.ensures) in
    sym (by-head ∙ rw (eq-eqb _ _ c.if-found-ne17474.false, ne_eqb _ _ c.if-found-head.true))

pub returns-then-head-eq5 : goal.returns-then-head-eq5
unfolding is_block_of
returns-then-head-eq5 c = let by-head : let g = c.args in let h = c.directory_header_in-found.result in is_block_of g.image.now (dir_made g.head.0 g.parent.0) g.b.0 ≡ (eqb h.mark directory_mark && (eqb h.owner.0 g.head.0 && (eqb g.head.0 5 || eqb h.parent.0 g.parent.0))) = rw (← c.block_part.ensures, ← c.directory_header_in-found.ensures) in
    sym (by-head ∙ rw (eq-eqb _ _ c.if-found-ne17474.false, eq-eqb _ _ c.if-found-head.false, eq-eqb _ _ c.if-head-eq5.true))

pub returns : goal.returns
unfolding is_block_of
returns c = let by-head : let g = c.args in let h = c.directory_header_in-found.result in is_block_of g.image.now (dir_made g.head.0 g.parent.0) g.b.0 ≡ (eqb h.mark directory_mark && (eqb h.owner.0 g.head.0 && (eqb g.head.0 5 || eqb h.parent.0 g.parent.0))) = rw (← c.block_part.ensures, ← c.directory_header_in-found.ensures) in
    sym (by-head ∙ rw (eq-eqb _ _ c.if-found-ne17474.false, eq-eqb _ _ c.if-found-head.false, ne_eqb _ _ c.if-head-eq5.false))
