use mathlib.Core.Path.{◌≡◌, sym, ◌∙◌}
use borrow.Author.Tests.{eq-eqb, ne_eqb}
use lib.ListN.{get_or-eq_default}
use Rattle.directory.specs.Entries.{entry_in, walked_kind, walked_at}
use Rattle.directory.proofs.entry_at.Goals as goal

pub returns-then-block-at : goal.returns-then-block-at
unfolding walked_at
returns-then-block-at c = rw (get_or-eq_default c.args.block.now 0 c.if-block-at.true)

pub returns-then-block-at-eq0 : goal.returns-then-block-at-eq0
unfolding walked_at
returns-then-block-at-eq0 c = rw (eq-eqb _ _ c.if-block-at-eq0.true)

pub returns-then-not-entry_ok : goal.returns-then-not-entry_ok
unfolding walked_at
returns-then-not-entry_ok c = rw (ne_eqb _ _ c.if-block-at-eq0.false, sym c.entry_ok.ensures ∙ c.if-not-entry_ok.true)

pub returns-in-Ok : goal.returns-in-Ok
unfolding walked_at
returns-in-Ok c = let kind-left : let g = c.args in walked_at g.block.now g.at ≡ walked_kind c.try_from.result (entry_in g.block.now g.at) = rw (ne_eqb _ _ c.if-block-at-eq0.false, sym c.entry_ok.ensures ∙ c.if-not-entry_ok.false, ← c.read8.ensures, ← c.try_from.ensures) in
    sym (kind-left ∙ rw (c.in-Ok.is, ← c.entry_in.ensures))

pub returns-in-Err : goal.returns-in-Err
unfolding walked_at
returns-in-Err c = let kind-left : let g = c.args in walked_at g.block.now g.at ≡ walked_kind c.try_from.result (entry_in g.block.now g.at) = rw (ne_eqb _ _ c.if-block-at-eq0.false, sym c.entry_ok.ensures ∙ c.if-not-entry_ok.false, ← c.read8.ensures, ← c.try_from.ensures) in
    sym (kind-left ∙ rw c.in-Err.is)
