use mathlib.Core.List.{map}
use Rattle.rules.specs.Walk.{entries_in}
use Rattle.walk_steps.specs.Steps.{item_in, items_from}
use mathlib.Core.Path.{◌≡◌, sym, ◌∙◌}
use lib.ListN.{get_or}
use Rattle.rules.specs.Walk.{is_block_of, dir_made}
use Rattle.anodes.specs.Loaded.{anodes_from}
use Rattle.walk_steps.proofs.Laws.{anode_count, anode_mark, anode_block}
use Rattle.walk_steps.proofs.enter_anode.Goals as goal

pub returns-then-entry-ne1 : goal.returns-then-entry-ne1
unfolding anodes_from
returns-then-entry-ne1 c = record { entered = (sym (anode_count _ _ _ _ _ _ _ _ _ _ (λ z. c.if-entry-ne1.true (c.entry.ensures ∙ z))), tt); seen = tt }

pub returns-then-not-is_block_of : goal.returns-then-not-is_block_of
unfolding anodes_from
returns-then-not-is_block_of c = let one_block : let g = c.args in get_or g.counts.now g.a.0 0 ≡ 1 = sym c.entry.ensures ∙ c.if-entry-ne1.false in
    let its-mark : let g = c.args in is_block_of g.image.now (dir_made g.head.0 g.parent.0) (get_or g.firsts.now g.a.0 0) ≡ c.is_block_of.result = rw c.entry-2.ensures at (sym c.is_block_of.ensures) in
    record { entered = (sym (anode_mark _ _ _ _ _ _ _ _ _ _ one_block (its-mark ∙ c.if-not-is_block_of.true)), tt); seen = tt }

pub number_in-requires : goal.number_in-requires
number_in-requires c = c.requires.le_last

pub enter_block-requires : goal.enter_block-requires
enter_block-requires c = let p = c.requires.walk_room in (p.0, rw c.number_in.ensures p.1)

pub returns : goal.returns
unfolding anodes_from
returns c = let one_block : let g = c.args in get_or g.counts.now g.a.0 0 ≡ 1 = sym c.entry.ensures ∙ c.if-entry-ne1.false in
    let its-mark : let g = c.args in is_block_of g.image.now (dir_made g.head.0 g.parent.0) (get_or g.firsts.now g.a.0 0) ≡ c.is_block_of.result = rw c.entry-2.ensures at (sym c.is_block_of.ensures) in
    let its-items : let g = c.args in let item = item_in g.counts.now g.nexts.now g.heads.now in items_from item g.image.now (anodes_from g.counts.now g.firsts.now g.nexts.now) (dir_made g.head.0 g.parent.0) g.a.0 ≡ map item (entries_in g.image.now (get_or g.firsts.now g.a.0 0)) = anode_block _ _ _ _ _ one_block (its-mark ∙ c.if-not-is_block_of.false) in
    rw (its-items, ← c.entry-2.ensures) (rw c.number_in.ensures at c.enter_block.ensures)
