use mathlib.Core.Bool.{true, false}
use mathlib.Core.List.{[]}
use mathlib.Core.Path.{◌≡◌, refl, sym, ◌∙◌}
use native.Mathlib.Omega.{arith}
use lib.ListN.{drop}
use Rattle.rules.specs.Counting.{any_below}
use Rattle.rules.specs.Accepted.{disk_size, last_reserved, out_of_range, wrong_free_list, no_owner}
use Rattle.anodes.specs.Loaded.{anodes_from}
use Rattle.laws.specs.OwnerTable.{heads_past}
use Rattle.fsck.proofs.Laws.{kept-all}
use Rattle.fsck.proofs.Space.{Passed6, Passed7, Passed8, Passed9, Passed10, space-6, space-7, space-8, view, closed, links, space-9, space-10, space-11, heads_some, shown, last_of, none_of, zero-end}
use Rattle.fsck.proofs.test_space.Goals as goal

pub returns-then-wrong_fixed : goal.returns-then-wrong_fixed
returns-then-wrong_fixed c = record { answer = space-6 _ _ _ _ c.requires.nexts_value (sym c.wrong_fixed.ensures ∙ c.if-wrong_fixed.true); tables = kept-all _ _ _ }

pub returns-then-out_of_range : goal.returns-then-out_of_range
returns-then-out_of_range c = let size-at : c.disk_size-n.result ≡ disk_size c.args.image.now = c.disk_size-n.ensures in
    let said-7 : let g = c.args in any_below (out_of_range (anodes_from g.counts.now g.firsts.now g.nexts.now) (disk_size g.image.now)) 3444 ≡ c.out_of_range.result = rw size-at at (sym c.out_of_range.ensures) in
    let passed-6 : Passed6 c.args.image.now c.args.counts.now c.args.firsts.now c.args.nexts.now = record { loaded = c.requires.nexts_value; fixed_right = sym c.wrong_fixed.ensures ∙ c.if-wrong_fixed.false } in
    record { answer = space-7 passed-6 (said-7 ∙ c.if-out_of_range.true); tables = kept-all _ _ _ }

pub wrong_links-requires : goal.wrong_links-requires
wrong_links-requires c = let size-at : c.disk_size-n.result ≡ disk_size c.args.image.now = c.disk_size-n.ensures in
    let said-7 : let g = c.args in any_below (out_of_range (anodes_from g.counts.now g.firsts.now g.nexts.now) (disk_size g.image.now)) 3444 ≡ c.out_of_range.result = rw size-at at (sym c.out_of_range.ensures) in
    let passed-6 : Passed6 c.args.image.now c.args.counts.now c.args.firsts.now c.args.nexts.now = record { loaded = c.requires.nexts_value; fixed_right = sym c.wrong_fixed.ensures ∙ c.if-wrong_fixed.false } in
    let passed-7 : Passed7 c.args.image.now c.args.counts.now c.args.firsts.now c.args.nexts.now = record { six = passed-6; in_range = said-7 ∙ c.if-out_of_range.false } in
    let p = passed-7 in
    let s = c in
    (refl, s.requires.anode_tables.1, s.requires.anode_tables.2, view p, zero-end p, closed p)

pub returns-then-wrong_links : goal.returns-then-wrong_links
returns-then-wrong_links c = let size-at : c.disk_size-n.result ≡ disk_size c.args.image.now = c.disk_size-n.ensures in
    let said-7 : let g = c.args in any_below (out_of_range (anodes_from g.counts.now g.firsts.now g.nexts.now) (disk_size g.image.now)) 3444 ≡ c.out_of_range.result = rw size-at at (sym c.out_of_range.ensures) in
    let passed-6 : Passed6 c.args.image.now c.args.counts.now c.args.firsts.now c.args.nexts.now = record { loaded = c.requires.nexts_value; fixed_right = sym c.wrong_fixed.ensures ∙ c.if-wrong_fixed.false } in
    let passed-7 : Passed7 c.args.image.now c.args.counts.now c.args.firsts.now c.args.nexts.now = record { six = passed-6; in_range = said-7 ∙ c.if-out_of_range.false } in
    record { answer = space-8 passed-7 (sym (c.wrong_links.ensures.answer _) ∙ c.if-wrong_links.true); tables = kept-all _ _ _ }

pub fill_heads-requires : goal.fill_heads-requires
fill_heads-requires c = let size-at : c.disk_size-n.result ≡ disk_size c.args.image.now = c.disk_size-n.ensures in
    let said-7 : let g = c.args in any_below (out_of_range (anodes_from g.counts.now g.firsts.now g.nexts.now) (disk_size g.image.now)) 3444 ≡ c.out_of_range.result = rw size-at at (sym c.out_of_range.ensures) in
    let passed-6 : Passed6 c.args.image.now c.args.counts.now c.args.firsts.now c.args.nexts.now = record { loaded = c.requires.nexts_value; fixed_right = sym c.wrong_fixed.ensures ∙ c.if-wrong_fixed.false } in
    let passed-7 : Passed7 c.args.image.now c.args.counts.now c.args.firsts.now c.args.nexts.now = record { six = passed-6; in_range = said-7 ∙ c.if-out_of_range.false } in
    let passed-8 : Passed8 c.args.image.now c.args.counts.now c.args.firsts.now c.args.nexts.now = record { seven = passed-7; links_right = sym (c.wrong_links.ensures.answer _) ∙ c.if-wrong_links.false } in
    let p = passed-8 in
    let s = c in
    (s.requires.zeroed.room.for_anodes, s.requires.zeroed.anodes_zero, links p, c.wrong_links.ensures.noted c.if-wrong_links.false)

pub returns-then-wrong_free_list : goal.returns-then-wrong_free_list
returns-then-wrong_free_list c = let size-at : c.disk_size-n.result ≡ disk_size c.args.image.now = c.disk_size-n.ensures in
    let said-7 : let g = c.args in any_below (out_of_range (anodes_from g.counts.now g.firsts.now g.nexts.now) (disk_size g.image.now)) 3444 ≡ c.out_of_range.result = rw size-at at (sym c.out_of_range.ensures) in
    let said-9 : let g = c.args in wrong_free_list (anodes_from g.counts.now g.firsts.now g.nexts.now) (last_reserved g.image.now) ≡ c.wrong_free_list.result = rw (last_of _ _ _ c.block_part.ensures c.root_in-root.ensures) at (sym c.wrong_free_list.ensures) in
    let heads_kept : drop 3444 c.fill_heads.new.heads ≡ drop 3444 c.args.anodes.now = heads_past _ _ c.args.anodes.now (c.fill_heads.ensures []) in
    let passed-6 : Passed6 c.args.image.now c.args.counts.now c.args.firsts.now c.args.nexts.now = record { loaded = c.requires.nexts_value; fixed_right = sym c.wrong_fixed.ensures ∙ c.if-wrong_fixed.false } in
    let passed-7 : Passed7 c.args.image.now c.args.counts.now c.args.firsts.now c.args.nexts.now = record { six = passed-6; in_range = said-7 ∙ c.if-out_of_range.false } in
    let passed-8 : Passed8 c.args.image.now c.args.counts.now c.args.firsts.now c.args.nexts.now = record { seven = passed-7; links_right = sym (c.wrong_links.ensures.answer _) ∙ c.if-wrong_links.false } in
    record { answer = space-9 passed-8 (said-9 ∙ c.if-wrong_free_list.true); tables = record { blocks-kept = refl; anodes_kept = heads_kept } }

pub mark_owners-requires : goal.mark_owners-requires
mark_owners-requires c = let size-at : c.disk_size-n.result ≡ disk_size c.args.image.now = c.disk_size-n.ensures in
    let said-7 : let g = c.args in any_below (out_of_range (anodes_from g.counts.now g.firsts.now g.nexts.now) (disk_size g.image.now)) 3444 ≡ c.out_of_range.result = rw size-at at (sym c.out_of_range.ensures) in
    let said-9 : let g = c.args in wrong_free_list (anodes_from g.counts.now g.firsts.now g.nexts.now) (last_reserved g.image.now) ≡ c.wrong_free_list.result = rw (last_of _ _ _ c.block_part.ensures c.root_in-root.ensures) at (sym c.wrong_free_list.ensures) in
    let passed-6 : Passed6 c.args.image.now c.args.counts.now c.args.firsts.now c.args.nexts.now = record { loaded = c.requires.nexts_value; fixed_right = sym c.wrong_fixed.ensures ∙ c.if-wrong_fixed.false } in
    let passed-7 : Passed7 c.args.image.now c.args.counts.now c.args.firsts.now c.args.nexts.now = record { six = passed-6; in_range = said-7 ∙ c.if-out_of_range.false } in
    let passed-8 : Passed8 c.args.image.now c.args.counts.now c.args.firsts.now c.args.nexts.now = record { seven = passed-7; links_right = sym (c.wrong_links.ensures.answer _) ∙ c.if-wrong_links.false } in
    let passed-9 : Passed9 c.args.image.now c.args.counts.now c.args.firsts.now c.args.nexts.now = record { eight = passed-8; free_right = said-9 ∙ c.if-wrong_free_list.false } in
    let p = passed-9.eight in
    let s = c in record { counts_len = (s.requires.anode_tables.0, s.requires.anode_tables.1, omega (arith, s.requires.zeroed.room.for_anodes, c.fill_heads.auto.heads)); image_value = (s.requires.image_value.0, s.requires.image_value.1, s.requires.zeroed.room.for_blocks); zero_below = s.requires.zeroed.blocks-zero; by_index = (_, p.seven.six.fixed_right, p.seven.in_range); by_index_2 = heads_some p _ s.args.anodes.now (c.fill_heads.ensures _) }

pub returns-then-mark_owners : goal.returns-then-mark_owners
returns-then-mark_owners c = let size-at : c.disk_size-n.result ≡ disk_size c.args.image.now = c.disk_size-n.ensures in
    let said-7 : let g = c.args in any_below (out_of_range (anodes_from g.counts.now g.firsts.now g.nexts.now) (disk_size g.image.now)) 3444 ≡ c.out_of_range.result = rw size-at at (sym c.out_of_range.ensures) in
    let said-9 : let g = c.args in wrong_free_list (anodes_from g.counts.now g.firsts.now g.nexts.now) (last_reserved g.image.now) ≡ c.wrong_free_list.result = rw (last_of _ _ _ c.block_part.ensures c.root_in-root.ensures) at (sym c.wrong_free_list.ensures) in
    let heads_kept : drop 3444 c.fill_heads.new.heads ≡ drop 3444 c.args.anodes.now = heads_past _ _ c.args.anodes.now (c.fill_heads.ensures []) in
    let passed-6 : Passed6 c.args.image.now c.args.counts.now c.args.firsts.now c.args.nexts.now = record { loaded = c.requires.nexts_value; fixed_right = sym c.wrong_fixed.ensures ∙ c.if-wrong_fixed.false } in
    let passed-7 : Passed7 c.args.image.now c.args.counts.now c.args.firsts.now c.args.nexts.now = record { six = passed-6; in_range = said-7 ∙ c.if-out_of_range.false } in
    let passed-8 : Passed8 c.args.image.now c.args.counts.now c.args.firsts.now c.args.nexts.now = record { seven = passed-7; links_right = sym (c.wrong_links.ensures.answer _) ∙ c.if-wrong_links.false } in
    let passed-9 : Passed9 c.args.image.now c.args.counts.now c.args.firsts.now c.args.nexts.now = record { eight = passed-8; free_right = said-9 ∙ c.if-wrong_free_list.false } in
    let m = c.mark_owners in
    record { answer = space-10 passed-9 (sym (m.ensures.two _) ∙ c.if-mark_owners.true); tables = record { blocks-kept = m.ensures.kept; anodes_kept = heads_kept } }

pub no_owner-requires : goal.no_owner-requires
no_owner-requires c = omega (arith, c.requires.zeroed.room.for_blocks, c.disk_size-n.ensures, c.mark_owners.auto.blocks)

pub returns-then-no_owner : goal.returns-then-no_owner
returns-then-no_owner c = let size-at : c.disk_size-n.result ≡ disk_size c.args.image.now = c.disk_size-n.ensures in
    let said-7 : let g = c.args in any_below (out_of_range (anodes_from g.counts.now g.firsts.now g.nexts.now) (disk_size g.image.now)) 3444 ≡ c.out_of_range.result = rw size-at at (sym c.out_of_range.ensures) in
    let said-9 : let g = c.args in wrong_free_list (anodes_from g.counts.now g.firsts.now g.nexts.now) (last_reserved g.image.now) ≡ c.wrong_free_list.result = rw (last_of _ _ _ c.block_part.ensures c.root_in-root.ensures) at (sym c.wrong_free_list.ensures) in
    let said-11 : let g = c.args in no_owner g.image.now (anodes_from g.counts.now g.firsts.now g.nexts.now) ≡ c.no_owner.result = sym (none_of _ _ _ _ _ c.disk_size-n.ensures (c.mark_owners.ensures.marked c.if-mark_owners.false _)) ∙ sym c.no_owner.ensures in
    let heads_kept : drop 3444 c.fill_heads.new.heads ≡ drop 3444 c.args.anodes.now = heads_past _ _ c.args.anodes.now (c.fill_heads.ensures []) in
    let passed-6 : Passed6 c.args.image.now c.args.counts.now c.args.firsts.now c.args.nexts.now = record { loaded = c.requires.nexts_value; fixed_right = sym c.wrong_fixed.ensures ∙ c.if-wrong_fixed.false } in
    let passed-7 : Passed7 c.args.image.now c.args.counts.now c.args.firsts.now c.args.nexts.now = record { six = passed-6; in_range = said-7 ∙ c.if-out_of_range.false } in
    let passed-8 : Passed8 c.args.image.now c.args.counts.now c.args.firsts.now c.args.nexts.now = record { seven = passed-7; links_right = sym (c.wrong_links.ensures.answer _) ∙ c.if-wrong_links.false } in
    let passed-9 : Passed9 c.args.image.now c.args.counts.now c.args.firsts.now c.args.nexts.now = record { eight = passed-8; free_right = said-9 ∙ c.if-wrong_free_list.false } in
    let passed-10 : Passed10 c.args.image.now c.args.counts.now c.args.firsts.now c.args.nexts.now = record { nine = passed-9; none_twice = sym (c.mark_owners.ensures.two _) ∙ c.if-mark_owners.false } in
    record { answer = space-11 passed-10 true (said-11 ∙ c.if-no_owner.true); tables = record { blocks-kept = c.mark_owners.ensures.kept; anodes_kept = heads_kept } }

pub returns : goal.returns
returns c = let size-at : c.disk_size-n.result ≡ disk_size c.args.image.now = c.disk_size-n.ensures in
    let said-7 : let g = c.args in any_below (out_of_range (anodes_from g.counts.now g.firsts.now g.nexts.now) (disk_size g.image.now)) 3444 ≡ c.out_of_range.result = rw size-at at (sym c.out_of_range.ensures) in
    let said-9 : let g = c.args in wrong_free_list (anodes_from g.counts.now g.firsts.now g.nexts.now) (last_reserved g.image.now) ≡ c.wrong_free_list.result = rw (last_of _ _ _ c.block_part.ensures c.root_in-root.ensures) at (sym c.wrong_free_list.ensures) in
    let said-11 : let g = c.args in no_owner g.image.now (anodes_from g.counts.now g.firsts.now g.nexts.now) ≡ c.no_owner.result = sym (none_of _ _ _ _ _ c.disk_size-n.ensures (c.mark_owners.ensures.marked c.if-mark_owners.false _)) ∙ sym c.no_owner.ensures in
    let passed-6 : Passed6 c.args.image.now c.args.counts.now c.args.firsts.now c.args.nexts.now = record { loaded = c.requires.nexts_value; fixed_right = sym c.wrong_fixed.ensures ∙ c.if-wrong_fixed.false } in
    let passed-7 : Passed7 c.args.image.now c.args.counts.now c.args.firsts.now c.args.nexts.now = record { six = passed-6; in_range = said-7 ∙ c.if-out_of_range.false } in
    let passed-8 : Passed8 c.args.image.now c.args.counts.now c.args.firsts.now c.args.nexts.now = record { seven = passed-7; links_right = sym (c.wrong_links.ensures.answer _) ∙ c.if-wrong_links.false } in
    let passed-9 : Passed9 c.args.image.now c.args.counts.now c.args.firsts.now c.args.nexts.now = record { eight = passed-8; free_right = said-9 ∙ c.if-wrong_free_list.false } in
    let passed-10 : Passed10 c.args.image.now c.args.counts.now c.args.firsts.now c.args.nexts.now = record { nine = passed-9; none_twice = sym (c.mark_owners.ensures.two _) ∙ c.if-mark_owners.false } in
    let m = c.mark_owners in
    let s = c in
    let p = passed-10 in
    record { answer = space-11 p false (said-11 ∙ c.if-no_owner.false); tables = shown p.nine.eight _ s.args.anodes.now (c.fill_heads.ensures _) _ _ m.ensures.kept (omega (arith, s.requires.zeroed.room.for_blocks, m.auto.blocks)) (m.ensures.marked c.if-mark_owners.false _) }
