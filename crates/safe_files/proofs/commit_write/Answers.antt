use mathlib.Core.Path.{refl, sym, ap, ◌∙◌}
use Prim.Native.Nat.{ℕ, ◌-◌, ◌*◌}
use native.Mathlib.Omega.{arith}
use lib.ListN.{length, length-take}
use Rattle.anodes.specs.Loaded.{anodes_from, slots_from}
use Rattle.lookup.specs.Answers.{entered}
use Rattle.change_tables.specs.Chains.{reached-entry}
use Rattle.safe_stores.proofs.Staged.{loaded_long}
use Rattle.safe_files.proofs.Planned.{moves_table, chain_whole, slots_whole, root_whole, blocks_once, blocks_many, new_extents, table_long, list_long, committed}
use Rattle.safe_files.proofs.commit_write.Goals as goal

pub stage_written-requires : goal.stage_written-requires
stage_written-requires c = let s = c in
    let m = reached-entry s.requires.loaded.0 (entered s.args.image.now s.args.e) s.requires.loaded.1 in
    (ap (λ (n : ℕ). n * 512) s.requires.loaded.3 ∙ sym (loaded_long s.requires.loaded.0 m), omega (arith, s.requires.loaded.3, s.requires.by_index.1.1, list_long m s.requires.loaded.2 _ _ _ _ s.requires.by_index.1.0))

pub store_table-requires : goal.store_table-requires
store_table-requires c = let s = c in
    (s.requires.loaded.0, moves_table (reached-entry s.requires.loaded.0 (entered s.args.image.now s.args.e) s.requires.loaded.1) s.requires.loaded.2 _ _ _ _ s.requires.by_index.1.0)

pub slice_bounds-store_file-end : goal.slice_bounds-store_file-end
slice_bounds-store_file-end c = let s = c in
    let m = reached-entry s.requires.loaded.0 (entered s.args.image.now s.args.e) s.requires.loaded.1 in
    omega (arith, s.requires.loaded.3, s.requires.by_index.1.1, list_long m s.requires.loaded.2 _ _ _ _ s.requires.by_index.1.0, c.stage_written.auto.out)

pub store_file-requires : goal.store_file-requires
store_file-requires c = let s = c in
    let m = reached-entry s.requires.loaded.0 (entered s.args.image.now s.args.e) s.requires.loaded.1 in
    let w = c.store_table in record { inside_once = (chain_whole m s.requires.loaded.2 _ _ _ _ s.requires.by_index.1.0 w.new.image (ap length w.ensures ∙ table_long m s.requires.loaded.2 _ _ _ _ s.requires.by_index.1.0), blocks_once m s.requires.loaded.2 _ _ _ _ s.requires.by_index.1.0); bytes_len = omega (arith, s.requires.loaded.3, s.requires.by_index.1.1, list_long m s.requires.loaded.2 _ _ _ _ s.requires.by_index.1.0, blocks_many m s.requires.loaded.2 _ _ _ _ s.requires.by_index.1.0, c.stage_written.auto.out, length-take (s.args.have * 512 - 0) c.stage_written.new.out) }

pub put_chain-at-requires : goal.put_chain-at-requires
unfolding anodes_from
put_chain-at-requires c = let s = c in
    let m = reached-entry s.requires.loaded.0 (entered s.args.image.now s.args.e) s.requires.loaded.1 in
    let long = c.store_file.auto.image ∙ ap length c.store_table.ensures ∙ table_long m s.requires.loaded.2 _ _ _ _ s.requires.by_index.1.0 in
    record { inside = chain_whole m s.requires.loaded.2 _ _ _ _ s.requires.by_index.1.0 c.store_file.new.image long; by_index = new_extents m s.requires.loaded.2 _ _ _ _ s.requires.by_index.1.0; head_in_bounds = omega (arith, s.requires.by_index.1.1, list_long m s.requires.loaded.2 _ _ _ _ s.requires.by_index.1.0, blocks_many m s.requires.loaded.2 _ _ _ _ s.requires.by_index.1.0, c.stage_written.auto.out) }

pub put_end-requires : goal.put_end-requires
unfolding slots_from
put_end-requires c = let s = c in
    let m = reached-entry s.requires.loaded.0 (entered s.args.image.now s.args.e) s.requires.loaded.1 in
    let long = c.store_file.auto.image ∙ ap length c.store_table.ensures ∙ table_long m s.requires.loaded.2 _ _ _ _ s.requires.by_index.1.0 in record { by_index = (slots_whole m s.requires.loaded.2 _ _ _ _ s.requires.by_index.1.0 c.store_file.new.image long, root_whole m s.requires.loaded.2 _ _ _ _ s.requires.by_index.1.0 c.store_file.new.image long); slots_in_bounds = omega (arith, s.requires.by_index.1.1, list_long m s.requires.loaded.2 _ _ _ _ s.requires.by_index.1.0, blocks_many m s.requires.loaded.2 _ _ _ _ s.requires.by_index.1.0, c.put_chain-at.ensures.1, c.put_chain-at.auto.out, c.stage_written.auto.out) }

pub returns : goal.returns
returns c = λ ys w.
    let s = c in
    let m = reached-entry s.requires.loaded.0 (entered s.args.image.now s.args.e) s.requires.loaded.1 in
    let g = c.stage_written in
    let i = c.store_table in
    let f = c.store_file in
    let p = c.put_chain-at in
    let long = f.auto.image ∙ ap length i.ensures ∙ table_long m s.requires.loaded.2 _ _ _ _ w.0 in
    committed m s.requires.loaded.2 _ _ _ ys w.0 s.requires.loaded.0 (s.args.have * 512) (ap (λ (n : ℕ). n * 512) s.requires.loaded.3) _ _ g.auto.out g.ensures.0 g.ensures.1 _ _ _ i.ensures refl f.ensures _ _ _ p.ensures.0 p.ensures.1 c.put_end.ensures (chain_whole m s.requires.loaded.2 _ _ _ ys w.0 f.new.image long)
