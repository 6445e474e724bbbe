use native.Mathlib.Omega.{arith}
use Rattle.anodes.specs.Loaded.{slots_from}
use Rattle.lookup.specs.Answers.{entered}
use Rattle.change_tables.specs.Chains.{reached-entry}
use Rattle.safe_removes.proofs.Images.{place_whole, slots_whole, root_whole, short_leaves, done_leaves}
use Rattle.safe_removes.proofs.finish_removal.Goals as goal

pub returns-then-out-count : goal.returns-then-out-count
returns-then-out-count c = let s = c in
    short_leaves (reached-entry s.requires.loaded.0 (entered s.args.image.now s.args.e) s.requires.loaded.1) _ _ s.requires.e_value s.args.out.now s.requires.e_bound (omega (arith, c.if-out-count.true, c.used_slots-count.ensures.0))

pub put_write-at-requires : goal.put_write-at-requires
put_write-at-requires c = let s = c in
    let w = place_whole (reached-entry s.requires.loaded.0 (entered s.args.image.now s.args.e) s.requires.loaded.1) _ _ s.requires.e_value in
    (omega (arith, w, c.store_removal.auto), omega (arith, c.if-out-count.false, c.used_slots-count.ensures.0))

pub put_end-requires : goal.put_end-requires
unfolding slots_from
put_end-requires c = let s = c in
    let m = reached-entry s.requires.loaded.0 (entered s.args.image.now s.args.e) s.requires.loaded.1 in
    let long = c.store_removal.auto in record { by_index = (λ k. let w = slots_whole m _ _ s.requires.e_value k in omega (arith, w, long), let w = root_whole m _ _ s.requires.e_value in omega (arith, w, long)); slots_in_bounds = omega (arith, c.if-out-count.false, c.used_slots-count.ensures.0, c.put_write-at.ensures.1, c.put_write-at.auto) }

pub returns : goal.returns
returns c = let s = c in
    done_leaves (reached-entry s.requires.loaded.0 (entered s.args.image.now s.args.e) s.requires.loaded.1) _ _ s.requires.e_value s.args.out.now s.requires.e_bound (omega (arith, c.if-out-count.false, c.used_slots-count.ensures.0)) _ _ _ _ c.store_removal.ensures c.put_write-at.ensures.0 c.put_write-at.ensures.1 c.put_end.ensures _ (omega (arith, c.used_slots-count.ensures.0))
