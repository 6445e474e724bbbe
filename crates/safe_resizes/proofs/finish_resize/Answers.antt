use mathlib.Core.Path.{◌≡◌, ◌∙◌}
use Prim.Native.Nat.{◌-◌, ◌*◌, ◌≤◌}
use native.Mathlib.Omega.{arith}
use lib.ListN.{length, length-take}
use Rattle.anodes.specs.Loaded.{anodes_from, slots_from}
use Rattle.lookup.specs.Answers.{entered}
use Rattle.change_laws.specs.Reached.{entry-facts}
use Rattle.change_tables.specs.Chains.{reached-entry}
use Rattle.safe_stores.proofs.Staged.{staged_front, staged_behind, staged_whole, loaded_long}
use Rattle.safe_resizes.proofs.Staging.{blocks_few}
use Rattle.safe_resizes.proofs.Images.{file_many, file_inside, place_whole, slots_whole, root_whole, new_extents, short_leaves, done_leaves}
use Rattle.safe_resizes.proofs.finish_resize.Goals as goal

pub overflow_add-count : goal.overflow_add-count
overflow_add-count c = omega (arith, c.used_slots.ensures.1, c.blocks_for-want.ensures, blocks_few c.args.size c.ranges.size.fits)

pub overflow_add-count-2 : goal.overflow_add-count-2
overflow_add-count-2 c = omega (arith, c.used_slots.ensures.1, c.blocks_for-want.ensures, blocks_few c.args.size c.ranges.size.fits)

pub overflow_mul-count : goal.overflow_mul-count
overflow_mul-count c = omega (arith, c.used_slots.ensures.1, c.blocks_for-want.ensures, blocks_few c.args.size c.ranges.size.fits)

pub returns-then-out-count : goal.returns-then-out-count
returns-then-out-count c = let s = c in
    short_leaves (reached-entry s.requires.loaded.0 (entered s.args.image.now s.args.e) s.requires.loaded.1) s.args.size s.requires.loaded.3 _ _ s.requires.resize_plan s.args.out.now s.requires.size_bound (omega (arith, c.if-out-count.true, c.used_slots.ensures.0, c.blocks_for-want.ensures))

pub stage_resized-requires : goal.stage_resized-requires
stage_resized-requires c = let s = c in
    let m = reached-entry s.requires.loaded.0 (entered s.args.image.now s.args.e) s.requires.loaded.1 in
    record { anode_len = omega (arith, loaded_long s.requires.loaded.0 m, (entry-facts m).sized s.requires.loaded.2); stage_len = omega (arith, c.if-out-count.false, c.blocks_for-want.ensures, length-take (c.blocks_for-want.result * 512 - 0) s.args.out.now) }

pub store_resized-requires : goal.store_resized-requires
store_resized-requires c = let s = c in
    let g = c.stage_resized in
    let len = c.blocks_for-want.result * 512 in record { loaded = (s.requires.loaded.0, s.requires.loaded.1, s.requires.loaded.2, s.requires.loaded.3); resize_plan = s.requires.resize_plan; bytes_value = staged_front s.args.out.now g.new.stage len (omega (arith, g.auto.stage, length-take (len - 0) s.args.out.now, c.if-out-count.false)) (omega (arith, c.if-out-count.false)) ∙ g.ensures }

pub list_resized-requires : goal.list_resized-requires
unfolding anodes_from slots_from
list_resized-requires c = let s = c in
    let m = reached-entry s.requires.loaded.0 (entered s.args.image.now s.args.e) s.requires.loaded.1 in
    let g = c.stage_resized in
    let len = c.blocks_for-want.result * 512 in
    let long = c.store_resized.auto in record {
      inside = (λ x p. let w = file_inside m s.args.size s.requires.loaded.3 _ _ s.requires.resize_plan x p in omega (arith, w, long), new_extents m s.args.size s.requires.loaded.3 _ _ s.requires.resize_plan);
      place_in_bounds = (let w = place_whole m s.args.size s.requires.loaded.3 _ _ s.requires.resize_plan in omega (arith, w, long), λ k. let w = slots_whole m s.args.size s.requires.loaded.3 _ _ s.requires.resize_plan k in omega (arith, w, long), let w = root_whole m s.args.size s.requires.loaded.3 _ _ s.requires.resize_plan in omega (arith, w, long));
      slots_in_bounds = omega (
        arith,
        file_many m s.args.size s.requires.loaded.3 _ _ s.requires.resize_plan,
        c.if-out-count.false,
        c.used_slots.ensures.0,
        c.blocks_for-want.ensures,
        staged_whole s.args.out.now g.new.stage len (omega (arith, g.auto.stage, length-take (len - 0) s.args.out.now, c.if-out-count.false)) (omega (arith, c.if-out-count.false)),
      );
    }

pub overflow_cast-result : goal.overflow_cast-result
overflow_cast-result c = omega (arith, c.used_slots.ensures.1, c.blocks_for-want.ensures, blocks_few c.args.size c.ranges.size.fits)

pub returns : goal.returns
returns c = let s = c in
    let g = c.stage_resized in
    let two = g.new.stage in
    let len = c.blocks_for-want.result * 512 in
    let all : length two ≡ len = omega (arith, g.auto.stage, length-take (len - 0) s.args.out.now, c.if-out-count.false) in
    let room : len ≤ length s.args.out.now = omega (arith, c.if-out-count.false) in
    done_leaves (reached-entry s.requires.loaded.0 (entered s.args.image.now s.args.e) s.requires.loaded.1) s.args.size s.requires.loaded.3 _ _ s.requires.resize_plan s.args.out.now s.requires.size_bound (omega (arith, c.if-out-count.false, c.used_slots.ensures.0, c.blocks_for-want.ensures))
    _ len (staged_whole s.args.out.now two len all room) (staged_behind s.args.out.now two len all room) (omega (arith, c.blocks_for-want.ensures)) _ _ c.store_resized.ensures c.list_resized.ensures _ (omega (arith, c.used_slots.ensures.0, c.blocks_for-want.ensures))
