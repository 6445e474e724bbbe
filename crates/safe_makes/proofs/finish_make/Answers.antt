use native.Mathlib.Omega.{arith}
use Rattle.directory.specs.Entries.{is_dir}
use Rattle.rules.specs.Changes.{NewEntry, new_entry}
use Rattle.anodes.specs.Loaded.{slots_from}
use Rattle.change_laws.specs.Image.{ReachedDir}
use Rattle.change_tables.specs.Chains.{loaded_image}
use Rattle.safe_makes.proofs.Made.{root_whole, to_inside, own_inside, slots_whole, as_counted, made-short, made-done}
use Rattle.safe_makes.proofs.finish_make.Goals as goal
use Rattle.safe_makes.proofs.finish_make.Goals.{Start}

-- the entry and the directory
abbrev new : Start → NewEntry
new c = let a = c.args in new_entry (is_dir a.kind) a.name.now a.comment.now a.day a.minute a.tick a.protection

home : (c : Start) → ReachedDir c.args.image.now c.args.head.0
home c = record { image = loaded_image c.requires.loaded; reached = c.requires.head_value.0 }

pub returns-then-out-count : goal.returns-then-out-count
returns-then-out-count c =
    let at = (goal.at.returns-then-out-count c).Start in
    made-short (home at) (new at) _ _ _ c.requires.safely_made c.requires.count_value.2 c.args.out.now _ c.requires.count_value.0 c.if-out-count.true

pub store_make-requires : goal.store_make-requires
store_make-requires c = record { loaded = c.requires.loaded; head_value = c.requires.head_value; name_value = c.requires.name_value; safely_made = c.requires.safely_made }

pub list_make-requires : goal.list_make-requires
unfolding slots_from
list_make-requires c =
    let at = (goal.at.list_make-requires c).Start in
    let p = c.requires.safely_made in
    let n = c.requires.count_value in
    let long = c.store_make.auto.image in
    record {
      own_in_bounds = (
        omega (arith, own_inside (home at) (new at) _ _ _ p, long),
        omega (arith, to_inside (home at) (new at) _ _ _ p, long),
        omega (arith, root_whole (home at) (new at) _ _ _ p, long),
        λ k. omega (arith, slots_whole (home at) (new at) _ _ _ p k, long),
      );
      slots_in_bounds = omega (arith, as_counted (home at) (new at) _ _ _ p n.2 c.args.out.now, n.0, c.if-out-count.false);
    }

pub returns : goal.returns
returns c =
    let at = (goal.at.returns c).Start in
    let p = c.requires.safely_made in
    made-done (home at) (new at) _ _ _ p c.requires.count_value.2 c.args.out.now _ c.requires.count_value.0 c.if-out-count.false _ _ (c.store_make.ensures _ p.steps) c.list_make.ensures
