use Prim.Native.Nat.{◌+◌, ◌*◌, ◌≤◌}
use lib.ListN.{length}
use native.Mathlib.Omega.{arith}
use Rattle.lookup.specs.Answers.{entered}
use Rattle.change_tables.specs.Chains.{reached-entry}
use Rattle.safe_laws.specs.LeftImage.{writes_leave}
use Rattle.safe_laws.specs.OwnChanges.{write_own}
use Rattle.safe_stores.proofs.Leaves.{leaves_short, leaves_done}
use Rattle.safe_stores.proofs.Placed.{list_inside}
use Rattle.safe_files.proofs.Planned.{list_long}
use Rattle.safe_files.proofs.Plans.{file_small}
use Rattle.safe_files.proofs.finish_write.Goals as goal

pub returns-then-out-count : goal.returns-then-out-count
returns-then-out-count c = let s = c in
    let m = reached-entry s.requires.loaded.0 (entered s.args.image.now s.args.e) s.requires.loaded.1 in
    leaves_short _ _ _ s.requires.bytes_bound _ s.requires.by_index.0 s.requires.by_index.1 (omega (arith, c.if-out-count.true, c.used_slots.ensures.0, s.requires.loaded.3, list_long m s.requires.loaded.2 _ _ _ _ s.requires.by_index.1))

pub commit_write-requires : goal.commit_write-requires
commit_write-requires c = let s = c in
    let m = reached-entry s.requires.loaded.0 (entered s.args.image.now s.args.e) s.requires.loaded.1 in
    record { loaded = s.requires.loaded; by_index = (s.requires.by_index.0, (s.requires.by_index.1, omega (arith, c.if-out-count.false, c.used_slots.ensures.0, s.requires.loaded.3, list_long m s.requires.loaded.2 _ _ _ _ s.requires.by_index.1))) }

pub overflow_cast-result : goal.overflow_cast-result
overflow_cast-result c = let s = c in
    let m = reached-entry s.requires.loaded.0 (entered s.args.image.now s.args.e) s.requires.loaded.1 in
    omega (arith, s.requires.loaded.3, c.used_slots.ensures.1, file_small m _ _ s.requires.bytes_bound)

pub returns : goal.returns
returns c = let s = c in
    let m = reached-entry s.requires.loaded.0 (entered s.args.image.now s.args.e) s.requires.loaded.1 in
    let ys = s.requires.by_index.0 in
    let plan = s.requires.by_index.1 in
    let many = list_long m s.requires.loaded.2 _ _ _ ys plan in
    let fits : (length ys + 1) * 514 ≤ length c.args.out.now = omega (arith, c.if-out-count.false, c.used_slots.ensures.0, s.requires.loaded.3, many) in
    let w = c.commit_write.ensures ys (plan, fits) in
    leaves_done _ _ _ s.requires.bytes_bound _ ys plan fits (writes_leave m.directory.image (write_own m _ _) _ ys plan) (list_inside m.directory.image (write_own m _ _) _ ys plan) w.staged w.front w.long w.behind w.within _ _ w.image w.listed _ (omega (arith, c.used_slots.ensures.0, s.requires.loaded.3, many))
