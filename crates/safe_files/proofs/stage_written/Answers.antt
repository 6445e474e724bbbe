use Prim.Native.Nat.{◌-◌}
use lib.ListN.{length-take}
use native.Mathlib.Omega.{arith}
use Rattle.safe_files.proofs.Staging.{written_staged}
use Rattle.safe_files.proofs.stage_written.Goals as goal

pub copy_out-requires : goal.copy_out-requires
copy_out-requires c = let s = c in omega (arith, s.requires.0, length-take (s.args.len - 0) s.args.out.now)

pub returns : goal.returns
returns c = let s = c in
    written_staged s.args.out.now _ _ s.args.len _ _ _ s.requires.0 s.requires.1 c.copy_out.ensures c.store.ensures
