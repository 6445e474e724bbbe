use Prim.Native.Nat.{◌-◌}
use mathlib.Core.Path.{refl}
use native.Mathlib.Omega.{arith}
use lib.ListN.{length-take}
use Rattle.safe_resizes.proofs.Staging.{size_held, fewer_blocks, staged_shorter, staged_long, staged_longer}
use Rattle.safe_resizes.proofs.stage_resized.Goals as goal

pub copy_out-requires : goal.copy_out-requires
copy_out-requires c = let s = c in omega (arith, s.requires.anode_len, s.requires.stage_len, fewer_blocks s.args.e.size s.args.size c.if-size-e.true)

pub returns-then-size-e : goal.returns-then-size-e
returns-then-size-e c = let s = c in staged_shorter _ s.args.stage.now s.args.e.size s.args.size s.requires.anode_len s.requires.stage_len c.if-size-e.true _ c.copy_out.ensures

pub slice_bounds-copy_out-end : goal.slice_bounds-copy_out-end
slice_bounds-copy_out-end c = let s = c in omega (arith, s.requires.stage_len, c.if-size-e.false, size_held s.args.size)

pub copy_out-requires-2 : goal.copy_out-requires-2
copy_out-requires-2 c = let s = c in omega (arith, s.requires.anode_len, size_held s.args.e.size, length-take (s.args.e.size - 0) s.args.stage.now)

pub overflow_sub-len : goal.overflow_sub-len
overflow_sub-len c = let s = c in omega (arith, s.requires.stage_len, c.if-size-e.false, size_held s.args.size, staged_long _ s.args.stage.now s.args.e.size s.args.size s.requires.anode_len s.requires.stage_len (omega (arith, c.if-size-e.false)) _ c.copy_out-2.ensures)

pub returns : goal.returns
returns c = let s = c in staged_longer _ s.args.stage.now s.args.e.size s.args.size s.requires.anode_len s.requires.stage_len (omega (arith, c.if-size-e.false)) _ c.copy_out-2.ensures _ refl _ c.clear.ensures
