use Prim.Native.Nat.{◌+◌}
use native.Mathlib.Omega.{arith}
use native.Mathlib.Numerals.{add-one}
use lib.ListN.{get_or}
use Rattle.report.proofs.Passes.{counted_few, surveyed_same, surveyed_start}
use Rattle.report.proofs.pass_block.Goals as goal

pub returns-then-owner-s : goal.returns-then-owner-s
returns-then-owner-s c = surveyed_same _ _ _ _ c.requires.surveyed _ (add-one _) c.if-owner-s.true

pub overflow_cast-owner : goal.overflow_cast-owner
overflow_cast-owner c = omega (arith, c.type_inv.table (c.args.x + 1))

pub count_at-requires : goal.count_at-requires
count_at-requires c = omega (arith, counted_few c.args.table.now c.args.starts.now c.args.x c.requires.surveyed.counts (get_or c.args.table.now (c.args.x + 1) 0))

pub returns : goal.returns
returns c = rw c.count_at.ensures (surveyed_start _ _ _ _ c.requires.surveyed _ (add-one _) c.if-owner-s.false _ c.longer.ensures)
