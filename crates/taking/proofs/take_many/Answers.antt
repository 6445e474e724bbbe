use mathlib.Core.Path.{refl}
use native.Mathlib.Omega.{arith}
use Prim.Native.Nat.{◌+◌, ◌-◌}
use Rattle.placing.proofs.Found.{passed_on}
use Rattle.anodes.specs.Loaded.{anodes_from}
use Rattle.growing.specs.Grown.{growth_if}
use Rattle.taking.proofs.OneTake.{end-found}
use Rattle.taking.proofs.ManyTakes.{run-first, run-done, run_stop, run_next}
use Rattle.taking.proofs.take_many.Goals as goal

pub loop-init : goal.loop-init
unfolding anodes_from
loop-init c = run-first (growth_if c.args.growing) _ _ (omega arith) (record { ready = c.requires.by_index.1; ends = end-found c.requires.by_index.1 _ c.last_anode.ensures; extent = refl })

pub take_turn-requires-clause-by_index : goal.take_turn-requires-clause-by_index
take_turn-requires-clause-by_index c = (c.loop.invariant.last, _, c.loop.invariant.carries)

pub returns-in_err-t : goal.returns-in_err-t
returns-in_err-t c = let r = c.loop.invariant in
    rw (passed_on c.from_residual.result _ c.from_residual.ensures.1) (run_stop r (c.args.k - (c.loop.counter + 1)) (omega arith) _ (c.in_err-t.ensures _ _ r.carries))

pub loop-preserved : goal.loop-preserved
loop-preserved c = let r = c.loop.invariant in run_next r _ (omega arith) _ _ (c.in_ok-t.ensures _ _ r.carries)

pub returns : goal.returns
returns c = run-done c.loop.invariant (omega arith)
