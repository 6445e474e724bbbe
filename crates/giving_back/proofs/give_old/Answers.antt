use mathlib.Core.Path.{◌≡◌, ap}
use Prim.Native.Nat.{ℕ, ◌-◌}
use native.Mathlib.Omega.{arith}
use Rattle.rules.specs.Chains.{side}
use Rattle.anodes.specs.Loaded.{anodes_from, table_from}
use Rattle.placing.proofs.Found.{passed_on}
use Rattle.giving_back.specs.OldTable.{old_from}
use Rattle.giving_back.proofs.Giving.{goes_first, goes_as, goes_next, goes_stop, goes-all}
use Rattle.giving_back.proofs.give_old.Goals as goal

pub loop-y-init : goal.loop-y-init
unfolding anodes_from side
loop-y-init c = let s = c in
    let all : s.args.size ≡ s.args.size - 0 = omega arith in
    (omega arith, goes_first _ _ _ _ _ (ap (λ (n : ℕ). old_from s.args.blocks.now s.args.old.head.0 s.args.old.moved.0 n 0) all) s.requires.in_limbo (c.last_anode.ensures, c.last_anode-2.ensures))

pub give_block-requires-clause-ends_of : goal.give_block-requires-clause-ends_of
give_block-requires-clause-ends_of c = let g = goes_as c.loop-y.invariant.1 _ c.in-Some.ensures.2 in (g.ends_of, (_, g.limbo))

pub returns-in_err-ends : goal.returns-in_err-ends
returns-in_err-ends c = let t = c.give_block.new in
    rw (passed_on c.from_residual.result _ c.from_residual.ensures.1) (goes_stop (goes_as c.loop-y.invariant.1 _ c.in-Some.ensures.2) (table_from t.counts t.firsts t.nexts c.args.slots.now) _ c.in_err-ends.ensures)

pub overflow_add-from : goal.overflow_add-from
overflow_add-from c = record { fits = omega (arith, c.in-Some.ensures, c.ranges.size) }

pub loop-y-smaller : goal.loop-y-smaller
loop-y-smaller c = omega (arith, c.in-Some.ensures)

pub loop-y-preserved : goal.loop-y-preserved
loop-y-preserved c = (omega (arith, c.in-Some.ensures), goes_next (goes_as c.loop-y.invariant.1 _ c.in-Some.ensures.2) _ _ c.in_ok-ends.ensures)

pub returns : goal.returns
returns c = goes-all c.loop-y.invariant.1 c.in_default.ensures
