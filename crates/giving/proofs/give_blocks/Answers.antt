use mathlib.Core.Path.{refl, ◌∙◌}
use native.Mathlib.Omega.{arith}
use Rattle.anodes.specs.Loaded.{anodes_from, table_from}
use Rattle.growing.specs.Grown.{growth_if}
use Rattle.placing.proofs.Found.{passed_on}
use Rattle.giving.proofs.Runs.{go_first, go_done, go_stop, go_next}
use Rattle.giving.proofs.give_blocks.Goals as goal

pub loop-g-init : goal.loop-g-init
unfolding anodes_from
loop-g-init c = (c.requires.anode_tables, go_first (growth_if c.args.growing) _ _ _ c.args.k _ _ _ c.requires.ready c.requires.k_bound c.list_chain-at.auto.chain refl c.list_chain-at.ensures.0 c.list_chain-at.ensures.1 c.last_anode-upper.ensures c.last_anode-lower.ensures)

pub give_turn-requires : goal.give_turn-requires
give_turn-requires c = let l = c.loop-g in record { anode_tables = (l.invariant.0.0, l.invariant.0.1, c.loop-g-test.true); carries = l.invariant.1.carries }

pub returns-in_err-g : goal.returns-in_err-g
returns-in_err-g c = rw (passed_on c.from_residual.result _ c.from_residual.ensures.1) (go_stop {growth = growth_if c.args.growing} c.loop-g.invariant.1 c.loop-g-test.true (table_from c.give_turn.new.counts c.give_turn.new.firsts c.give_turn.new.nexts c.give_turn.new.slots) _ c.in_err-g.ensures)

pub loop-g-smaller : goal.loop-g-smaller
loop-g-smaller c = c.in_ok-g.ensures.0

pub loop-g-preserved : goal.loop-g-preserved
loop-g-preserved c = let l = c.loop-g in
    let w = c.give_turn in (
      ((w.auto.counts ∙ l.invariant.0.0.0, w.auto.firsts ∙ l.invariant.0.0.1, w.auto.nexts ∙ l.invariant.0.0.2), w.auto.slots ∙ l.invariant.0.1),
      go_next {growth = growth_if c.args.growing} l.invariant.1 c.loop-g-test.true _ _ c.in_ok-g.ensures,
    )

pub returns : goal.returns
returns c = go_done c.loop-g.invariant.1 (omega arith)
