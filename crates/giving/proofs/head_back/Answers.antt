use mathlib.Core.Path.{sym, ◌∙◌}
use mathlib.Core.List.{[]}
use native.Mathlib.Omega.{arith}
use Rattle.rules.specs.Chains.{run}
use Rattle.anodes.specs.Loaded.{anodes_from}
use Rattle.giving.proofs.Runs.{head_below, head_fits, end_below, end_fits, head_goes, head_none}
use Rattle.giving.proofs.head_back.Goals as goal

pub returns-then-count-eq0 : goal.returns-then-count-eq0
unfolding anodes_from
returns-then-count-eq0 c = λ w. let s = c in ([], head_none _ (anodes_from c.args.counts.now c.args.firsts.now c.args.nexts.now) _ _ s.requires.by_index.1 (sym c.entry-count.ensures ∙ c.if-count-eq0.true) _ c.drop_chain.ensures w)

pub join_with-requires : goal.join_with-requires
unfolding anodes_from
join_with-requires c = let s = c in
    let ready = s.requires.by_index.1 in
    let o = c.drop_chain in
    let tables = s.requires.anode_tables in
    let b = c.entry.result in
    let m = c.side_of.result.0 in
    let z = c.last_anode-z.result.0 in record { x_bound = (head_below _ (anodes_from c.args.counts.now c.args.firsts.now c.args.nexts.now) _ _ ready, end_below _ (anodes_from c.args.counts.now c.args.firsts.now c.args.nexts.now) _ _ ready o.new.counts o.new.firsts o.new.nexts o.ensures b m z c.side_of.ensures c.last_anode-z.ensures, (o.auto.counts ∙ tables.0, o.auto.firsts ∙ tables.1, o.auto.nexts ∙ tables.2)); z_bound = (end_fits _ (anodes_from c.args.counts.now c.args.firsts.now c.args.nexts.now) _ _ ready o.new.counts o.new.firsts o.new.nexts o.ensures b m z c.side_of.ensures c.last_anode-z.ensures, omega (arith, c.entry-count.ensures, c.entry.ensures, head_fits _ (anodes_from c.args.counts.now c.args.firsts.now c.args.nexts.now) _ _ ready (omega (arith, c.entry-count.ensures, c.if-count-eq0.false)))) }

pub returns : goal.returns
unfolding anodes_from
returns c = let s = c in
    let ready = s.requires.by_index.1 in
    let o = c.drop_chain in
    let b = c.entry.result in
    let m = c.side_of.result.0 in
    let z = c.last_anode-z.result.0 in
    λ w. (run b c.entry-count.result, head_goes _ (anodes_from c.args.counts.now c.args.firsts.now c.args.nexts.now) _ _ ready o.new.counts o.new.firsts o.new.nexts o.ensures b m z c.side_of.ensures c.last_anode-z.ensures _ c.entry-count.ensures c.entry.ensures c.if-count-eq0.false _ c.join_with.ensures w)
