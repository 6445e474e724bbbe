use mathlib.Core.Path.{sym, ◌∙◌}
use Rattle.laws.specs.FreeExtent.{take_nowhere}
use Rattle.anodes.specs.Loaded.{anodes_from, table_from}
use Rattle.placing.proofs.Found.{some_found, none_found, passed_on}
use Rattle.growing.specs.Grown.{growth_if}
use Rattle.taking.proofs.OneTake.{end-found, taken, step_fits, step_done, step_ready, step_again}
use borrow.Author.Rules.{rules}
use Rattle.taking.proofs.take_block.Goals as goal

pub returns-in_err-found : goal.returns-in_err-found
returns-in_err-found c = let a = c.args in
    let s = table_from a.counts.now a.firsts.now a.nexts.now a.slots.now in
    let n = none_found _ _ _ c.ok_or.ensures.value _ c.in_err-found.was in
    rw (passed_on c.from_residual.result _ c.from_residual.ensures.1, n.1) (sym (take_nowhere 3444 (growth_if a.growing) a.dir a.head.0 s (sym (c.free_extent.ensures a.firsts.now) ∙ n.0)))

pub take_from-requires : goal.take_from-requires
unfolding anodes_from
take_from-requires c = let extent = sym (c.free_extent.ensures c.args.firsts.now) ∙ some_found _ _ _ c.ok_or.ensures.value _ c.in_ok-found.was in
    let w = step_fits c.requires.by_index.1 c.args.dir _ _ extent _ (end-found c.requires.by_index.1 _ c.last_anode-z.ensures) in
    record { anode_tables = (c.requires.anode_tables.0, w.0, w.1, w.2); nonzero = (w.3, w.4, w.5, w.6) }

pub returns-in-Ok : goal.returns-in-Ok
unfolding anodes_from
returns-in-Ok c = let extent = sym (c.free_extent.ensures c.args.firsts.now) ∙ some_found _ _ _ c.ok_or.ensures.value _ c.in_ok-found.was in
    let step = c.take_from in
    let t = anodes_from step.new.counts step.new.firsts step.new.nexts in
    sym (taken c.requires.by_index.1 c.args.dir _ _ extent c.args.growing t _ (step_done c.requires.by_index.1 c.args.dir _ _ extent _ (end-found c.requires.by_index.1 _ c.last_anode-z.ensures) step.result t step.ensures.plan _ c.in-Ok.is))

pub put_grown-requires : goal.put_grown-requires
unfolding anodes_from
put_grown-requires c = let extent = sym (c.free_extent.ensures c.args.firsts.now) ∙ some_found _ _ _ c.ok_or.ensures.value _ c.in_ok-found.was in
    let step = c.take_from in
    let t = anodes_from step.new.counts step.new.firsts step.new.nexts in
    record { anode_tables = search rules; put_ready = step_ready c.requires.by_index.1 c.args.dir _ _ extent _ (end-found c.requires.by_index.1 _ c.last_anode-z.ensures) step.result t step.ensures.plan step.ensures.unmoved _ c.in_default.is }

pub returns : goal.returns
unfolding anodes_from
returns c = let extent = sym (c.free_extent.ensures c.args.firsts.now) ∙ some_found _ _ _ c.ok_or.ensures.value _ c.in_ok-found.was in
    let step = c.take_from in
    let t = anodes_from step.new.counts step.new.firsts step.new.nexts in
    c.put_grown.ensures ∙ sym (step_again c.requires.by_index.1 c.args.dir _ _ extent _ (end-found c.requires.by_index.1 _ c.last_anode-z.ensures) step.result t step.ensures.plan step.ensures.unmoved _ c.in_default.is c.args.growing _ c.entry.ensures)
