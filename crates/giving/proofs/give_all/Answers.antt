use Prim.Native.Nat.{◌-◌}
use mathlib.Core.Path.{◌≡◌, ◌∙◌}
use mathlib.Core.List.{◌++◌}
use native.Mathlib.Omega.{arith}
use Rattle.rules.specs.Chains.{block_count}
use Rattle.rules.specs.Space.{lower_run}
use Rattle.anodes.specs.Loaded.{anodes_from, slots_from}
use Rattle.placing.proofs.Found.{passed_on}
use Rattle.growing.specs.Grown.{growth_if}
use Rattle.growing.proofs.States.{growth-if_grows}
use Rattle.giving.proofs.Runs.{head_end, lower_some, blocks_ready, all_stop, all_done}
use borrow.Author.Rules.{rules}
use Rattle.giving.proofs.give_all.Goals as goal

pub lower_run-requires : goal.lower_run-requires
unfolding anodes_from
lower_run-requires c = let s = c in head_end _ (anodes_from c.args.counts.now c.args.firsts.now c.args.nexts.now) (slots_from c.args.slots.now) _ s.requires.ready c.entry-count.result c.entry.result c.entry-count.ensures c.entry.ensures (search rules)

pub overflow_sub-k : goal.overflow_sub-k
unfolding anodes_from
overflow_sub-k c = let lower_is : c.lower_run.result ≡ lower_run c.args.last.0 ((anodes_from c.args.counts.now c.args.firsts.now c.args.nexts.now).count c.args.head.0) ((anodes_from c.args.counts.now c.args.firsts.now c.args.nexts.now).block c.args.head.0) = c.lower_run.ensures ∙ rw (c.entry-count.ensures, c.entry.ensures) in
    let s = c in omega (arith, lower_is, s.requires.have_value, lower_some _ (anodes_from c.args.counts.now c.args.firsts.now c.args.nexts.now) (slots_from c.args.slots.now) _ s.requires.ready)

pub give_blocks-requires : goal.give_blocks-requires
give_blocks-requires c = let s = c in record { anode_tables = s.requires.anode_tables; ready = s.requires.ready; k_bound = omega (arith, s.requires.have_value) }

pub returns-in_err-give_blocks : goal.returns-in_err-give_blocks
unfolding anodes_from
returns-in_err-give_blocks c = let lower_is : c.lower_run.result ≡ lower_run c.args.last.0 ((anodes_from c.args.counts.now c.args.firsts.now c.args.nexts.now).count c.args.head.0) ((anodes_from c.args.counts.now c.args.firsts.now c.args.nexts.now).block c.args.head.0) = c.lower_run.ensures ∙ rw (c.entry-count.ensures, c.entry.ensures) in
    let first-are : c.args.have - c.lower_run.result ≡ block_count (anodes_from c.args.counts.now c.args.firsts.now c.args.nexts.now) c.args.head.0 - lower_run c.args.last.0 ((anodes_from c.args.counts.now c.args.firsts.now c.args.nexts.now).count c.args.head.0) ((anodes_from c.args.counts.now c.args.firsts.now c.args.nexts.now).block c.args.head.0) = rw (lower_is, c.requires.have_value) in
    let s = c in
    rw (passed_on c.from_residual.result _ c.from_residual.ensures.1) (all_stop _ (anodes_from c.args.counts.now c.args.firsts.now c.args.nexts.now) (slots_from c.args.slots.now) _ s.requires.ready (growth_if s.args.growing) _ first-are _ c.in_err-give_blocks.ensures)

pub head_back-requires : goal.head_back-requires
head_back-requires c = let s = c in
    let w = c.give_blocks in
    let e = c.in_ok-give_blocks.ensures in
    record { anode_tables = (w.auto.counts ∙ s.requires.anode_tables.0.0, w.auto.firsts ∙ s.requires.anode_tables.0.1, w.auto.nexts ∙ s.requires.anode_tables.0.2); by_index = (slots_from w.new.slots, blocks_ready _ (anodes_from c.args.counts.now c.args.firsts.now c.args.nexts.now) (slots_from c.args.slots.now) _ s.requires.ready (growth_if s.args.growing) (λ n. growth-if_grows s.args.growing n _) _ _ e.0 (omega (arith, s.requires.have_value)) e.1) }

pub returns : goal.returns
unfolding anodes_from
returns c = let lower_is : c.lower_run.result ≡ lower_run c.args.last.0 ((anodes_from c.args.counts.now c.args.firsts.now c.args.nexts.now).count c.args.head.0) ((anodes_from c.args.counts.now c.args.firsts.now c.args.nexts.now).block c.args.head.0) = c.lower_run.ensures ∙ rw (c.entry-count.ensures, c.entry.ensures) in
    let first-are : c.args.have - c.lower_run.result ≡ block_count (anodes_from c.args.counts.now c.args.firsts.now c.args.nexts.now) c.args.head.0 - lower_run c.args.last.0 ((anodes_from c.args.counts.now c.args.firsts.now c.args.nexts.now).count c.args.head.0) ((anodes_from c.args.counts.now c.args.firsts.now c.args.nexts.now).block c.args.head.0) = rw (lower_is, c.requires.have_value) in
    let s = c in
    let w = c.give_blocks in
    let e = c.in_ok-give_blocks.ensures in
    let b = c.head_back.ensures (slots_from w.new.slots) in
    (e.0 ++ b.0, all_done _ (anodes_from c.args.counts.now c.args.firsts.now c.args.nexts.now) (slots_from c.args.slots.now) _ s.requires.ready (growth_if s.args.growing) _ first-are _ _ e.0 b.0 e.1 b.1)
