use mathlib.Core.Path.{sym, ap, ◌∙◌}
use Rattle.anodes.specs.Loaded.{anodes_from, slots_from}
use Rattle.std.specs.Prelude.{Result}
use Rattle.disk.specs.declared.BlockNo.{BlockNo}
use Rattle.disk.specs.declared.Refusal.{Refusal}
use Rattle.placing.specs.Steps.{step_plan}
use Rattle.placing.proofs.Found.{left_so}
use Rattle.growing.specs.Grown.{growth_if}
use Rattle.growing.proofs.States.{growth-if_grows}
use Rattle.giving_runs.proofs.Turning.{fits_all, picked_full, picked_fits, picked_some, picked_off, picked_goes, picked_grown}
use Rattle.giving_runs.proofs.give_turn.Goals as goal

pub pick_run-run-requires : goal.pick_run-run-requires
unfolding anodes_from
pick_run-run-requires c = let s = c in record { by_index = fits_all _ (anodes_from c.args.counts.now c.args.firsts.now c.args.nexts.now) (slots_from c.args.slots.now) _ _ _ s.requires.anode_tables.2 s.requires.carries; nonzero = picked_full _ (anodes_from c.args.counts.now c.args.firsts.now c.args.nexts.now) (slots_from c.args.slots.now) _ _ _ s.requires.anode_tables.2 s.requires.carries }

pub give_run-requires : goal.give_run-requires
unfolding anodes_from
give_run-requires c = let s = c in
    let k = c.pick_run-run.ensures s.args.nexts.now in
    let w = picked_fits _ (anodes_from c.args.counts.now c.args.firsts.now c.args.nexts.now) (slots_from c.args.slots.now) _ _ _ s.requires.anode_tables.2 s.requires.carries _ k _ c.side_end-z.ensures in
    record { anode_tables = (s.requires.anode_tables.0, w.0, w.1, w.2, w.3); length_bound = (w.4, w.5, w.6); first_value = (k.first_is, k.whole_is) }

pub give_grown-requires : goal.give_grown-requires
unfolding anodes_from
give_grown-requires c = let s = c in
    let k = c.pick_run-run.ensures s.args.nexts.now in
    let w = c.give_run in
    let t = anodes_from w.new.counts w.new.firsts w.new.nexts in record { anode_tables = ((w.auto.counts ∙ s.requires.anode_tables.0.0, w.auto.firsts ∙ s.requires.anode_tables.0.1, w.auto.nexts ∙ s.requires.anode_tables.0.2), s.requires.anode_tables.1); run_off = picked_off _ (anodes_from c.args.counts.now c.args.firsts.now c.args.nexts.now) (slots_from c.args.slots.now) _ _ _ s.requires.anode_tables.2 s.requires.carries _ k t (left_so w.result _ t w.ensures.unmoved _ c.in_default.is) }

pub returns-in_default : goal.returns-in_default
unfolding anodes_from
returns-in_default c = let s = c in
    let k = c.pick_run-run.ensures s.args.nexts.now in
    let w = c.give_run in
    let t = anodes_from w.new.counts w.new.firsts w.new.nexts in
    picked_grown _ (anodes_from c.args.counts.now c.args.firsts.now c.args.nexts.now) (slots_from c.args.slots.now) _ _ _ s.requires.anode_tables.2 s.requires.carries _ k _ c.side_end-z.ensures (growth_if s.args.growing) (λ n. growth-if_grows s.args.growing n _) _ (sym w.ensures.plan ∙ ap (λ (i : Result BlockNo Refusal). step_plan i c.pick_run-run.result.length t) c.in_default.is) t (left_so w.result _ t w.ensures.unmoved _ c.in_default.is) c.give_grown.result _ c.give_grown.ensures

pub carry_on-requires : goal.carry_on-requires
carry_on-requires c = let s = c in
    let w = picked_some _ (anodes_from c.args.counts.now c.args.firsts.now c.args.nexts.now) (slots_from c.args.slots.now) _ _ _ s.requires.anode_tables.2 s.requires.carries _ (c.pick_run-run.ensures s.args.nexts.now) in
    (w.1, w.2)

pub returns : goal.returns
unfolding anodes_from
returns c = let s = c in
    let k = c.pick_run-run.ensures s.args.nexts.now in
    let w = c.give_run in
    let t = anodes_from w.new.counts w.new.firsts w.new.nexts in
    let n = c.carry_on.ensures in
    picked_goes _ (anodes_from c.args.counts.now c.args.firsts.now c.args.nexts.now) (slots_from c.args.slots.now) _ _ _ s.requires.anode_tables.2 s.requires.carries _ k _ c.side_end-z.ensures (growth_if s.args.growing) (λ n. growth-if_grows s.args.growing n _) t _ (sym w.ensures.plan ∙ ap (λ (i : Result BlockNo Refusal). step_plan i c.pick_run-run.result.length t) c.in-Ok.is) _ n.0 n.1 n.2 n.3
