use Prim.Native.Nat.{ℕ, ◌+◌}
use mathlib.Core.Path.{◌≡◌, sym, ap, subst, ◌∙◌}
use lib.ListN.{get_or}
use Rattle.rules.specs.Anodes.{Anodes, exists_by}
use Rattle.rules.specs.Space.{without_first, put}
use Rattle.anodes.specs.Loaded.{anodes_from, slots_from}
use Rattle.placing.specs.Steps.{UnlessMoved}
use Rattle.placing.proofs.Found.{first_out}
use Rattle.taking.proofs.OneTake.{other_block}
use borrow.Author.Rules.{rules}
use Rattle.taking.proofs.take_from.Goals as goal

pub put-requires : goal.put-requires
unfolding anodes_from
put-requires c = let a = c.args in
    let w = c.without_run in
    (c.requires.anode_tables.3, search rules, λ q. c.requires.nonzero.3 (sym (ap (λ (t : Anodes). t.block a.z.0) w.ensures ∙ other_block (anodes_from a.counts.now a.firsts.now a.nexts.now) _ _ _ _ c.requires.nonzero.2) ∙ q))

pub returns : goal.returns
unfolding anodes_from
returns c = let a = c.args in
    let w = c.without_run in
    let first = c.entry.ensures in
    let s = anodes_from a.counts.now a.firsts.now a.nexts.now in
    let ex = exists_by (slots_from a.slots.now) in
    let out : anodes_from w.new.counts w.new.firsts w.new.nexts ≡ without_first s a.from.before.0 a.from.anode.0 = w.ensures ∙ first_out s _ _ _ (ap (λ (b : ℕ). b + 1) first) in
    let step = c.put in record { plan = step.ensures.plan ∙ ap (λ (y : ℕ). put 3444 a.dir a.z.0 y ex (anodes_from w.new.counts w.new.firsts w.new.nexts)) first ∙ ap (λ (t : Anodes). put 3444 a.dir a.z.0 (get_or a.firsts.now a.from.anode.0 0) ex t) out; unmoved = subst (λ (t : Anodes). UnlessMoved step.result t (anodes_from step.new.counts step.new.firsts step.new.nexts)) out step.ensures.unmoved }
