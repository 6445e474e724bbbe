use mathlib.Core.Path.{subst}
use native.Mathlib.Omega.{arith}
use Rattle.anodes.specs.Loaded.{table_from}
use Rattle.placing.specs.Steps.{EndsIn}
use Rattle.growing.specs.Grown.{growth_if}
use Rattle.resizing.proofs.Laws.{plan_grows, plan_shrinks}
use Rattle.resizing.proofs.plan_resize.Goals as goal

pub take_many-requires : goal.take_many-requires
take_many-requires c = record { anode_tables = c.requires.anode_tables; by_index = (_, c.requires.ready) }

pub returns-then-have-want : goal.returns-then-have-want
returns-then-have-want c = let s = c in
    let w = c.take_many in
    subst (EndsIn w.result (table_from w.new.counts w.new.firsts w.new.nexts w.new.slots)) (plan_grows (growth_if s.args.growing) s.args.last.0 _ _ _ _ s.requires.have_value c.if-have-want.true) w.ensures

pub give_blocks-requires : goal.give_blocks-requires
give_blocks-requires c = record { anode_tables = c.requires.anode_tables; ready = c.requires.ready; k_bound = omega (arith, c.requires.have_value) }

pub returns : goal.returns
returns c = let s = c in
    let w = c.give_blocks in
    subst (EndsIn w.result (table_from w.new.counts w.new.firsts w.new.nexts w.new.slots)) (plan_shrinks (growth_if s.args.growing) s.args.last.0 _ _ _ _ s.requires.have_value c.if-have-want.false) w.ensures
