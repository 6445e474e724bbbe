use Rattle.std.proofs.Common.{arith, rules, sym, ◌∙◌}
use Rattle.names.proofs.Laws.{hash_whole, hash_step, hash_end}
use Rattle.names.proofs.hash.Goals as goal

pub loop-b-init : goal.loop-b-init
loop-b-init c = (search rules, hash_whole _)

pub loop-b-preserved : goal.loop-b-preserved
loop-b-preserved c = let l = c.loop-b in
    (search rules, rw c.fold.ensures (sym (hash_step _ _ _ c.loop-b-test.true) ∙ l.invariant.1))

pub returns : goal.returns
returns c = (sym (hash_end c.loop-b.h c.args.name.now c.loop-b.b-index (omega arith)) ∙ c.loop-b.invariant.1, search rules)
