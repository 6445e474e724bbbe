use mathlib.Core.Path.{refl, sym, ◌∙◌}
use mathlib.Core.List.{append-nil}
use native.Mathlib.Omega.{arith}
use lib.ListN.{get_or}
use Rattle.laws.specs.Chains.{chain_short}
use Rattle.giving.proofs.Runs.{listed_more}
use Rattle.giving.proofs.list_chain.Goals as goal

pub loop-a-init : goal.loop-a-init
loop-a-init c = rw (c.into_iter-a-iterator.ensures.into_iter_gives, c.along-a-items.ensures) (omega (arith, chain_short (λ a. get_or c.args.nexts.now a 0) 3444 c.args.head.0), c.requires, refl)

pub overflow_add-n : goal.overflow_add-n
overflow_add-n c = record { fits = omega (arith, c.loop-a.invariant.0) }

pub loop-a-preserved : goal.loop-a-preserved
loop-a-preserved c = let v = rw c.in-Some.ensures.steps at c.loop-a.invariant in
    (omega (arith, v.0), c.set_entry.auto.table ∙ v.1, rw c.set_entry.ensures (listed_more c.loop-a.chain c.loop-a.n c.in-Some.a.0 _ (omega (arith, v.0, v.1)) ∙ v.2))

pub returns : goal.returns
returns c = let v = rw c.in-None.ensures.steps.0 at c.loop-a.invariant in (omega (arith, v.0), sym (append-nil _) ∙ v.2)
