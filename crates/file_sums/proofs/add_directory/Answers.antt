use Prim.Native.Nat.{◌-◌, ◌*◌}
use mathlib.Core.Path.{sym, ap, ◌∙◌}
use native.Mathlib.Omega.{arith}
use lib.ListN.{length, get_or}
use Rattle.laws.specs.Chains.{chain_short}
use Rattle.links.specs.Links.{anodes_left}
use Rattle.lookup.proofs.Laws.{along_whole, along_end, unbroken_along}
use Rattle.file_sums.proofs.Laws.{sums_none, along_more, within_none, within_join, within_wider, fit_within}
use Rattle.file_sums.proofs.add_directory.Goals as goal

pub loop-a-init : goal.loop-a-init
loop-a-init c = rw (c.into_iter-a-iterator.ensures.into_iter_gives, c.along-a-items.ensures)
    (chain_short (λ a. get_or c.args.nexts.now a 0) 3444 c.args.head.0, within_wider _ _ 0 _ (omega arith) (within_none _), rw (along_whole _ _ _ _ _) at c.requires.0, rw (along_whole _ _ _ _ _))

pub add_block-sums-requires : goal.add_block-sums-requires
add_block-sums-requires c = let l = c.loop-a in
    let left = ap length c.in-Some.ensures.steps in
    (rw c.entry.ensures (unbroken_along _ _ _ _ _ c.in-Some.ensures.steps l.invariant.2).0, fit_within _ _ ((3444 - length (anodes_left l.a-iterator)) * 28) 96432 28 (omega arith) c.requires.1 l.invariant.1)

pub loop-a-preserved : goal.loop-a-preserved
loop-a-preserved c = let l = c.loop-a in
    let left = ap length c.in-Some.ensures.steps in (
      omega arith,
      within_join _ _ _ ((3444 - length (anodes_left l.a-iterator)) * 28) 28 _ (omega arith) l.invariant.1 c.add_block-sums.ensures.1,
      (unbroken_along _ _ _ _ _ c.in-Some.ensures.steps l.invariant.2).1,
      along_more _ _ _ _ _ _ _ c.in-Some.ensures.steps _ (rw c.entry.ensures at c.add_block-sums.ensures.0) ∙ l.invariant.3,
    )

pub returns : goal.returns
returns c = let l = c.loop-a in
    (sym (sums_none _ _ _ (along_end _ _ _ c.in-None.ensures.steps.0)) ∙ l.invariant.3, within_wider _ _ ((3444 - length (anodes_left l.a-iterator)) * 28) 96432 (omega arith) l.invariant.1)
