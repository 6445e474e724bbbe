use Prim.Native.Nat.{◌+◌, ◌*◌}
use mathlib.Core.Path.{◌≡◌, sym, ◌∙◌}
use native.Mathlib.Omega.{arith}
use borrow.Author.Rules.{rules}
use Rattle.counting.specs.Laws.{any_below-none}
use Rattle.chains.proofs.Runs.{any_later}
use Rattle.chains.proofs.out_of_range.Goals as goal

pub loop-k-init : goal.loop-k-init
loop-k-init c = (search rules, any_below-none _)

pub chunk_out_of_range-requires : goal.chunk_out_of_range-requires
chunk_out_of_range-requires c = (search rules, c.loop-k.invariant.1)

pub returns-then-chunk_out_of_range : goal.returns-then-chunk_out_of_range
returns-then-chunk_out_of_range c = sym (any_later _ _ 3444 (omega arith) (sym c.chunk_out_of_range.ensures ∙ c.if-chunk_out_of_range.true))

pub loop-k-preserved : goal.loop-k-preserved
loop-k-preserved c = let e : (c.loop-k.k + 1) * 82 ≡ c.loop-k.k * 82 + 82 = omega arith in
    (search rules, rw e (sym c.chunk_out_of_range.ensures ∙ c.if-chunk_out_of_range.false))

pub returns : goal.returns
returns c = let e : c.loop-k.k ≡ 42 = omega arith in sym (rw e at c.loop-k.invariant.1)
