use Prim.Native.Nat.{◌+◌, ◌*◌}
use mathlib.Core.Path.{◌≡◌}
use native.Mathlib.Omega.{arith}
use borrow.Author.Rules.{rules}
use Rattle.chains.proofs.Endings.{ends_none}
use Rattle.chains.proofs.mark_ends.Goals as goal

pub loop-k-init : goal.loop-k-init
loop-k-init c = (search rules, search rules, rw c.requires.0 (ends_none _ _))

pub mark_chunk-requires : goal.mark_chunk-requires
mark_chunk-requires c = let p = c.requires in (search rules, p.1, p.2, p.3, c.loop-k.invariant.2)

pub loop-k-preserved : goal.loop-k-preserved
loop-k-preserved c = let e : (c.loop-k.k + 1) * 82 ≡ c.loop-k.k * 82 + 82 = omega arith in
    (search rules, search rules, rw e c.mark_chunk.ensures)

pub returns : goal.returns
returns c = let e : c.loop-k.k ≡ 42 = omega arith in rw e at c.loop-k.invariant.2
