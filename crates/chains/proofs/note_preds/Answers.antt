use Prim.Native.Nat.{ℕ, ◌+◌, ◌*◌}
use mathlib.Core.Path.{◌≡◌, ◌∙◌, ap}
use native.Mathlib.Omega.{arith}
use lib.ListN.{length, length-replicate}
use borrow.Author.Rules.{rules}
use Rattle.chains.proofs.Predecessors.{noted_none}
use Rattle.chains.proofs.note_preds.Goals as goal

pub loop-k-init : goal.loop-k-init
loop-k-init c = (search rules, search rules, rw c.requires.0 (noted_none _))

pub note_chunk-requires : goal.note_chunk-requires
note_chunk-requires c = let p = c.requires in
    let i = c.loop-k.invariant in
    (search rules, i.1 ∙ ap length p.0 ∙ length-replicate {A = ℕ} 3444 0, p.1, p.2, i.2)

pub returns-then-note_chunk : goal.returns-then-note_chunk
returns-then-note_chunk c = rw c.if-note_chunk.true at c.note_chunk.ensures

pub loop-k-preserved : goal.loop-k-preserved
loop-k-preserved c = let e : (c.loop-k.k + 1) * 82 ≡ c.loop-k.k * 82 + 82 = omega arith in
    (search rules, search rules, rw e (rw c.if-note_chunk.false at c.note_chunk.ensures))

pub returns : goal.returns
returns c = let e : c.loop-k.k ≡ 42 = omega arith in rw e at c.loop-k.invariant.2
