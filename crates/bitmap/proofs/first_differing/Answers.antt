use mathlib.Core.Path.{sym, ◌∙◌}
use native.Mathlib.Omega.{arith}
use Rattle.std.proofs.Common.{◌≡◌, length}
use Rattle.bitmap.proofs.Laws.{same_more, first_is, first-none, carried_none, carried_more, byte_is}
use borrow.Author.Rules.{rules}
use Rattle.bitmap.proofs.first_differing.Goals as goal

pub loop-p-init : goal.loop-p-init
loop-p-init c = (carried_none _ _, λ i k. absurd (omega arith))

pub returns-then-byte-byte_of : goal.returns-then-byte-byte_of
returns-then-byte-byte_of c = first_is _ _ _ (search rules) c.loop-p.invariant.1 (λ e. c.if-byte-byte_of.true (e ∙ sym (byte_is _ _ _ _ c.word_at-w.ensures c.byte_of.ensures)))

pub loop-p-preserved : goal.loop-p-preserved
loop-p-preserved c = (carried_more _ _ _ c.word_at-w.ensures, same_more _ c.args.bitmap.now _ c.loop-p.invariant.1 (c.if-byte-byte_of.false ∙ byte_is _ _ _ _ c.word_at-w.ensures c.byte_of.ensures))

pub returns : goal.returns
returns c = let e : c.loop-p.p ≡ length c.args.bitmap.now = omega arith in first-none _ _ _ (omega arith) (rw e at c.loop-p.invariant.1)
