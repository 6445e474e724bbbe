use mathlib.Core.Path.{◌≡◌, sym, ◌∙◌}
use Prim.Native.Nat.{◌+◌, ◌<◌}
use native.Mathlib.Omega.{arith}
use borrow.Author.Rules.{rules}
use lib.ListN.{length}
use Rattle.endian.proofs.Laws.{stored-out, stored_step, stored-end}
use Rattle.endian.proofs.store.Goals as goal

pub loop-j-init : goal.loop-j-init
loop-j-init c = let e : c.args.at + 0 ≡ c.args.at = omega arith in
    (search rules, rw e)

pub loop-j-preserved : goal.loop-j-preserved
loop-j-preserved c = let l = c.loop-j in
    let at = c.args.at in
    let e : at + (l.j + 1) ≡ at + l.j + 1 = omega arith in
    let in_source : l.j < length c.args.source.now = omega (arith, c.min-n.ensures, c.loop-j-test.true) in
    (search rules, rw e (sym (stored_step _ _ _ _ in_source) ∙ l.invariant.1))

pub returns-after-loop-j : goal.returns-after-loop-j
returns-after-loop-j c = let l = c.loop-j in
    let n : l.j ≡ c.min-n.result = omega (arith, c.loop-j-test.false) in
    let g = c.args in
    sym (stored-end l.bytes g.at g.source.now l.j (omega (arith, n, c.min-n.ensures, l.invariant.0))) ∙ l.invariant.1

pub returns-else-at-len : goal.returns-else-at-len
returns-else-at-len c = sym (stored-out _ _ _ c.if-at-len.false)
