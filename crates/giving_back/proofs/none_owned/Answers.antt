use mathlib.Core.Path.{◌≡◌, sym}
use mathlib.Core.Bool.{true≢false}
use native.Mathlib.Omega.{arith}
use borrow.Author.Tests.{not-true}
use Rattle.giving_back.proofs.OldTable.{none_more}
use borrow.Author.Rules.{rules}
use Rattle.giving_back.proofs.none_owned.Goals as goal

pub returns-then-blocks-lt64 : goal.returns-then-blocks-lt64
returns-then-blocks-lt64 c = λ e. absurd (true≢false (sym e))

pub returns-then-blocks-from : goal.returns-then-blocks-from
returns-then-blocks-from c = λ e. absurd (true≢false (sym e))

pub loop-i-init : goal.loop-i-init
loop-i-init c = (search rules, λ e x p q. absurd (omega arith))

pub loop-i-preserved : goal.loop-i-preserved
loop-i-preserved c = let l = c.loop-i in
    let g = c.args in
    (search rules, none_more g.blocks.now g.head g.from l.i l.any l.invariant.1)

pub returns : goal.returns
returns c = let l = c.loop-i in
    let end : l.i ≡ 64 = omega arith in
    λ e. rw end at (l.invariant.1 (not-true l.any e))
