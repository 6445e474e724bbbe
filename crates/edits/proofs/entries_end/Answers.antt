use borrow.Author.Rules.{rules}
use mathlib.Core.Path.{sym, ◌∙◌}
use Prim.Native.Nat.{◌-◌, ◌+◌}
use native.Mathlib.Omega.{arith}
use Rattle.edits.proofs.Along.{end_none, end-here, end_later, end_whole}
use Rattle.edits.proofs.entries_end.Goals as goal

pub loop-init : goal.loop-init
loop-init c = (omega arith, sym (end_whole _))

pub returns-then-len-eq0 : goal.returns-then-len-eq0
returns-then-len-eq0 c = let l = c.loop in
    sym (end-here _ (28 - l.counter) (28 - (l.counter + 1)) _ (omega arith) (sym c.read8-len.ensures ∙ c.if-len-eq0.true)) ∙ l.invariant.1

pub loop-preserved : goal.loop-preserved
loop-preserved c = let l = c.loop in
    (search rules, rw c.read8-len.ensures (sym (end_later _ (28 - l.counter) (28 - (l.counter + 1)) _ (omega arith) (rw c.read8-len.ensures at c.if-len-eq0.false))) ∙ l.invariant.1)

pub returns : goal.returns
returns c = let l = c.loop in
    sym (end_none _ (28 - l.counter) _ (omega arith)) ∙ l.invariant.1
