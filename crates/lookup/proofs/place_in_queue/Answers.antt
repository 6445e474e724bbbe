use mathlib.Core.Path.{◌≡◌, sym, ◌∙◌}
use Prim.Native.Nat.{◌-◌}
use native.Mathlib.Omega.{arith}
use Rattle.lookup.proofs.Queue.{place_hit, place_pass, place_none}
use Rattle.lookup.proofs.place_in_queue.Goals as goal

pub returns-then-entry-head : goal.returns-then-entry-head
returns-then-entry-head c = let l = c.loop-i in
    let n = c.args.dirs - l.i in
    (c.loop-i-test.true, sym l.invariant ∙ place_hit _ _ l.i n (n - 1) (omega (arith, c.loop-i-test.true)) (sym c.entry.ensures ∙ c.if-entry-head.true))

pub loop-i-preserved : goal.loop-i-preserved
loop-i-preserved c = let l = c.loop-i in
    sym (place_pass _ _ l.i (c.args.dirs - l.i) _ (omega (arith, c.loop-i-test.true)) (λ e. c.if-entry-head.false (c.entry.ensures ∙ e))) ∙ l.invariant

pub returns : goal.returns
returns c = let l = c.loop-i in
    let whole : l.i ≡ c.args.dirs = omega (arith, c.loop-i-test.false) in
    sym l.invariant ∙ place_none _ _ l.i (c.args.dirs - l.i) (omega (arith, c.loop-i-test.false)) ∙ whole
