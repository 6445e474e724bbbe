use Prim.Native.Nat.{◌+◌, ◌-◌}
use mathlib.Core.Path.{◌≡◌, sym, ◌∙◌}
use native.Mathlib.Omega.{arith}
use Rattle.giving.proofs.Dropping.{zeroed-none, zeroed-end, zeroed_tables, zeroed-chain}
use Rattle.giving.proofs.drop_chain.Goals as goal

pub loop-init : goal.loop-init
loop-init c = zeroed-chain _ c.requires.0 _ c.requires.1

pub returns-then-at-eq0 : goal.returns-then-at-eq0
returns-then-at-eq0 c = let l = c.loop in sym (zeroed-end (3444 - l.counter) _) ∙ rw c.if-at-eq0.true at l.invariant

pub loop-preserved : goal.loop-preserved
loop-preserved c = let l = c.loop in
    rw (c.set_entry.ensures, c.set_entry-in-loop.ensures, c.set_entry-in-loop-2.ensures, c.entry-next.ensures) (sym (zeroed_tables (3444 - l.counter) (3444 - (l.counter + 1)) _ _ _ l.at (omega arith) c.if-at-eq0.false) ∙ l.invariant)

pub returns : goal.returns
returns c = let l = c.loop in let e : 3444 - l.counter ≡ 0 = omega arith in sym (zeroed-none _ l.at) ∙ rw e at l.invariant
