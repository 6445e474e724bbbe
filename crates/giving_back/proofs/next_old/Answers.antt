use mathlib.Core.Path.{refl, sym, ◌∙◌}
use native.Mathlib.Omega.{arith}
use Rattle.giving_back.proofs.OldTable.{search_past, search-found, search-none}
use Rattle.giving_back.proofs.next_old.Goals as goal

pub loop-y-init : goal.loop-y-init
loop-y-init c = (omega arith, c.requires, refl)

pub returns-then-is_old : goal.returns-then-is_old
returns-then-is_old c = search-found _ _ _ _ _ _ c.loop-y.invariant c.loop-y-test.true (rw (← c.entry.ensures) (sym c.is_old.ensures ∙ c.if-is_old.true))

pub passed_over-y-requires : goal.passed_over-y-requires
passed_over-y-requires c = (c.loop-y-test.true, rw (← c.entry.ensures) (sym c.is_old.ensures ∙ c.if-is_old.false))

pub loop-y-preserved : goal.loop-y-preserved
loop-y-preserved c = let p = c.passed_over-y.ensures in search_past _ _ _ _ _ _ c.loop-y.invariant _ p.1 p.2

pub returns : goal.returns
returns c = search-none _ _ _ _ _ _ c.loop-y.invariant c.loop-y-test.false
