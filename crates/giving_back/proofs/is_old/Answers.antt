use mathlib.Core.Logic.{inl, inr}
use Rattle.giving_back.proofs.OldTable.{old-chain, old_slot, old-moved}
use Rattle.giving_back.proofs.is_old.Goals as goal

pub returns-then-owner-old : goal.returns-then-owner-old
returns-then-owner-old c = elim c.then-owner-old.either [ inl e ↦ old-chain _ _ _ _ e | inr e ↦ old_slot _ _ _ _ e.0 e.1 ]

pub returns : goal.returns
returns c = old-moved _ _ _ _ c.if-owner-old.false c.if-owner-eq65534.false
