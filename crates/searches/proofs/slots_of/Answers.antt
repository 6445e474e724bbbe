use mathlib.Core.Path.{sym, ◌∙◌, fun_ext}
use mathlib.Core.Logic.{inl, inr}
use native.Mathlib.Omega.{arith}
use lib.ListN.{get_or-eq_default}
use Rattle.disk.proofs.Laws.{slot_of_high}
use Rattle.laws.specs.Tests.{less?}
use Rattle.anodes.specs.Loaded.{slots_from}
use Rattle.searches.proofs.slots_of.Goals as goal

pub returns : goal.returns
unfolding slots_from
returns c = fun_ext (λ k. elim (less? k 42) [
  | inl l ↦ c.loop-k.invariant k (omega arith)
  | inr l ↦ get_or-eq_default c.loop-k.slot-items 0 (omega arith) ∙ sym (slot_of_high _ k l)
])
