-- The anode that can be had on tables: the lowest free one, at these slots or at the grown ones.
use Prim.Native.Nat.{ℕ, ◌≤◌, ◌<◌}
use mathlib.Core.Path.{◌≡◌, sym, ◌∙◌}
use mathlib.Core.List.{[]}
use Rattle.std.specs.Prelude.{Some}
use Rattle.std.specs.Bool.{then_some}
use mathlib.Core.Option.{none, some}
use mathlib.Core.Bool.{Bool, true, false}
use lib.Dec.{ltb}
use native.Mathlib.Omega.{arith}
use borrow.Author.Tests.{lt-ltb, le-ltb, ltb-true}
use Rattle.disk.specs.declared.AnodeNo.{AnodeNo}
use Rattle.rules.specs.Anodes.{limit, exists_by}
use Rattle.rules.specs.Plans.{Slotted, refused, Growth, at_slots, regrown}
use Rattle.rules.specs.Space.{lowest_free, need_anode, with_spare}
use Rattle.laws.specs.Plans.{afresh-done, afresh_again, afresh_stuck}
use Rattle.growing.specs.Grown.{SpareOf}

-- f: the lowest free anode of s
module _ (growth : Growth) (s : Slotted) (f : ℕ) (lowest : f ≡ lowest_free limit (exists_by s.slots) s.anodes) where
  -- it is there
  pub spare-there : (a : AnodeNo) → a.0 ≡ f → f < limit → SpareOf (Some a) growth s s
  unfolding with_spare need_anode
  spare-there a e l = (omega arith, afresh-done growth (need_anode limit) s s.anodes [] (rw (← lowest, lt-ltb f limit l)), sym lowest ∙ sym e)

  -- none is: it is refused at these slots
  not-spare : limit ≤ f → need_anode limit (exists_by s.slots) s.anodes ≡ refused 28
  unfolding need_anode
  not-spare l = rw (← lowest, le-ltb f limit l)

  -- none is, and the slots cannot grow
  pub spare_nowhere : limit ≤ f → growth s ≡ none → with_spare limit growth s ≡ refused 28
  unfolding with_spare
  spare_nowhere l e = afresh_stuck growth (need_anode limit) s 28 (not-spare l) e

  -- none is, and the slots have grown: it is looked for afresh
  module _ (l : limit ≤ f) (t : Slotted) (e : growth s ≡ some t) where
    again : with_spare limit growth s ≡ at_slots t.slots (need_anode limit (exists_by t.slots) t.anodes)
    unfolding with_spare regrown
    again = afresh_again growth (need_anode limit) s 28 (not-spare l) ∙ rw e

    pub spare-grown : (a : AnodeNo) → a.0 ≡ lowest_free limit (exists_by t.slots) t.anodes → (b : Bool) → b ≡ ltb a.0 limit → SpareOf (then_some b a) growth s t
    unfolding need_anode at_slots
    spare-grown a q true e = let l : a.0 < limit = ltb-true a.0 limit (sym e) in (l, again ∙ rw (← q, ← e), sym q)
    spare-grown a q false e = again ∙ rw (← q, ← e)
