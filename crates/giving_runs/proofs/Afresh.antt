-- A run in hand that finds no anode: it joins its side afresh where slots have grown for it.
use Prim.Native.Nat.{ℕ, ◌+◌, ◌≤◌, ◌<◌}
use mathlib.Core.Path.{◌≡◌, sym, ap, ◌∙◌}
use mathlib.Core.Bool.{Bool}
use mathlib.Core.List.{List}
use mathlib.Core.Option.{none, some}
use native.Mathlib.Omega.{arith}
use Rattle.std.specs.Prelude.{Result, Ok, Err}
use Rattle.disk.specs.declared.BlockNo.{BlockNo}
use Rattle.disk.specs.declared.Refusal.{Refusal}
use Rattle.disk.specs.Refusals.{number_of}
use Rattle.rules.specs.Counting.{last_of}
use Rattle.rules.specs.Anodes.{Anodes, exists_by}
use Rattle.rules.specs.Chains.{chain_of, run, cut, side}
use Rattle.rules.specs.Plans.{Slotted, slotted, Plan, refused, planned, at_slots, Growth, regrown}
use Rattle.rules.specs.Space.{side_of, side_end, join, release}
use Rattle.laws.specs.Owners.{full_inside}
use Rattle.laws.specs.Plans.{afresh_again}
use Rattle.laws.specs.Give.{side-end_used}
use Rattle.laws.specs.RefusedSteps.{join-28}
use Rattle.placing.specs.Steps.{step_plan}
use Rattle.placing.specs.States.{GoodState}

-- z ends the side of block b
module _ (last b : ℕ) (a : Anodes) (slots : ℕ → ℕ) (m z : ℕ) (start : m ≡ side_of last b) (end : z ≡ last_of m (chain_of (cut a.next) 3444 m)) where
  -- it is the end of the rules
  is_end : z ≡ side_end 3444 last a b
  unfolding side_end side
  is_end = end ∙ rw start

  -- it is in the tables, and its sums fit
  pub end_fits : GoodState last (slotted a slots) → (z < 3444) × (0 < a.count z → a.block z + a.count z ≤ 65535)
  end_fits state = (state.good.linked.view.below z (λ q. side-end_used state.good b (rw is_end at q)), λ full. omega (arith, full_inside state.good z full, state.small))

-- a run of d blocks from b
module _ (last d b : ℕ) where
  -- joins its side
  abbrev pub joining : (ℕ → Bool) → Anodes → Plan Anodes
  joining ex t = join 3444 (side_end 3444 last t b) d b ex t

  module _ (growth : Growth) (s : Slotted) where
    -- refused at the slots that there are, it joins on what the growth leaves
    pub joins_afresh : (j : ℕ) → joining (exists_by s.slots) s.anodes ≡ refused j → release 3444 growth last d b s ≡ regrown joining 28 (growth s)
    unfolding release
    joins_afresh j e = afresh_again growth joining s j e ∙ rw ((join-28 3444 (exists_by s.slots) s.anodes (side_end 3444 last s.anodes b) d b j).0 e).0

    -- without growth it is refused
    pub joins_nowhere : growth s ≡ none → regrown joining 28 (growth s) ≡ refused 28
    unfolding regrown
    joins_nowhere e = rw e

    -- the slots have grown, its side then ends in z, and the step that the code makes there is the run's
    module _ (a : Anodes) (slots : ℕ → ℕ) (grew : growth s ≡ some (slotted a slots)) (m z : ℕ) (start : m ≡ side_of last b) (end : z ≡ last_of m (chain_of (cut a.next) 3444 m))
        (step : Result BlockNo Refusal) (t : Anodes) (is : step_plan step d t ≡ join 3444 z d b (exists_by slots) a) where
      -- which is what is made afresh
      again : regrown joining 28 (growth s) ≡ at_slots slots (join 3444 z d b (exists_by slots) a)
      unfolding regrown
      again = rw (grew, is_end last b a slots m z start end)

      -- done, it has left t
      pub joins_grown : (y : BlockNo) → step ≡ Ok y → (ys : List ℕ) × (regrown joining 28 (growth s) ≡ planned (slotted t slots) ys)
      unfolding at_slots
      joins_grown y e = (run y.0 d, again ∙ ap (at_slots slots) (sym is ∙ ap (λ (r : Result BlockNo Refusal). step_plan r d t) e))

      -- refused, it is so for the same reason
      pub joins_refused : (why : Refusal) → step ≡ Err why → regrown joining 28 (growth s) ≡ refused (number_of why)
      unfolding at_slots
      joins_refused why e = again ∙ ap (at_slots slots) (sym is ∙ ap (λ (r : Result BlockNo Refusal). step_plan r d t) e)
