-- Plans: a refusal is no plan that is done; steps one after the other, what a run that is done has made of its first step, where a refused run stops, and a step that may be made afresh.
use Prim.Native.Nat.{ℕ, zero, suc, ◌+◌}
use Rattle.std.specs.Prelude.{◌≡◌, ◌⊎◌, Bool}
use Rattle.std.proofs.Math.Path.{refl}
use Rattle.std.proofs.Common.{sym, ap, ◌∙◌, arith}
use Rattle.std.proofs.Math.Logic.{inl, inr}
use mathlib.Core.List.{List, [], ◌++◌, append_assoc}
use Rattle.std.proofs.Math.Option.{Option, none, some}
use Rattle.std.proofs.Math.Numerals.{add-one}
use Rattle.rules.specs.Anodes.{Anodes, exists_by}
use Rattle.rules.specs.Plans.{Slotted, slotted, Plan, refused, planned, after, ◌and_then◌, repeated, at_slots, Growth, no_growth, regrown, afresh}

pub refused≢planned : {X : Type 0} (k : ℕ) (t : X) (ys : List ℕ) → refused k ≡ planned t ys → ⊥
refused≢planned k t ys e = let z : ◌≡◌ {A = ℕ} 0 1 = cc in omega arith

pub planned≢refused : {X : Type 0} (t : X) (ys : List ℕ) (k : ℕ) → planned t ys ≡ refused k → ⊥
planned≢refused t ys k e = refused≢planned k t ys (sym e)

pub planned_same : {X : Type 0} (s t : X) (xs ys : List ℕ) → planned s xs ≡ planned t ys → (s ≡ t) × (ys ≡ xs)
planned_same s t xs ys e = (cc, cc)

pub refused_same : {X : Type 0} (j k : ℕ) → ◌≡◌ {A = Plan X} (refused j) (refused k) → j ≡ k
refused_same j k e = cc

-- ---- a plan behind blocks that changed hands before

after_planned : {X : Type 0} (ys : List ℕ) (p : Plan X) (t : X) (zs : List ℕ) → after ys p ≡ planned t zs → (xs : List ℕ) × (p ≡ planned t xs) × (zs ≡ ys ++ xs)
unfolding after
after_planned ys (refused k) t zs e = absurd (refused≢planned k t zs e)
after_planned ys (planned r xs) t zs e = let q = planned_same r t (ys ++ xs) zs e in (xs, rw q.0, q.1)

after_refused : {X : Type 0} (ys : List ℕ) (p : Plan X) (k : ℕ) → after ys p ≡ refused k → p ≡ refused k
unfolding after
after_refused ys (refused j) k e = e
after_refused ys (planned t zs) k e = absurd (planned≢refused t (ys ++ zs) k e)

pub after_none : {X : Type 0} (p : Plan X) → after [] p ≡ p
unfolding after
after_none (refused j) = refl
after_none (planned t ys) = refl

pub after_both : {X : Type 0} (ys zs : List ℕ) (p : Plan X) → after ys (after zs p) ≡ after (ys ++ zs) p
unfolding after
after_both ys zs (refused j) = refl
after_both ys zs (planned t xs) = ap (planned t) (sym (append_assoc ys zs xs))

-- a plan and another on what it leaves, both done
pub then_planned : {X Y : Type 0} (p : Plan X) (f : X → Plan Y) (t : Y) (zs : List ℕ) → p and_then f ≡ planned t zs →
    (r : X) × (ys : List ℕ) × (xs : List ℕ) × (p ≡ planned r ys) × (f r ≡ planned t xs) × (zs ≡ ys ++ xs)
unfolding ◌and_then◌
then_planned (refused n) f t zs e = absurd (refused≢planned n t zs e)
then_planned (planned r ys) f t zs e = let q = after_planned ys (f r) t zs e in (r, ys, q.0, refl, q.1, q.2)

-- one of the two refused
pub then_refused : {X Y : Type 0} (p : Plan X) (f : X → Plan Y) (k : ℕ) → p and_then f ≡ refused k → (p ≡ refused k) ⊎ ((r : X) × (ys : List ℕ) × (p ≡ planned r ys) × (f r ≡ refused k))
unfolding ◌and_then◌
then_refused (refused n) f k e = inl (rw (refused_same n k e))
then_refused (planned r ys) f k e = inr (r, ys, refl, after_refused ys (f r) k e)

-- the first refused
pub then_stop : {X Y : Type 0} (p : Plan X) (f : X → Plan Y) (k : ℕ) → p ≡ refused k → p and_then f ≡ refused k
unfolding ◌and_then◌
then_stop p f k e = rw (e, ◌and_then◌)

-- the first done, and the second refused
pub then_stops : {X Y : Type 0} (p : Plan X) (f : X → Plan Y) (r : X) (ys : List ℕ) (k : ℕ) → p ≡ planned r ys → f r ≡ refused k → p and_then f ≡ refused k
unfolding ◌and_then◌ after
then_stops p f r ys k e q = rw (e, ◌and_then◌, q, after)

module _ {X : Type 0} (step : X → Plan X) where
  -- ---- a run, step by step

  pub repeated-zero : (s : X) → repeated step 0 s ≡ planned s []
  unfolding repeated
  repeated-zero s = refl

  module _ (k m : ℕ) (fuel : k ≡ m + 1) (s : X) where
    pub repeated_next : (t : X) (ys : List ℕ) → step s ≡ planned t ys → repeated step k s ≡ after ys (repeated step m t)
    unfolding repeated ◌and_then◌
    repeated_next t ys e = rw (fuel, add-one m, e, repeated)

    pub repeated_stop : (j : ℕ) → step s ≡ refused j → repeated step k s ≡ refused j
    unfolding repeated ◌and_then◌
    repeated_stop j e = rw (fuel, add-one m, e, repeated)

  -- ---- what a run has done

  -- no step leaves all as it is
  pub repeated-none : (s t : X) (zs : List ℕ) → repeated step 0 s ≡ planned t zs → (s ≡ t) × (zs ≡ [])
  unfolding repeated
  repeated-none s t zs e = planned_same s t [] zs e

  -- a run that is done has made its first step and the rest
  pub repeated-done : (k : ℕ) (s t : X) (zs : List ℕ) → repeated step (suc k) s ≡ planned t zs →
      (r : X) × (ys : List ℕ) × (xs : List ℕ) × (step s ≡ planned r ys) × (repeated step k r ≡ planned t xs) × (zs ≡ ys ++ xs)
  unfolding repeated
  repeated-done k s t zs e = then_planned (step s) (repeated step k) t zs e

  -- what each step keeps, a run that is done keeps
  pub repeated-kept : (P : X → Type 0) → ((s t : X) (ys : List ℕ) → P s → step s ≡ planned t ys → P t) → (k : ℕ) (s t : X) (zs : List ℕ) → P s → repeated step k s ≡ planned t zs → P t
  repeated-kept P keep zero s t zs p e = rw (← (repeated-none s t zs e).0) p
  repeated-kept P keep (suc k) s t zs p e = let (r, ys, xs, q, f, i) = repeated-done k s t zs e in repeated-kept P keep k r t xs (keep s r ys p q) f

  -- a refused run stops at a step that is refused with its number, in a state that the steps before it have kept
  pub repeated_refused : (State : ℕ → X → Type 0) → ((i : ℕ) (s t : X) (ys : List ℕ) → State (suc i) s → step s ≡ planned t ys → State i t) → (i : ℕ) (s : X) (k : ℕ) → State i s →
      repeated step i s ≡ refused k → (j : ℕ) × (r : X) × State (suc j) r × (step r ≡ refused k)
  unfolding repeated
  repeated_refused State keep zero s k at e = absurd (planned≢refused s [] k e)
  repeated_refused State keep (suc i) s k at e = elim (then_refused (step s) (repeated step i) k e) [
    | inl q ↦ (i, s, at, q)
    | inr (t, ys, q, f) ↦ repeated_refused State keep i t k (keep i s t ys at q) f
  ]

-- ---- a step at fixed slots

pub slots_planned : (slots : ℕ → ℕ) (p : Plan Anodes) (t : Slotted) (ys : List ℕ) → at_slots slots p ≡ planned t ys → (p ≡ planned t.anodes ys) × (t.slots ≡ slots)
unfolding at_slots
slots_planned slots (refused n) t ys e = absurd (refused≢planned n t ys e)
slots_planned slots (planned r zs) t ys e = let q = planned_same (slotted r slots) t zs ys e in (rw (← q.0, q.1), rw (← q.0))

pub slots_refused : (slots : ℕ → ℕ) (p : Plan Anodes) (k : ℕ) → at_slots slots p ≡ refused k → p ≡ refused k
unfolding at_slots
slots_refused slots (refused n) k e = rw (refused_same n k e)
slots_refused slots (planned r zs) k e = absurd (planned≢refused (slotted r slots) zs k e)

-- the step is done in q, where it was lent these slots or they have grown
module _ (growth : Growth) (step : (ℕ → Bool) → Anodes → Plan Anodes) (s : Slotted) where
  -- the two ways in which it is done: at these slots, or afresh at those that growth gives
  pub afresh_planned : (t : Slotted) (ys : List ℕ) → afresh growth step s ≡ planned t ys →
      ((step (exists_by s.slots) s.anodes ≡ planned t.anodes ys) × (t.slots ≡ s.slots))
      ⊎ ((r : Slotted) × (growth s ≡ some r) × (step (exists_by r.slots) r.anodes ≡ planned t.anodes ys) × (t.slots ≡ r.slots))
  unfolding afresh regrown
  afresh_planned t ys e = go (step (exists_by s.slots) s.anodes) refl e
    where
      again : (n : ℕ) (o : Option Slotted) → growth s ≡ o → regrown step n o ≡ planned t ys →
          (r : Slotted) × (growth s ≡ some r) × (step (exists_by r.slots) r.anodes ≡ planned t.anodes ys) × (t.slots ≡ r.slots)
      again n none q e = absurd (refused≢planned n t ys e)
      again n (some r) q e = let f = slots_planned r.slots (step (exists_by r.slots) r.anodes) t ys e in (r, q, f.0, f.1)

      go : (p : Plan Anodes) → step (exists_by s.slots) s.anodes ≡ p → elim p [ planned r zs ↦ planned (slotted r s.slots) zs | refused n ↦ regrown step n (growth s) ] ≡ planned t ys →
          ((step (exists_by s.slots) s.anodes ≡ planned t.anodes ys) × (t.slots ≡ s.slots))
          ⊎ ((r : Slotted) × (growth s ≡ some r) × (step (exists_by r.slots) r.anodes ≡ planned t.anodes ys) × (t.slots ≡ r.slots))
      go (planned r zs) q e = let f = planned_same (slotted r s.slots) t zs ys e in inl (q ∙ rw (← f.0, f.1), rw (← f.0))
      go (refused n) q e = inr (again n (growth s) refl e)

  -- refused: at these slots, where there is no growth, or afresh
  pub afresh_refused : (k : ℕ) → afresh growth step s ≡ refused k →
      ((step (exists_by s.slots) s.anodes ≡ refused k) × (growth s ≡ none))
      ⊎ ((r : Slotted) × (growth s ≡ some r) × (step (exists_by r.slots) r.anodes ≡ refused k))
  unfolding afresh regrown
  afresh_refused k e = go (step (exists_by s.slots) s.anodes) refl e
    where
      again : (n : ℕ) → step (exists_by s.slots) s.anodes ≡ refused n → (o : Option Slotted) → growth s ≡ o → regrown step n o ≡ refused k →
          ((step (exists_by s.slots) s.anodes ≡ refused k) × (growth s ≡ none)) ⊎ ((r : Slotted) × (growth s ≡ some r) × (step (exists_by r.slots) r.anodes ≡ refused k))
      again n q none f e = inl (q ∙ rw (refused_same n k e), f)
      again n q (some r) f e = inr (r, f, slots_refused r.slots (step (exists_by r.slots) r.anodes) k e)

      go : (p : Plan Anodes) → step (exists_by s.slots) s.anodes ≡ p → ◌≡◌ {A = Plan Slotted} (elim p [ planned r zs ↦ planned (slotted r s.slots) zs | refused n ↦ regrown step n (growth s) ]) (refused k) →
          ((step (exists_by s.slots) s.anodes ≡ refused k) × (growth s ≡ none)) ⊎ ((r : Slotted) × (growth s ≡ some r) × (step (exists_by r.slots) r.anodes ≡ refused k))
      go (planned r zs) q e = absurd (planned≢refused (slotted r s.slots) zs k e)
      go (refused n) q e = again n q (growth s) refl e

  -- done at these slots
  pub afresh-done : (t : Anodes) (ys : List ℕ) → step (exists_by s.slots) s.anodes ≡ planned t ys → afresh growth step s ≡ planned (slotted t s.slots) ys
  unfolding afresh
  afresh-done t ys e = rw (e, afresh)

  -- refused at these slots: made afresh on what growth gives
  pub afresh_again : (k : ℕ) → step (exists_by s.slots) s.anodes ≡ refused k → afresh growth step s ≡ regrown step k (growth s)
  unfolding afresh
  afresh_again k e = rw (e, afresh)

  -- refused at these slots, which cannot grow
  pub afresh_stuck : (k : ℕ) → step (exists_by s.slots) s.anodes ≡ refused k → growth s ≡ none → afresh growth step s ≡ refused k
  unfolding regrown
  afresh_stuck k e f = afresh_again k e ∙ rw f

-- without growth the step is the one at these slots
pub afresh_fixed : (step : (ℕ → Bool) → Anodes → Plan Anodes) (s : Slotted) → afresh no_growth step s ≡ at_slots s.slots (step (exists_by s.slots) s.anodes)
unfolding afresh regrown at_slots
afresh_fixed step s = go (step (exists_by s.slots) s.anodes)
  where
    go : (p : Plan Anodes) → ◌≡◌ {A = Plan Slotted} (elim p [ planned r zs ↦ planned (slotted r s.slots) zs | refused n ↦ regrown step n none ]) (at_slots s.slots p)
    go (planned r zs) = refl
    go (refused n) = refl
