-- The parts of a plan, one after the other, and the anode of a chain with a block.
use Prim.Native.Nat.{ℕ}
use mathlib.Core.Path.{◌≡◌, refl, sym, ap, subst, ◌∙◌}
use mathlib.Core.Logic.{◌≢◌, inl, inr}
use mathlib.Core.List.{List, [], ◌∷◌}
use borrow.Author.Tests.{eq-eqb, ne_eqb}
use Rattle.std.specs.Prelude.{Result, Ok, Err}
use Rattle.disk.specs.declared.BlockNo.{BlockNo}
use Rattle.disk.specs.declared.Refusal.{Refusal}
use Rattle.disk.specs.Refusals.{number_of}
use Rattle.rules.specs.Chains.{run}
use Rattle.rules.specs.Plans.{Slotted, Plan, refused, planned, after, ◌and_then◌}
use Rattle.laws.specs.Plans.{after_both, then_stop}
use Rattle.laws.specs.Tests.{same?}
use Rattle.laws.specs.Members.{Member, no_member, member-first, member-later, member-cons}
use Rattle.safe_rules.specs.SafePlans.{reslotted_from, given_back}
use Rattle.placing.specs.Steps.{step_plan, EndsIn}
use Rattle.safe_steps.proofs.Steps.{ends_then}
use Rattle.safe_plans.specs.Planned.{anode_with, rest_from}

-- ---- the parts of a plan

-- the rest, as it is made
pub rest_ends : (last : ℕ) (ys : List ℕ) (r : Slotted) (moves : Result (Unit {0}) Refusal) (t : Slotted) → EndsIn moves t (reslotted_from 42 0 r and_then given_back last ys) → EndsIn moves t (rest_from last ys r)
unfolding rest_from
rest_ends last ys r moves t e = e

-- three parts, grouped either way
pub then_grouped : (p : Plan Slotted) (f g : Slotted → Plan Slotted) → p and_then f and_then g ≡ p and_then (λ s. f s and_then g)
unfolding ◌and_then◌ after
then_grouped (refused n) f g = refl
then_grouped (planned s ys) f g = go (f s)
  where
    go : (q : Plan Slotted) → after ys q and_then g ≡ after ys (q and_then g)
    go (refused n) = refl
    go (planned r zs) = sym (after_both ys zs (g r))

-- three parts: the first is done, and the others are made on what it leaves
pub ends_twice : (p : Plan Slotted) (f g : Slotted → Plan Slotted) (s : Slotted) (us : List ℕ) → p ≡ planned s us → (moves : Result (Unit {0}) Refusal) (t : Slotted) → EndsIn moves t (f s and_then g) → EndsIn moves t (p and_then f and_then g)
ends_twice p f g s us e moves t w = subst (EndsIn moves t) (sym (then_grouped p f g)) (ends_then p (λ i. f i and_then g) s us e moves t w)

-- a step on the anodes is done, and the rest is made on what it leaves
module _ (step : Result BlockNo Refusal) (p : Plan Slotted) (s : Slotted) (is : step_plan step 1 s ≡ p) (f : Slotted → Plan Slotted) where
  pub step_stops : (why : Refusal) → step ≡ Err why → (t : Slotted) → EndsIn (Err why) t (p and_then f)
  step_stops why e t = then_stop p f (number_of why) (sym is ∙ ap (λ (i : Result BlockNo Refusal). step_plan i 1 s) e)

  pub step_planned : (z : BlockNo) → step ≡ Ok z → p ≡ planned s (run z.0 1)
  step_planned z e = sym is ∙ ap (λ (i : Result BlockNo Refusal). step_plan i 1 s) e

-- ---- the anode with a block

-- where an anode of a list has the block, the one that is found is one of the list with it
pub with-found : (block : ℕ → ℕ) (y : ℕ) (l : List ℕ) (a : ℕ) → Member a l → block a ≡ y → Member (anode_with block y l) l × (block (anode_with block y l) ≡ y)
unfolding anode_with
with-found block y [] a m e = absurd (no_member a m)
with-found block y (b ∷ l) a m e = elim (same? (block b) y) [
  | inl i ↦ rw (eq-eqb (block b) y i) (member-first b l, i)
  | inr o ↦ (let later : Member a l = elim (member-cons a b l m) [ inl q ↦ absurd (o (ap block (sym q) ∙ e)) | inr q ↦ q ] in
      let (p, q) = with-found block y l a later e in rw (ne_eqb (block b) y o) (member-later (anode_with block y l) b l p, q))
]

module _ (block : ℕ → ℕ) (y a : ℕ) (l : List ℕ) where
  -- the first anode of a list has the block
  pub with_first : block a ≡ y → anode_with block y (a ∷ l) ≡ a
  unfolding anode_with
  with_first is = rw (eq-eqb (block a) y is)

  -- it has not
  pub with-later : block a ≢ y → anode_with block y (a ∷ l) ≡ anode_with block y l
  unfolding anode_with
  with-later is = rw (ne_eqb (block a) y is)
