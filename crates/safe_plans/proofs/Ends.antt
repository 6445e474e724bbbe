-- A plan of a safe change, part by part: the state that its rest starts from, and that the parts are all its steps.
use Prim.Native.Nat.{ℕ}
use mathlib.Core.Path.{◌≡◌, refl, sym, ap, ap₂, subst, fun_ext, ◌∙◌}
use mathlib.Core.List.{List, [], ◌∷◌, ◌++◌, append-nil}
use native.Mathlib.Omega.{arith}
use Rattle.std.specs.Prelude.{Result, Ok, Err}
use Rattle.disk.specs.declared.Refusal.{Refusal}
use Rattle.disk.specs.Root.{slot_of}
use Rattle.disk.specs.Refusals.{number_of}
use Rattle.rules.specs.Chains.{system_by}
use Rattle.rules.specs.Accepted.{disk_size, last_reserved}
use Rattle.rules.specs.Plans.{Slotted, Plan, refused, planned, after, ◌and_then◌}
use Rattle.laws.specs.Plans.{planned_same, planned≢refused}
use Rattle.laws.specs.FixedSlots.{start_owned}
use Rattle.change_laws.specs.Image.{AcceptedImage}
use Rattle.safe_rules.specs.SafePlans.{SafeChange, all_relocated, relocated, reslotted_from, given_back, old_blocks, taking_steps, with_taken, safe_steps}
use Rattle.safe_laws.specs.AllTaken.{OwnSteps, takes_first}
use Rattle.safe_laws.specs.Limbo.{LeavesGood, limbo-left, old-placed}
use Rattle.placing.specs.Steps.{EndsIn}
use Rattle.placing.specs.States.{GoodState}
use Rattle.giving_back.specs.Backs.{InLimbo}
use Rattle.safe_steps.specs.Ready.{SettleReady}
use Rattle.safe_plans.specs.Planned.{rest_from}
use Rattle.safe_plans.proofs.Counts.{disk_small}
use Rattle.safe_plans.proofs.Parts.{then_grouped}

-- ---- the state that the rest starts from

module _ {img : List ℕ} (image : AcceptedImage img) {left : ℕ → Type 0} {c : SafeChange} (own : OwnSteps img left c) (leaves : LeavesGood img c) where
  module _ (r : Slotted) (xs : List ℕ) (first : c.steps and_then all_relocated c.changing ≡ planned r xs) where
    -- the state that its own steps leave is good
    own_state : GoodState (last_reserved img) r
    own_state =
        let v = ((takes_first image own).done r xs first).0 in
        record { n = disk_size img; system = v.system'; hd = v.hd'; sd = v.sd'; small = disk_small image; start = λ x l. omega (arith, v.more x, start_owned (slot_of img) x l); good = v.good }

    -- the old blocks are in nobody's chain once every anode block has a new place
    own_limbo : (s : Slotted) (us : List ℕ) → reslotted_from 42 0 r ≡ planned s us → InLimbo (last_reserved img) (old_blocks img c) s
    own_limbo s us e =
        let o = leaves r xs first in
        let w = limbo-left image own r s xs us first e o in
        record { n = disk_size img; system = system_by s.slots; hd = w.hd'; sd = w.sd'; small = disk_small image; start = start_owned s.slots; inside = old-placed image o; good = w.good }

    -- THE REST CAN FOLLOW
    pub settle_ready : (ys : List ℕ) → ys ≡ old_blocks img c → SettleReady (last_reserved img) ys r
    settle_ready ys e = rw e (own_state, own_limbo)

-- ---- the parts are all its steps

-- the taking steps, then the old blocks back, forgetting which blocks changed hands
back_ends : (img : List ℕ) (c : SafeChange) (moves : Result (Unit {0}) Refusal) (t : Slotted) → EndsIn moves t (taking_steps c and_then given_back (last_reserved img) (old_blocks img c)) → EndsIn moves t (safe_steps img c)
unfolding safe_steps ◌and_then◌ after with_taken
back_ends img c moves t w = go (taking_steps c) w
  where
    back : Slotted → Plan Slotted
    back s = given_back (last_reserved img) (old_blocks img c) s

    last : (ys : List ℕ) (q : Plan Slotted) (moves : Result (Unit {0}) Refusal) → EndsIn moves t (after ys q) → EndsIn moves t (with_taken ys q)
    last ys (refused n) moves w = w
    last ys (planned u zs) (Ok d) (vs, e) = (ys, ap (λ (x : Slotted). planned x ys) (planned_same u t (ys ++ zs) vs e).0)
    last ys (planned u zs) (Err why) e = absurd (planned≢refused u (ys ++ zs) (number_of why) e)

    go : (p : Plan Slotted) → EndsIn moves t (p and_then back) → EndsIn moves t (elim p [ refused n ↦ refused n | planned s ys ↦ with_taken ys (back s) ])
    go (refused n) w = w
    go (planned s ys) w = last ys (back s) moves w

-- no directory block moves
none_after : (p : Plan Slotted) → p and_then all_relocated [] ≡ p
unfolding all_relocated ◌and_then◌ after
none_after (refused n) = refl
none_after (planned s ys) = ap (planned s) (append-nil ys)

-- one does
one-after : (p : Plan Slotted) (y : ℕ) → p and_then all_relocated (y ∷ []) ≡ p and_then relocated y
unfolding all_relocated
one-after p y = ap (λ (f : Slotted → Plan Slotted). p and_then f) (fun_ext (λ s. none_after (relocated y s)))

module _ (img : List ℕ) (c : SafeChange) (moves : Result (Unit {0}) Refusal) (t : Slotted) where
  -- where the own steps with the directory block's are the plan q, and then the rest follows
  pub all_end : (q : Plan Slotted) → c.steps and_then all_relocated c.changing ≡ q → EndsIn moves t (q and_then rest_from (last_reserved img) (old_blocks img c)) → EndsIn moves t (safe_steps img c)
  unfolding taking_steps rest_from
  all_end q e w = back_ends img c moves t (subst (EndsIn moves t) (sym (
      ap (λ (i : Plan Slotted). i and_then reslotted_from 42 0 and_then given_back (last_reserved img) (old_blocks img c)) e
      ∙ then_grouped q (reslotted_from 42 0) (given_back (last_reserved img) (old_blocks img c)))) w)

  -- no directory block moves
  pub steps_end : (p : Plan Slotted) → c.steps ≡ p → c.changing ≡ [] → EndsIn moves t (p and_then rest_from (last_reserved img) (old_blocks img c)) → EndsIn moves t (safe_steps img c)
  steps_end p is e w = all_end p (ap₂ (λ (q : Plan Slotted) (l : List ℕ). q and_then all_relocated l) is e ∙ none_after p) w

  -- one does
  pub moved-end : (p : Plan Slotted) (y : ℕ) → c.steps ≡ p → c.changing ≡ y ∷ [] → EndsIn moves t (p and_then relocated y and_then rest_from (last_reserved img) (old_blocks img c)) → EndsIn moves t (safe_steps img c)
  moved-end p y is e w = all_end (p and_then relocated y) (ap₂ (λ (q : Plan Slotted) (l : List ℕ). q and_then all_relocated l) is e ∙ one-after p y) w

-- what the own steps with the directory block's leave, part by part
pub first-none : (c : SafeChange) (r : Slotted) (xs : List ℕ) → c.changing ≡ [] → c.steps ≡ planned r xs → c.steps and_then all_relocated c.changing ≡ planned r xs
first-none c r xs e is = ap (λ (l : List ℕ). c.steps and_then all_relocated l) e ∙ none_after c.steps ∙ is

pub first_one : (c : SafeChange) (y : ℕ) (q r : Slotted) (us vs : List ℕ) → c.changing ≡ y ∷ [] → c.steps ≡ planned q us → relocated y q ≡ planned r vs → c.steps and_then all_relocated c.changing ≡ planned r (us ++ vs)
unfolding ◌and_then◌ after
first_one c y q r us vs e is moved = ap (λ (l : List ℕ). c.steps and_then all_relocated l) e ∙ one-after c.steps y ∙ ap (λ (p : Plan Slotted). p and_then relocated y) is ∙ ap (after us) moved
