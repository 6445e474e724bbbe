-- Laws of the slots in use, of a file that is emptied, and of one plan after the other.
use Prim.Native.Nat.{ℕ, suc, ◌+◌, ◌≤◌}
use mathlib.Core.Path.{◌≡◌, refl, sym, ap, subst, ◌∙◌}
use mathlib.Core.Bool.{Bool, true, false, cond}
use mathlib.Core.List.{List, [], ◌∷◌, ◌++◌}
use native.Mathlib.Omega.{arith}
use lib.Dec.{eqb}
use lib.ListN.{length, length-append}
use Rattle.std.specs.Prelude.{Result, Ok, Err}
use Rattle.disk.specs.declared.Refusal.{Refusal}
use Rattle.rules.specs.Anodes.{Anodes, limit}
use Rattle.rules.specs.Plans.{Slotted, slotted, Plan, planned, after, ◌and_then◌, no_growth}
use Rattle.rules.specs.Space.{rewritten, dropped, take_many}
use Rattle.laws.specs.Plans.{then_stop}
use Rattle.safe_rules.specs.SafePlans.{slot_blocks, taken_anew}
use Rattle.safe_laws.specs.Anew.{emptied, emptied_head, system_is}
use Rattle.placing.specs.States.{Ready}
use Rattle.placing.specs.Steps.{EndsIn}

-- ---- the slots in use

pub none_used : (slots : ℕ → ℕ) → 0 ≡ length (slot_blocks slots 0)
unfolding slot_blocks
none_used slots = refl

count-one : (b : Bool) (y : ℕ) → length (cond b [] (y ∷ [])) ≡ cond b 0 1
count-one true y = refl
count-one false y = refl

-- one more slot
pub more_used : (slots : ℕ → ℕ) (k used : ℕ) → used ≡ length (slot_blocks slots k) → used + cond (eqb (slots k) 0) 0 1 ≡ length (slot_blocks slots (k + 1))
unfolding slot_blocks
more_used slots k used e =
    let i : k + 1 ≡ suc k = omega arith in
    ap (λ (n : ℕ). n + cond (eqb (slots k) 0) 0 1) e ∙ ap (λ (n : ℕ). length (slot_blocks slots k) + n) (sym (count-one (eqb (slots k) 0) (slots k)))
    ∙ sym (length-append (slot_blocks slots k) (cond (eqb (slots k) 0) [] (slots k ∷ []))) ∙ ap (λ (j : ℕ). length (slot_blocks slots j)) (sym i)

-- a slot counts once at most
pub slot_few : (n y : ℕ) → n ≡ cond (eqb y 0) 0 1 → n ≤ 1
slot_few n y e = go (eqb y 0) e
  where
    go : (b : Bool) → n ≡ cond b 0 1 → n ≤ 1
    go true e = omega (arith, e)
    go false e = omega (arith, e)

-- ---- a file that is emptied

-- it is ready to take
pub emptied_ready : (last : ℕ) (s : Slotted) (h : ℕ) → 6 ≤ h → Ready last s h → (t : Anodes) → t ≡ rewritten (dropped limit s.anodes h) h 0 65535 → Ready last (slotted t s.slots) h
emptied_ready last s h h6 (g, (d, h1)) t e =
    let w = emptied s g.system g.hd g.sd g.good h h6 d in
    rw e (
      record {
        n = g.n;
        system = w.system';
        hd = w.hd';
        sd = w.sd';
        small = g.small;
        start = λ x l. omega (arith, g.start x l, system_is s g.system g.hd g.sd g.good h h6 d x);
        good = w.good;
      },
      (emptied_head s g.system g.hd g.sd g.good h h6 d, h1),
    )

-- the takes are then those of the plan
pub ends_anew : (s : Slotted) (h k : ℕ) (r t : Anodes) → r ≡ dropped limit s.anodes h → t ≡ rewritten r h 0 65535 → (moves : Result (Unit {0}) Refusal) (u : Slotted) → EndsIn moves u (take_many limit no_growth false k h (slotted t s.slots)) → EndsIn moves u (taken_anew h k s)
unfolding taken_anew
ends_anew s h k r t e i moves u w = let q : t ≡ rewritten (dropped limit s.anodes h) h 0 65535 = i ∙ ap (λ (x : Anodes). rewritten x h 0 65535) e in
    subst (λ (x : Anodes). EndsIn moves u (take_many limit no_growth false k h (slotted x s.slots))) q w

-- ---- one plan after the other

module _ (p : Plan Slotted) (f : Slotted → Plan Slotted) where
  -- the first is refused
  pub ends_stopped : (s t : Slotted) (why : Refusal) → EndsIn (Err why) s p → EndsIn (Err why) t (p and_then f)
  ends_stopped s t why q = then_stop p f _ q

  -- it is done, and the second is made on what it leaves
  pub ends_then : (s : Slotted) (us : List ℕ) → p ≡ planned s us → (moves : Result (Unit {0}) Refusal) (t : Slotted) → EndsIn moves t (f s) → EndsIn moves t (p and_then f)
  unfolding ◌and_then◌ after
  ends_then s us e (Ok d) t (ys, q) = (us ++ ys, ap (λ (i : Plan Slotted). i and_then f) e ∙ ap (after us) q)
  ends_then s us e (Err why) t q = ap (λ (i : Plan Slotted). i and_then f) e ∙ ap (after us) q
