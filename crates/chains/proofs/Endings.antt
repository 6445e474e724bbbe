-- The walk back from a chain's end, and what the marks then say. `t`, `n`, `b` and `m` are the tables of predecessors, of nexts, of first blocks and of marks.
use Prim.Native.Nat.{ℕ, zero, suc, ◌+◌, ◌≤◌, ◌<◌}
use mathlib.Core.Path.{◌≡◌, refl, sym, ap, ◌∙◌}
use mathlib.Core.Logic.{◌≢◌, inl, inr}
use mathlib.Core.Bool.{Bool, true, false, not, ◌&&◌, ◌||◌}
use mathlib.Core.List.{List}
use native.Mathlib.Omega.{arith}
use native.Mathlib.Numerals.{add-one}
use lib.ListN.{length, get_or, set, replicate, length-set, length-replicate}
use lib.Seq.{get_or-set_same, get_or-set_other}
use lib.Dec.{eqb, eqb→eq, T_not}
use borrow.Author.Tests.{ne_eqb, eqb-false}
use Rattle.endian.proofs.Laws.{get_or_zeros}
use Rattle.rules.specs.Counting.{any_below}
use Rattle.rules.specs.Chains.{followed}
use Rattle.counting.specs.Laws.{and_none, any_below_each}
use Rattle.laws.specs.Tests.{same?, eq→eqb, both, any_some, other}
use Rattle.laws.specs.Segments.{followed-zero}
use Rattle.laws.specs.Links.{Closed}
use Rattle.chains.specs.Predecessors.{PredTable}
use Rattle.chains.specs.Storing.{stored_along}
use Rattle.chains.specs.Endings.{EndingOnly, EndsBelow, unmarked, Endless, AllEnd, Ends}
use Rattle.chains.proofs.Predecessors.{pred_is}
use Rattle.chains.proofs.Storing.{entry-below, stored-length, stored-kept}

-- ---- following next

module _ (next : ℕ → ℕ) where
  pub followed-none : (x : ℕ) → followed next 0 x ≡ x
  unfolding followed
  followed-none x = refl

  pub followed-one : (k x : ℕ) → followed next (suc k) x ≡ followed next k (next x)
  unfolding followed
  followed-one k x = refl

  followed-last : (k x : ℕ) → followed next (suc k) x ≡ next (followed next k x)
  unfolding followed
  followed-last zero x = refl
  followed-last (suc k) x = followed-last k (next x)

  followed_more : next 0 ≡ 0 → (k m x : ℕ) → k ≤ m → followed next k x ≡ 0 → followed next m x ≡ 0
  unfolding followed
  followed_more z zero m x l e = rw e (followed-zero next m z)
  followed_more z (suc k) zero x l e = absurd (omega arith)
  followed_more z (suc k) (suc m) x l e = followed_more z k m (next x) (omega arith) e

  -- a walk that comes to 0 has a last anode
  last_anode : (block : ℕ → ℕ) → Closed next block → (k a : ℕ) → a ≢ 0 → block a ≢ 0 → followed next k a ≡ 0
      → (j : ℕ) × (j < k) × (followed next j a ≢ 0) × (block (followed next j a) ≢ 0) × (next (followed next j a) ≡ 0)
  unfolding followed
  last_anode block closed zero a h u e = absurd (h e)
  last_anode block closed (suc k) a h u e = elim (same? (next a) 0) [
    | inl z ↦ (zero, omega arith, h, u, z)
    | inr z ↦ (let r = last_anode block closed k (next a) z (closed a z) e in (suc r.0, omega (arith, r.1), r.2, r.3, r.4))
  ]

-- ---- marks, from an end back

module _ (t n : List ℕ) (w : PredTable t n) (first : get_or n 0 0 ≡ 0) where
  -- what is marked has a chain that ends: after j steps, a is j + 1 steps from 0
  back_ending : (k j : ℕ) (m : List ℕ) (a : ℕ) → j + k ≡ 3444 → (a ≢ 0 → followed (λ x. get_or n x 0) (j + 1) a ≡ 0) → EndingOnly m n
      → EndingOnly (stored_along k t m 1 a) n
  unfolding stored_along
  back_ending zero j m a e near old = old
  back_ending (suc k) j m zero e near old = old
  back_ending (suc k) j m (suc a) e near old =
      back_ending k (j + 1) (set m (suc a) 1) (get_or t (suc a) 0) (omega arith) further new
    where
      here : followed (λ y. get_or n y 0) (j + 1) (suc a) ≡ 0
      here = near (λ z. omega arith)

      further : get_or t (suc a) 0 ≢ 0 → followed (λ x. get_or n x 0) (j + 1 + 1) (get_or t (suc a) 0) ≡ 0
      further h = rw (add-one (j + 1), followed-one (λ x. get_or n x 0) (j + 1) (get_or t (suc a) 0), w.noted.is_pred (suc a) h) here

      new : EndingOnly (set m (suc a) 1) n
      new x h = elim (same? x (suc a)) [
        | inl q ↦ rw q (followed_more (λ y. get_or n y 0) first (j + 1) 3444 (suc a) (omega arith) here)
        | inr q ↦ old x (rw (get_or-set_other m (suc a) x 1 0 q) at h)
      ]

  -- what comes to a is marked
  back-marked : (k : ℕ) (m : List ℕ) (a : ℕ) → length n ≡ length m → a ≢ 0 → a < length m
      → (j x : ℕ) → j < k → followed (λ y. get_or n y 0) j x ≡ a → get_or (stored_along k t m 1 a) x 0 ≢ 0
  unfolding stored_along
  back-marked zero m a whole h l j x b e = absurd (omega arith)
  back-marked (suc k) m zero whole h l j x b e = absurd (h refl)
  back-marked (suc k) m (suc a) whole h l zero x b e =
      stored-kept t 1 (λ z. omega arith) k (set m (suc a) 1) (get_or t (suc a) 0) x (rw (sym (followed-none (λ y. get_or n y 0) x) ∙ e, get_or-set_same m (suc a) 1 0 l) (λ z. omega arith))
  back-marked (suc k) m (suc a) whole h l (suc j) x b e =
      back-marked k (set m (suc a) 1) (get_or t (suc a) 0) (whole ∙ sym (length-set m (suc a) 1)) (rw is before_some) (rw (is, length-set m (suc a) 1) before_in) j x (omega arith) (sym is)
    where
      -- the anode that leads to a
      before : ℕ
      before = followed (λ y. get_or n y 0) j x

      leads : get_or n before 0 ≡ suc a
      leads = sym (followed-last (λ y. get_or n y 0) j x) ∙ e

      is : get_or t (suc a) 0 ≡ before
      is = pred_is t n w before (suc a) h leads

      before_some : before ≢ 0
      before_some z = omega (arith, sym leads ∙ ap (λ (y : ℕ). get_or n y 0) z ∙ first)

      before_in : before < length m
      before_in = rw (← whole) (entry-below n before (λ z. omega (arith, sym leads ∙ z)))

-- ---- unmarked anodes, without a test for anode 0

module _ (b m : List ℕ) where
  pub unmarked-first : any_below (unmarked b m) 1 ≡ false
  unfolding any_below unmarked
  unmarked-first = refl

  pub unmarked_more : (a : ℕ) → 0 < a → (any_below (unmarked b m) a || (not (eqb (get_or b a 0) 0) && eqb (get_or m a 0) 0)) ≡ any_below (unmarked b m) (a + 1)
  unfolding any_below unmarked
  unmarked_more a l = rw (add-one a, ne_eqb a 0 (λ e. omega arith))

-- ---- the ends, one anode after the other

module _ (n b : List ℕ) where
  pub ends_none : EndsBelow (replicate 3444 0) n b 0
  ends_none = record {
    whole = length-replicate {A = ℕ} 3444 0;
    ending = λ x h. absurd (h (get_or_zeros 3444 x));
    marked = λ e l. absurd (omega arith);
  }

  module _ (m : List ℕ) (a : ℕ) (w : EndsBelow m n b a) where
    -- a is no end
    pub ends_skip : (get_or b a 0 ≢ 0 → get_or n a 0 ≢ 0) → EndsBelow m n b (a + 1)
    ends_skip h = record {
      whole = w.whole;
      ending = w.ending;
      marked = λ e l some u z. elim (same? e a) [
        | inl q ↦ absurd (h (rw q at u) (rw q at z))
        | inr q ↦ w.marked e (omega arith) some u z
      ];
    }

    pub ends_more : (t : List ℕ) → PredTable t n → get_or n 0 0 ≡ 0 → length n ≡ 3444 → a < 3444 → get_or n a 0 ≡ 0 → EndsBelow (stored_along 3444 t m 1 a) n b (a + 1)
    ends_more t p first whole l end = record {
      whole = stored-length t 1 3444 m a ∙ w.whole;
      ending = back_ending t n p first 3444 0 m a (omega arith) (λ h. followed-one (λ y. get_or n y 0) 0 a ∙ followed-none (λ y. get_or n y 0) (get_or n a 0) ∙ end) w.ending;
      marked = λ e q some u z. elim (same? e a) [
        | inl s ↦ (λ j x k f. back-marked t n p first 3444 m a (whole ∙ sym w.whole) (rw s at some) (rw w.whole l) j x k (f ∙ s))
        | inr s ↦ (λ j x k f. stored-kept t 1 (λ z. omega arith) 3444 m a x (w.marked e (omega arith) some u z j x k f))
      ];
    }

  -- ---- every end done

  module _ (m : List ℕ) (w : EndsBelow m n b 3444) (whole : length b ≡ 3444) where
    below : (a : ℕ) → get_or b a 0 ≢ 0 → a < 3444
    below a u = rw whole at (entry-below b a u)

    all_end : any_below (unmarked b m) 3444 ≡ false → AllEnd n b
    unfolding unmarked
    all_end e = record {
      ends = λ a h u. w.ending a (eqb-false (get_or m a 0) 0 (and_none _ _ (and_none _ _ (any_below_each (unmarked b m) a 3444 (below a u) e) (other a 0 h)) (other (get_or b a 0) 0 u)));
    }

    endless : Closed (λ a. get_or n a 0) (λ a. get_or b a 0) → any_below (unmarked b m) 3444 ≡ true → Endless n b
    unfolding unmarked
    endless closed e =
        let s = any_some (unmarked b m) 3444 (rw e tt) in
        let p = both (not (eqb s.0 0)) (not (eqb (get_or b s.0 0) 0) && eqb (get_or m s.0 0) 0) s.2 in
        let q = both (not (eqb (get_or b s.0 0) 0)) (eqb (get_or m s.0 0) 0) p.1 in
        let h : s.0 ≢ 0 = λ z. T_not (eqb s.0 0) p.0 (eq→eqb s.0 0 z) in
        let u : get_or b s.0 0 ≢ 0 = λ z. T_not (eqb (get_or b s.0 0) 0) q.0 (eq→eqb (get_or b s.0 0) 0 z) in
        record {
          anode = s.0;
          some = h;
          in_use = u;
          never = λ z. found s.0 (last_anode (λ y. get_or n y 0) (λ y. get_or b y 0) closed 3444 s.0 h u z) (eqb→eq (get_or m s.0 0) 0 q.1);
        }
      where
        found : (a : ℕ) → (j : ℕ) × (j < 3444) × (followed (λ y. get_or n y 0) j a ≢ 0) × (get_or b (followed (λ y. get_or n y 0) j a) 0 ≢ 0) × (get_or n (followed (λ y. get_or n y 0) j a) 0 ≡ 0)
            → get_or m a 0 ≡ 0 → ⊥
        found a r z = w.marked (followed (λ y. get_or n y 0) r.0 a) (below (followed (λ y. get_or n y 0) r.0 a) r.3) r.2 r.3 r.4 r.0 a r.1 refl z

    pub ends_of : Closed (λ a. get_or n a 0) (λ a. get_or b a 0) → (r : Bool) → r ≡ any_below (unmarked b m) 3444 → Ends r n b
    ends_of closed true e = endless closed (sym e)
    ends_of closed false e = all_end (sym e)
