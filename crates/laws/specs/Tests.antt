-- Cases on numbers, what Boolean tests say, and what a table of refusals answers.
use Rattle.std.specs.Prelude.{ℕ, zero, suc, ◌≤◌, ◌<◌, ◌≡◌, refl, ◌≢◌, ◌⊎◌, Bool, true, false, cond, not, ◌&&◌, ◌||◌, T, eqb, leb}
use Rattle.std.proofs.Common.{inl, inr, arith, eqb→eq, leb→le, le→leb, eq-eqb, ne_eqb}
use Rattle.std.proofs.Math.Dec.{eqb_refl}
use Rattle.rules.specs.Counting.{◌if◌else◌, first_of, any_below}
pub use Rattle.endian.proofs.Laws.{same?, less?}

-- what is not above 0 is 0
pub not_above : (n : ℕ) → (0 < n → ⊥) → n ≡ 0
not_above n h = elim (less? 0 n) [ inl p ↦ absurd (h p) | inr p ↦ omega arith ]

pub cond_cases {ℓ} : {A : Type ℓ} (t : Bool) (x y : A) → (T t × (cond t x y ≡ x)) ⊎ ((T t → ⊥) × (cond t x y ≡ y))
cond_cases true x y = inl (tt, refl)
cond_cases false x y = inr ((λ h. h), refl)

pub T_true : (t : Bool) → T t → t ≡ true
T_true true h = refl
T_true false h = absurd h

pub T_false : (t : Bool) → (T t → ⊥) → t ≡ false
T_false true h = absurd (h tt)
T_false false h = refl

pub T-same : (s t : Bool) → (T s → T t) → (T t → T s) → s ≡ t
T-same true t f g = rw (T_true t (f tt))
T-same false t f g = rw (T_false t g)

pub eq→eqb : (a b : ℕ) → a ≡ b → T (eqb a b)
eq→eqb a b e = rw (← e) (eqb_refl a)

-- a choice by whether two numbers are the same
pub eqb_cases {ℓ} : {A : Type ℓ} (a b : ℕ) (x y : A) → ((a ≡ b) × (cond (eqb a b) x y ≡ x)) ⊎ ((a ≢ b) × (cond (eqb a b) x y ≡ y))
eqb_cases a b x y = elim (cond_cases (eqb a b) x y) [ inl h ↦ inl (eqb→eq a b h.0, h.1) | inr h ↦ inr (λ e. h.0 (eq→eqb a b e), h.1) ]

pub both : (a b : Bool) → T (a && b) → T a × T b
both true b h = (tt, h)
both false b h = absurd h

pub and : (a b : Bool) → T a → T b → T (a && b)
and true b p q = q
and false b p q = p

-- 0 where a is from k up and m is 1, else c
pub tested_from : (k a m c : ℕ) → ((k ≤ a) × (m ≡ 1) × (cond (leb k a && eqb m 1) 0 c ≡ 0)) ⊎ ((k ≤ a → m ≡ 1 → ⊥) × (cond (leb k a && eqb m 1) 0 c ≡ c))
tested_from k a m c = elim (cond_cases {A = ℕ} (leb k a && eqb m 1) 0 c) [
  | inl h ↦ (let p = both (leb k a) (eqb m 1) h.0 in inl (leb→le k a p.0, eqb→eq m 1 p.1, h.1))
  | inr h ↦ inr (λ l e. h.0 (and (leb k a) (eqb m 1) (le→leb k a l) (eq→eqb m 1 e)), h.1)
]

pub either : (a b : Bool) → T (a || b) → T a ⊎ T b
either true b h = inl tt
either false b h = inr h

pub or_right : (a b : Bool) → T b → T (a || b)
or_right true b h = tt
or_right false b h = h

pub any_some : (t : ℕ → Bool) (k : ℕ) → T (any_below t k) → (i : ℕ) × (i < k) × T (t i)
unfolding any_below
any_some t zero h = absurd h
any_some t (suc k) h = go (any_some t k) (either (any_below t k) (t k) h)
  where
    go : (T (any_below t k) → (i : ℕ) × (i < k) × T (t i)) → T (any_below t k) ⊎ T (t k) → (i : ℕ) × (i < suc k) × T (t i)
    go r (inl h) = let s = r h in (s.0, omega arith, s.2)
    go r (inr h) = (k, omega arith, h)

-- a number that is another, and one that is the same
pub other : (a b : ℕ) → a ≢ b → not (eqb a b) ≡ true
other a b p = rw (ne_eqb a b p)

pub same : (a b : ℕ) → a ≡ b → not (eqb a b) ≡ false
same a b p = rw (eq-eqb a b p)

-- ---- a table of refusals

-- a row that answers 0 has failed, and so has the rest
pub if-zero : (n : ℕ) (t : Bool) (rest : ℕ) → n ≢ 0 → (n if t else rest) ≡ 0 → (t ≡ false) × (rest ≡ 0)
if-zero n true rest p e = absurd (p e)
if-zero n false rest p e = (refl, e)

pub first_of-zero : (a b : ℕ) → first_of a b ≡ 0 → (a ≡ 0) × (b ≡ 0)
unfolding first_of
first_of-zero zero b e = (refl, e)
first_of-zero (suc a) b e = absurd (omega arith)

pub first_of_some : (a b k : ℕ) → a ≡ k → 1 ≤ k → first_of a b ≡ k
unfolding first_of
first_of_some zero b k e l = absurd (omega arith)
first_of_some (suc a) b k e l = e

pub first_of-none : (a b : ℕ) → a ≡ 0 → first_of a b ≡ b
unfolding first_of
first_of-none a b e = rw e
