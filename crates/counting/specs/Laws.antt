-- Laws of the rules' tests, and of their searches and sums over the numbers below a bound. Assumes nothing.
use Rattle.std.specs.Prelude.{◌≡◌, Bool, true, false, ◌&&◌, ◌||◌}
use Rattle.std.proofs.Math.Path.{refl}
use Rattle.std.proofs.Common.{sym, ◌∙◌, true≢false, not-suc-le-zero, eq-or-lt_of_le, le_of_suc-le-suc}
use Rattle.std.proofs.Math.Bool.{or-true}
use Rattle.std.proofs.Math.Logic.{⊎_elim}
use Prim.Native.Nat.{ℕ, zero, suc, ◌+◌, ◌<◌, ◌≤◌}
use native.Mathlib.Omega.{arith}
use Rattle.std.proofs.Math.Numerals.{add-one}
use Rattle.rules.specs.Counting.{sum_below, any_below}

-- ---- tests that fail

pub neither : (a b : Bool) → (a || b) ≡ false → (a ≡ false) × (b ≡ false)
neither true b e = absurd (true≢false e)
neither false b e = (refl, e)

pub none_or : (a b : Bool) → a ≡ false → b ≡ false → (a || b) ≡ false
none_or a b p q = rw (p, q)

-- a conjunction that fails, given its first part
pub and_none : (a b : Bool) → (a && b) ≡ false → a ≡ true → b ≡ false
and_none a b e t = rw t at e

pub none-and : (a b : Bool) → (a ≡ true → b ≡ false) → (a && b) ≡ false
none-and true b f = f refl
none-and false b f = refl

-- ---- some number passes

module _ (test : ℕ → Bool) where
  pub any_below-none : any_below test 0 ≡ false
  unfolding any_below
  any_below-none = refl

  pub any_below_more : (i : ℕ) → any_below test i ≡ false → test i ≡ false → any_below test (i + 1) ≡ false
  unfolding any_below
  any_below_more i p q = rw add-one (rw (p, q))

  pub any_below_hit : (i n : ℕ) → i < n → test i ≡ true → any_below test n ≡ true
  unfolding any_below
  any_below_hit i zero l q = absurd (not-suc-le-zero l)
  any_below_hit i (suc n) l q =
      ⊎_elim (λ e. rw (← e, q) (or-true (any_below test i))) (λ k. rw (any_below_hit i n k q)) (eq-or-lt_of_le (le_of_suc-le-suc l))

  -- none passes
  pub any_below_each : (i n : ℕ) → i < n → any_below test n ≡ false → test i ≡ false
  any_below_each i n l e = go (test i) refl where
    go : (t : Bool) → test i ≡ t → test i ≡ false
    go true p = absurd (true≢false (sym (any_below_hit i n l p) ∙ e))
    go false p = p

  pub any_below-all : (n : ℕ) → ((i : ℕ) → i < n → test i ≡ false) → any_below test n ≡ false
  unfolding any_below
  any_below-all zero h = refl
  any_below-all (suc n) h = rw (any_below-all n (λ i l. h i (omega arith)), h n (omega arith))

-- two tests that agree below the bound
pub any_below-same : (test other : ℕ → Bool) (n : ℕ) → ((i : ℕ) → i < n → test i ≡ other i) → any_below test n ≡ any_below other n
unfolding any_below
any_below-same test other zero h = refl
any_below-same test other (suc n) h = rw (any_below-same test other n (λ i l. h i (omega arith)), h n (omega arith))

-- ---- sums

module _ (f : ℕ → ℕ) where
  pub sum_below-none : sum_below f 0 ≡ 0
  unfolding sum_below
  sum_below-none = refl

  pub sum_below_more : (k : ℕ) → sum_below f (k + 1) ≡ sum_below f k + f k
  unfolding sum_below
  sum_below_more k = rw add-one

  -- a larger bound makes no sum smaller
  pub sum_below_upto : (k n : ℕ) → k ≤ n → sum_below f k ≤ sum_below f n
  unfolding sum_below
  sum_below_upto k zero l = let e : k ≡ 0 = omega arith in rw e (omega arith)
  sum_below_upto k (suc n) l =
      ⊎_elim (λ e. rw e (omega arith)) (λ m. omega (arith, sum_below_upto k n (le_of_suc-le-suc m))) (eq-or-lt_of_le l)
