-- 9, one anode after the other.
use Prim.Native.Nat.{ℕ, zero, suc, ◌+◌}
use mathlib.Core.Path.{◌≡◌, refl, sym, ◌∙◌}
use mathlib.Core.Logic.{◌≢◌, inl, inr}
use mathlib.Core.Bool.{Bool, true, false, not, ◌&&◌, ◌||◌, or-true, or_assoc}
use mathlib.Core.List.{List, [], ◌∷◌}
use native.Mathlib.Omega.{arith}
use lib.Dec.{eqb}
use borrow.Author.Tests.{ne_eqb}
use Rattle.rules.specs.Counting.{one_at, occurrences, any_in}
use Rattle.rules.specs.Anodes.{Anodes}
use Rattle.rules.specs.Chains.{chain_of, cut, side}
use Rattle.rules.specs.Accepted.{not_above, not_up_to, wrong_free_list}
use Rattle.laws.specs.Tests.{same?}
use Rattle.laws.specs.Chains.{chain-none, chain-end, chain_step}
use Rattle.laws.specs.Sums.{one_at-same, one_at_other}
use Rattle.laws.specs.Bags.{occurrences-nil, occurrences-cons}
use Rattle.chains.specs.FreeList.{wrong_before}

-- ---- a test along a chain

module _ (t : ℕ → Bool) (next : ℕ → ℕ) where
  any_end : (k a : ℕ) → a ≡ 0 → any_in t (chain_of next k a) ≡ false
  unfolding any_in
  any_end k a e = rw (chain-end next k a e)

  any_step : (k m a : ℕ) → k ≡ m + 1 → a ≢ 0 → (b : Bool) → t a ≡ b → any_in t (chain_of next k a) ≡ (b || any_in t (chain_of next m (next a)))
  unfolding any_in
  any_step k m a e h b is = rw (chain_step next k m a e h, is)

-- ---- before anode 2

-- before 2 is met, an anode has an extent that is not above last reserved, or the list ends
unfoldable pub before_in : Anodes → ℕ → List ℕ → Bool
before_in s last [] = true
before_in s last (a ∷ l) = not (eqb a 2) && (not_above s last a || before_in s last l)

module _ (s : Anodes) (last : ℕ) where
  before-none : (k a : ℕ) → k ≡ 0 → wrong_before s last k a ≡ true
  unfolding wrong_before
  before-none k a e = rw (chain-none s.next k a e, occurrences-nil 2)

  before-end : (k a : ℕ) → a ≡ 0 → wrong_before s last k a ≡ true
  unfolding wrong_before
  before-end k a e = rw (chain-end s.next k a e, occurrences-nil 2)

  before-two : (k m a : ℕ) → k ≡ m + 1 → a ≡ 2 → wrong_before s last k a ≡ false
  unfolding wrong_before
  before-two k m a e two =
      let n : one_at 2 2 + occurrences 2 (chain_of s.next m (s.next 2)) ≢ 0 = λ z. omega (arith, one_at-same 2 2 refl) in
      rw (
        two,
        chain_step s.next k m 2 e (λ z. omega arith),
        occurrences-cons 2 2 (chain_of s.next m (s.next 2)),
        ne_eqb (one_at 2 2 + occurrences 2 (chain_of s.next m (s.next 2))) 0 n,
        any_end (not_above s last) (cut s.next) k 0 refl,
      )

  module _ (k m a : ℕ) (fuel : k ≡ m + 1) (some : a ≢ 0) (two : a ≢ 2) where
    before-one : wrong_before s last k a ≡ (eqb (occurrences 2 (chain_of s.next m (s.next a))) 0 || (not_above s last a || any_in (not_above s last) (chain_of (cut s.next) m (cut s.next a))))
    unfolding wrong_before
    before-one =
        let e : 0 + occurrences 2 (chain_of s.next m (s.next a)) ≡ occurrences 2 (chain_of s.next m (s.next a)) = omega arith in
        rw (
          ne_eqb a 2 two,
          chain_step s.next k m a fuel some,
          occurrences-cons 2 a (chain_of s.next m (s.next a)),
          one_at_other a 2 two,
          e,
          any_step (not_above s last) (cut s.next) k m a fuel some (not_above s last a) refl,
        )

    before_more : (b : Bool) → not_above s last a ≡ b → wrong_before s last k a ≡ (b || wrong_before s last m (s.next a))
    unfolding wrong_before cut
    before_more true p = before-one ∙ rw (p, or-true)
    before_more false p = before-one ∙ rw p

  -- the same over the anodes of the chain
  pub before_chain : (k a : ℕ) → wrong_before s last k a ≡ before_in s last (chain_of s.next k a)
  unfolding chain_of before_in
  before_chain zero a = before-none 0 a refl
  before_chain (suc k) zero = before-end (suc k) 0 refl
  before_chain (suc k) (suc a) = elim (same? (suc a) 2) [
    | inl e ↦ before-two (suc k) k (suc a) (omega arith) e ∙ rw e
    | inr e ↦ before_more (suc k) k (suc a) (omega arith) (λ z. omega arith) e (not_above s last (suc a)) refl ∙ rw (before_chain k (s.next (suc a)), ne_eqb (suc a) 2 e)
  ]

  pub free_list : wrong_free_list s last ≡ (wrong_before s last 3444 1 || any_in (not_up_to s last) (chain_of s.next 3444 2))
  unfolding wrong_free_list wrong_before side
  free_list =
      sym (or_assoc (eqb (occurrences 2 (chain_of s.next 3444 1)) 0) (any_in (not_above s last) (chain_of (cut s.next) 3444 1)) (any_in (not_up_to s last) (chain_of s.next 3444 2)))
