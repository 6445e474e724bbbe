-- The blocks that slots have got, slot by slot: those that became the system's.
use Prim.Native.Nat.{ℕ, zero, suc, ◌+◌, ◌≤◌, ◌<◌}
use Rattle.std.specs.Prelude.{◌≡◌, ◌≢◌, cond, List, [], ◌∷◌, eqb}
use Rattle.std.proofs.Math.Path.{sym}
use Rattle.std.proofs.Common.{◌∙◌, arith}
use Rattle.std.proofs.Math.Logic.{inl, inr}
use borrow.Author.Tests.{eq-eqb, ne_eqb, lt-ltb, le-ltb}
use Rattle.rules.specs.Counting.{sum_below, occurrences}
use Rattle.rules.specs.Chains.{one_if_holds, system_by}
use Rattle.laws.specs.Tests.{same?, less?, not_above}
use Rattle.laws.specs.Sums.{one_at_cases}
use Rattle.laws.specs.Bags.{occurrences-nil, occurrences-cons}
use Rattle.laws.specs.Moves.{SlotsGrew}

-- the blocks of the slots below k that hold another block now, the highest slot's first
unfoldable pub slots_got : (ℕ → ℕ) → (ℕ → ℕ) → ℕ → List ℕ
slots_got slots slots' zero = []
slots_got slots slots' (suc k) = cond (eqb (slots' k) (slots k)) (slots_got slots slots' k) (slots' k ∷ slots_got slots slots' k)

module _ {n : ℕ} {slots slots' : ℕ → ℕ} (w : SlotsGrew n slots slots') where
  -- a slot that holds another block was empty
  pub was_empty : (k : ℕ) → slots' k ≢ slots k → slots k ≡ 0
  was_empty k u = elim (same? (slots k) 0) [ inl z ↦ z | inr v ↦ absurd (u (w.used_kept k v)) ]

  -- what the slots below k hold is what they held and what they got
  holds_more : (x k : ℕ) → sum_below (one_if_holds slots' x) k ≡ sum_below (one_if_holds slots x) k + occurrences x (slots_got slots slots' k)
  unfolding slots_got sum_below one_if_holds
  holds_more x zero = omega (arith, occurrences-nil x)
  holds_more x (suc k) = elim (same? (slots' k) (slots k)) [
    | inl e ↦ rw (eq-eqb (slots' k) (slots k) e, e) (omega (arith, holds_more x k))
    | inr u ↦ (let z = was_empty k u in
        rw (ne_eqb (slots' k) (slots k) u, z, ne_eqb (slots' k) 0 (λ i. u (i ∙ sym z))) (omega (arith, holds_more x k, occurrences-cons x (slots' k) (slots_got slots slots' k))))
  ]

  -- each is a block of the disk behind the first three
  pub got_placed : (x k : ℕ) → 0 < occurrences x (slots_got slots slots' k) → (3 ≤ x) × (x < n)
  unfolding slots_got
  got_placed x zero p = absurd (omega (arith, p, occurrences-nil x))
  got_placed x (suc k) p = elim (same? (slots' k) (slots k)) [
    | inl e ↦ got_placed x k (rw (eq-eqb (slots' k) (slots k) e) at p)
    | inr u ↦ elim (one_at_cases (slots' k) x) [
      | inl i ↦ rw i.0 at (w.new-placed k u)
      | inr i ↦ got_placed x k (omega (arith, rw (ne_eqb (slots' k) (slots k) u) at p, occurrences-cons x (slots' k) (slots_got slots slots' k), i.1))
    ]
  ]

  -- so none of the first three is among them
  got_none : (x k : ℕ) → x < 3 → occurrences x (slots_got slots slots' k) ≡ 0
  got_none x k l = not_above (occurrences x (slots_got slots slots' k)) (λ p. omega (arith, l, (got_placed x k p).0))

  -- so they are those by which the system's blocks are more
  pub got_all : (gs : List ℕ) → ((x : ℕ) → system_by slots' x ≡ system_by slots x + occurrences x gs) → (x : ℕ) → occurrences x (slots_got slots slots' 42) ≡ occurrences x gs
  unfolding system_by
  got_all gs got x = elim (less? x 3) [
    | inl l ↦ omega (arith, got_none x 42 l, rw (lt-ltb x 3 l) at (got x))
    | inr l ↦ omega (arith, holds_more x 42, rw (le-ltb x 3 l) at (got x))
  ]
