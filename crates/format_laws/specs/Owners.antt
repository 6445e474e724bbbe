-- Each block of a formatted image has one owner.
use Rattle.std.specs.Prelude.{ℕ, ◌+◌, ◌-◌, ◌≤◌, ◌<◌, ◌≡◌, refl, ◌≢◌, List}
use Rattle.std.proofs.Common.{sym, ◌∙◌}
use Rattle.std.proofs.Math.Logic.{inl, inr}
use native.Mathlib.Omega.{arith}
use borrow.Author.Tests.{lt-ltb, le-ltb, ne_eqb}
use Rattle.rules.specs.Counting.{one_at, sum_below}
use Rattle.rules.specs.Anodes.{Anodes, limit}
use Rattle.rules.specs.Chains.{one_if_covers, one_if_holds, system_by, system_owns, owners}
use Rattle.rules.specs.Format.{formatted}
use Rattle.laws.specs.Tests.{less?}
use Rattle.laws.specs.Sums.{one_at-same, one_at_other, sum-zero, sum_single, sum-three}
use Rattle.laws.specs.Ownership.{covers_in, covers_over, covers_none, covers_join}
use Rattle.disk.specs.Root.{slot_of}
use Rattle.format.proofs.Laws.{Taken, slot_of-formatted_some, slot_of-formatted-none}
use Rattle.format_laws.specs.Anodes.{Full, full-2, full-5, full-6, Owns, Laid}
use Rattle.format_laws.specs.Links.{full}

module _ {s : Anodes} {n last k : ℕ} (m : Laid s n last k) where
  owned : (a c b x : ℕ) → Owns s a c b → one_if_covers (s.count a) (s.block a) x ≡ one_if_covers c b x
  owned a c b x o = elim (less? 0 (s.count a)) [
    | inl p ↦ rw (o.start p, o.count)
    | inr p ↦ (let e : c ≡ 0 = omega (arith, o.count) in rw (o.count, e) (covers_none (s.block a) x ∙ sym (covers_none b x)))
  ]

  not_full : (a : ℕ) → Full a → a ≢ 2 → a ≢ 5 → a ≢ 6 → ⊥
  not_full _ full-2 n2 n5 n6 = n2 refl
  not_full _ full-5 n2 n5 n6 = n5 refl
  not_full _ full-6 n2 n5 n6 = n6 refl

  others : (x a : ℕ) → a ≢ 2 → a ≢ 5 → a ≢ 6 → one_if_covers (s.count a) (s.block a) x ≡ 0
  others x a n2 n5 n6 = elim (less? 0 (s.count a)) [
    | inl c ↦ absurd (not_full a (full m a (m.which a) c) n2 n5 n6)
    | inr c ↦ (let e : s.count a ≡ 0 = omega arith in rw e (covers_none (s.block a) x))
  ]

  pub one_owner : (system : ℕ → ℕ) (x : ℕ) → system x ≡ one_if_covers (3 + k) 0 x → x < n → owners limit s.count s.block system x ≡ 1
  unfolding owners
  one_owner system x sys l = omega (
    arith,
    sum-three (λ a. one_if_covers (s.count a) (s.block a) x) 2 5 6 limit (omega arith) (omega arith) (omega arith) (omega arith) (omega arith) (omega arith) (others x),
    owned 2 (last - (3 + k)) (4 + k) x m.owns_2,
    owned 5 1 (3 + k) x (record { count = m.at_5.count; start = λ p. m.at_5.block }),
    owned 6 (n - (last + 1)) (last + 1) x m.owns_6,
    covers_join (3 + k) 1 0 (4 + k) (3 + k) x (omega arith) (omega arith),
    covers_join (4 + k) (last - (3 + k)) 0 (last + 1) (4 + k) x (omega arith) (omega (arith, m.room)),
    covers_join (last + 1) (n - (last + 1)) 0 n (last + 1) x (omega arith) (omega (arith, m.there)),
    covers_in n 0 x (omega arith) (omega arith),
  )

-- ---- the system's blocks

module _ (img : List ℕ) (last k : ℕ) (name : List ℕ) (day minute tick protection : ℕ) (args : Taken img last k name) where
  abbrev disk : List ℕ
  disk = formatted img last k name day minute tick protection

  -- slot s holds block 3 + s where it is below k, else none
  holds_some : (x s : ℕ) → s < k → one_if_holds (slot_of disk) x s ≡ one_at (3 + s) x
  unfolding one_if_holds
  holds_some x s h = rw (slot_of-formatted_some img last k name day minute tick protection args s h, ne_eqb (3 + s) 0 (omega arith))

  holds_none : (x s : ℕ) → (s < k → 3 + s ≢ x) → one_if_holds (slot_of disk) x s ≡ 0
  unfolding one_if_holds
  holds_none x s o = elim (less? s k) [
    | inl h ↦ holds_some x s h ∙ one_at_other (3 + s) x (o h)
    | inr h ↦ rw (slot_of-formatted-none img last k name day minute tick protection args s h)
  ]

  slots_hold : (x : ℕ) → 3 ≤ x → sum_below (one_if_holds (slot_of disk) x) 42 ≡ one_if_covers (3 + k) 0 x
  slots_hold x l = elim (less? x (3 + k)) [
    | inl h ↦ sum_single (one_if_holds (slot_of disk) x) (x - 3) 42 (omega (arith, args)) (λ s g e. holds_none x s (λ i. omega arith))
        ∙ holds_some x (x - 3) (omega arith) ∙ one_at-same (3 + (x - 3)) x (omega arith) ∙ sym (covers_in (3 + k) 0 x (omega arith) (omega arith))
    | inr h ↦ sum-zero (one_if_holds (slot_of disk) x) 42 (λ s g. holds_none x s (λ i. omega arith)) ∙ sym (covers_over (3 + k) 0 x (omega arith))
  ]

  pub system_owns_lem : (x : ℕ) → system_owns disk x ≡ one_if_covers (3 + k) 0 x
  unfolding system_by
  system_owns_lem x = elim (less? x 3) [
    | inl l ↦ rw (lt-ltb x 3 l) (sym (covers_in (3 + k) 0 x (omega arith) (omega arith)))
    | inr l ↦ rw (le-ltb x 3 l) (slots_hold x l)
  ]
