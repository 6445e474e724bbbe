-- Laws of a search in the queue that the walk left, from a place on. Assumes nothing.
use Rattle.std.specs.Prelude.{Option, Some, None, MatchOption}
use Rattle.std.specs.Option.{is_some}
use Prim.Native.Nat.{ℕ, zero, suc, ◌+◌, ◌≤◌, ◌<◌}
use mathlib.Core.Path.{◌≡◌, refl, sym, ap, ◌∙◌}
use mathlib.Core.Logic.{inl, inr}
use mathlib.Core.Bool.{cond, not}
use mathlib.Core.List.{List, map}
use native.Mathlib.Nat.{zero-add}
use native.Mathlib.Numerals.{add-one}
use native.Mathlib.Omega.{arith}
use lib.Dec.{ltb}
use lib.ListN.{get_or}
use borrow.Author.Tests.{eq-eqb, ne_eqb, lt-ltb, le-ltb}
use Rattle.endian.proofs.Laws.{less?, same?}
use Rattle.rules.specs.Counting.{occurrences}
use Rattle.rules.specs.Changes.{parent_of}
use Rattle.rules.specs.Lookup.{none_headed}
use Rattle.laws.specs.Sums.{one_at-same, one_at_other}
use Rattle.laws.specs.Bags.{occurrences-nil, occurrences-cons}
use Rattle.walk_steps.specs.Steps.{dirs_from, queue_of}
use Rattle.lookup.specs.Queued.{place_of, OwnHeads}

module _ (queue : List ℕ) (h : ℕ) where
  pub place_hit : (i n m : ℕ) → n ≡ suc m → get_or queue i 0 ≡ h → place_of queue h i n ≡ i
  unfolding place_of
  place_hit i n m e is = rw (e, eq-eqb (get_or queue i 0) h is)

  pub place_pass : (i n m : ℕ) → n ≡ suc m → (get_or queue i 0 ≡ h → ⊥) → place_of queue h i n ≡ place_of queue h (i + 1) m
  unfolding place_of
  place_pass i n m e is = rw (e, ne_eqb (get_or queue i 0) h is, add-one i)

  pub place_none : (i n : ℕ) → n ≡ 0 → place_of queue h i n ≡ i
  unfolding place_of
  place_none i n e = rw e

  -- h stands at the place that is found
  place_at : (i n : ℕ) → place_of queue h i n < i + n → get_or queue (place_of queue h i n) 0 ≡ h
  place_at i zero l = absurd (omega (arith, place_none i 0 refl))
  place_at i (suc n) l = elim (same? (get_or queue i 0) h) [
    | inl is ↦ rw (place_hit i (suc n) n refl is) is
    | inr is ↦ rw (place_pass i (suc n) n refl is) (place_at (i + 1) n (omega (arith, l, place_pass i (suc n) n refl is)))
  ]

  -- a place is found for a number that is queued
  pub place_found : (i n j : ℕ) → i ≤ j → j < i + n → get_or queue j 0 ≡ h → place_of queue h i n < i + n
  place_found i zero j a b e = absurd (omega arith)
  place_found i (suc n) j a b e = elim (same? (get_or queue i 0) h) [
    | inl is ↦ omega (arith, place_hit i (suc n) n refl is)
    | inr is ↦ omega (arith, place_pass i (suc n) n refl is, place_found (i + 1) n j (after is) (omega arith) e)
  ]
    where
      after : (get_or queue i 0 ≡ h → ⊥) → i + 1 ≤ j
      after is = elim (same? i j) [ inl q ↦ absurd (is (ap (λ (x : ℕ). get_or queue x 0) q ∙ e)) | inr q ↦ omega (arith, a, q) ]

  -- none is found for a number that is not its own head in the table, where all queued ones are
  pub place_out : (heads : List ℕ) (n : ℕ) → OwnHeads heads queue n → (get_or heads h 0 ≡ h → ⊥) → n ≤ place_of queue h 0 n
  place_out heads n own is = elim (less? (place_of queue h 0 n) n) [
    | inl l ↦ (let at = place_at 0 n (omega (arith, l)) in absurd (is (ap (λ (x : ℕ). get_or heads x 0) (sym at) ∙ own (place_of queue h 0 n) l ∙ at)))
    | inr l ↦ l
  ]

  -- a search in the whole queue finds a place exactly where one is below n
  pub place_there : (n : ℕ) (o : Option ℕ) → MatchOption o (place_of queue h 0 n ≡ n) (λ i. (i < n) × (place_of queue h 0 n ≡ i)) → ltb (place_of queue h 0 n) n ≡ is_some o
  place_there n (Some i) f = rw f.1 (lt-ltb i n f.0)
  place_there n None f = rw f (le-ltb n n (omega arith))

  module _ (parents : List ℕ) where
    occurrences_from : (i n : ℕ) → not (ltb (place_of queue h i n) (i + n)) ≡ none_headed (dirs_from queue parents i n) h
    unfolding dirs_from
    occurrences_from i zero = rw (place_none i 0 refl, le-ltb i (i + 0) (omega arith), occurrences-nil h)
    occurrences_from i (suc n) =
        let heads = map (λ d. d.head) (dirs_from queue parents (suc i) n) in
        let rest = occurrences h heads in
        let behind : i + suc n ≡ suc i + n = omega arith in
        let none : 0 + rest ≡ rest = omega arith in
        elim (same? (get_or queue i 0) h) [
          | inl is ↦ rw (place_hit i (suc n) n refl is, lt-ltb i (i + suc n) (omega arith), occurrences-cons h (get_or queue i 0) heads, one_at-same (get_or queue i 0) h is, ne_eqb (1 + rest) 0 (λ z. omega arith))
          | inr is ↦ rw (place_pass i (suc n) n refl is, add-one i, behind, occurrences-cons h (get_or queue i 0) heads, one_at_other (get_or queue i 0) h is, none) (occurrences_from (suc i) n)
        ]

    -- as the rules count the directories with that head
    pub place_occurrences : (n : ℕ) → not (ltb (place_of queue h 0 n) n) ≡ none_headed (queue_of queue parents n) h
    unfolding queue_of
    place_occurrences n = rw (zero-add n) at (occurrences_from 0 n)

    parent_from : (i n : ℕ) → parent_of (dirs_from queue parents i n) h ≡ cond (ltb (place_of queue h i n) (i + n)) (get_or parents (place_of queue h i n) 0) 0
    unfolding parent_of dirs_from
    parent_from i zero = rw (place_none i 0 refl, le-ltb i (i + 0) (omega arith))
    parent_from i (suc n) =
        let behind : i + suc n ≡ suc i + n = omega arith in
        elim (same? (get_or queue i 0) h) [
          | inl is ↦ rw (place_hit i (suc n) n refl is, lt-ltb i (i + suc n) (omega arith), eq-eqb (get_or queue i 0) h is)
          | inr is ↦ rw (place_pass i (suc n) n refl is, add-one i, behind, ne_eqb (get_or queue i 0) h is) (parent_from (suc i) n)
        ]

    -- the parent that the rules find
    pub place_parent : (n : ℕ) → parent_of (queue_of queue parents n) h ≡ cond (ltb (place_of queue h 0 n) n) (get_or parents (place_of queue h 0 n) 0) 0
    unfolding queue_of
    place_parent n = rw (zero-add n) at (parent_from 0 n)
