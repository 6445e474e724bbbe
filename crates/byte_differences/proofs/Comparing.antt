-- Laws of the first byte that differs and of how many do, part by part. Assumes nothing.
use Prim.Native.Nat.{ℕ, zero, suc, ◌+◌, ◌-◌, ◌<◌, ◌≤◌, min}
use mathlib.Core.Path.{◌≡◌, refl, sym, ap, ◌∙◌}
use mathlib.Core.Logic.{inl, inr}
use mathlib.Core.Bool.{Bool, true, false, cond, not, ◌&&◌, ◌||◌}
use mathlib.Core.List.{List, [], ◌∷◌}
use native.Mathlib.Numerals.{add-one}
use native.Mathlib.Omega.{arith}
use lib.ListN.{length, get_or, take, drop, drop_of_length-le}
use lib.Seq.{drop-cons, drop-drop, length-take-le}
use lib.Dec.{eqb, ltb}
use mir.Val.{bool_byte}
use borrow.Author.Tests.{lt-ltb, le-ltb, le-leb, lt-leb}
use Rattle.rules.specs.Counting.{least, sum_below, any_below, same_bytes}
use Rattle.counting.specs.Laws.{any_below_each, sum_below_more}
use Rattle.laws.specs.Tests.{less?, T_false, T_true}
use Rattle.laws.specs.Sums.{least_cases, least-found, least-none, sum_congr, sum_mono, sum_const, sum-zero}
use Rattle.differences.specs.Fields.{longer_length, byte_differs, bytes_differing, first_byte_differing}
use Rattle.byte_differences.specs.declared.Differing.{Differing}
use Rattle.byte_differences.specs.Differing.{differing_made}
use Rattle.byte_differences.specs.BytesCompared.{many_in, first_in, BytesCompared}

-- ---- one byte

-- both lists have byte i: it differs where the two numbers do
pub differs_here : (l m : List ℕ) (i : ℕ) → i < length l → i < length m → byte_differs l m i ≡ not (eqb (get_or l i 0) (get_or m i 0))
unfolding byte_differs same_bytes
differs_here l m i h k = rw (drop-cons l i 0 h, drop-cons m i 0 k) (ap not (and_true (eqb (get_or l i 0) (get_or m i 0)))) where
  and_true : (b : Bool) → b && true ≡ b
  and_true true = refl
  and_true false = refl

-- only one of the two has byte i
differs_left : (l m : List ℕ) (i : ℕ) → i < length l → length m ≤ i → byte_differs l m i ≡ true
unfolding byte_differs same_bytes
differs_left l m i h k = rw (drop-cons l i 0 h, drop_of_length-le m {i = i} k)

differs_right : (l m : List ℕ) (i : ℕ) → length l ≤ i → i < length m → byte_differs l m i ≡ true
unfolding byte_differs same_bytes
differs_right l m i h k = rw (drop_of_length-le l {i = i} h, drop-cons m i 0 k)

-- byte i of a beginning is that of the whole
one_of : (l : List ℕ) (i n : ℕ) → i < n → take 1 (drop i (take n l)) ≡ take 1 (drop i l)
one_of l i zero h = absurd (omega arith)
one_of [] i (suc n) h = refl
one_of (x ∷ l) zero (suc n) h = refl
one_of (x ∷ l) (suc i) (suc n) h = one_of l i n (omega arith)

differs_begun : (l m : List ℕ) (j k i : ℕ) → i < j → i < k → byte_differs (take j l) (take k m) i ≡ byte_differs l m i
unfolding byte_differs
differs_begun l m j k i h g = rw (one_of l i j h, one_of m i k g)

-- byte i of the n bytes from `at` on
differs_in : (l m : List ℕ) (at n i : ℕ) → i < n → byte_differs (take n (drop at l)) (take n (drop at m)) i ≡ byte_differs l m (at + i)
unfolding byte_differs
differs_in l m at n i h = rw (one_of (drop at l) i n h, one_of (drop at m) i n h, drop-drop i at l, drop-drop i at m)

-- ---- the first that passes, and how many pass, of two parts

-- u is the test t from `at` on
module _ (t u : ℕ → Bool) (at n : ℕ) (same : (i : ℕ) → i < n → u i ≡ t (at + i)) where
  -- no number before `at` passes, and none of the first j behind it
  none_below : ((i : ℕ) → i < at → t i ≡ false) → (j : ℕ) → j ≤ n → ((i : ℕ) → i < j → u i ≡ false) → (k : ℕ) → k < at + j → t k ≡ false
  none_below before j l none k h = elim (less? k at) [
    | inl p ↦ before k p
    | inr p ↦ let e : at + (k - at) ≡ k = omega arith in rw e at (sym (same (k - at) (omega arith)) ∙ none (k - at) (omega arith))
  ]

  least-behind : ((i : ℕ) → i < at → t i ≡ false) → least t (at + n) ≡ at + least u n
  least-behind before = elim (least_cases u n) [
    | inl d ↦ least-found t (at + least u n) (at + n) (omega (arith, d.0)) (none_below before (least u n) (omega (arith, d.0)) (λ i l. T_false (u i) (d.2 i l)))
        (sym (same (least u n) d.0) ∙ T_true (u (least u n)) d.1)
    | inr d ↦ least-none t (at + n) (none_below before n (omega arith) (λ i l. T_false (u i) (d.1 i l))) ∙ sym (ap (λ (k : ℕ). at + k) d.0)
  ]

  least-joined : least t (at + n) ≡ cond (ltb (least t at) at) (least t at) (at + least u n)
  least-joined = elim (least_cases t at) [
    | inl d ↦ rw (lt-ltb (least t at) at d.0) (least-found t (least t at) (at + n) (omega (arith, d.0)) (λ j l. T_false (t j) (d.2 j l)) (T_true (t (least t at)) d.1))
    | inr d ↦ rw (le-ltb (least t at) at (omega (arith, d.0))) (least-behind (λ j l. T_false (t j) (d.1 j l)))
  ]

-- the same numbers pass
least-same : (t u : ℕ → Bool) (n : ℕ) → ((i : ℕ) → i < n → t i ≡ u i) → least t n ≡ least u n
unfolding least
least-same t u zero same = refl
least-same t u (suc n) same = rw (least-same t u n (λ i h. same i (omega arith)), same n (omega arith))

-- a sum falls into two at any place
sum_split : (f : ℕ → ℕ) (at n : ℕ) → sum_below f (at + n) ≡ sum_below f at + sum_below (λ i. f (at + i)) n
unfolding sum_below
sum_split f at zero = let e : at + 0 ≡ at = omega arith in rw e (omega arith)
sum_split f at (suc n) = let e : at + suc n ≡ suc (at + n) = omega arith in rw e (omega (arith, sum_split f at n))

-- ---- of two lists

first-none : (l m : List ℕ) → first_in l m 0 ≡ 0
unfolding first_in least
first-none l m = refl

pub many_none : (l m : List ℕ) → many_in l m 0 ≡ 0
unfolding many_in sum_below
many_none l m = refl

first-most : (l m : List ℕ) (n : ℕ) → first_in l m n ≤ n
unfolding first_in
first-most l m n = elim (least_cases (byte_differs l m) n) [ inl d ↦ omega (arith, d.0) | inr d ↦ omega (arith, d.0) ]

many_most : (l m : List ℕ) (n : ℕ) → many_in l m n ≤ n
unfolding many_in
many_most l m n = omega (arith, sum_mono (λ i. cond (byte_differs l m i) 1 0) (λ i. 1) n (λ i h. at_most (byte_differs l m i)), sum_const 1 n) where
  at_most : (b : Bool) → cond b 1 0 ≤ 1
  at_most true = omega arith
  at_most false = omega arith

-- the byte behind the first n
many_more : (l m : List ℕ) (n : ℕ) → many_in l m (n + 1) ≡ many_in l m n + cond (byte_differs l m n) 1 0
unfolding many_in
many_more l m n = sum_below_more (λ i. cond (byte_differs l m i) 1 0) n

any_more : (l m : List ℕ) (n : ℕ) → any_below (byte_differs l m) (n + 1) ≡ any_below (byte_differs l m) n || byte_differs l m n
unfolding any_below
any_more l m n = rw (add-one n)

-- byte i, which both lists have, is counted
module _ (l m : List ℕ) (i : ℕ) (h : i < length l) (k : i < length m) where
  pub many_counted : many_in l m i + bool_byte (not (eqb (get_or l i 0) (get_or m i 0))) ≡ many_in l m (i + 1)
  many_counted = rw (many_more l m i, differs_here l m i h k) (ap (λ (x : ℕ). many_in l m i + x) (counted (not (eqb (get_or l i 0) (get_or m i 0))))) where
    counted : (b : Bool) → bool_byte b ≡ cond b 1 0
    counted true = refl
    counted false = refl

  pub any_tested : any_below (byte_differs l m) i || not (eqb (get_or l i 0) (get_or m i 0)) ≡ any_below (byte_differs l m) (i + 1)
  any_tested = rw (any_more l m i, differs_here l m i h k)

pub one-most : (b : Bool) → bool_byte b ≤ 1
one-most true = omega arith
one-most false = omega arith

-- no byte differs
module _ (l m : List ℕ) (n : ℕ) (none : any_below (byte_differs l m) n ≡ false) where
  pub first-all : n ≡ first_in l m n
  unfolding first_in
  first-all = sym (least-none (byte_differs l m) n (λ i h. any_below_each (byte_differs l m) i n h none))

  pub many_all : 0 ≡ many_in l m n
  unfolding many_in
  many_all = sym (sum-zero (λ i. cond (byte_differs l m i) 1 0) n (λ i h. rw (any_below_each (byte_differs l m) i n h none)))

-- the first that differs is i
pub first_found : (l m : List ℕ) (i n : ℕ) → i < n → any_below (byte_differs l m) i ≡ false → byte_differs l m i ≡ true → i ≡ first_in l m n
unfolding first_in
first_found l m i n h none here = sym (least-found (byte_differs l m) i n h (λ j k. any_below_each (byte_differs l m) j i k none) here)

-- the n bytes from `at` on, by themselves
module _ (l m : List ℕ) (at n : ℕ) where
  first-joined : first_in l m (at + n) ≡ cond (ltb (first_in l m at) at) (first_in l m at) (at + first_in (take n (drop at l)) (take n (drop at m)) n)
  unfolding first_in
  first-joined = least-joined (byte_differs l m) (byte_differs (take n (drop at l)) (take n (drop at m))) at n (differs_in l m at n)

  many_joined : many_in l m (at + n) ≡ many_in l m at + many_in (take n (drop at l)) (take n (drop at m)) n
  unfolding many_in
  many_joined =
      let own = sum_congr (λ i. cond (byte_differs (take n (drop at l)) (take n (drop at m)) i) 1 0) (λ i. cond (byte_differs l m (at + i)) 1 0) n (λ i h. rw (differs_in l m at n i h)) in
      rw own (sum_split (λ i. cond (byte_differs l m i) 1 0) at n)

-- ---- what is with-past so far

pub compared-none : (l m : List ℕ) → BytesCompared l m 0 (differing_made 0 0)
compared-none l m = record { first_is = sym (first-none l m); many_is = sym (many_none l m) }

-- u and v are the n bytes from `at` on
module _ (l m u v : List ℕ) (at n : ℕ) (d e : Differing) (own : u ≡ take n (drop at l)) (others : v ≡ take n (drop at m)) (long : length u ≡ n) where
  pub compared-joined : BytesCompared l m at d → BytesCompared u v (length u) e → BytesCompared l m (at + n) (differing_made (cond (ltb d.first at) d.first (at + e.first)) (d.many + e.many))
  compared-joined before behind = record {
    first_is = rw (before.first_is, rw (long, own, others) at behind.first_is) (sym (first-joined l m at n));
    many_is = rw (before.many_is, rw (long, own, others) at behind.many_is) (sym (many_joined l m at n));
  }

pub compared-most : (u v : List ℕ) (n : ℕ) (e : Differing) → BytesCompared u v n e → (e.first ≤ n) × (e.many ≤ n)
compared-most u v n e c = (omega (arith, c.first_is, first-most u v n), omega (arith, c.many_is, many_most u v n))

-- ---- the whole: the first k bytes of l and the first j of m

-- numbers that all pass, behind the others
least_past : (t : ℕ → Bool) (at n : ℕ) → ((i : ℕ) → i < n → t (at + i) ≡ true) → least t (at + n) ≡ least t at
unfolding least
least_past t at zero all = let e : at + 0 ≡ at = omega arith in rw e
least_past t at (suc n) all = elim (least_cases t at) [
  | inl d ↦ least-found t (least t at) (at + suc n) (omega (arith, d.0)) (λ j h. T_false (t j) (d.2 j h)) (T_true (t (least t at)) d.1)
  | inr d ↦ let e : at + 0 ≡ at = omega arith in least-found t at (at + suc n) (omega arith) (λ j h. T_false (t j) (d.1 j h)) (rw e at (all 0 (omega arith))) ∙ sym d.0
]

module _ (l m : List ℕ) (k j common past : ℕ) (has : k ≤ length l) (other_has : j ≤ length m) (least_is : common ≡ min k j) (past_is : past ≡ k - common + (j - common)) where
  own_length : length (take k l) ≡ k
  own_length = length-take-le k l has

  other_length : length (take j m) ≡ j
  other_length = length-take-le j m other_has

  longer_is : longer_length (take k l) (take j m) ≡ common + past
  unfolding longer_length
  longer_is = rw (own_length, other_length) (elim (less? j k) [ inl h ↦ rw (lt-leb k j h) (omega arith) | inr h ↦ rw (le-leb k j h) (omega arith) ])

  -- every byte past the shorter one's end differs
  past_differs : (i : ℕ) → i < past → byte_differs (take k l) (take j m) (common + i) ≡ true
  past_differs i h = elim (less? j k) [
    | inl p ↦ differs_left (take k l) (take j m) (common + i) (rw own_length (omega arith)) (rw other_length (omega arith))
    | inr p ↦ differs_right (take k l) (take j m) (common + i) (rw own_length (omega arith)) (rw other_length (omega arith))
  ]

  begun : (i : ℕ) → i < common → byte_differs (take k l) (take j m) i ≡ byte_differs l m i
  begun i h = differs_begun l m k j i (omega arith) (omega arith)

  module _ (d : Differing) (done : BytesCompared l m common d) where
    whole_many : d.many + past ≡ bytes_differing (take k l) (take j m)
    unfolding bytes_differing many_in
    whole_many =
        let f : ℕ → ℕ = λ i. cond (byte_differs (take k l) (take j m) i) 1 0 in
        let front = sum_congr f (λ i. cond (byte_differs l m i) 1 0) common (λ i h. rw (begun i h)) in
        let rest = sum_congr (λ i. f (common + i)) (λ i. 1) past (λ i h. rw (past_differs i h)) in
        rw longer_is (omega (arith, done.many_is, sum_split f common past, front, rest, sum_const 1 past))

    first_whole : d.first ≡ least (byte_differs (take k l) (take j m)) (longer_length (take k l) (take j m))
    unfolding first_in
    first_whole =
        rw (longer_is, least_past (byte_differs (take k l) (take j m)) common past past_differs)
        (done.first_is ∙ least-same (byte_differs l m) (byte_differs (take k l) (take j m)) common (λ i h. sym (begun i h)))

    -- the answer: the first so far is the first of all
    pub whole : differing_made (cond (eqb (d.many + past) 0) 0 d.first) (d.many + past) ≡ differing_made (first_byte_differing (take k l) (take j m)) (bytes_differing (take k l) (take j m))
    unfolding first_byte_differing
    whole = rw (← whole_many, first_whole)
