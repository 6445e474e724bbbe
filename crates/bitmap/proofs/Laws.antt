-- Laws of bits, of lists by a rule and of the first byte that differs. Assumes nothing.
use mathlib.Core.Path.{◌≡◌, refl, sym, ap, ◌∙◌}
use mathlib.Core.Logic.{◌≢◌, inl, inr, ⊎_elim}
use Prim.Native.Nat.{ℕ, zero, suc, ◌+◌, ◌*◌, ◌-◌, ◌/◌, ◌%◌, ◌^◌, ◌<◌, ◌≤◌}
use mathlib.Core.List.{List, [], ◌∷◌, ◌++◌, append_assoc, append-nil}
use native.Mathlib.Omega.{arith}
use native.Mathlib.Nat.{not-suc-le-zero, mod-lt, pow-suc, add-mul, mul_assoc}
use native.Mathlib.Numerals.{add-one}
use lib.Bits.{bit_or, bit_and, or_add_and, and_high}
use lib.Pow.{pow-add, shl_exact, shl-shr}
use lib.Dec.{T}
use lib.ListN.{length, length-append, get_or, set, take, drop, length-drop, drop_of_length-le, get_or-append, get_or-eq_default}
use lib.Seq.{drop-cons, set_at, get_or_at, get_or-take, get_or-drop, length-take-le}
use borrow.Author.Tests.{le-ltb, lt-ltb, eq-eqb, ne_eqb}
use Rattle.rules.specs.Counting.{least}
use Rattle.laws.specs.Tests.{same?, less?}
use Rattle.laws.specs.Sums.{least_cases}
use Rattle.bitmap.specs.Bits.{bit_of, with_bit, bits_from, byte_of}
use Rattle.bitmap.specs.Bitmap.{bitmap_word, bitmap_byte, tabulate, differs_from, first_differing}
use Rattle.bitmap.specs.Table.{free_at, free_bit, Carried}

-- ---- one bit of a longword

-- a mask of one bit takes out that bit
and_one : (w k : ℕ) → bit_and w (2 ^ k) ≡ (w / 2 ^ k % 2) * 2 ^ k
and_one w k =
    let e : 2 ^ (1 + k) - 2 ^ k ≡ 2 ^ k = rw (pow-add 2 1 k) (omega arith) in
    rw e at (and_high w 1 k)

rest_of_one : (x y w p b : ℕ) → x + y ≡ w + p → y ≡ b * p → b < 2 → x ≡ w + (1 - b) * p
rest_of_one x y w p zero e f l = omega arith
rest_of_one x y w p (suc zero) e f l = omega arith
rest_of_one x y w p (suc (suc b)) e f l = absurd (omega arith)

or-one : (w k : ℕ) → bit_or w (2 ^ k) ≡ w + (1 - w / 2 ^ k % 2) * 2 ^ k
or-one w k = rest_of_one (bit_or w (2 ^ k)) (bit_and w (2 ^ k)) w (2 ^ k) (w / 2 ^ k % 2) (or_add_and w (2 ^ k)) (and_one w k) (mod-lt (w / 2 ^ k) {m = 2} (omega arith))

-- as the code sets it: the shift by less than 32 loses nothing
pub set_by_or : (w i : ℕ) → i < 32 → bit_or w (1 * 2 ^ (31 - i) % 2 ^ 32) ≡ with_bit w i
unfolding with_bit bit_of
set_by_or w i h =
    let e : 1 * 2 ^ (31 - i) ≡ 2 ^ (31 - i) = omega arith in
    rw (shl_exact {a = 1} 1 (31 - i) 32 (omega arith) (omega arith), e) (or-one w (31 - i))

-- ---- the first i bits of a longword, in their places

module _ (f : ℕ → ℕ) (at : ℕ) where
  pub bits_none : bits_from f at 0 ≡ 0
  unfolding bits_from
  bits_none = refl

  pub bits_more : (n : ℕ) → bits_from f at (n + 1) ≡ bits_from f at n * 2 + f (at + n)
  unfolding bits_from
  bits_more n = rw (add-one n)

  -- one place less to go
  shifted : (i : ℕ) → i < 32 → bits_from f at i * 2 ^ (32 - i) ≡ (bits_from f at i * 2) * 2 ^ (31 - i)
  shifted i l =
      let e : 32 - i ≡ suc (31 - i) = omega arith in
      rw (e, pow-suc 2 (31 - i)) (let a = mul_assoc (bits_from f at i) 2 (2 ^ (31 - i)) in let b : 2 ^ (31 - i) * 2 ≡ 2 * 2 ^ (31 - i) = omega arith in rw b (sym a))

  next_place : (i : ℕ) → 32 - (i + 1) ≡ 31 - i
  next_place i = omega arith

  -- a bit that is 0 leaves the longword
  pub bit_clear : (i : ℕ) → i < 32 → f (at + i) ≡ 0 → bits_from f at i * 2 ^ (32 - i) ≡ bits_from f at (i + 1) * 2 ^ (32 - (i + 1))
  bit_clear i l z =
      let e : bits_from f at i * 2 + 0 ≡ bits_from f at i * 2 = omega arith in
      rw (next_place i, bits_more i, z, e) (shifted i l)

  -- a bit that is 1 is set in it
  pub bit_set : (i : ℕ) → i < 32 → f (at + i) ≡ 1 → with_bit (bits_from f at i * 2 ^ (32 - i)) i ≡ bits_from f at (i + 1) * 2 ^ (32 - (i + 1))
  unfolding with_bit bit_of
  bit_set i l z =
      let b = bits_from f at i in
      let even : b * 2 % 2 ≡ 0 = omega arith in
      rw (shifted i l, shl-shr (b * 2) (31 - i), even, next_place i, bits_more i, z) (sym (add-mul (b * 2) 1 (2 ^ (31 - i))))

  -- the bits from i on are 0: the first i are all
  pub bits_rest : (k i : ℕ) → k + i ≡ 32 → ((j : ℕ) → i ≤ j → f (at + j) ≡ 0) → bits_from f at i * 2 ^ (32 - i) ≡ bits_from f at 32
  bits_rest zero i e z = let q : i ≡ 32 = omega arith in rw q (omega arith)
  bits_rest (suc k) i e z = bit_clear i (omega arith) (z i (omega arith)) ∙ bits_rest k (i + 1) (omega arith) (λ j l. z j (omega arith))

-- bits by two rules that say the same
bits_same : (f g : ℕ → ℕ) (a b n : ℕ) → ((i : ℕ) → i < n → f (a + i) ≡ g (b + i)) → bits_from f a n ≡ bits_from g b n
unfolding bits_from
bits_same f g a b zero h = refl
bits_same f g a b (suc n) h = rw (bits_same f g a b n (λ i l. h i (omega arith)), h n (omega arith))

-- ---- a block's bit in a table

module _ (table : List ℕ) where
  pub free-set : (x : ℕ) → get_or table x 0 ≡ 1 → free_at table x ≡ 1
  unfolding free_at
  free-set x e = rw (eq-eqb (get_or table x 0) 1 e)

  pub free_clear : (x : ℕ) → get_or table x 0 ≢ 1 → free_at table x ≡ 0
  unfolding free_at
  free_clear x d = rw (ne_eqb (get_or table x 0) 1 d)

  pub free_past : (x : ℕ) → length table ≤ x → free_at table x ≡ 0
  unfolding free_at
  free_past x l = rw (get_or-eq_default table 0 {n = x} l)

module _ (table : List ℕ) (n first at : ℕ) where
  free_in : (k : ℕ) → first + k < n → free_bit table n first k ≡ free_at table (first + k)
  unfolding free_bit
  free_in k l = rw (lt-ltb (first + k) n l)

  free-out : (k : ℕ) → n ≤ first + k → free_bit table n first k ≡ 0
  unfolding free_bit
  free-out k l = rw (le-ltb (first + k) n l)

  -- no block is left
  pub longword_none : n ≤ first + at → 0 ≡ bits_from (free_bit table n first) at 32
  longword_none l =
      let e = bits_rest (free_bit table n first) at 32 0 (omega arith) (λ j k. free-out (at + j) (omega arith)) in
      omega (arith, rw (bits_none (free_bit table n first) at) at e)

  -- the part from the first to `end` has all that are left of the 32
  module _ (end : ℕ) (from : first + at ≤ end) (inside : end ≤ n) (long : n ≤ length table) (all : (i : ℕ) → i < 32 → end ≤ first + at + i → n ≤ first + at + i) where
    abbrev part : List ℕ
    part = take (end - (first + at)) (drop (first + at) table)

    part_length : length part ≡ end - (first + at)
    part_length = length-take-le (end - (first + at)) (drop (first + at) table) (rw (length-drop (first + at) table) (omega arith))

    part_free : (i : ℕ) → first + at + i < end → free_at part i ≡ free_at table (first + (at + i))
    unfolding free_at
    part_free i l =
        let e : first + (at + i) ≡ first + at + i = omega arith in
        rw (get_or-take (end - (first + at)) (drop (first + at) table) i 0 (omega arith), get_or-drop (first + at) table i 0, e)

    part_bit : (i : ℕ) → i < 32 → free_at part (0 + i) ≡ free_bit table n first (at + i)
    part_bit i k =
        let z : 0 + i ≡ i = omega arith in
        rw z (elim (less? (first + at + i) end) [
          | inl l ↦ part_free i l ∙ sym (free_in (at + i) (omega arith))
          | inr l ↦ free_past part i (omega (arith, part_length)) ∙ sym (free-out (at + i) (omega (arith, all i k (omega arith))))
        ])

    pub longword_part : bits_from (free_at part) 0 32 ≡ bits_from (free_bit table n first) at 32
    longword_part = bits_same (free_at part) (free_bit table n first) 0 at 32 part_bit

-- ---- lists by a rule

module _ (f : ℕ → ℕ) where
  pub length-tabulate : (n : ℕ) → length (tabulate f n) ≡ n
  unfolding tabulate
  length-tabulate zero = refl
  length-tabulate (suc n) = rw (length-append (tabulate f n) (f n ∷ []), length-tabulate n) (omega arith)

  pub tabulate-at : (n i : ℕ) → i < n → get_or (tabulate f n) i 0 ≡ f i
  unfolding tabulate
  tabulate-at zero i l = absurd (not-suc-le-zero l)
  tabulate-at (suc n) i l =
      let e = length-tabulate n in
      ⊎_elim
      (λ (q : i ≡ n). rw q (get_or_at (tabulate f n) (f n) [] 0 n e))
      (λ d. get_or-append (tabulate f n) (f n ∷ []) 0 i (omega arith) ∙ tabulate-at n i (omega arith))
      (same? i n)

  -- a buffer that is filled up to i
  pub fill_none : (d : List ℕ) → d ≡ tabulate f 0 ++ drop 0 d
  unfolding tabulate
  fill_none d = refl

  pub fill_more : (d : List ℕ) (i : ℕ) → i < length d → set (tabulate f i ++ drop i d) i (f i) ≡ tabulate f (i + 1) ++ drop (i + 1) d
  unfolding tabulate
  fill_more d i l =
      rw (drop-cons d i 0 l, set_at (tabulate f i) (get_or d i 0) (drop (suc i) d) (f i) i (length-tabulate i), add-one i)
      (sym (append_assoc (tabulate f i) (f i ∷ []) (drop (suc i) d)))

  pub fill_whole : (d : List ℕ) (i : ℕ) → length d ≡ i → tabulate f i ++ drop i d ≡ tabulate f (length d)
  fill_whole d i e = rw (← e, drop_of_length-le d {i = length d} (omega arith)) (append-nil (tabulate f (length d)))

-- ---- the first byte that differs

module _ (bit : ℕ → ℕ) (l : List ℕ) where
  -- none below p differs
  abbrev pub SameBelow : ℕ → Type 0
  SameBelow p = (i : ℕ) → i < p → get_or l i 0 ≡ bitmap_byte bit i

  differs_not : (i : ℕ) → T (differs_from l (bitmap_byte bit) i) → get_or l i 0 ≢ bitmap_byte bit i
  unfolding differs_from
  differs_not i t e = rw (eq-eqb (get_or l i 0) (bitmap_byte bit i) e) at t

  differs_so : (i : ℕ) → get_or l i 0 ≢ bitmap_byte bit i → T (differs_from l (bitmap_byte bit) i)
  unfolding differs_from
  differs_so i n = rw (ne_eqb (get_or l i 0) (bitmap_byte bit i) n) tt

  pub same_more : (p : ℕ) → SameBelow p → get_or l p 0 ≡ bitmap_byte bit p → SameBelow (p + 1)
  same_more p s e i k = ⊎_elim (λ (q : i ≡ p). rw q e) (λ d. s i (omega arith)) (same? i p)

  -- the first that differs is p, where none below does and p does
  pub first_is : (p : ℕ) → p < length l → SameBelow p → get_or l p 0 ≢ bitmap_byte bit p → p ≡ first_differing bit l
  unfolding first_differing
  first_is p k s n = elim (least_cases (differs_from l (bitmap_byte bit)) (length l)) [
    | inl c ↦ elim (same? p (least (differs_from l (bitmap_byte bit)) (length l))) [
      | inl e ↦ e
      | inr d ↦ absurd (elim (less? p (least (differs_from l (bitmap_byte bit)) (length l))) [
        | inl u ↦ c.2 p u (differs_so p n)
        | inr u ↦ differs_not _ c.1 (s _ (omega arith))
      ])
    ]
    | inr c ↦ absurd (c.1 p k (differs_so p n))
  ]

  pub first-none : (p : ℕ) → length l ≡ p → SameBelow p → p ≡ first_differing bit l
  unfolding first_differing
  first-none p e s = elim (least_cases (differs_from l (bitmap_byte bit)) (length l)) [
    | inl c ↦ absurd (differs_not _ c.1 (s _ (omega (arith, c.0, e))))
    | inr c ↦ sym e ∙ sym c.0
  ]

-- ---- the longword that a byte belongs to

module _ (bit : ℕ → ℕ) where
  -- nothing is carried to the first byte
  pub carried_none : (w : ℕ) → Carried bit w 0
  carried_none w n = absurd (n refl)

  -- the longword of byte p is carried to the next
  pub carried_more : (w p : ℕ) → w ≡ bitmap_word bit (p / 4) → Carried bit w (p + 1)
  carried_more w p e n = let q : (p + 1) / 4 ≡ p / 4 = omega (arith, n) in rw q e

  -- its byte is the bitmap's
  pub byte_is : (w p b : ℕ) → w ≡ bitmap_word bit (p / 4) → b ≡ byte_of w (p % 4) → b ≡ bitmap_byte bit p
  unfolding bitmap_byte
  byte_is w p b e i = i ∙ ap (λ (v : ℕ). byte_of v (p % 4)) e

  pub same_none : (l : List ℕ) → SameBelow bit l 0
  same_none l i k = absurd (omega arith)
