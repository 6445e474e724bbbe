-- Laws of the totals: their two parts, when they are full, one more and the sums. Assumes nothing.
use Prim.Native.Nat.{ℕ, zero, suc, ◌+◌, ◌<◌, ◌≤◌}
use mathlib.Core.Path.{◌≡◌, refl, sym, ap, ◌∙◌}
use mathlib.Core.Logic.{inl, inr}
use mathlib.Core.Bool.{Bool, true, false}
use mathlib.Core.List.{List, [], ◌∷◌, ◌++◌, append-nil}
use native.Mathlib.Omega.{arith}
use native.Mathlib.Numerals.{add-one}
use lib.Dec.{leb, ltb}
use lib.ListN.{length, get_or, set, take, drop, drop_of_length-le, length-drop, take-append-drop}
use lib.Seq.{length-take-le, take_all, take-suc, take_at, drop_at, set-append_left, get_or-append-add, get_or-take}
use borrow.Author.Tests.{le-leb, leb-false, ltb-false}
use Rattle.counting.specs.Laws.{neither}
use Rattle.rules.specs.Counting.{sum_list, any_in}
use Rattle.rules.specs.Calls.{done_or}
use Rattle.laws.specs.Tests.{same?}
use Rattle.laws.specs.Bags.{list_append, list_one, list_nil}
use Rattle.report.specs.Report.{answers_in, sums_in, images_taken, is_full, one_more_at, with_figures, with_image}
use Rattle.report.specs.Room.{CountsLow, SumsLow}
use Rattle.report.proofs.Passes.{length-one_more_at, one_more_out}

-- ---- the two parts

-- totals of 24 numbers have 18 answers
pub length-answers : (t : List ℕ) → length t ≡ 24 → length (answers_in t) ≡ 18
unfolding answers_in
length-answers t e = length-take-le 18 t (omega (arith, e))

pub length_sums : (t : List ℕ) → length t ≡ 24 → length (sums_in t) ≡ 6
unfolding sums_in
length_sums t e = rw (length-drop 18 t, e)

pub answers_of : (a b : List ℕ) → length a ≡ 18 → answers_in (a ++ b) ≡ a
unfolding answers_in
answers_of a b e = take_at a b 18 e

pub sums_of : (a b : List ℕ) → length a ≡ 18 → sums_in (a ++ b) ≡ b
unfolding sums_in
sums_of a b e = drop_at a b 18 e

pub both_parts : (t : List ℕ) → answers_in t ++ sums_in t ≡ t
unfolding answers_in sums_in
both_parts t = take-append-drop 18 t

-- ---- the sum of the first numbers of a list

sum_first : (l : List ℕ) (i : ℕ) → i < length l → sum_list (λ n. n) (take (suc i) l) ≡ sum_list (λ n. n) (take i l) + get_or l i 0
sum_first l i inside = rw (take-suc l i 0 inside) (list_append (λ n. n) (take i l) (get_or l i 0 ∷ []) ∙ ap (λ (k : ℕ). sum_list (λ n. n) (take i l) + k) (list_one (λ (n : ℕ). n) (get_or l i 0)))

sum_grows : (l : List ℕ) (i k : ℕ) → i ≤ k → k ≤ length l → sum_list (λ n. n) (take i l) ≤ sum_list (λ n. n) (take k l)
sum_grows l i zero a b = let e : i ≡ 0 = omega arith in rw e (omega arith)
sum_grows l i (suc k) a b = elim (same? i (suc k)) [
  | inl e ↦ rw e (omega arith)
  | inr d ↦ omega (arith, sum_grows l i k (omega arith) (omega arith), sum_first l k (omega arith))
]

-- ---- 31 by the counts

module _ (t : List ℕ) (len : length t ≡ 24) where
  -- a count is at most the images taken
  pub count_few : (i : ℕ) → i < 18 → get_or t i 0 ≤ images_taken t
  unfolding images_taken answers_in
  count_few i l = omega (arith, sum_first t i (omega arith), sum_grows t (suc i) 18 (omega arith) (omega arith))

  pub taken_large : (i : ℕ) → i < 18 → 100000 ≤ get_or t i 0 → true ≡ leb 100000 (images_taken t)
  taken_large i l h = sym (le-leb 100000 (images_taken t) (omega (arith, h, count_few i l)))

  -- the counts below i, added up
  pub taken_none : 0 ≡ sum_list (λ n. n) (take 0 t)
  taken_none = sym (list_nil (λ (n : ℕ). n))

  pub taken_more : (i sum : ℕ) → i < 18 → sum ≡ sum_list (λ n. n) (take i t) → sum + get_or t i 0 ≡ sum_list (λ n. n) (take (i + 1) t)
  taken_more i sum l e = rw (add-one i) (omega (arith, e, sum_first t i (omega arith)))

  pub taken-all : (i sum : ℕ) → i ≡ 18 → sum ≡ sum_list (λ n. n) (take i t) → leb 100000 sum ≡ leb 100000 (images_taken t)
  unfolding images_taken answers_in
  taken-all i sum e is = rw (is, e)

-- ---- 31 by the sums

module _ (most : ℕ) where
  any_none : (l : List ℕ) → any_in (ltb most) l ≡ false → (i : ℕ) → get_or l i 0 ≤ most
  unfolding any_in
  any_none [] e i = omega arith
  any_none (x ∷ l) e zero = ltb-false most x (neither (ltb most x) (any_in (ltb most) l) e).0
  any_none (x ∷ l) e (suc i) = any_none l (neither (ltb most x) (any_in (ltb most) l) e).1 i

-- ---- totals that are not full

module _ (t : List ℕ) (len : length t ≡ 24) (room : is_full t ≡ false) where
  pub counts_low : CountsLow t
  unfolding is_full
  counts_low i l =
      let n = leb-false 100000 (images_taken t) (neither (leb 100000 (images_taken t)) (any_in (ltb 10000000000000) (sums_in t)) room).0 in
      omega (arith, n, count_few t len i l)

  pub sums_low : SumsLow t
  unfolding is_full
  sums_low = any_none 10000000000000 (sums_in t) (neither (leb 100000 (images_taken t)) (any_in (ltb 10000000000000) (sums_in t)) room).1

pub full_by_count : (t : List ℕ) → leb 100000 (images_taken t) ≡ true → true ≡ is_full t
unfolding is_full
full_by_count t e = rw e

pub full_by_sums : (t : List ℕ) (b : Bool) → leb 100000 (images_taken t) ≡ false → b ≡ any_in (ltb 10000000000000) (sums_in t) → b ≡ is_full t
unfolding is_full
full_by_sums t b e is = rw e is

-- ---- one answer more

module _ (t : List ℕ) (len : length t ≡ 24) (n : ℕ) where
  pub count_in : n < 18 → set t n (get_or t n 0 + 1) ≡ one_more_at (answers_in t) n ++ sums_in t
  unfolding one_more_at
  count_in l =
      ap (λ (k : List ℕ). set k n (get_or t n 0 + 1)) (sym (both_parts t))
      ∙ set-append_left (answers_in t) (sums_in t) n (get_or t n 0 + 1) (omega (arith, l, length-answers t len))
      ∙ ap (λ (k : ℕ). set (answers_in t) n (k + 1) ++ sums_in t) (sym same)
    where
      same : get_or (answers_in t) n 0 ≡ get_or t n 0
      same = unfold answers_in in get_or-take 18 t n 0 l

  pub count-out : 18 ≤ n → t ≡ one_more_at (answers_in t) n ++ sums_in t
  count-out l = rw (one_more_out (answers_in t) n (omega (arith, l, length-answers t len))) (sym (both_parts t))

-- ---- the figures, one after the other

set-behind : (a b : List ℕ) (i v : ℕ) → set (a ++ b) (length a + i) v ≡ a ++ set b i v
set-behind [] b i v = let z : 0 + i ≡ i = omega arith in rw z
set-behind (x ∷ a) b i v = let z : suc (length a) + i ≡ suc (length a + i) = omega arith in rw z (ap (λ (l : List ℕ). x ∷ l) (set-behind a b i v))

-- the sums, the first i with their figures
unfoldable pub sums_to : List ℕ → List ℕ → ℕ → List ℕ
sums_to sums figures i = with_figures (take i sums) figures ++ drop i sums

next_sum : (s f : List ℕ) (i : ℕ) → i < length s → get_or (sums_to s f i) i 0 ≡ get_or s i 0
unfolding sums_to with_figures
next_sum [] f i l = absurd (omega arith)
next_sum (x ∷ s) f zero l = refl
next_sum (x ∷ s) [] (suc i) l = get_or-joined s i
  where
    get_or-joined : (s : List ℕ) (i : ℕ) → get_or (take i s ++ drop i s) i 0 ≡ get_or s i 0
    get_or-joined s i = ap (λ (k : List ℕ). get_or k i 0) (take-append-drop i s)
next_sum (x ∷ s) (y ∷ f) (suc i) l = next_sum s f i (omega arith)

sum_added : (s f : List ℕ) (i : ℕ) → i < length s → i < length f → set (sums_to s f i) i (get_or s i 0 + get_or f i 0) ≡ sums_to s f (suc i)
unfolding sums_to with_figures
sum_added [] f i l m = absurd (omega arith)
sum_added (x ∷ s) [] i l m = absurd (omega arith)
sum_added (x ∷ s) (y ∷ f) zero l m = refl
sum_added (x ∷ s) (y ∷ f) (suc i) l m = ap (λ (k : List ℕ). (x + y) ∷ k) (sum_added s f i (omega arith) (omega arith))

-- the totals, the first i sums with their figures
unfoldable pub totals_to : List ℕ → List ℕ → ℕ → List ℕ
totals_to t figures i = answers_in t ++ sums_to (sums_in t) figures i

module _ (t f : List ℕ) (len : length t ≡ 24) where
  -- none yet, and all
  pub figures_none : t ≡ totals_to t f 0
  unfolding totals_to sums_to with_figures
  figures_none = sym (both_parts t)

  pub figures_all : (i : ℕ) → 6 ≤ i → totals_to t f i ≡ answers_in t ++ with_figures (sums_in t) f
  unfolding totals_to sums_to
  figures_all i l =
      let out : length (sums_in t) ≤ i = omega (arith, l, length_sums t len) in
      rw (take_all i (sums_in t) out, drop_of_length-le (sums_in t) {i = i} out, append-nil (with_figures (sums_in t) f))

  module _ (u : List ℕ) (i : ℕ) (l : i < 6) (is : u ≡ totals_to t f i) where
    inside : i < length (sums_in t)
    inside = omega (arith, l, length_sums t len)

    -- the next sum is as it came
    pub figures_next : get_or u (18 + i) 0 ≡ get_or (sums_in t) i 0
    unfolding totals_to
    figures_next = rw (is, ← length-answers t len) (get_or-append-add (answers_in t) (sums_to (sums_in t) f i) i 0 ∙ next_sum (sums_in t) f i inside)

    more : i < length f → set (totals_to t f i) (18 + i) (get_or (sums_in t) i 0 + get_or f i 0) ≡ totals_to t f (suc i)
    unfolding totals_to
    more m = rw (← length-answers t len) (set-behind (answers_in t) (sums_to (sums_in t) f i) i (get_or (sums_in t) i 0 + get_or f i 0) ∙ ap (λ (k : List ℕ). answers_in t ++ k) (sum_added (sums_in t) f i inside m))

    pub figures_more : i < length f → set u (18 + i) (get_or u (18 + i) 0 + get_or f i 0) ≡ totals_to t f (i + 1)
    figures_more m = rw (figures_next, is, add-one i) (more m)

-- ---- an image more

pub with-accepted : (t f : List ℕ) → length t ≡ 24 → (u : List ℕ) → u ≡ one_more_at (answers_in t) 0 ++ sums_in t → answers_in u ++ with_figures (sums_in u) f ≡ with_image t 0 f
unfolding with_image done_or
with-accepted t f len u e =
    let k = length-one_more_at (answers_in t) 0 ∙ length-answers t len in
    rw (e, answers_of (one_more_at (answers_in t) 0) (sums_in t) k, sums_of (one_more_at (answers_in t) 0) (sums_in t) k)

-- its sums are still low
pub still_low : (t u : List ℕ) (n : ℕ) → length t ≡ 24 → u ≡ one_more_at (answers_in t) n ++ sums_in t → SumsLow t → SumsLow u
still_low t u n len e low i = rw (e, sums_of (one_more_at (answers_in t) n) (sums_in t) (length-one_more_at (answers_in t) n ∙ length-answers t len)) (low i)

pub with_refused : (t f : List ℕ) (n : ℕ) → 0 < n → one_more_at (answers_in t) n ++ sums_in t ≡ with_image t n f
unfolding with_image done_or
with_refused t f zero l = absurd (omega arith)
with_refused t f (suc n) l = refl
