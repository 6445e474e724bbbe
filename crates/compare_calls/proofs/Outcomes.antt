-- Laws of the outcomes of the two calls that compare. Assumes nothing.
use Prim.Native.Nat.{ℕ, zero, suc, ◌*◌, ◌/◌, ◌≤◌}
use mathlib.Core.Path.{◌≡◌, refl, sym, ap, ◌∙◌}
use mathlib.Core.List.{List, [], ◌∷◌, head-eq_of_cons-eq, tail-eq_of_cons-eq}
use mathlib.Core.Logic.{◌≢◌}
use mathlib.Core.Option.{Option, none, some}
use native.Mathlib.Omega.{arith}
use lib.ListN.{length, get_or, replicate, take, drop, length-take, length-drop}
use Rattle.rules.specs.Counting.{first_of, gather}
use Rattle.rules.specs.Tables.{blocks_left, anodes_left}
use Rattle.rules.specs.Calls.{Outcome, outcome_of, settled, done_or, check_outcome}
use Rattle.differences.specs.Differences.{Difference, only_first, only_second, differing, differences}
use Rattle.differences.specs.Calls.{answer_for, Compared, compared_of, compared, refused_image, nth_difference, place_answer, numbers_listed, fitting, with_numbers, compare_outcome, differences_outcome}
use Rattle.differences.specs.Handing.{Handing, hand_all, handing_of}
use Rattle.difference_laws.specs.Few.{few_differences}
use Rattle.handing.specs.HandLaws.{hand_all_lem}
use Rattle.compare_calls.specs.Second.{Second, second_made, handed_out, second_outcome}

-- what the check's outcome says of its answer and both tables
module _ (img b₀ a₀ b a : List ℕ) (k : ℕ) (e : outcome_of k img b a [] [] ≡ check_outcome img b₀ a₀) where
  pub checked_answer : answer_for img b₀ a₀ ≡ k
  unfolding check_outcome settled
  checked_answer = sym (ap (λ (o : Outcome). o.answer) e)

  pub checked_blocks : b ≡ blocks_left k img b₀
  unfolding check_outcome settled
  checked_blocks = ap (λ (o : Outcome). o.blocks) e ∙ ap (λ (n : ℕ). blocks_left n img b₀) checked_answer

  pub checked_anodes : a ≡ anodes_left k img a₀
  unfolding check_outcome settled
  checked_anodes = ap (λ (o : Outcome). o.anodes) e ∙ ap (λ (n : ℕ). anodes_left n img a₀) checked_answer

-- ---- the second image

module _ (img j b₀ a₀ b a : List ℕ) (place : ℕ) (out : List ℕ) where
  pub second_refused : (k : ℕ) → 1 ≤ k → outcome_of k j b a [] [] ≡ check_outcome j b₀ a₀ → second_made k 2 0 out b a ≡ second_outcome img j b₀ a₀ place out
  unfolding second_outcome done_or
  second_refused zero l e = absurd (omega arith)
  second_refused (suc k) l e = rw (checked_answer j b₀ a₀ b a (suc k) e, ← checked_blocks j b₀ a₀ b a (suc k) e, ← checked_anodes j b₀ a₀ b a (suc k) e) refl

  pub second_given : outcome_of 0 j b a [] [] ≡ check_outcome j b₀ a₀ → (out' : List ℕ) (skip done count : ℕ) →
      handing_of out' skip done ≡ hand_all (handing_of out place 0) (differences img j) → count ≡ done / 6 → second_made 0 0 count out' b a ≡ second_outcome img j b₀ a₀ place out
  unfolding second_outcome done_or
  second_given e out' skip done count h c =
      let all = hand_all_lem out place (differences img j) in
      let o : out' ≡ with_numbers out (handed_out img j place out) = ap (λ (x : Handing). x.out) h ∙ all.0 in
      let d : done ≡ 6 * length (handed_out img j place out) = ap (λ (x : Handing). x.done) h ∙ all.1 in
      let n : count ≡ length (handed_out img j place out) = omega (arith, c, d) in
      rw (checked_answer j b₀ a₀ b a 0 e, ← checked_blocks j b₀ a₀ b a 0 e, ← checked_anodes j b₀ a₀ b a 0 e, o, n) refl

-- few enough differences are handed out for their number to fit in four bytes
pub few_given : (img j : List ℕ) (place : ℕ) (out out' : List ℕ) (skip done : ℕ) → handing_of out' skip done ≡ hand_all (handing_of out place 0) (differences img j) → done / 6 ≤ 664223616
unfolding fitting
few_given img j place out out' skip done h =
    let d : done ≡ 6 * length (handed_out img j place out) = ap (λ (x : Handing). x.done) h ∙ (hand_all_lem out place (differences img j)).1 in
    omega (arith, d, length-take (length out / 6) (drop place (differences img j)), length-drop place (differences img j), few_differences img j)

-- ---- both images

module _ (img b₀ a₀ b a j c₀ d₀ : List ℕ) (place : ℕ) (out : List ℕ) where
  -- the first is refused: the second's tables and the buffer stay
  pub first_refused : (k : ℕ) → 1 ≤ k → outcome_of k img b a [] [] ≡ check_outcome img b₀ a₀ → compared_of k (1 ∷ 0 ∷ []) out b a c₀ d₀ ≡ differences_outcome img b₀ a₀ j c₀ d₀ place out
  unfolding differences_outcome compared refused_image done_or first_of
  first_refused zero l e = absurd (omega arith)
  first_refused (suc k) l e = rw (checked_answer img b₀ a₀ b a (suc k) e, ← checked_blocks img b₀ a₀ b a (suc k) e, ← checked_anodes img b₀ a₀ b a (suc k) e) refl

  -- the first is accepted
  pub first-accepted : outcome_of 0 img b a [] [] ≡ check_outcome img b₀ a₀ → (s : Second) → s ≡ second_outcome img j c₀ d₀ place out →
      compared_of s.answer (s.refused ∷ s.count ∷ []) s.output b a s.blocks s.anodes ≡ differences_outcome img b₀ a₀ j c₀ d₀ place out
  unfolding differences_outcome compared refused_image done_or first_of second_outcome
  first-accepted e s is =
      rw (is, checked_answer img b₀ a₀ b a 0 e, ← checked_blocks img b₀ a₀ b a 0 e, ← checked_anodes img b₀ a₀ b a 0 e) (go (answer_for j c₀ d₀))
    where
      go : (m : ℕ) → compared_of m (done_or m 0 2 ∷ done_or m (length (handed_out img j place out)) 0 ∷ []) (done_or m (with_numbers out (handed_out img j place out)) out) b a (blocks_left m j c₀) (anodes_left m j d₀)
          ≡ compared_of (first_of m 0) (done_or m 0 2 ∷ done_or (done_or m 0 2) (length (handed_out img j place out) ∷ []) (0 ∷ [])) (done_or (done_or m 0 2) (with_numbers out (handed_out img j place out)) out) b a (blocks_left m j c₀) (anodes_left m j d₀)
      go zero = refl
      go (suc m) = refl

-- ---- one difference

-- the difference at a place, as a list
abbrev one : Option Difference → List Difference
one none = []
one (some d) = d ∷ []

first_of_lem : (ds : List Difference) (n : ℕ) → take 1 (drop n ds) ≡ one (nth_difference ds n)
unfolding nth_difference
first_of_lem [] zero = refl
first_of_lem [] (suc n) = refl
first_of_lem (d ∷ ds) zero = refl
first_of_lem (d ∷ ds) (suc n) = first_of_lem ds n

fit-one : (place : ℕ) (ds : List Difference) → fitting 6 place ds ≡ one (nth_difference ds place)
unfolding fitting
fit-one place ds = first_of_lem ds place

-- a buffer of six zeros holds its numbers, or zeros
one_numbers : (o : Option Difference) → with_numbers (replicate 6 0) (one o) ≡ numbers_listed o
unfolding with_numbers gather
one_numbers none = refl
one_numbers (some (only_first first)) = refl
one_numbers (some (only_second second)) = refl
one_numbers (some (differing first second fields byte many)) = refl

-- the answer for one difference: the refusal, 22 where none was handed out, else 0
unfoldable pub one_answer : ℕ → ℕ → ℕ
one_answer n count = done_or n (done_or count 22 0) n

-- the number of the refused image
abbrev refused_by : ℕ → ℕ → ℕ
refused_by n m = done_or n (done_or m 0 2) 1

six_numbers : (o : Option Difference) → length (numbers_listed o) ≡ 6
six_numbers none = refl
six_numbers (some (only_first first)) = refl
six_numbers (some (only_second second)) = refl
six_numbers (some (differing first second fields byte many)) = refl

one_answer_lem : (n m : ℕ) (o : Option Difference) → one_answer (first_of n (first_of m 0)) (done_or (refused_by n m) (length (one o)) 0) ≡ first_of n (first_of m (place_answer o))
unfolding done_or first_of one_answer
one_answer_lem zero zero none = refl
one_answer_lem zero zero (some d) = refl
one_answer_lem zero (suc m) o = refl
one_answer_lem (suc n) m o = refl

one-count : (k x : ℕ) → done_or k (x ∷ []) (0 ∷ []) ≡ done_or k x 0 ∷ []
unfolding done_or
one-count zero x = refl
one-count (suc k) x = refl

module _ (img b₀ a₀ j c₀ d₀ : List ℕ) (place : ℕ) where
  abbrev its : Option Difference
  its = nth_difference (differences img j) place

  -- what the differences handed out into a buffer of six zeros say, in one line
  given-one : differences_outcome img b₀ a₀ j c₀ d₀ place (replicate 6 0)
      ≡ compared_of (first_of (answer_for img b₀ a₀) (first_of (answer_for j c₀ d₀) 0))
      (refused_by (answer_for img b₀ a₀) (answer_for j c₀ d₀) ∷ done_or (refused_by (answer_for img b₀ a₀) (answer_for j c₀ d₀)) (length (one its)) 0 ∷ [])
      (done_or (refused_by (answer_for img b₀ a₀) (answer_for j c₀ d₀)) (numbers_listed its) (replicate 6 0))
      (blocks_left (answer_for img b₀ a₀) img b₀) (anodes_left (answer_for img b₀ a₀) img a₀)
      (done_or (answer_for img b₀ a₀) (blocks_left (answer_for j c₀ d₀) j c₀) c₀) (done_or (answer_for img b₀ a₀) (anodes_left (answer_for j c₀ d₀) j d₀) d₀)
  unfolding differences_outcome compared refused_image
  given-one = rw (fit-one place (differences img j), one_numbers its, one-count (refused_by (answer_for img b₀ a₀) (answer_for j c₀ d₀)) (length (one its)))

  -- compare's outcome, from that
  pub one_difference : (n r count : ℕ) (numbers b a c d : List ℕ) → compared_of n (r ∷ count ∷ []) numbers b a c d ≡ differences_outcome img b₀ a₀ j c₀ d₀ place (replicate 6 0) →
      (k : ℕ) → k ≡ one_answer n count → compared_of k (r ∷ numbers) [] b a c d ≡ compare_outcome img b₀ a₀ j c₀ d₀ place
  unfolding compare_outcome compared refused_image
  one_difference n r count numbers b a c d e k is =
      let all = e ∙ given-one in
      let fields = ap (λ (o : Compared). o.fields) all in
      let head : r ≡ _ = head-eq_of_cons-eq fields in
      let tail : count ≡ _ = head-eq_of_cons-eq (tail-eq_of_cons-eq fields) in
      rw (
        is,
        ap (λ (o : Compared). o.answer) all,
        tail,
        head,
        one_answer_lem (answer_for img b₀ a₀) (answer_for j c₀ d₀) its,
        six_numbers its,
        ap (λ (o : Compared). o.output) all,
        ap (λ (o : Compared). o.blocks) all,
        ap (λ (o : Compared). o.anodes) all,
        ap (λ (o : Compared). o.second_blocks) all,
        ap (λ (o : Compared). o.second_anodes) all,
      ) refl

-- a list of six is its six elements
pub six_elements : (l : List ℕ) → length l ≡ 6 → get_or l 0 0 ∷ get_or l 1 0 ∷ get_or l 2 0 ∷ get_or l 3 0 ∷ get_or l 4 0 ∷ get_or l 5 0 ∷ [] ≡ l
six_elements [] n = absurd (omega (arith, n))
six_elements (a ∷ []) n = absurd (omega (arith, n))
six_elements (a ∷ b ∷ []) n = absurd (omega (arith, n))
six_elements (a ∷ b ∷ c ∷ []) n = absurd (omega (arith, n))
six_elements (a ∷ b ∷ c ∷ d ∷ []) n = absurd (omega (arith, n))
six_elements (a ∷ b ∷ c ∷ d ∷ e ∷ []) n = absurd (omega (arith, n))
six_elements (a ∷ b ∷ c ∷ d ∷ e ∷ f ∷ []) n = refl
six_elements (a ∷ b ∷ c ∷ d ∷ e ∷ f ∷ g ∷ l) n = absurd (omega (arith, n))

-- the answer for one difference, by cases
pub one_refused : (n count : ℕ) → n ≢ 0 → n ≡ one_answer n count
unfolding one_answer done_or
one_refused zero count z = absurd (z refl)
one_refused (suc n) count z = refl

pub one_none : (n count : ℕ) → n ≡ 0 → count ≡ 0 → 22 ≡ one_answer n count
unfolding one_answer done_or
one_none n count p q = rw (p, q)

pub one_some : (n count : ℕ) → n ≡ 0 → count ≢ 0 → 0 ≡ one_answer n count
unfolding one_answer done_or
one_some n zero p q = absurd (q refl)
one_some n (suc count) p q = rw p
