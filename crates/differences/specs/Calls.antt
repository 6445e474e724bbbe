-- 02, No. 7: what the two calls that compare answer, leave and hand out, for any two images and arguments. Neither image changes.
use Rattle.std.specs.Prelude.{ℕ, zero, suc, ◌-◌, ◌*◌, ◌/◌, cond, List, [], ◌∷◌, ◌++◌, length, get_or, take, drop, replicate, eqb}
use Rattle.std.proofs.Math.Option.{Option, none, some}
use Rattle.rules.specs.Counting.{first_of, gather}
use Rattle.rules.specs.Accepted.{check_answer}
use Rattle.rules.specs.Tables.{blocks_left, anodes_left}
use Rattle.rules.specs.Calls.{done_or}
use Rattle.differences.specs.Differences.{Difference, numbers_of, differences}

-- all that such a call settles
pub record Compared : Type 0 where
  pub answer : ℕ
  -- 0 which image was refused (1, 2, 0 neither); then what the call has to say in numbers
  pub fields : List ℕ
  -- the lent buffer, of the call that has one
  pub output : List ℕ
  pub blocks : List ℕ
  pub anodes : List ℕ
  pub second_blocks : List ℕ
  pub second_anodes : List ℕ

-- its fields in one line
abbrev pub compared_of : ℕ → List ℕ → List ℕ → List ℕ → List ℕ → List ℕ → List ℕ → Compared
compared_of answer fields output blocks anodes second_blocks second_anodes = record {
  answer = answer;
  fields = fields;
  output = output;
  blocks = blocks;
  anodes = anodes;
  second_blocks = second_blocks;
  second_anodes = second_anodes;
}

-- the difference at a place from 0
unfoldable pub nth_difference : List Difference → ℕ → Option Difference
nth_difference [] n = none
nth_difference (d ∷ ds) zero = some d
nth_difference (d ∷ ds) (suc n) = nth_difference ds n

-- 22 past the last
abbrev pub place_answer : Option Difference → ℕ
place_answer none = 22
place_answer (some d) = 0

-- its numbers, or zeros
abbrev pub numbers_listed : Option Difference → List ℕ
numbers_listed none = replicate 6 0
numbers_listed (some d) = numbers_of d

-- the differences from a place on, as many as a buffer of `room` numbers holds, six for each
unfoldable pub fitting : ℕ → ℕ → List Difference → List Difference
fitting room place ds = take (room / 6) (drop place ds)

-- the buffer with the numbers of these differences; what lies behind them stays
unfoldable pub with_numbers : List ℕ → List Difference → List ℕ
with_numbers out ds = gather numbers_of ds ++ drop (6 * length ds) out

-- the check's answer for an image, lent these tables
abbrev pub answer_for : List ℕ → List ℕ → List ℕ → ℕ
answer_for img blocks anodes = check_answer img (length blocks) (length anodes)

module _ (img blocks anodes j second_blocks second_anodes : List ℕ) where
  abbrev first_answer : ℕ
  first_answer = answer_for img blocks anodes

  abbrev second_answer : ℕ
  second_answer = answer_for j second_blocks second_anodes

  -- the number of the image that is refused; the second is checked only after the first is accepted
  unfoldable pub refused_image : ℕ
  refused_image = done_or first_answer (done_or second_answer 0 2) 1

  -- what a call leaves that answers n where both are accepted, with these numbers, and zeros instead of them after a refusal;
  -- where the first is refused, the second's tables stay as they came
  unfoldable pub compared : ℕ → List ℕ → List ℕ → Compared
  compared n numbers output =
      compared_of (first_of first_answer (first_of second_answer n))
      (refused_image ∷ done_or refused_image numbers (replicate (length numbers) 0))
      output
      (blocks_left first_answer img blocks) (anodes_left first_answer img anodes)
      (done_or first_answer (blocks_left second_answer j second_blocks) second_blocks)
      (done_or first_answer (anodes_left second_answer j second_anodes) second_anodes)

  -- Compare: the difference at a place from 0; 22 past the last
  unfoldable pub compare_outcome : ℕ → Compared
  compare_outcome place =
      compared (place_answer (nth_difference (differences img j) place)) (numbers_listed (nth_difference (differences img j) place)) []

  -- Differences: as many from a place on as the buffer holds, and their number; a refusal leaves the buffer
  unfoldable pub differences_outcome : ℕ → List ℕ → Compared
  differences_outcome place out =
      compared 0 (length (fitting (length out) place (differences img j)) ∷ [])
      (done_or refused_image (with_numbers out (fitting (length out) place (differences img j))) out)

-- what a call answers of image k, 1 or 2: nothing where the other one was refused
unfoldable pub answer_of_image : ℕ → Compared → ℕ
answer_of_image k c = cond (eqb (get_or c.fields 0 0) (3 - k)) 0 c.answer
