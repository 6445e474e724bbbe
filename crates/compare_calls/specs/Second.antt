-- What a comparison leaves of the second image, where the first is accepted: the answer, which image was refused, how many differences were handed out, the buffer and the second's tables.
use Rattle.std.specs.Prelude.{ℕ, List, length, Result, Ok, Err}
use Rattle.disk.specs.Refusals.{number_of}
use Rattle.compare_calls.specs.declared.RefusedImage.{RefusedImage}
use Rattle.rules.specs.Tables.{blocks_left, anodes_left}
use Rattle.rules.specs.Calls.{done_or}
use Rattle.differences.specs.Differences.{Difference, differences}
use Rattle.differences.specs.Calls.{answer_for, fitting, with_numbers}

-- the number that a comparison answers
abbrev pub answer_in : Result ℕ RefusedImage → ℕ
answer_in (Ok n) = 0
answer_in (Err r) = number_of r.refusal

-- which image was refused: 0 for neither
abbrev pub image_in : Result ℕ RefusedImage → ℕ
image_in (Ok n) = 0
image_in (Err r) = r.image

-- how many differences were handed out
abbrev pub count_in : Result ℕ RefusedImage → ℕ
count_in (Ok n) = n
count_in (Err r) = 0

-- all that is settled then
pub record Second : Type 0 where
  pub answer : ℕ
  pub refused : ℕ
  pub count : ℕ
  pub output : List ℕ
  pub blocks : List ℕ
  pub anodes : List ℕ

-- its fields in one line
abbrev pub second_made : ℕ → ℕ → ℕ → List ℕ → List ℕ → List ℕ → Second
second_made answer refused count output blocks anodes = record { answer = answer; refused = refused; count = count; output = output; blocks = blocks; anodes = anodes }

-- the differences that are handed out
abbrev pub handed_out : List ℕ → List ℕ → ℕ → List ℕ → List Difference
handed_out img j place out = fitting (length out) place (differences img j)

-- the second's refusal, or the differences from a place on, as many as the buffer holds
unfoldable pub second_outcome : List ℕ → List ℕ → List ℕ → List ℕ → ℕ → List ℕ → Second
second_outcome img j blocks anodes place out =
    second_made (answer_for j blocks anodes) (done_or (answer_for j blocks anodes) 0 2)
    (done_or (answer_for j blocks anodes) (length (handed_out img j place out)) 0)
    (done_or (answer_for j blocks anodes) (with_numbers out (handed_out img j place out)) out)
    (blocks_left (answer_for j blocks anodes) j blocks) (anodes_left (answer_for j blocks anodes) j anodes)
