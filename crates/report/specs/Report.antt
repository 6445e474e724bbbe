-- 02, No. 1, Shift report: the totals, 31, what one image adds to them, and what the call settles.
-- The totals are 24 numbers: 0 accepted, 1 to 17 refused under that number, 18 to 22 the sums of the five numbers, 23 that of the bytes.
use Rattle.std.specs.Prelude.{ℕ, ◌+◌, Bool, cond, ◌||◌, List, [], ◌∷◌, ◌++◌, length, get_or, set, take, drop, replicate, leb, ltb}
use Rattle.rules.specs.Counting.{sum_list, any_in}
use Rattle.rules.specs.Anodes.{anodes_of}
use Rattle.rules.specs.Accepted.{check_answer}
use Rattle.rules.specs.Changes.{left}
use Rattle.rules.specs.Calls.{Outcome, outcome_of, settled, done_or}
use Rattle.report.specs.Figures.{figures_of}

-- empty totals
abbrev pub empty_totals : List ℕ
empty_totals = replicate 24 0

-- how many images had each answer of the check, 0 (accepted) to 17
unfoldable pub answers_in : List ℕ → List ℕ
answers_in totals = take 18 totals

-- the sums of the five numbers, and of the bytes
unfoldable pub sums_in : List ℕ → List ℕ
sums_in totals = drop 18 totals

-- the mean file size as two whole numbers: bytes and files
unfoldable pub mean_in : List ℕ → List ℕ
mean_in totals = get_or totals 23 0 ∷ get_or totals 19 0 ∷ []

-- how many images have been taken, accepted and refused together; a whole-number sum
unfoldable pub images_taken : List ℕ → ℕ
images_taken totals = sum_list (λ n. n) (answers_in totals)

-- 31: 100,000 images have been taken, or the totals hold a sum above 10,000,000,000,000
unfoldable pub is_full : List ℕ → Bool
is_full totals = leb 100000 (images_taken totals) || any_in (ltb 10000000000000) (sums_in totals)

-- one more at place i
unfoldable pub one_more_at : List ℕ → ℕ → List ℕ
one_more_at l i = set l i (get_or l i 0 + 1)

-- each sum with its figure added
unfoldable pub with_figures : List ℕ → List ℕ → List ℕ
with_figures [] figures = []
with_figures (x ∷ sums) [] = x ∷ sums
with_figures (x ∷ sums) (y ∷ figures) = (x + y) ∷ with_figures sums figures

-- the totals with an image whose check answers n: one more of that answer, and the figures of an accepted one; a refused disk adds to its refusal's count only
unfoldable pub with_image : List ℕ → ℕ → List ℕ → List ℕ
with_image totals n figures = one_more_at (answers_in totals) n ++ done_or n (with_figures (sums_in totals) figures) (sums_in totals)

-- what a report settles: the check's outcome with this disk's five numbers for output, and the totals
pub record Reported : Type 0 where
  pub outcome : Outcome
  pub totals : List ℕ

-- both in one line
abbrev pub reported : Outcome → List ℕ → Reported
reported o t = record { outcome = o; totals = t }

-- an image that is taken, whose check answers n; the five numbers are zeros where the check refuses
unfoldable pub taken_outcome : ℕ → List ℕ → List ℕ → List ℕ → List ℕ → Reported
taken_outcome n img blocks anodes totals =
    reported
    (settled (left n img) blocks anodes (done_or n (take 5 (figures_of img (anodes_of img))) (replicate 5 0)) [])
    (with_image totals n (figures_of img (anodes_of img)))

-- Report: 31 before any check, and then nothing changes, tables and the five numbers included; else the image is taken
unfoldable pub report_outcome : List ℕ → List ℕ → List ℕ → List ℕ → List ℕ → Reported
report_outcome img blocks anodes totals disk =
    cond (is_full totals)
    (reported (outcome_of 31 img blocks anodes disk []) totals)
    (taken_outcome (check_answer img (length blocks) (length anodes)) img blocks anodes totals)
