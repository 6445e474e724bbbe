-- 02, No. 1: a report fed one image after another.
use Rattle.std.specs.Prelude.{ℕ, ◌+◌, ◌<◌, ◌≡◌, List, [], ◌∷◌, length, get_or}
use Rattle.rules.specs.Counting.{one_at, sum_list}
use Rattle.rules.specs.Anodes.{anodes_of}
use Rattle.rules.specs.Accepted.{check_answer}
use Rattle.rules.specs.Calls.{done_or}
use Rattle.report.specs.Figures.{figures_of}
use Rattle.report.specs.Report.{Reported, report_outcome}

-- an image with the tables and the five numbers that are lent with it
pub record Fed : Type 0 where
  pub image : List ℕ
  pub blocks : List ℕ
  pub anodes : List ℕ
  pub disk : List ℕ

-- the check's answer for it
unfoldable pub answer_of : Fed → ℕ
answer_of f = check_answer f.image (length f.blocks) (length f.anodes)

-- its figures
unfoldable pub figures_in : Fed → List ℕ
figures_in f = figures_of f.image (anodes_of f.image)

-- the report of an image that is fed to totals
unfoldable pub fed : List ℕ → Fed → Reported
fed totals f = report_outcome f.image f.blocks f.anodes totals f.disk

-- the totals after a list of images
unfoldable pub fed_all : List ℕ → List Fed → List ℕ
fed_all totals [] = totals
fed_all totals (f ∷ fs) = fed_all (fed totals f).totals fs

-- how many images of a list had the answer n
unfoldable pub images_answered : ℕ → List Fed → ℕ
images_answered n fs = sum_list (λ f. one_at (answer_of f) n) fs

-- the sum of the i-th figure over the accepted images of a list
unfoldable pub accepted_sum : ℕ → List Fed → ℕ
accepted_sum i fs = sum_list (λ f. done_or (answer_of f) (get_or (figures_in f) i 0) 0) fs

-- totals that are what a list of images says: how many had each answer, and the sums over the accepted
pub record TotalsOf (fs : List Fed) (totals : List ℕ) : Type 0 where
  pub places : length totals ≡ 24
  pub answers : (n : ℕ) → n < 18 → get_or totals n 0 ≡ images_answered n fs
  pub sums : (i : ℕ) → get_or totals (18 + i) 0 ≡ accepted_sum i fs

-- two lists hold the same in some order
pub data Reordered {ℓ} {X : Type ℓ} : List X → List X → Type ℓ where
  same : {l : List X} → Reordered l l
  behind : {l m : List X} (x : X) → Reordered l m → Reordered (x ∷ l) (x ∷ m)
  swapped : {l : List X} (x y : X) → Reordered (x ∷ y ∷ l) (y ∷ x ∷ l)
  both : {l m n : List X} → Reordered l m → Reordered m n → Reordered l n
