-- Why no sum of the totals overflows: each number of totals that are not full is low, and so is each figure of a disk.
use Rattle.std.specs.Prelude.{ℕ, ◌<◌, ◌≤◌, List, get_or}
use Rattle.report.specs.Report.{sums_in}

-- each answer was counted less than 100,000 times
abbrev pub CountsLow : List ℕ → Type 0
CountsLow totals = (i : ℕ) → i < 18 → get_or totals i 0 < 100000

-- no sum is above 10,000,000,000,000
abbrev pub SumsLow : List ℕ → Type 0
SumsLow totals = (i : ℕ) → get_or (sums_in totals) i 0 ≤ 10000000000000

-- no figure is above 100,000,000
abbrev pub Modest : List ℕ → Type 0
Modest figures = (i : ℕ) → get_or figures i 0 ≤ 100000000
