-- Worked values of runs and of 31. D is the disk formatted with 20 blocks, last reserved 9 and one anode block.
use Rattle.std.specs.Prelude.{ℕ, ◌≡◌, refl, cond, List, [], ◌∷◌, ◌++◌, map, replicate}
use Rattle.rules.specs.Counting.{one_at, sum_below, sum_list, occurrences, any_in, gather, changed}
use Rattle.rules.specs.Anodes.{Anodes}
use Rattle.rules.specs.Chains.{chain_of, run, blocks_of}
use Rattle.report.specs.Runs.{passes_before, starts_run, runs_in, ending_run, longest_run, in_chain}
use Rattle.report.specs.Report.{answers_in, sums_in, images_taken, is_full}

-- the anodes with another anode a
abbrev with : Anodes → ℕ → ℕ → ℕ → ℕ → Anodes
with s a c b n = record { count = changed s.count a c; block = changed s.block a b; next = changed s.next a n }

-- no anode in use
abbrev none : Anodes
none = record { count = λ a. 0; block = λ a. 0; next = λ a. 0 }

-- D's: 1 = (0, 65535, 6), 2 = (5, 5, 0), 5 = (1, 4, 0), 6 = (10, 10, 2)
abbrev D : Anodes
D = with (with (with (with none 1 0 65535 6) 2 5 5 0) 5 1 4 0) 6 10 10 2

-- a file of two anodes with two blocks each
abbrev two_extents : ℕ → ℕ → Anodes
two_extents b c = with (with none 20 2 b 21) 21 2 c 0

-- 1 for totals that are full: so many accepted and refused under 3, a sum of bytes
abbrev full : ℕ → ℕ → ℕ → ℕ
full accepted refused bytes = cond (is_full (accepted ∷ 0 ∷ 0 ∷ refused ∷ (replicate 19 0 ++ (bytes ∷ [])))) 1 0

-- a row: what the definitions give, and what is stated
pub record Row : Type 0 where
  pub given : ℕ
  pub stated : ℕ

abbrev row : ℕ → ℕ → Row
row given stated = record { given = given; stated = stated }

abbrev pub rows : List Row
rows =
    -- the longest free run of D crosses last reserved
    row (longest_run (in_chain D 1) 20) 15
    -- (2, 12) then (2, 10) is one run, (2, 12) then (2, 15) two; no block, no run
    ∷ row (runs_in (in_chain (two_extents 12 10) 20) 20) 1
    ∷ row (runs_in (in_chain (two_extents 12 15) 20) 20) 2
    ∷ row (runs_in (in_chain (with none 20 0 65535 0) 20) 20) 0
    -- the 100,000th image is taken, the next is not, and made-up counts are added up as whole numbers
    ∷ row (full 99998 1 0) 0
    ∷ row (full 99999 1 0) 1
    ∷ row (full 9223372036854775808 9223372036854775808 0) 1
    -- exactly 10,000,000,000,000 is not above it
    ∷ row (full 0 0 10000000000000) 0
    ∷ row (full 0 0 10000000000001) 1
    ∷ []

-- they give what is stated
pub worked_values : map (λ r. r.given) rows ≡ map (λ r. r.stated) rows
unfolding one_at sum_below sum_list occurrences any_in gather changed chain_of run blocks_of passes_before starts_run runs_in ending_run longest_run in_chain answers_in sums_in images_taken is_full
worked_values = refl
