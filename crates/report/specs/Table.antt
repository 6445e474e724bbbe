-- Runs as the code reads them: from the block table that the check has filled, in one pass.
use Rattle.std.specs.Prelude.{ℕ, suc, ◌-◌, ◌<◌, max, ◌≡◌, Bool, cond, List, eqb, length, get_or}
use Rattle.report.specs.declared.Survey.{Survey}
use Rattle.report.specs.Runs.{runs_in, ending_run, longest_run}

-- block x has the owner h in the table
unfoldable pub owned_by : List ℕ → ℕ → ℕ → Bool
owned_by table h x = eqb (get_or table x 0) h

-- a table of counts holds the runs of each owner in the blocks below n
abbrev pub RunsCounted : List ℕ → ℕ → List ℕ → Type 0
RunsCounted table n starts = (h : ℕ) → h < length starts → get_or starts h 0 ≡ runs_in (owned_by table h) n

-- the length of a free run that ends: that of a run of this owner, if the owner is 1
unfoldable pub free_end : ℕ → ℕ → ℕ
free_end owner len = cond (eqb owner 1) len 0

-- how far a pass over the table is: behind block x, whose run started at `start`; `longest` is the longest free run before this one
pub record Surveyed (table : List ℕ) (x : ℕ) (s : Survey) (starts : List ℕ) : Type 0 where
  pub begun : s.start < suc x
  pub last : s.owner ≡ get_or table x 0
  pub ending : ending_run (owned_by table 1) (suc x) ≡ free_end s.owner (suc x - s.start)
  pub free : longest_run (owned_by table 1) (suc x) ≡ max s.longest (ending_run (owned_by table 1) (suc x))
  pub counts : RunsCounted table (suc x) starts
