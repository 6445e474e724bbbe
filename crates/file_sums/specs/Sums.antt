-- What entries add up to, by a table of the runs that each anode heads.
use Rattle.std.specs.Prelude.{ℕ, ◌+◌, ◌*◌, ◌≤◌, cond, List, get_or}
use Rattle.rules.specs.Counting.{sum_list}
use Rattle.rules.specs.Walk.{Entered}
use Rattle.report.specs.Runs.{one_if_many}
use Rattle.report.specs.Figures.{file_size}
use Rattle.file_sums.specs.declared.FileSums.{FileSums}

-- 1 for a file whose anode has more than one run in the table, else 0
unfoldable pub one_if_apart : List ℕ → Entered → ℕ
one_if_apart starts e = cond e.dir 0 (one_if_many (get_or starts e.anode 0))

-- both sums, by their numbers
abbrev pub sums_made : ℕ → ℕ → FileSums
sums_made bytes split = record { bytes = bytes; split = split }

-- the sums with the entries of a list
unfoldable pub sums_with : List ℕ → FileSums → List Entered → FileSums
sums_with starts t es = sums_made (t.bytes + sum_list file_size es) (t.split + sum_list (one_if_apart starts) es)

-- k entries more do not overflow them; a size has four bytes
pub record EntriesFit (t : FileSums) (k : ℕ) : Type 0 where
  pub bytes : t.bytes + k * 4294967296 ≤ 9223372036854775808
  pub split : t.split + k ≤ 2147483648

-- u are sums with at most k entries more than t
pub record Within (t u : FileSums) (k : ℕ) : Type 0 where
  pub bytes : u.bytes ≤ t.bytes + k * 4294967296
  pub split : u.split ≤ t.split + k
