-- 02, No. 1: what a report counts on an accepted disk.
use Rattle.std.specs.Prelude.{ℕ, cond, List, [], ◌∷◌}
use Rattle.rules.specs.Counting.{sum_list, gather}
use Rattle.rules.specs.Anodes.{Anodes}
use Rattle.rules.specs.Walk.{Entered, reached_dirs}
use Rattle.rules.specs.Lookup.{entries_of}
use Rattle.rules.specs.Totals.{free_blocks}
use Rattle.rules.specs.Calls.{file_count, dir_count}
use Rattle.report.specs.Runs.{one_if_many, file_runs, longest_free}

-- the reached entries, in the walk's order
unfoldable pub reached_entries : List ℕ → Anodes → List Entered
reached_entries img s = gather (λ d. entries_of img s d.head) (reached_dirs img s)

-- 1 for a file in more than one run, else 0
unfoldable pub one_if_split : List ℕ → Anodes → Entered → ℕ
one_if_split img s e = cond e.dir 0 (one_if_many (file_runs img s e.anode))

-- files in more than one run
unfoldable pub split_files : List ℕ → Anodes → ℕ
split_files img s = sum_list (one_if_split img s) (reached_entries img s)

-- the bytes of a file: the size that its entry has, and not the bytes of its blocks
unfoldable pub file_size : Entered → ℕ
file_size e = cond e.dir 0 e.size

-- the bytes of all files
unfoldable pub file_bytes : List ℕ → Anodes → ℕ
file_bytes img s = sum_list file_size (reached_entries img s)

-- the five numbers of a disk: blocks free, files, directories with the root, longest free run, files in more than one run; and behind them the bytes of its files
unfoldable pub figures_of : List ℕ → Anodes → List ℕ
figures_of img s =
    free_blocks s ∷ file_count img s ∷ dir_count img s ∷ longest_free img s ∷ split_files img s
    ∷ file_bytes img s ∷ []
