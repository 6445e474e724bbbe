-- 02, No. 1: runs count by block number, across anodes and in any chain order.
use Rattle.std.specs.Prelude.{ℕ, zero, suc, max, Bool, false, cond, not, ◌&&◌, List, leb, ltb}
use Rattle.rules.specs.Counting.{sum_below, occurrences}
use Rattle.rules.specs.Anodes.{Anodes}
use Rattle.rules.specs.Chains.{blocks_of}
use Rattle.rules.specs.Accepted.{disk_size}

-- the block before x passes; block 0 has none before it
unfoldable pub passes_before : (ℕ → Bool) → ℕ → Bool
passes_before test zero = false
passes_before test (suc x) = test x

-- a run starts at x: x passes, and the block before it does not
unfoldable pub starts_run : (ℕ → Bool) → ℕ → Bool
starts_run test x = test x && not (passes_before test x)

-- how many runs the blocks below n that pass make
unfoldable pub runs_in : (ℕ → Bool) → ℕ → ℕ
runs_in test n = sum_below (λ x. cond (starts_run test x) 1 0) n

-- 1 for more than one run, else 0
unfoldable pub one_if_many : ℕ → ℕ
one_if_many runs = cond (ltb 1 runs) 1 0

-- how many blocks next to each other pass that end just below n
unfoldable pub ending_run : (ℕ → Bool) → ℕ → ℕ
ending_run test zero = 0
ending_run test (suc k) = cond (test k) (suc (ending_run test k)) 0

-- the longest run below n
unfoldable pub longest_run : (ℕ → Bool) → ℕ → ℕ
longest_run test zero = 0
longest_run test (suc k) = max (longest_run test k) (ending_run test (suc k))

-- block x is one of those of h's chain, wherever in the chain
unfoldable pub in_chain : Anodes → ℕ → ℕ → Bool
in_chain s h x = leb 1 (occurrences x (blocks_of s h))

-- the runs of the file that h heads
unfoldable pub file_runs : List ℕ → Anodes → ℕ → ℕ
file_runs img s h = runs_in (in_chain s h) (disk_size img)

-- the longest free run: of the blocks of 1's chain, on either side of last reserved
unfoldable pub longest_free : List ℕ → Anodes → ℕ
longest_free img s = longest_run (in_chain s 1) (disk_size img)
