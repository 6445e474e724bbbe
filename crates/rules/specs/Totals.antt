-- 01, "Holding the contracts to account": the blocks of each kind, counted from the image's bytes alone; a chain's blocks are those its anodes own.
use Rattle.std.specs.Prelude.{ℕ, ◌+◌, ◌≡◌, cond, List, eqb}
use Rattle.disk.specs.Root.{slot_of}
use Rattle.rules.specs.Counting.{sum_below, sum_list}
use Rattle.rules.specs.Anodes.{Anodes, limit, anodes_of}
use Rattle.rules.specs.Chains.{block_count}
use Rattle.rules.specs.Walk.{reached}
use Rattle.rules.specs.Accepted.{disk_size, check_answer}

-- free: 1's chain
unfoldable pub free_blocks : Anodes → ℕ
free_blocks s = block_count s 1

-- files: the chains that reached entries of type 253 name
unfoldable pub file_blocks : List ℕ → Anodes → ℕ
file_blocks img s = sum_list (λ i. cond i.dir 0 (block_count s i.anode)) (reached img s)

-- directories: 5's chain and those that reached entries of type 2 name
unfoldable pub directory_blocks : List ℕ → Anodes → ℕ
directory_blocks img s = block_count s 5 + sum_list (λ i. cond i.dir (block_count s i.anode) 0) (reached img s)

-- to be freed and bad: 3's and 4's chains, none where that anode is free
unfoldable pub chain_blocks : Anodes → ℕ → ℕ
chain_blocks s h = cond (eqb (s.block h) 0) 0 (block_count s h)

-- anode blocks: one for each slot not 0
unfoldable pub anode_blocks : List ℕ → ℕ
anode_blocks img = sum_below (λ s. cond (eqb (slot_of img s) 0) 0 1) 42

-- start blocks: 0 to 2
abbrev pub start_blocks : ℕ
start_blocks = 3

-- the sum of the kinds of blocks
unfoldable pub total_in : List ℕ → Anodes → ℕ
total_in img s = free_blocks s + file_blocks img s + directory_blocks img s + chain_blocks s 3 + chain_blocks s 4 + anode_blocks img + start_blocks

-- the sum of demand 3
unfoldable pub total : List ℕ → ℕ
total img = total_in img (anodes_of img)

-- lent tables as long as 2 asks, the check answers 0, and the kinds of blocks add up to the disk's size
pub record Sound (img : List ℕ) : Type 0 where
  pub accepted : check_answer img (disk_size img) limit ≡ 0
  pub adds_up : total img ≡ disk_size img
