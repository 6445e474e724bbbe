-- The check's answer: the values of an accepted image, what its parts leave in the tables, and what it loads.
use Rattle.std.specs.Prelude.{ℕ, ◌≤◌, ◌≡◌, false, List, ◌++◌, length, drop, Result, Ok, Err}
use Rattle.disk.specs.declared.Refusal.{Refusal}
use Rattle.disk.specs.Refusals.{number_of}
use Rattle.rules.specs.Counting.{◌if◌else◌}
use Rattle.rules.specs.Anodes.{Anodes, limit, anodes_of}
use Rattle.rules.specs.Chains.{block_count}
use Rattle.rules.specs.Walk.{reached_dirs}
use Rattle.rules.specs.Accepted.{disk_size, wrong_size, wrong_slots, tree_fault, damage_in, check_answer}
use Rattle.rules.specs.Tables.{block_table, anode_table}
use Rattle.rules.specs.Calls.{file_count, dir_count}
use Rattle.tables.specs.Held.{ZeroBelow}
use Rattle.anodes.specs.Loaded.{anodes_from, AnodeTables}
use Rattle.laws.specs.Chains.{HeadTable}
use Rattle.walk_steps.specs.Steps.{queue_of}
use Rattle.fsck.specs.declared.Tally.{Tally}

-- an accepted image's free blocks, files, and directories with the root
abbrev pub Tallied : Result Tally Refusal → List ℕ → Anodes → Type 0
Tallied (Ok t) img s = (t.free ≡ block_count s 1) × (t.files ≡ file_count img s) × (t.dirs ≡ dir_count img s)
Tallied (Err r) img s = Unit {0}

-- tables of so many entries have one for each block and one for each anode
pub record TableRoom (img : List ℕ) (blocks anodes : ℕ) : Type 0 where
  pub for_blocks : disk_size img ≤ blocks
  pub for_anodes : limit ≤ anodes

-- what 1 to 4 say where none holds: the image's size is a disk's, the tables have room, and the rest of the table is the answer
pub record Headed (img : List ℕ) (blocks anodes : ℕ) : Type 0 where
  pub size_right : wrong_size img ≡ false
  pub room : TableRoom img blocks anodes
  pub answered : check_answer img blocks anodes ≡ (5 if wrong_slots img else damage_in img (anodes_of img))

-- what 1 to 4 say, which touch no table
abbrev pub HeaderTested : Result (Unit {0}) Refusal → List ℕ → ℕ → ℕ → Type 0
HeaderTested (Ok u) img blocks anodes = Headed img blocks anodes
HeaderTested (Err r) img blocks anodes = (check_answer img blocks anodes ≡ number_of r) × (number_of r ≤ 4)

-- what 6 to 11 say: the walk's answer is what is left, or the answer is the refusal's number
abbrev pub SpaceTested : Result (Unit {0}) Refusal → List ℕ → Anodes → Type 0
SpaceTested (Ok u) img s = damage_in img s ≡ tree_fault img s
SpaceTested (Err r) img s = damage_in img s ≡ number_of r

-- both tables show the image; entries past the ranges are kept
pub record Filled (img : List ℕ) (s : Anodes) (blocks₀ anodes₀ blocks anodes : List ℕ) : Type 0 where
  pub blocks_shown : blocks ≡ block_table img s ++ drop (disk_size img) blocks₀
  pub anodes_shown : anodes ≡ anode_table s ++ drop limit anodes₀

-- entries past the ranges are kept, whatever stands in them
pub record PastKept (img : List ℕ) (blocks₀ anodes₀ blocks anodes : List ℕ) : Type 0 where
  pub blocks-kept : drop (disk_size img) blocks ≡ drop (disk_size img) blocks₀
  pub anodes_kept : drop limit anodes ≡ drop limit anodes₀

-- the tables after the tests of 6 to 11
abbrev pub TablesAfter : Result (Unit {0}) Refusal → List ℕ → Anodes → List ℕ → List ℕ → List ℕ → List ℕ → Type 0
TablesAfter (Ok u) img s b₀ a₀ b a = Filled img s b₀ a₀ b a × HeadTable a s
TablesAfter (Err r) img s b₀ a₀ b a = PastKept img b₀ a₀ b a

-- the tables after the tests of 6 to 16
abbrev pub TablesLeft : Result Tally Refusal → List ℕ → Anodes → List ℕ → List ℕ → List ℕ → List ℕ → Type 0
TablesLeft (Ok t) img s b₀ a₀ b a = Filled img s b₀ a₀ b a
TablesLeft (Err r) img s b₀ a₀ b a = PastKept img b₀ a₀ b a

-- the block table and the anode table have room, and are zero in their ranges
pub record Zeroed (img blocks anodes : List ℕ) : Type 0 where
  pub room : TableRoom img (length blocks) (length anodes)
  pub blocks-zero : ZeroBelow blocks (disk_size img)
  pub anodes_zero : ZeroBelow anodes limit

-- five tables with an entry for each anode
abbrev pub Sized : List ℕ → List ℕ → List ℕ → List ℕ → List ℕ → Type 0
Sized counts firsts nexts queue parents =
    AnodeTables counts firsts nexts × (length queue ≡ limit) × (length parents ≡ limit)

-- an accepted image's anodes in three tables, its reached directories and their parents in two
abbrev pub Opened : Result Tally Refusal → List ℕ → List ℕ → List ℕ → List ℕ → List ℕ → List ℕ → Type 0
Opened (Ok t) img counts firsts nexts queue parents =
    (anodes_from counts firsts nexts ≡ anodes_of img)
    × (queue_of queue parents t.dirs ≡ reached_dirs img (anodes_of img))
    × Sized counts firsts nexts queue parents
Opened (Err r) img counts firsts nexts queue parents = Unit {0}
