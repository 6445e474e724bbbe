-- The anodes that three lists of numbers hold: count, block and next by the anode's number; 0 past the end. An accepted image whose anodes they are.
use Rattle.std.specs.Prelude.{ℕ, ◌≡◌, List, length, get_or}
use Rattle.rules.specs.Anodes.{Anodes, limit, anodes_of}
use Rattle.rules.specs.Accepted.{disk_size, check_answer}
use Rattle.rules.specs.Plans.{Slotted, slotted}
use Rattle.tables.specs.Held.{HeldBelow}

-- the anodes in three lists
unfoldable pub anodes_from : List ℕ → List ℕ → List ℕ → Anodes
anodes_from c b n = record { count = λ a. get_or c a 0; block = λ a. get_or b a 0; next = λ a. get_or n a 0 }

-- the slots in a list; 0 past its end
unfoldable pub slots_from : List ℕ → ℕ → ℕ
slots_from l k = get_or l k 0

-- the anodes in three lists, and the slots in a fourth
abbrev pub table_from : List ℕ → List ℕ → List ℕ → List ℕ → Slotted
table_from c b n slots = slotted (anodes_from c b n) (slots_from slots)

-- three lists with a number for each anode
abbrev pub AnodeTables : List ℕ → List ℕ → List ℕ → Type 0
AnodeTables c b n = (length c ≡ limit) × (length b ≡ limit) × (length n ≡ limit)

-- the lists hold the anodes of s below k
pub record LoadedBelow (s : Anodes) (c b n : List ℕ) (k : ℕ) : Type 0 where
  pub counts : HeldBelow s.count c k
  pub blocks : HeldBelow s.block b k
  pub nexts : HeldBelow s.next n k

-- an accepted image whose anodes are loaded in three tables
pub record Loaded (img counts firsts nexts : List ℕ) : Type 0 where
  pub accepted : check_answer img (disk_size img) limit ≡ 0
  pub is_loaded : anodes_from counts firsts nexts ≡ anodes_of img
  pub tables : AnodeTables counts firsts nexts
