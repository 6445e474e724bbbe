-- What a marked table shows of the rules: refusal 11, and the block table. Assumes nothing.
use mathlib.Core.Path.{◌≡◌, ◌∙◌}
use mathlib.Core.Logic.{inl, inr}
use mathlib.Core.List.{List, ◌++◌}
use Prim.Native.Nat.{ℕ, ◌<◌, ◌≤◌}
use lib.Dec.{eqb}
use lib.ListN.{length, get_or, drop}
use Rattle.rules.specs.Counting.{any_below}
use Rattle.rules.specs.Anodes.{Anodes}
use Rattle.rules.specs.Accepted.{disk_size, owners_of, no_owner}
use Rattle.rules.specs.Tables.{chain_head, head_where, owner_head, block_entry, block_table, entry_or}
use Rattle.counting.specs.Laws.{any_below-same}
use Rattle.laws.specs.Sums.{sum_congr}
use Rattle.laws.specs.Ownership.{covers_cases}
use Rattle.laws.specs.OwnerTable.{listed-front}
use Rattle.owners.specs.Marks.{Marked, head_mark, owner_entry, OwnersMarked}

-- 11: an entry of 0 is a block with no owner
pub marked_no_owner : (img : List ℕ) (s : Anodes) (E : ℕ → ℕ) (t : List ℕ) → Marked (disk_size img) (owners_of img s) E t
    → any_below (λ x. eqb (get_or t x 0) 0) (disk_size img) ≡ no_owner img s
unfolding no_owner
marked_no_owner img s E t m = any_below-same (λ x. eqb (get_or t x 0) 0) (λ x. eqb (owners_of img s x) 0) (disk_size img) m.zeros

module _ (img : List ℕ) (s : Anodes) (heads : List ℕ) (are : (a : ℕ) → a < 3444 → get_or heads a 0 ≡ chain_head s a) where
  mark_is : (x a : ℕ) → a < 3444 → head_mark s heads x a ≡ head_where s x a
  unfolding head_mark head_where
  mark_is x a l = elim (covers_cases (s.count a) (s.block a) x) [
    | inl c ↦ rw c.2 (are a l)
    | inr c ↦ rw c.1
  ]

  entry_is : (x : ℕ) → owner_entry img s heads x ≡ block_entry img s x
  unfolding owner_entry entry_or block_entry owner_head
  entry_is x = rw (sum_congr (head_mark s heads x) (head_where s x) 3444 (mark_is x))

  -- with the heads of all chains, the table is the block table and what stands behind it
  pub marked-table : (t : List ℕ) → disk_size img ≤ length t → OwnersMarked img s heads t → t ≡ block_table img s ++ drop (disk_size img) t
  unfolding block_table
  marked-table t room m = listed-front (block_entry img s) (disk_size img) t room (λ x l. m.entries x l ∙ entry_is x)
