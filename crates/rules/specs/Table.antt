-- 02, No. 6: the image with another anode table, its slots and anodes. New anode blocks are zeroed, marked and numbered; one that takes a new place keeps its bytes.
use Rattle.std.specs.Prelude.{ℕ, zero, suc, cond, List, eqb}
use Rattle.disk.specs.Blocks.{block_of, with_block}
use Rattle.disk.specs.Root.{slot_of, put_slot}
use Rattle.rules.specs.Anodes.{with_anodes}
use Rattle.rules.specs.Plans.{Slotted}
use Rattle.rules.specs.Format.{empty_anode_block}

-- the image with one block of it changed by f
unfoldable pub in_block : List ℕ → ℕ → (List ℕ → List ℕ) → List ℕ
in_block img y f = with_block img y (f (block_of img y))

-- what the new block of slot k holds at first: that of an empty slot its mark and its slot as sequence number, all else 0; one that takes a new place what the slot's old block has
unfoldable pub slot_block : List ℕ → ℕ → List ℕ
slot_block img k = cond (eqb (slot_of img k) 0) (empty_anode_block k) (block_of img (slot_of img k))

-- the image with block y in slot k, holding these bytes
unfoldable pub with_slot : List ℕ → ℕ → ℕ → List ℕ → List ℕ
with_slot img k y new = with_block (in_block img 2 (λ b. put_slot b k y)) y new

-- the image with each slot below k stored that holds another block in `slots` than in img
unfoldable pub store_slots : List ℕ → (ℕ → ℕ) → ℕ → List ℕ
store_slots img slots zero = img
store_slots img slots (suc k) =
    cond (eqb (slots k) (slot_of img k)) (store_slots img slots k)
    (with_slot (store_slots img slots k) k (slots k) (slot_block img k))

-- the image with these slots: exactly those that differ are stored
abbrev pub with_slot_table : List ℕ → (ℕ → ℕ) → List ℕ
with_slot_table img slots = store_slots img slots 42

-- the image with the anode table t: first its slots, then, in their blocks, exactly the anodes that differ
unfoldable pub with_table : List ℕ → Slotted → List ℕ
with_table img t = with_anodes (with_slot_table img t.slots) t.anodes
