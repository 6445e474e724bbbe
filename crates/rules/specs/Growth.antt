-- 02, No. 6: where an anode is needed and none is free, the anode table grows.
use Rattle.std.specs.Prelude.{ℕ, true, cond, eqb, ltb}
use Rattle.std.proofs.Math.Option.{none, some}
use Rattle.rules.specs.Counting.{least, changed}
use Rattle.rules.specs.Plans.{Slotted, slotted, Growth}
use Rattle.rules.specs.Space.{nowhere, found, free_extent, without_first}

-- the lowest empty slot, or 42 where there is none
unfoldable pub empty_slot : (ℕ → ℕ) → ℕ
empty_slot slots = least (λ k. eqb (slots k) 0) 42

-- the first block of x, a free extent after p, becomes the block of slot k; no anode owns it
unfoldable pub slot_from : Slotted → ℕ → ℕ → ℕ → Slotted
slot_from s k p x = slotted (without_first s.anodes p x) (changed s.slots k (s.anodes.block x))

-- the lowest empty slot gets a block, taken as a directory block is; none where no slot is empty or no free block is left (A: how many anodes there may be)
unfoldable pub grown : ℕ → Growth
grown A s =
    cond (ltb (empty_slot s.slots) 42)
    (elim (free_extent A true s.anodes) [ nowhere ↦ none | found p x ↦ some (slot_from s (empty_slot s.slots) p x) ])
    none
