-- The plan of a safe resize to another size: its new blocks in the order taken.
use Rattle.std.specs.Prelude.{ℕ, ◌≡◌, List, ◌∷◌, ◌++◌}
use Rattle.rules.specs.Chains.{blocks_of}
use Rattle.rules.specs.Walk.{Entered}
use Rattle.rules.specs.Plans.{Slotted, table_of, planned}
use Rattle.safe_rules.specs.SafePlans.{slot_blocks, resize_change, safe_steps}

-- the blocks of the file that h heads, the directory block's new place z, and the anode blocks, slot by slot
abbrev pub new_order : Slotted → ℕ → ℕ → List ℕ
new_order t h z = blocks_of t.anodes h ++ (z ∷ slot_blocks t.slots 42)

-- the steps of the resize leave the table t, and take these
abbrev pub ResizePlan : List ℕ → Entered → ℕ → Slotted → ℕ → Type 0
ResizePlan img e size t z = safe_steps img (resize_change img (table_of img) e size) ≡ planned t (new_order t e.anode z)
