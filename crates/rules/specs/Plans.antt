-- What a plan works on, the anodes and the block that each slot holds, and how the steps of a plan follow each other. A step that is refused answers 27 or 28.
use Rattle.std.specs.Prelude.{ℕ, zero, suc, Bool, List, [], ◌++◌}
use Rattle.std.proofs.Math.Option.{Option, none, some}
use Rattle.disk.specs.Root.{slot_of}
use Rattle.rules.specs.Anodes.{Anodes, exists_by, anodes_of}

-- the anodes, and the block that each slot holds
pub record Slotted : Type 0 where
  pub anodes : Anodes
  pub slots : ℕ → ℕ

-- both in one line
abbrev pub slotted : Anodes → (ℕ → ℕ) → Slotted
slotted s slots = record { anodes = s; slots = slots }

-- the anodes and slots of an image
abbrev pub table_of : List ℕ → Slotted
table_of img = slotted (anodes_of img) (slot_of img)

-- what a step, or a run of steps, leads to: a refusal, or the state and the blocks that have changed hands, in order
pub data Plan (X : Type 0) : Type 0 where
  refused : ℕ → Plan X
  planned : X → List ℕ → Plan X

-- blocks that changed hands before, in front of those of a plan
unfoldable pub after : {X : Type 0} → List ℕ → Plan X → Plan X
after ys (refused n) = refused n
after ys (planned t zs) = planned t (ys ++ zs)

infixl 5 ◌and_then◌
-- a plan and, on what it leaves, another; refused if any step is
unfoldable pub ◌and_then◌ : {X Y : Type 0} → Plan X → (X → Plan Y) → Plan Y
(refused n) and_then f = refused n
(planned t ys) and_then f = after ys (f t)

-- k steps, one after the other
unfoldable pub repeated : {X : Type 0} → (X → Plan X) → ℕ → X → Plan X
repeated step zero s = planned s []
repeated step (suc k) s = step s and_then repeated step k

-- a plan on the anodes alone leaves the slots
unfoldable pub at_slots : (ℕ → ℕ) → Plan Anodes → Plan Slotted
at_slots slots (refused n) = refused n
at_slots slots (planned t ys) = planned (slotted t slots) ys

-- how slots get more blocks where an anode is needed and none is free
abbrev pub Growth : Type 0
Growth = Slotted → Option Slotted

-- they get none
abbrev pub no_growth : Growth
no_growth s = none

-- a step that found no anode: refused, or made afresh on the grown state
unfoldable pub regrown : ((ℕ → Bool) → Anodes → Plan Anodes) → ℕ → Option Slotted → Plan Slotted
regrown step n none = refused n
regrown step n (some r) = at_slots r.slots (step (exists_by r.slots) r.anodes)

-- a step at fixed slots, over the anodes that exist: where it is refused and the slots can grow, it looks afresh for its place and the lowest free anode
unfoldable pub afresh : Growth → ((ℕ → Bool) → Anodes → Plan Anodes) → Slotted → Plan Slotted
afresh growth step s = elim (step (exists_by s.slots) s.anodes) [
  | planned t ys ↦ planned (slotted t s.slots) ys
  | refused n ↦ regrown step n (growth s)
]
