-- What the taking of a new place answers, in the terms of the rules.
use Rattle.std.specs.Prelude.{ℕ, ◌≡◌, true, cond, [], eqb, Result, Ok, Err}
use Rattle.disk.specs.declared.BlockNo.{BlockNo}
use Rattle.disk.specs.declared.Refusal.{Refusal}
use Rattle.disk.specs.Refusals.{number_of}
use Rattle.rules.specs.Anodes.{Anodes, limit}
use Rattle.rules.specs.Space.{nowhere, found, free_extent, without_first}
use Rattle.rules.specs.Plans.{Slotted, Plan, planned}
use Rattle.safe_rules.specs.SafePlans.{reslotted}

-- the first free block, looking where directories look, is out of the free list; or there is none
abbrev pub PlaceTaken : Result BlockNo Refusal → Anodes → Anodes → Type 0
PlaceTaken (Ok y) s t = (p : ℕ) × (x : ℕ) × (free_extent limit true s ≡ found p x) × (y.0 ≡ s.block x) × (t ≡ without_first s p x)
PlaceTaken (Err why) s t = (free_extent limit true s ≡ nowhere) × (number_of why ≡ 27)

-- the anode block of slot k takes a new place, if there is one
unfoldable pub slot_plan : ℕ → Slotted → Plan Slotted
slot_plan k s = cond (eqb (s.slots k) 0) (planned s []) (reslotted k s)
