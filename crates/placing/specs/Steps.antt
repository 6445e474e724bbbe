-- What the steps on tables of anodes answer, in the terms of the rules.
use Rattle.std.specs.Prelude.{ℕ, Bool, true, false, ◌≡◌, List, Result, Ok, Err}
use Rattle.disk.specs.declared.BlockNo.{BlockNo}
use Rattle.disk.specs.declared.Refusal.{Refusal}
use Rattle.disk.specs.Refusals.{number_of}
use Rattle.rules.specs.Anodes.{Anodes}
use Rattle.rules.specs.Chains.{run}
use Rattle.rules.specs.Plans.{Slotted, Plan, refused, planned}
use Rattle.rules.specs.Space.{fill_or, grow_or, grow_before_or}

-- the plan that a step answers: a run of c blocks that changed hands, the first of them as answered, or the refusal
abbrev pub step_plan : {X : Type 0} → Result BlockNo Refusal → ℕ → X → Plan X
step_plan (Ok y) c t = planned t (run y.0 c)
step_plan (Err r) c t = refused (number_of r)

-- a refused step leaves what it was lent
abbrev pub UnlessMoved : Result BlockNo Refusal → Anodes → Anodes → Type 0
UnlessMoved (Ok y) s t = Unit {0}
UnlessMoved (Err r) s t = t ≡ s

-- a run of steps answers a plan: it is done and has left t, or is refused
abbrev pub EndsIn : Result (Unit {0}) Refusal → Slotted → Plan Slotted → Type 0
EndsIn (Ok done) t p = (ys : List ℕ) × (p ≡ planned t ys)
EndsIn (Err r) t p = p ≡ refused (number_of r)

-- whether anode z can have a run, and then has it
abbrev pub Grows : Bool → Anodes → ℕ → ℕ → ℕ → Anodes → Type 0
Grows true s z c b t = (other : Plan Anodes) → fill_or s z c b (grow_or s z c b (grow_before_or s z c b other)) ≡ planned t (run b c)
Grows false s z c b t = ((other : Plan Anodes) → fill_or s z c b (grow_or s z c b (grow_before_or s z c b other)) ≡ other) × (t ≡ s)
