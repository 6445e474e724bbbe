-- What the steps of a make start from and what they answer, in the terms of the rules.
use Rattle.std.specs.Prelude.{ℕ, ◌≡◌, Bool, cond, List, [], ◌∷◌, Result, Ok, Err, eqb, length}
use Rattle.std.proofs.Math.Option.{Option}
use Rattle.disk.specs.declared.BlockNo.{BlockNo}
use Rattle.disk.specs.declared.Refusal.{Refusal}
use Rattle.disk.specs.Refusals.{number_of}
use Rattle.directory.specs.Entries.{entry_length}
use Rattle.rules.specs.Accepted.{PastDamage}
use Rattle.rules.specs.Plans.{Slotted, table_of, Plan, refused, planned, Growth}
use Rattle.rules.specs.Changes.{entry_start, head_made, NewEntry, left, made}
use Rattle.change_laws.specs.MakePlan.{Fresh, MakeSteps}
use Rattle.making.specs.declared.MakePlan.{MakePlan}

-- the blocks of a step that may need none: block 0 is the system's, and stands for none
unfoldable pub some_block : ℕ → List ℕ
some_block y = cond (eqb y 0) [] (y ∷ [])

-- the plan that such a step answers
abbrev pub needed_plan : Result BlockNo Refusal → Slotted → Plan Slotted
needed_plan (Ok y) t = planned t (some_block y.0)
needed_plan (Err r) t = refused (number_of r)

-- s is the state that the steps of a make in the directory of h start from: that of img, grown if no anode was free, with f as a head
pub record Begun (img : List ℕ) (growth : Growth) (h f : ℕ) (s : Slotted) : Type 0 where
  pub spared : Slotted
  pub fresh : Fresh img growth h spared f
  pub state : s ≡ head_made spared f

-- m plans a make in the directory of h, of a directory or a file whose entry has len bytes, and leaves the state t
pub record Plans (img : List ℕ) (growth : Growth) (dir : Bool) (len h : ℕ) (m : MakePlan) (t : Slotted) : Type 0 where
  pub spared : Slotted
  pub fresh : Fresh img growth h spared m.fresh.0
  pub room : Option ℕ
  pub steps : MakeSteps img growth spared dir len h m.fresh.0 room (some_block m.own.0) t (some_block m.parents.0)
  pub start : m.start ≡ entry_start room (m.parents.0 ∷ [])

-- what the planning of a make answers: the plan, or a refusal of the whole make
abbrev pub PlanOf : Result MakePlan Refusal → List ℕ → Growth → Bool → ℕ → ℕ → Slotted → Type 0
PlanOf (Ok m) img growth dir len h t = Plans img growth dir len h m t
PlanOf (Err x) img growth dir len h t =
    (PastDamage (number_of x)) × ((new : NewEntry) → new.dir ≡ dir → entry_length (length new.name) (length new.comment) ≡ len → made growth img (table_of img) h new ≡ left (number_of x) img)
