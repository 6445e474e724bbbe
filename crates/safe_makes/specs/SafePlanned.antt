-- A safe make planned on tables: the block that gets the entry, and all its steps.
use Rattle.std.specs.Prelude.{ℕ, ◌%◌, ◌<◌, ◌≡◌, cond, List, [], ◌∷◌, ◌++◌, Result, Ok, Err, ◌≢◌, eqb, length}
use Rattle.std.proofs.Math.Option.{none, some}
use Rattle.disk.specs.Root.{slot_of}
use Rattle.disk.specs.Blocks.{block_of}
use Rattle.disk.specs.declared.Refusal.{Refusal}
use Rattle.disk.specs.Refusals.{number_of}
use Rattle.rules.specs.Anodes.{limit, exists_by, anodes_of}
use Rattle.rules.specs.Chains.{chain_of}
use Rattle.rules.specs.Plans.{Slotted, Plan, refused, planned, table_of}
use Rattle.rules.specs.Space.{lowest_free}
use Rattle.rules.specs.Format.{new_directory_block}
use Rattle.rules.specs.Changes.{NewEntry, room_for}
use Rattle.safe_rules.specs.SafePlans.{owner_of, relocated, slot_blocks, make_change, safe_steps}
use Rattle.safe_plans.specs.Planned.{anode_with}
use Rattle.placing.specs.States.{GoodState}
use Rattle.making.specs.declared.MakePlan.{MakePlan}
use Rattle.making.specs.Steps.{some_block}
use Rattle.safe_makes.specs.declared.SafePlan.{SafePlan}

-- ---- the block that gets the entry

-- the parent's new block p, or a new place for block y where p is 0
unfoldable pub entry_plan : ℕ → ℕ → Slotted → Plan Slotted
entry_plan p y s = cond (eqb p 0) (relocated y s) (planned s (p ∷ []))

-- the old block that changes: block y, or none, 65535, where the parent has the new block p
unfoldable pub room_number : ℕ → ℕ → ℕ
room_number p y = cond (eqb p 0) y 65535

-- block y is that of an anode of the chain of h, in a good state
pub record RoomReady (last y h : ℕ) (s : Slotted) : Type 0 where
  pub below : anode_with s.anodes.block y (chain_of s.anodes.next limit h) < limit
  pub owns : owner_of s.anodes y ≡ anode_with s.anodes.block y (chain_of s.anodes.next limit h)
  pub state : GoodState last s

-- the bytes that the entry's block starts with: those of block y, or a new directory block's where the parent has the new block p
unfoldable pub start_bytes : List ℕ → ℕ → ℕ → ℕ → ℕ → List ℕ
start_bytes img p y h parent = cond (eqb p 0) (block_of img y) (new_directory_block h parent)

-- ---- all steps

-- m plans a make in the directory of h, whose entry goes to block `to`, and all steps of the safe make leave the state t
pub record SafelyMade (img : List ℕ) (h : ℕ) (new : NewEntry) (m : MakePlan) (to : ℕ) (t : Slotted) : Type 0 where
  -- the blocks taken, in order
  pub taken : List ℕ
  pub steps : safe_steps img (make_change img (table_of img) h new) ≡ planned t taken
  -- a new directory's own block, the entry's, and one for each anode block
  pub are : taken ≡ (some_block m.own.0 ++ (to ∷ [])) ++ slot_blocks t.slots 42
  pub fresh : m.fresh.0 ≡ lowest_free limit (exists_by (slot_of img)) (anodes_of img)
  pub own : length (some_block m.own.0) ≡ cond new.dir 1 0
  -- room was found, or the parent has a new block
  pub room : m.parents.0 ≡ 0 → room_for img (anodes_of img) h new ≡ some m.start
  pub no_room : m.parents.0 ≢ 0 → (room_for img (anodes_of img) h new ≡ none) × (m.start % 512 ≡ 16)

-- what the planning of a safe make answers: the plan, or a refusal of all steps
abbrev pub SafePlanOf : Result SafePlan Refusal → List ℕ → ℕ → NewEntry → Slotted → Type 0
SafePlanOf (Ok m) img h new t = SafelyMade img h new m.plan m.to.0 t
SafePlanOf (Err why) img h new t = safe_steps img (make_change img (table_of img) h new) ≡ refused (number_of why)
