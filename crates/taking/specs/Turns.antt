-- What takes carry from one to the next, and what one answers.
use Rattle.std.specs.Prelude.{ℕ, ◌<◌, ◌≡◌, ◌≢◌, false, List, None, Result, Ok, Err}
use Rattle.disk.specs.declared.Refusal.{Refusal}
use Rattle.disk.specs.Refusals.{number_of}
use Rattle.rules.specs.Plans.{Slotted, Plan, refused, planned, Growth}
use Rattle.rules.specs.Space.{free_extent, chain_end, take_block}
use Rattle.laws.specs.Carried.{end_after}
use Rattle.placing.specs.States.{GoodState, Ready}
use Rattle.taking.specs.declared.Taking.{Taking}
use Rattle.taking.specs.Extents.{extent_left}

-- a good state, in which z is an anode of a chain other than the free list
pub record PutReady (z : ℕ) (s : Slotted) : Type 0 where
  pub last : ℕ
  pub state : GoodState last s
  pub used : s.anodes.block z ≢ 0
  pub apart : state.hd z ≢ 1
  pub below : z < 3444

-- what a take with growth answers: the plan is done and has left t, with nothing known of the next extent, or it is refused
abbrev pub TakenGrown : Result Taking Refusal → ℕ → Slotted → Plan Slotted → Type 0
TakenGrown (Ok g) end t p = ((ys : List ℕ) × (p ≡ planned t ys)) × (g.end.0 ≡ end_after t.anodes.next end) × (g.more ≡ None)
TakenGrown (Err r) end t p = p ≡ refused (number_of r)

-- what is carried holds in s for the chain of h: its last anode, and the extent that the next block of data comes from
pub record TakeCarries (last h : ℕ) (t : Taking) (s : Slotted) : Type 0 where
  pub ready : Ready last s h
  pub ends : t.end.0 ≡ chain_end 3444 s.anodes h
  pub extent : extent_left t.more s.anodes ≡ free_extent 3444 false s.anodes

-- a take of data from s: it is done and r is left, where what is carried holds, or it is refused
abbrev pub TakeTurns : Result Taking Refusal → Growth → ℕ → ℕ → Slotted → Slotted → Type 0
TakeTurns (Ok t) growth last h s r = TakeCarries last h t r × ((ys : List ℕ) × (take_block 3444 growth false h s ≡ planned r ys))
TakeTurns (Err why) growth last h s r = take_block 3444 growth false h s ≡ refused (number_of why)
