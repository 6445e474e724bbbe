-- What the gives of whole runs look for, answer, and carry from one run to the next.
use Rattle.std.specs.Prelude.{ℕ, zero, suc, ◌+◌, ◌-◌, ◌≤◌, ◌<◌, ◌≡◌, Bool, cond, not, ◌&&◌, List, ◌++◌, eqb, length, get_or, take, Result, Ok, Err}
use Rattle.disk.specs.declared.Refusal.{Refusal}
use Rattle.disk.specs.Refusals.{number_of}
use Rattle.rules.specs.Counting.{sum_list, last_of}
use Rattle.rules.specs.Anodes.{Anodes}
use Rattle.rules.specs.Chains.{chain_of, side, block_count}
use Rattle.rules.specs.Plans.{Slotted, Plan, refused, planned, after, Growth}
use Rattle.rules.specs.Space.{run_length, without_tail, tail_start, join_with, join, give_runs}
use Rattle.placing.specs.States.{GoodState, Ready}
use Rattle.giving_runs.specs.declared.Run.{Run}
use Rattle.giving_runs.specs.declared.Going.{Going}

-- the place of the last anode with a block among the first k of a list
unfoldable pub last_full : (ℕ → ℕ) → List ℕ → ℕ → ℕ
last_full count l zero = 0
last_full count l (suc k) = cond (eqb (count (get_or l k 0)) 0) (last_full count l k) k

-- the anode before a place of a list, 0 before the first
unfoldable pub anode_before : List ℕ → ℕ → ℕ
anode_before l zero = 0
anode_before l (suc i) = get_or l i 0

-- the last d blocks of x, after p on the chain of h, go to anode z, the last of their side: with x itself where its whole extent goes and x is not the head
unfoldable pub run_to : (ℕ → Bool) → ℕ → ℕ → ℕ → ℕ → ℕ → Anodes → Plan Anodes
run_to ex h p x d z s = cond (eqb (s.count x) d && not (eqb x h)) (join_with x z d (tail_start s x d) (without_tail s h p x d)) (join 3444 z d (tail_start s x d) ex (without_tail s h p x d))

-- the run that goes back next, when so many blocks are to go: the last of the last anode with a block among the first `at` of a list
pub record Picked (last left : ℕ) (s : Anodes) (chain : List ℕ) (at : ℕ) (r : Run) : Type 0 where
  pub place_is : r.place ≡ last_full s.count chain at
  pub anode_is : r.anode.0 ≡ get_or chain r.place 0
  pub before_is : r.before.0 ≡ anode_before chain r.place
  pub length_is : r.length ≡ run_length last left (s.count r.anode.0) (s.block r.anode.0)
  pub first_is : r.first.0 ≡ tail_start s r.anode.0 r.length
  pub whole_is : r.whole ≡ eqb (s.count r.anode.0) r.length

-- what is carried holds in s, where so many blocks of the chain of h are still to go: the first so many anodes of the list are its chain, but for anodes without a block, and the last anodes of both sides
pub record Carries (last h : ℕ) (chain : List ℕ) (g : Going) (s : Slotted) : Type 0 where
  pub ready : Ready last s h
  pub enough : g.left ≤ block_count s.anodes h
  pub room : length chain ≡ 3444
  pub inside : g.at ≤ 3444
  pub rest : List ℕ
  pub listed : chain_of s.anodes.next 3444 h ≡ take g.at chain ++ rest
  pub empty : sum_list s.anodes.count rest ≡ 0
  pub upper_end : g.upper.0 ≡ last_of 1 (side 3444 s.anodes 1)
  pub lower_end : g.lower.0 ≡ last_of 2 (side 3444 s.anodes 2)

-- the state once a run is out of its chain, and the run fits
pub record RunOff (last : ℕ) (g : Going) (r : Run) (s : Slotted) : Type 0 where
  pub state : GoodState last s
  pub inside : r.first.0 + r.length ≤ 65535
  pub fits : r.length ≤ g.left
  pub placed : r.place < 3444

-- what a give with growth answers: the plan is done and has left t, where the last anodes of both sides are known, or it is refused
abbrev pub GivenGrown : Result Going Refusal → Going → Run → Slotted → Plan Slotted → Type 0
GivenGrown (Ok g') g r t p =
    ((ys : List ℕ) × (p ≡ planned t ys))
    × (g'.left ≡ g.left - r.length)
    × (g'.at ≡ cond r.whole r.place (r.place + 1))
    × (g'.upper.0 ≡ last_of 1 (side 3444 t.anodes 1))
    × (g'.lower.0 ≡ last_of 2 (side 3444 t.anodes 2))
GivenGrown (Err why) g r t p = p ≡ refused (number_of why)

-- a turn: a run is given and t is left, where fewer blocks are to go, or it is refused, and so is all
abbrev pub Turns : Result Going Refusal → Growth → ℕ → ℕ → List ℕ → ℕ → Slotted → Slotted → Type 0
Turns (Ok g) growth last h chain left s t = (g.left < left) × Carries last h chain g t × ((ys : List ℕ) × ((f : ℕ) → give_runs 3444 growth last (suc f) left h s ≡ after ys (give_runs 3444 growth last f g.left h t)))
Turns (Err r) growth last h chain left s t = (f : ℕ) → give_runs 3444 growth last (suc f) left h s ≡ refused (number_of r)
