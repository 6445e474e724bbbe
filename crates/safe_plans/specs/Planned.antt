-- The plans of safe changes on tables: what every one ends with, and the states that they start from.
use Rattle.std.specs.Prelude.{ℕ, ◌≤◌, ◌<◌, ◌≡◌, cond, List, [], ◌∷◌, eqb, get_or}
use Rattle.rules.specs.Anodes.{limit, anodes_of}
use Rattle.rules.specs.Accepted.{disk_size}
use Rattle.rules.specs.Tables.{block_entry}
use Rattle.rules.specs.Plans.{Slotted, Plan, planned, ◌and_then◌}
use Rattle.safe_rules.specs.SafePlans.{owner_of, relocated, taken_anew, reslotted_from, given_back}
use Rattle.placing.specs.States.{GoodState, Ready}
use Rattle.safe_steps.specs.Ready.{SettleReady}

-- the lent block table shows an image
abbrev pub ShowsBlocks : List ℕ → List ℕ → Type 0
ShowsBlocks img blocks = (y : ℕ) → y < disk_size img → get_or blocks y 0 ≡ block_entry img (anodes_of img) y

-- the first anode of a list with this block, or 0
unfoldable pub anode_with : (ℕ → ℕ) → ℕ → List ℕ → ℕ
anode_with block y [] = 0
anode_with block y (a ∷ l) = cond (eqb (block a) y) a (anode_with block y l)

-- what every safe change ends with: every anode block in a new place, then the old blocks ys back
unfoldable pub rest_from : ℕ → List ℕ → Slotted → Plan Slotted
rest_from last ys r = reslotted_from 42 0 r and_then given_back last ys

-- h heads a chain in a good state; once k blocks are taken for it anew, the rest can follow
pub record FileReady (last : ℕ) (ys : List ℕ) (h k : ℕ) (s : Slotted) : Type 0 where
  pub from_6 : 6 ≤ h
  pub ready : Ready last s h
  pub settles : (q : Slotted) (us : List ℕ) → taken_anew h k s ≡ planned q us → SettleReady last ys q

-- anode `owner` owns block y in a good state; once that has a new place, the rest can follow
pub record MoveReady (last : ℕ) (ys : List ℕ) (y owner : ℕ) (s : Slotted) : Type 0 where
  pub below : owner < limit
  pub owns : owner_of s.anodes y ≡ owner
  pub state : GoodState last s
  pub settles : (r : Slotted) (us : List ℕ) → relocated y s ≡ planned r us → SettleReady last ys r

-- h heads a chain in a good state; once k blocks are taken for it anew, block y can move
pub record ResizeReady (last : ℕ) (ys : List ℕ) (h k y owner : ℕ) (s : Slotted) : Type 0 where
  pub from_6 : 6 ≤ h
  pub ready : Ready last s h
  pub moves : (q : Slotted) (us : List ℕ) → taken_anew h k s ≡ planned q us → MoveReady last ys y owner q
