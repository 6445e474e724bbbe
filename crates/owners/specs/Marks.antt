-- What the block table holds while owners are marked in it, and after.
use Rattle.std.specs.Prelude.{ℕ, ◌<◌, ◌≤◌, ◌≡◌, ◌≢◌, Bool, true, false, cond, List, get_or, eqb}
use Rattle.rules.specs.Counting.{sum_below}
use Rattle.rules.specs.Anodes.{Anodes, limit}
use Rattle.rules.specs.Chains.{one_if_covers}
use Rattle.rules.specs.Tables.{entry_or}
use Rattle.rules.specs.Accepted.{disk_size, owners_of}

-- a table is left as it was outside the blocks from `first` up to `end`
pub record KeptOutside (old t : List ℕ) (first end : ℕ) : Type 0 where
  pub outside : (x : ℕ) → (first ≤ x → x < end → ⊥) → get_or t x 0 ≡ get_or old x 0

-- the blocks from `first` up to `end` hold the mark; free blocks hold 0
pub record RunHolds (t : List ℕ) (first end mark : ℕ) : Type 0 where
  pub each : (x : ℕ) → first ≤ x → x < end → get_or t x 0 ≡ mark

-- one of them was marked already
pub record RunHit (old : List ℕ) (first end : ℕ) : Type 0 where
  pub block : ℕ
  pub from : first ≤ block
  pub below : block < end
  pub taken : get_or old block 0 ≢ 0

-- what the answer says of a run that is only looked at: true for a hit
abbrev pub RunTested : Bool → List ℕ → ℕ → ℕ → Type 0
RunTested true old first end = RunHit old first end
RunTested false old first end = RunHolds old first end 0

-- they were free and are marked
abbrev pub RunFilled : List ℕ → List ℕ → ℕ → ℕ → ℕ → Type 0
RunFilled old t first end mark = RunHolds old first end 0 × RunHolds t first end mark

-- what a run's answer says: true for a hit
abbrev pub RunMarked : Bool → List ℕ → List ℕ → ℕ → ℕ → ℕ → Type 0
RunMarked true old t first end mark = RunHit old first end
RunMarked false old t first end mark = RunFilled old t first end mark

-- each block below n has one owner at most and its entry, which is 0 where it has none and nowhere else
pub record Marked (n : ℕ) (owners entry : ℕ → ℕ) (t : List ℕ) : Type 0 where
  pub once : (x : ℕ) → x < n → owners x ≤ 1
  pub entries : (x : ℕ) → x < n → get_or t x 0 ≡ entry x
  pub zeros : (x : ℕ) → x < n → eqb (get_or t x 0) 0 ≡ eqb (owners x) 0

-- a block below n has two owners
pub record OwnedTwice (n : ℕ) (owners : ℕ → ℕ) : Type 0 where
  pub block : ℕ
  pub below : block < n
  pub twice : 1 < owners block

-- what an answer says: true for a block with two owners
abbrev pub Answered : Bool → ℕ → (ℕ → ℕ) → (ℕ → ℕ) → List ℕ → Type 0
Answered true n owners entry t = OwnedTwice n owners
Answered false n owners entry t = Marked n owners entry t

-- the head that an anode's blocks are marked with, at block x
unfoldable pub head_mark : Anodes → List ℕ → ℕ → ℕ → ℕ
head_mark s heads x a = cond (eqb (one_if_covers (s.count a) (s.block a) x) 1) (get_or heads a 0) 0

-- a block's entry: the system's, else the head of the anode that covers it
unfoldable pub owner_entry : List ℕ → Anodes → List ℕ → ℕ → ℕ
owner_entry img s heads x = entry_or img (sum_below (head_mark s heads x) limit) x

-- the owners of all blocks are marked
abbrev pub OwnersMarked : List ℕ → Anodes → List ℕ → List ℕ → Type 0
OwnersMarked img s heads t = Marked (disk_size img) (owners_of img s) (owner_entry img s heads) t
