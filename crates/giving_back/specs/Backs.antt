-- What giving a block back asks, answers and carries.
use Rattle.std.specs.Prelude.{ℕ, ◌≤◌, ◌<◌, ◌≡◌, ◌≢◌, List, Result, Ok, Err}
use Rattle.disk.specs.declared.Refusal.{Refusal}
use Rattle.disk.specs.Refusals.{number_of}
use Rattle.rules.specs.Counting.{occurrences, last_of}
use Rattle.rules.specs.Anodes.{limit, exists_by}
use Rattle.rules.specs.Chains.{side}
use Rattle.rules.specs.Plans.{Slotted, refused, planned, no_growth}
use Rattle.rules.specs.Space.{release}
use Rattle.laws.specs.Space.{Good}
use Rattle.laws.specs.Moves.{with_these}
use Rattle.laws.specs.Take.{StartOwned}
use Rattle.giving_back.specs.declared.Ends.{Ends}

-- anodes and slots in good order, in which some blocks of the disk are in nobody's chain
pub record InLimbo (last : ℕ) (ys : List ℕ) (s : Slotted) : Type 0 where
  pub n : ℕ
  pub system : ℕ → ℕ
  pub hd : ℕ → ℕ
  pub sd : ℕ → ℕ
  pub small : n ≤ 65535
  pub start : StartOwned system
  pub inside : (x : ℕ) → 0 < occurrences x ys → (x ≢ 0) × (x < n)
  pub good : Good limit (exists_by s.slots) n last s.anodes (with_these system ys) hd sd

-- the last anodes of both sides of the free list
abbrev pub EndsOf : Ends → Slotted → Type 0
EndsOf ends s = (ends.upper.0 ≡ last_of 1 (side limit s.anodes 1)) × (ends.lower.0 ≡ last_of 2 (side limit s.anodes 2))

-- block y is given back and t is left, whose ends are known, or it is refused
abbrev pub Backs : Result Ends Refusal → ℕ → ℕ → Slotted → Slotted → Type 0
Backs (Ok ends) last y s t = ((ys : List ℕ) × (release limit no_growth last 1 y s ≡ planned t ys)) × EndsOf ends t
Backs (Err why) last y s t = release limit no_growth last 1 y s ≡ refused (number_of why)
