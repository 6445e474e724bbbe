-- A safe change in lent memory, held to what the rules say that it leaves.
use Rattle.std.specs.Prelude.{ℕ, ◌≡◌, List, Result, Ok, Err}
use Rattle.disk.specs.declared.Refusal.{Refusal}
use Rattle.disk.specs.Refusals.{answer_of}
use Rattle.rules.specs.Anodes.{anodes_of}
use Rattle.safe_rules.specs.SafePlans.{SafeChange, safe_plan}
use Rattle.safe_rules.specs.SafeCalls.{SafeOutcome, safe_left}

-- how many writes stand in the buffer: none where a change is refused
abbrev pub writes_in : Result ℕ Refusal → ℕ
writes_in (Ok count) = count
writes_in (Err why) = 0

-- the answer, the image, the buffer and the count are those of an outcome
pub record LeftAs (o : SafeOutcome) (r : Result ℕ Refusal) (img out : List ℕ) : Type 0 where
  pub number : answer_of r ≡ o.answer
  pub image : img ≡ o.image
  pub buffer : out ≡ o.buffer
  pub count : writes_in r ≡ o.count

-- the change c answers r, and leaves img' and out' of an accepted image and a buffer
abbrev pub SafeLeaves : List ℕ → List ℕ → SafeChange → Result ℕ Refusal → List ℕ → List ℕ → Type 0
SafeLeaves img out c r img' out' = (blocks anodes : List ℕ) → LeftAs (safe_left img blocks anodes out c (safe_plan img (anodes_of img) c)) r img' out'
