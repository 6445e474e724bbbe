-- The outcome of a safe call in lent memory, and both tables after a change.
use Rattle.std.specs.Prelude.{ℕ, ◌≡◌, List}
use Rattle.rules.specs.Calls.{done_or, check_outcome}
use Rattle.safe_rules.specs.SafeCalls.{SafeOutcome}

-- its fields in one line
abbrev pub safe_outcome_of : ℕ → List ℕ → List ℕ → List ℕ → List ℕ → ℕ → SafeOutcome
safe_outcome_of answer image blocks anodes buffer count = record { answer = answer; image = image; blocks = blocks; anodes = anodes; buffer = buffer; count = count }

-- tables b and a become b' and a': as the check of the image leaves them after a done change, unchanged after a refused one
pub record ShownAgain (n : ℕ) (img b a b' a' : List ℕ) : Type 0 where
  pub blocks : b' ≡ done_or n (check_outcome img b a).blocks b
  pub anodes : a' ≡ done_or n (check_outcome img b a).anodes a
