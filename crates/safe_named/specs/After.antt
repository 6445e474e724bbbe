-- A safe call on an accepted image: its own refusals, 20 to 26, and then the change.
use Rattle.std.specs.Prelude.{ℕ, List, Result}
use Rattle.disk.specs.declared.Refusal.{Refusal}
use Rattle.rules.specs.Anodes.{anodes_of}
use Rattle.rules.specs.Calls.{done_or}
use Rattle.safe_rules.specs.SafePlans.{safe_plan}
use Rattle.safe_rules.specs.SafeCalls.{SafeCall, SafeOutcome, safe_refusal, safe_change, safe_refused, safe_left}
use Rattle.safe_stores.specs.Leaves.{LeftAs}

-- all that it settles, but for the check
unfoldable pub after_check : List ℕ → List ℕ → List ℕ → List ℕ → SafeCall → SafeOutcome
after_check img blocks anodes out call =
    done_or (safe_refusal img call)
    (safe_left img blocks anodes out (safe_change img call) (safe_plan img (anodes_of img) (safe_change img call)))
    (safe_refused img blocks anodes out (safe_refusal img call))

-- the call answers r, and leaves img' and out' of an accepted image and a buffer
abbrev pub CallLeaves : List ℕ → List ℕ → SafeCall → Result ℕ Refusal → List ℕ → List ℕ → Type 0
CallLeaves img out call r img' out' = (blocks anodes : List ℕ) → LeftAs (after_check img blocks anodes out call) r img' out'
