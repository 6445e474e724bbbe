-- The name that a list hands back, by its answer.
use Rattle.std.specs.Prelude.{ℕ, ◌≡◌, List, [], Result, Ok, Err, IfOk}
use Rattle.std.specs.Borrow.{Bor}
use Rattle.std.proofs.Math.Path.{sym}
use Rattle.std.proofs.Math.Option.{Option}
use Rattle.disk.specs.declared.Refusal.{Refusal}
use Rattle.disk.specs.Refusals.{number_of, answer_of}
use Rattle.disk.proofs.Laws.{number_some}
use Rattle.rules.specs.Walk.{Entered}
use Rattle.rules.specs.Calls.{name_listed}
use Rattle.find.proofs.Laws.{not_done}
use Rattle.read_calls.specs.Handed.{name_handed}

-- the part that is handed back, or none after a refusal
pub handed_is : (r : Result (Bor (List ℕ)) Refusal) (o : Option Entered) → IfOk r (λ name. name.now ≡ name_listed (answer_of r) o) → name_handed r ≡ name_listed (answer_of r) o
handed_is (Ok part) o h = h
handed_is (Err r) o h = sym (not_done (number_of r) (number_some r) _ [])
