use Rattle.std.specs.Prelude.{◌≡◌, refl, Result, Ok, Err}
use Rattle.std.specs.Result.{result_and}
use Rattle.disk.specs.declared.Refusal.{Refusal}
use Rattle.disk.specs.Refusals.{answer_of}
use Rattle.fsck.specs.declared.Tally.{Tally}
use Rattle.check_calls.proofs.check.Goals as goal

-- without the tally the number is the same
same_number : (x : Result Tally Refusal) → answer_of (result_and x (Ok (tt {0}))) ≡ answer_of x
same_number (Ok t) = refl
same_number (Err r) = refl

pub returns : goal.returns
returns c = rw (c.and.ensures, same_number c.check_disk.result) c.check_disk.ensures.outcome
