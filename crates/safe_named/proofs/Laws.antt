-- What the safe changes by name leave, from what the search found.
use Prim.Native.Nat.{ℕ}
use mathlib.Core.Path.{◌≡◌}
use mathlib.Core.List.{List}
use mathlib.Core.Option.{Option, some}
use Rattle.std.specs.Prelude.{Result, Err}
use Rattle.disk.specs.declared.Refusal.{Refusal}
use Rattle.disk.specs.Refusals.{number_of}
use Rattle.disk.proofs.Laws.{number_some}
use Rattle.rules.specs.Anodes.{anodes_of}
use Rattle.rules.specs.Walk.{Entered}
use Rattle.rules.specs.Lookup.{of_entry}
use Rattle.rules.specs.Calls.{done_or}
use Rattle.find.proofs.Laws.{not_done}
use Rattle.safe_rules.specs.SafePlans.{SafeChange, safe_plan}
use Rattle.safe_rules.specs.SafeCalls.{SafeCall, safe_refusal, safe_change, safe_refused, safe_left, missing_entry}
use Rattle.safe_stores.specs.Leaves.{SafeLeaves}
use Rattle.safe_stores.proofs.Leaves.{left_refused}
use Rattle.safe_named.specs.After.{after_check, CallLeaves}

module _ (img out : List ℕ) (call : SafeCall) where
  -- a call that its own table refuses leaves the image and the buffer
  pub call_refused : (why : Refusal) → safe_refusal img call ≡ number_of why → CallLeaves img out call (Err why) img out
  unfolding after_check
  call_refused why e = λ blocks anodes. rw (e, not_done (number_of why) (number_some why) (safe_left img blocks anodes out (safe_change img call) (safe_plan img (anodes_of img) (safe_change img call))) (safe_refused img blocks anodes out (number_of why)))
      (left_refused img blocks anodes out why)

  -- another leaves what its change leaves
  pub call_changes : safe_refusal img call ≡ 0 → (c : SafeChange) → safe_change img call ≡ c → (r : Result ℕ Refusal) (img' out' : List ℕ) → SafeLeaves img out c r img' out' → CallLeaves img out call r img' out'
  unfolding after_check done_or
  call_changes z c is r img' out' l = λ blocks anodes. rw (z, is) (l blocks anodes)

-- the change of an entry that was found
pub found_change : (o : Option Entered) (f : Entered → SafeChange) (x : Entered) → o ≡ some x → of_entry o f missing_entry ≡ f x
found_change o f x is = rw is
