-- THE CRASH THEOREM of a safe write, whole.
use Rattle.std.specs.Prelude.{ℕ, ◌≡◌, List, length}
use Rattle.std.proofs.Common.{sym, subst}
use Rattle.std.proofs.Math.Option.{Option}
use Rattle.rules.specs.Anodes.{anodes_of}
use Rattle.rules.specs.Walk.{Entered}
use Rattle.rules.specs.Accepted.{check_answer}
use Rattle.rules.specs.Lookup.{no_directory, entry_named, of_entry}
use Rattle.rules.specs.Plans.{table_of}
use Rattle.rules.specs.Calls.{span_refusal}
use Rattle.change_laws.specs.Answers.{span_found}
use Rattle.change_laws.specs.Image.{AcceptedImage}
use Rattle.paths.specs.Reached.{found_in}
use Rattle.safe_rules.specs.SafePlans.{write_change}
use Rattle.safe_rules.specs.SafeCalls.{safe_write, safe_refusal, missing_entry, safe_change, safe_outcome}
use Rattle.safe_laws.specs.Claims.{CrashSafe}
use Rattle.safe_laws.specs.Theorems.{search-passed}
use Rattle.safe_laws.specs.SafeWritten.{written_sound}
use Rattle.safe_laws.specs.WrittenTree.{written_tree}
use Rattle.safe_laws.specs.CrashTheorem.{LeftRight, passed, crash_but_left}

-- the image that its plan leaves is sound, with the new tree
write_right : {img : List ℕ} → AcceptedImage img → (h : ℕ) (name : List ℕ) (offset : ℕ) (bytes : List ℕ) → safe_refusal img (safe_write h name offset bytes) ≡ 0 →
    LeftRight img (safe_write h name offset bytes) (safe_change img (safe_write h name offset bytes))
unfolding span_refusal
write_right {img} image h name offset bytes z =
    let (reached, (e, named)) = search-passed (no_directory img (anodes_of img) h) (entry_named img (anodes_of img) h name) _ z in
    let (there, file, within) = span_found img (anodes_of img) h name e named offset (length bytes) z in
    let m = found_in (record { image = image; reached = reached }) name e named in
    subst (λ (o : Option Entered). LeftRight img (safe_write h name offset bytes) (of_entry o (λ x. write_change img (table_of img) x offset bytes) missing_entry)) (sym named)
    (λ t ys plan. (written_sound m file offset bytes t ys plan, written_tree m file offset bytes t ys plan name named within))

-- THE CRASH THEOREM OF A SAFE WRITE
pub crash_write : (img blocks anodes buffer : List ℕ) (h : ℕ) (name : List ℕ) (offset : ℕ) (bytes : List ℕ) → check_answer img (length blocks) (length anodes) ≡ 0 →
    (safe_outcome img blocks anodes buffer (safe_write h name offset bytes)).answer ≡ 0 → CrashSafe img (safe_write h name offset bytes) (safe_outcome img blocks anodes buffer (safe_write h name offset bytes))
crash_write img blocks anodes buffer h name offset bytes ok done =
    let call = safe_write h name offset bytes in
    crash_but_left img blocks anodes buffer call ok done
    (write_right (record { blocks = length blocks; anodes = length anodes; accepted = ok }) h name offset bytes (passed img blocks anodes buffer call ok done))
