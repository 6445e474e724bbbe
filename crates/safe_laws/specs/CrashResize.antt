-- THE CRASH THEOREM of a safe resize, whole.
use Rattle.std.specs.Prelude.{ℕ, ◌≡◌, List, length}
use Rattle.std.proofs.Common.{sym, subst, inl, inr}
use Rattle.std.proofs.Math.Option.{Option}
use Rattle.rules.specs.Anodes.{anodes_of}
use Rattle.rules.specs.Walk.{Entered}
use Rattle.rules.specs.Accepted.{check_answer}
use Rattle.rules.specs.Lookup.{no_directory, entry_named, of_entry}
use Rattle.rules.specs.Plans.{table_of}
use Rattle.rules.specs.Calls.{resize_refusal}
use Rattle.laws.specs.Tests.{same?}
use Rattle.change_laws.specs.Answers.{file-found}
use Rattle.change_laws.specs.Image.{AcceptedImage}
use Rattle.paths.specs.Reached.{found_in}
use Rattle.safe_rules.specs.SafePlans.{resize_change}
use Rattle.safe_rules.specs.SafeCalls.{safe_resize, safe_refusal, missing_entry, safe_change, safe_outcome}
use Rattle.safe_laws.specs.Claims.{CrashSafe}
use Rattle.safe_laws.specs.Theorems.{search-passed}
use Rattle.safe_laws.specs.ResizedImage.{ResizeDone}
use Rattle.safe_laws.specs.ResizedTree.{resized_sound, resized_tree}
use Rattle.safe_laws.specs.CrashTheorem.{LeftRight, passed, crash_but_left}
use Rattle.safe_laws.specs.SameSize.{same_size_right}

-- the image that its plan leaves is sound, with the new tree
resize_right : {img : List ℕ} → AcceptedImage img → (h : ℕ) (name : List ℕ) (new : ℕ) → safe_refusal img (safe_resize h name new) ≡ 0 → LeftRight img (safe_resize h name new) (safe_change img (safe_resize h name new))
unfolding resize_refusal
resize_right {img} image h name new z =
    let (reached, (e, named)) = search-passed (no_directory img (anodes_of img) h) (entry_named img (anodes_of img) h name) _ z in
    let (there, file) = file-found img (anodes_of img) h name e named z in
    let m = found_in (record { image = image; reached = reached }) name e named in
    subst (λ (o : Option Entered). LeftRight img (safe_resize h name new) (of_entry o (λ x. resize_change img (table_of img) x new) missing_entry)) (sym named)
    (elim (same? e.size new) [
      | inl same ↦ same_size_right m file new same name named
      | inr differs ↦ λ t ys plan. let p : ResizeDone img h e new t ys = record { entry = m; file = file; differs = differs; steps = plan } in (resized_sound p, resized_tree p name named)
    ])

-- THE CRASH THEOREM OF A SAFE RESIZE
pub crash_resize : (img blocks anodes buffer : List ℕ) (h : ℕ) (name : List ℕ) (new : ℕ) → check_answer img (length blocks) (length anodes) ≡ 0 →
    (safe_outcome img blocks anodes buffer (safe_resize h name new)).answer ≡ 0 → CrashSafe img (safe_resize h name new) (safe_outcome img blocks anodes buffer (safe_resize h name new))
crash_resize img blocks anodes buffer h name new ok done =
    let call = safe_resize h name new in
    crash_but_left img blocks anodes buffer call ok done
    (resize_right (record { blocks = length blocks; anodes = length anodes; accepted = ok }) h name new (passed img blocks anodes buffer call ok done))
