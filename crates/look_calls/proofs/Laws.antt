-- The outcome of find and label, from the check's.
use Prim.Native.Nat.{ℕ}
use mathlib.Core.Path.{◌≡◌, refl}
use mathlib.Core.Logic.{inl}
use mathlib.Core.List.{List, []}
use lib.ListN.{replicate}
use Rattle.disk.specs.declared.Refusal.{Refusal}
use Rattle.std.specs.Prelude.{Result, Ok, Err}
use Rattle.disk.specs.Refusals.{number_of, answer_of}
use Rattle.disk.proofs.Laws.{number_some}
use Rattle.rules.specs.Anodes.{anodes_of}
use Rattle.rules.specs.Lookup.{entry_named}
use Rattle.rules.specs.Calls.{outcome_of, check_outcome, done_or, fields_listed}
use Rattle.fsck.specs.declared.Tally.{Tally}
use Rattle.find.proofs.Laws.{not_done}
use Rattle.looks.specs.Calls.{find_refusal, find_answer, find_outcome, label_of, label_outcome}
use Rattle.looks.specs.Laws.{find_late}
use Rattle.call_laws.specs.Opened.{first_k, answers_k, settled_k, first-0, answers-0, settled_late}

module _ (img b₀ a₀ b a : List ℕ) (x : Result Tally Refusal) (e : outcome_of (answer_of x) img b a [] [] ≡ check_outcome img b₀ a₀) where
  -- ---- refused

  module _ (r : Refusal) (is : x ≡ Err r) where
    pub find_refused : (h : ℕ) (name : List ℕ) → outcome_of (number_of r) img b a (replicate 11 0) [] ≡ find_outcome img b₀ a₀ h name
    unfolding find_outcome find_answer
    find_refused h name =
        rw (first_k img b₀ a₀ b a x e r is (find_refusal img (anodes_of img) h name), not_done {X = List ℕ} (number_of r) (number_some r) _ (replicate 11 0))
        (settled_k img b₀ a₀ b a x e r is (replicate 11 0) [])

    pub label_refused : outcome_of (number_of r) img b a (replicate 7 0) [] ≡ label_outcome img b₀ a₀
    unfolding label_outcome
    label_refused =
        rw (answers_k img b₀ a₀ b a x e r is, not_done {X = List ℕ} (number_of r) (number_some r) (label_of img) (replicate 7 0))
        (settled_k img b₀ a₀ b a x e r is (replicate 7 0) [])

  -- ---- accepted

  module _ (t : Tally) (is : x ≡ Ok t) where
    pub find_answered : (h : ℕ) (name fields : List ℕ) (k : ℕ) → k ≡ find_refusal img (anodes_of img) h name → fields ≡ fields_listed k img (entry_named img (anodes_of img) h name) → outcome_of k img b a fields [] ≡ find_outcome img b₀ a₀ h name
    unfolding find_outcome find_answer
    find_answered h name fields k is_k f =
        rw (first-0 img b₀ a₀ b a x e t is (find_refusal img (anodes_of img) h name), ← is_k, ← f)
        (settled_late img b₀ a₀ b a x e t is k (rw is_k (find_late img (anodes_of img) h name)) fields [])

    pub label-accepted : (fields : List ℕ) → fields ≡ label_of img → outcome_of 0 img b a fields [] ≡ label_outcome img b₀ a₀
    unfolding label_outcome done_or
    label-accepted fields f = rw (answers-0 img b₀ a₀ b a x e t is, ← f) (settled_late img b₀ a₀ b a x e t is 0 (inl refl) fields [])
