-- The outcome of each change, from the check's and from what the change by name leaves.
use Rattle.std.specs.Prelude.{ℕ, ◌≡◌, List, [], eqb, length, Result, Ok, Err}
use Rattle.std.proofs.Math.Option.{Option}
use Rattle.disk.specs.declared.Refusal.{Refusal}
use Rattle.disk.specs.Refusals.{number_of, answer_of}
use Rattle.rules.specs.Anodes.{anodes_of}
use Rattle.rules.specs.Walk.{Entered}
use Rattle.rules.specs.Lookup.{entry_named, of_entry}
use Rattle.rules.specs.Plans.{table_of}
use Rattle.rules.specs.Changes.{Left, left, new_entry, resized, made, written, removed, usual_growth}
use Rattle.rules.specs.Calls.{outcome_of, settled, check_outcome, checked_first, span_refusal, read_answer, resize_refusal, remove_refusal, make_refusal, left_after, change_named, make_outcome, resize_outcome, write_outcome, remove_outcome}
use Rattle.fsck.specs.declared.Tally.{Tally}
use Rattle.change_tables.specs.Leaves.{Leaves}
use Rattle.call_laws.specs.Opened.{change_refused, change_answered}

module _ (img b₀ a₀ b a : List ℕ) (x : Result Tally Refusal) (e : outcome_of (answer_of x) img b a [] [] ≡ check_outcome img b₀ a₀) where
  -- ---- the check refused

  module _ (r : Refusal) (is : x ≡ Err r) where
    -- a change by name
    named-not-made : (m : ℕ) (o : Option Entered) (f : Entered → Left) → outcome_of (number_of r) img b a [] [] ≡ settled (change_named (checked_first img b₀ a₀ m) img o f) b₀ a₀ [] []
    named-not-made m o f = change_refused img b₀ a₀ b a x e r is m (of_entry o f (left 22 img))

    pub write_refused : (h : ℕ) (name : List ℕ) (offset : ℕ) (bytes : List ℕ) → outcome_of (number_of r) img b a [] [] ≡ write_outcome img b₀ a₀ h name offset bytes
    unfolding write_outcome read_answer
    write_refused h name offset bytes = named-not-made (span_refusal img (anodes_of img) h name offset (length bytes)) (entry_named img (anodes_of img) h name) (λ y. left 0 (written img (anodes_of img) y offset bytes))

    pub resize_refused : (h : ℕ) (name : List ℕ) (size : ℕ) → outcome_of (number_of r) img b a [] [] ≡ resize_outcome img b₀ a₀ h name size
    unfolding resize_outcome
    resize_refused h name size = named-not-made (resize_refusal img (anodes_of img) h name) (entry_named img (anodes_of img) h name) (λ y. resized usual_growth img (table_of img) y size)

    pub remove_refused : (h : ℕ) (name : List ℕ) → outcome_of (number_of r) img b a [] [] ≡ remove_outcome img b₀ a₀ h name
    unfolding remove_outcome
    remove_refused h name = named-not-made (remove_refusal img (anodes_of img) h name) (entry_named img (anodes_of img) h name) (λ y. removed usual_growth img (table_of img) y)

    pub make_refused : (h type : ℕ) (name comment : List ℕ) (day minute tick protection : ℕ) → outcome_of (number_of r) img b a [] [] ≡ make_outcome img b₀ a₀ h type name comment day minute tick protection
    unfolding make_outcome
    make_refused h type name comment day minute tick protection = change_refused img b₀ a₀ b a x e r is (make_refusal img (anodes_of img) h type name comment)
        (made usual_growth img (table_of img) h (new_entry (eqb type 2) name comment day minute tick protection))

  -- ---- the check accepted

  module _ (t : Tally) (is : x ≡ Ok t) (r : ℕ) (img' b' a' : List ℕ) where
    -- a change by name
    named_answered : (m : ℕ) (o : Option Entered) (f : Entered → Left) → Leaves r img b a img' b' a' (change_named m img o f) → outcome_of r img' b' a' [] [] ≡ settled (change_named (checked_first img b₀ a₀ m) img o f) b₀ a₀ [] []
    named_answered m o f l = change_answered img b₀ a₀ b a x e t is m (of_entry o f (left 22 img)) r img' b' a' l

    pub write_answered : (h : ℕ) (name : List ℕ) (offset : ℕ) (bytes : List ℕ) →
        Leaves r img b a img' b' a' (change_named (span_refusal img (anodes_of img) h name offset (length bytes)) img (entry_named img (anodes_of img) h name) (λ y. left 0 (written img (anodes_of img) y offset bytes))) →
        outcome_of r img' b' a' [] [] ≡ write_outcome img b₀ a₀ h name offset bytes
    unfolding write_outcome read_answer
    write_answered h name offset bytes l = named_answered (span_refusal img (anodes_of img) h name offset (length bytes)) (entry_named img (anodes_of img) h name) (λ y. left 0 (written img (anodes_of img) y offset bytes)) l

    pub resize_answered : (h : ℕ) (name : List ℕ) (size : ℕ) →
        Leaves r img b a img' b' a' (change_named (resize_refusal img (anodes_of img) h name) img (entry_named img (anodes_of img) h name) (λ y. resized usual_growth img (table_of img) y size)) → outcome_of r img' b' a' [] [] ≡ resize_outcome img b₀ a₀ h name size
    unfolding resize_outcome
    resize_answered h name size l = named_answered (resize_refusal img (anodes_of img) h name) (entry_named img (anodes_of img) h name) (λ y. resized usual_growth img (table_of img) y size) l

    pub remove_answered : (h : ℕ) (name : List ℕ) →
        Leaves r img b a img' b' a' (change_named (remove_refusal img (anodes_of img) h name) img (entry_named img (anodes_of img) h name) (λ y. removed usual_growth img (table_of img) y)) → outcome_of r img' b' a' [] [] ≡ remove_outcome img b₀ a₀ h name
    unfolding remove_outcome
    remove_answered h name l = named_answered (remove_refusal img (anodes_of img) h name) (entry_named img (anodes_of img) h name) (λ y. removed usual_growth img (table_of img) y) l

    pub make_answered : (h type : ℕ) (name comment : List ℕ) (day minute tick protection : ℕ) →
        Leaves r img b a img' b' a' (left_after (make_refusal img (anodes_of img) h type name comment) img (made usual_growth img (table_of img) h (new_entry (eqb type 2) name comment day minute tick protection))) →
        outcome_of r img' b' a' [] [] ≡ make_outcome img b₀ a₀ h type name comment day minute tick protection
    unfolding make_outcome
    make_answered h type name comment day minute tick protection l = change_answered img b₀ a₀ b a x e t is (make_refusal img (anodes_of img) h type name comment)
        (made usual_growth img (table_of img) h (new_entry (eqb type 2) name comment day minute tick protection)) r img' b' a' l
