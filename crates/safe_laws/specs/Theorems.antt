-- What is proved of every safe call on an accepted image: 27 is given exactly if the free blocks are fewer than the new ones, and the new blocks are distinct free blocks of the old image.
use Rattle.std.specs.Prelude.{ℕ, ◌*◌, ◌≤◌, ◌<◌, ◌≡◌, Bool, cond, not, List, eqb, ltb}
use Rattle.std.proofs.Math.Path.{refl, ap}
use Rattle.std.proofs.Common.{sym, ◌∙◌, true≢false, arith, lt-ltb, le-ltb}
use Rattle.std.proofs.Math.Logic.{inl, inr}
use Rattle.std.proofs.Math.Bool.{true, false}
use Rattle.std.proofs.Math.Option.{Option, none, some}
use Rattle.std.proofs.Math.ListN.{length}
use Rattle.rules.specs.Counting.{◌if◌else◌, first_of}
use Rattle.rules.specs.Anodes.{anodes_of}
use Rattle.rules.specs.Walk.{Entered}
use Rattle.rules.specs.Accepted.{check_answer}
use Rattle.rules.specs.Lookup.{no_directory, entry_named, is_there}
use Rattle.rules.specs.Totals.{free_blocks}
use Rattle.rules.specs.Plans.{Slotted, Plan, refused, planned}
use Rattle.rules.specs.Changes.{new_entry}
use Rattle.rules.specs.Calls.{done_or, span_refusal, resize_refusal, remove_refusal, make_refusal, wrong_entry}
use Rattle.laws.specs.Tests.{less?, if-zero}
use Rattle.change_laws.specs.Image.{AcceptedImage}
use Rattle.change_laws.specs.Reached.{EntryIn}
use Rattle.paths.specs.Reached.{found_in}
use Rattle.safe_rules.specs.SafePlans.{SafeChange, new_blocks, safe_steps, safe_plan}
use Rattle.safe_rules.specs.SafeWrites.{list_of}
use Rattle.safe_rules.specs.SafeCalls.{SafeCall, safe_make, safe_resize, safe_write, safe_remove, safe_refusal, named_change, safe_change, SafeOutcome, safe_settled, safe_refused, safe_done, list_or32, safe_left, safe_outcome}
use Rattle.safe_laws.specs.Claims.{OldFree, CountedSteps, CountHolds, CountTheorem}
use Rattle.safe_laws.specs.AllTaken.{OwnSteps, taken_free, safe_taken, steps_28}
use Rattle.safe_laws.specs.OwnChanges.{remove_own, write_own, resize_own}
use Rattle.safe_laws.specs.OwnMake.{make_own}

-- ---- a call that its own table does not refuse

there_is : (o : Option Entered) → not (is_there o) ≡ false → (e : Entered) × (o ≡ some e)
there_is none q = absurd (true≢false q)
there_is (some e) q = (e, refl)

-- 21 and 22 passed
pub search-passed : (t : Bool) (o : Option Entered) (rest : ℕ) → (21 if t else 22 if not (is_there o) else rest) ≡ 0 → (t ≡ false) × ((e : Entered) × (o ≡ some e))
search-passed t o rest z =
    let p = if-zero 21 t (22 if not (is_there o) else rest) (omega arith) z in
    (p.0, there_is o (if-zero 22 (not (is_there o)) rest (omega arith) p.1).0)

module _ {img : List ℕ} (image : AcceptedImage img) where
  -- a change of the entry of that name, where there is one in a reached directory
  of_named : (P : SafeChange → Type 0) (h : ℕ) (name : List ℕ) (f : Entered → SafeChange) (left : Entered → ℕ → Type 0) (t : Bool) → t ≡ no_directory img (anodes_of img) h → (rest : ℕ) →
      (21 if t else 22 if not (is_there (entry_named img (anodes_of img) h name)) else rest) ≡ 0 → ((e : Entered) → EntryIn img h e → OwnSteps img (left e) (f e)) →
      ((c : SafeChange) (left : ℕ → Type 0) → OwnSteps img left c → P c) → P (named_change img h name f)
  of_named P h name f left t is rest z own g =
      let (reached, (e, named)) = search-passed t (entry_named img (anodes_of img) h name) rest z in
      rw named (g (f e) (left e) (own e (found_in (record { image = image; reached = sym is ∙ reached }) name e named)))

  -- what holds of a change with good own steps holds of that of such a call
  pub with_own : (P : SafeChange → Type 0) (call : SafeCall) → safe_refusal img call ≡ 0 → ((c : SafeChange) (left : ℕ → Type 0) → OwnSteps img left c → P c) → P (safe_change img call)
  unfolding make_refusal resize_refusal span_refusal remove_refusal
  with_own P (safe_make h type name comment day minute tick protection) z g =
      let rest = 23 if is_there (entry_named img (anodes_of img) h name) else 0 in
      let a = if-zero 20 (wrong_entry type name comment) (21 if no_directory img (anodes_of img) h else rest) (omega arith) z in
      let b = if-zero 21 (no_directory img (anodes_of img) h) rest (omega arith) a.1 in
      g _ _ (make_own (record { image = image; reached = b.0 }) (new_entry (eqb type 2) name comment day minute tick protection))
  with_own P (safe_resize h name new) z g = of_named P h name _ _ (no_directory img (anodes_of img) h) refl _ z (λ e m. resize_own m new) g
  with_own P (safe_write h name offset bytes) z g = of_named P h name _ _ (no_directory img (anodes_of img) h) refl _ z (λ e m. write_own m offset bytes) g
  with_own P (safe_remove h name) z g = of_named P h name _ _ (no_directory img (anodes_of img) h) refl _ z (λ e m. remove_own m) g

  -- THE NEW BLOCKS of a plan that is done are distinct free blocks of the old image
  pub new-free : (call : SafeCall) → safe_refusal img call ≡ 0 → (t : Slotted) (ys : List ℕ) → safe_steps img (safe_change img call) ≡ planned t ys → OldFree img ys
  new-free call z t ys e = with_own (λ c. safe_steps img c ≡ planned t ys → OldFree img ys) call z (λ c left own q. let (s, zs, i, f) = safe_taken image own t ys q in taken_free image own s ys i) e

  -- WITH ENOUGH FREE BLOCKS the only refusal of the steps is 28, and the list is as long as was counted
  pub enough_28 : (call : SafeCall) → safe_refusal img call ≡ 0 → new_blocks img (safe_change img call) ≤ free_blocks (anodes_of img) → CountedSteps img (safe_change img call)
  enough_28 call z = with_own (λ c. new_blocks img c ≤ free_blocks (anodes_of img) → CountedSteps img c) call z (λ c left own enough. steps_28 image own enough)

-- ---- 27

module _ (img blocks anodes buffer : List ℕ) (call : SafeCall) (ok : check_answer img (length blocks) (length anodes) ≡ 0) (z : safe_refusal img call ≡ 0) where
  abbrev c : SafeChange
  c = safe_change img call

  -- such a call comes to its plan
  pub comes_to : safe_outcome img blocks anodes buffer call ≡ safe_left img blocks anodes buffer (safe_change img call) (safe_plan img (anodes_of img) (safe_change img call))
  unfolding safe_outcome first_of done_or
  comes_to = rw (ok, z)

  pub few : free_blocks (anodes_of img) < new_blocks img (safe_change img call) → safe_plan img (anodes_of img) (safe_change img call) ≡ refused 27
  unfolding safe_plan
  few l = rw (lt-ltb (free_blocks (anodes_of img)) (new_blocks img c) l)

  pub enough : new_blocks img (safe_change img call) ≤ free_blocks (anodes_of img) → safe_plan img (anodes_of img) (safe_change img call) ≡ safe_steps img (safe_change img call)
  unfolding safe_plan
  enough l = rw (le-ltb (free_blocks (anodes_of img)) (new_blocks img c) l)

  -- a list answers 0 or 32
  list_answer : (t : Slotted) (ys : List ℕ) → (safe_left img blocks anodes buffer c (planned t ys)).answer ≡ 27 → ⊥
  unfolding list_or32 safe_settled
  list_answer t ys = go (ltb (length buffer) (length (list_of img c t ys) * 514))
    where
      go : (b : Bool) → (cond b (safe_refused img blocks anodes buffer 32) (safe_done img blocks anodes buffer (list_of img c t ys))).answer ≡ 27 → ⊥
      go true e = omega (arith, e)
      go false e = omega (arith, e)

  pub count_holds : CountHolds img blocks anodes buffer call
  unfolding safe_settled
  count_holds = record {
    few_27 = λ l. ap (λ (o : SafeOutcome). o.answer) comes_to ∙ ap (λ (p : Plan Slotted). (safe_left img blocks anodes buffer c p).answer) (few l);
    27-few = λ e. elim (less? (free_blocks (anodes_of img)) (new_blocks img c)) [
      | inl l ↦ l
      | inr l ↦ absurd (go (safe_steps img c) refl l (sym (ap (λ (o : SafeOutcome). o.answer) comes_to ∙ ap (λ (p : Plan Slotted). (safe_left img blocks anodes buffer c p).answer) (enough l)) ∙ e))
    ];
  }
    where
      go : (p : Plan Slotted) → safe_steps img c ≡ p → new_blocks img c ≤ free_blocks (anodes_of img) → (safe_left img blocks anodes buffer c p).answer ≡ 27 → ⊥
      go (refused k) q l e = omega (arith, e, (enough_28 (record { blocks = length blocks; anodes = length anodes; accepted = ok }) call z l).only_28 k q)
      go (planned t ys) q l e = list_answer t ys e

-- THE THEOREM OF 27
pub count_theorem : CountTheorem
count_theorem img blocks anodes buffer call ok z = count_holds img blocks anodes buffer call ok z
