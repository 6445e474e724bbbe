-- THE CRASH THEOREM for every safe call on an accepted image, from two facts about the image that its plan leaves: that it is sound, and that it holds the new tree.
use Rattle.std.specs.Prelude.{ℕ, ◌*◌, ◌≤◌, ◌≡◌, Bool, ltb, length}
use Rattle.std.proofs.Math.Path.{refl, sym, ap}
use Rattle.std.proofs.Common.{subst, ◌∙◌, arith}
use Rattle.std.proofs.Math.Logic.{inl, inr}
use Rattle.std.proofs.Math.Bool.{true, false, cond}
use mathlib.Core.List.{List}
use Rattle.rules.specs.Anodes.{anodes_of}
use Rattle.rules.specs.Accepted.{check_answer}
use Rattle.rules.specs.Totals.{Sound, free_blocks}
use Rattle.rules.specs.Plans.{Slotted, Plan, refused, planned}
use Rattle.laws.specs.Tests.{less?}
use Rattle.change_laws.specs.Image.{AcceptedImage}
use Rattle.safe_rules.specs.SafePlans.{SafeChange, new_blocks, safe_steps, safe_plan}
use Rattle.safe_rules.specs.SafeWrites.{applied, new_image, list_of}
use Rattle.safe_rules.specs.SafeCalls.{SafeCall, safe_refusal, safe_change, SafeOutcome, safe_settled, safe_refused, safe_done, list_or32, safe_left, safe_outcome}
use Rattle.safe_laws.specs.Claims.{NewTree, CrashSafe}
use Rattle.safe_laws.specs.Theorems.{with_own, enough_28, comes_to, few, enough}
use Rattle.safe_laws.specs.SafeAnswers.{done-passed}
use Rattle.safe_laws.specs.LeftImage.{writes_leave, left_safe}

-- what is left to show of a call: the image that its plan leaves is sound, with the new tree
abbrev pub LeftRight : List ℕ → SafeCall → SafeChange → Type 0
LeftRight img call c = (t : Slotted) (ys : List ℕ) → safe_steps img c ≡ planned t ys → Sound (new_image img c t ys) × NewTree img call (new_image img c t ys)

module _ (img blocks anodes buffer : List ℕ) (call : SafeCall) (ok : check_answer img (length blocks) (length anodes) ≡ 0) (done : (safe_outcome img blocks anodes buffer call).answer ≡ 0) where
  abbrev image : AcceptedImage img
  image = record { blocks = length blocks; anodes = length anodes; accepted = ok }

  -- a done call is refused by no row of its own table
  pub passed : safe_refusal img call ≡ 0
  passed = (done-passed img blocks anodes buffer call done).1

  abbrev c : SafeChange
  c = safe_change img call

  is_plan : safe_outcome img blocks anodes buffer call ≡ safe_left img blocks anodes buffer c (safe_plan img (anodes_of img) c)
  is_plan = comes_to img blocks anodes buffer call ok passed

  -- its list fits the buffer
  fitting : (t : Slotted) (ys : List ℕ) → (safe_left img blocks anodes buffer c (planned t ys)).answer ≡ 0 → safe_left img blocks anodes buffer c (planned t ys) ≡ safe_done img blocks anodes buffer (list_of img c t ys)
  unfolding list_or32 safe_settled
  fitting t ys = go (ltb (length buffer) (length (list_of img c t ys) * 514))
    where
      go : (b : Bool) → (cond b (safe_refused img blocks anodes buffer 32) (safe_done img blocks anodes buffer (list_of img c t ys))).answer ≡ 0 →
          cond b (safe_refused img blocks anodes buffer 32) (safe_done img blocks anodes buffer (list_of img c t ys)) ≡ safe_done img blocks anodes buffer (list_of img c t ys)
      go true e = absurd (omega (arith, e))
      go false e = refl

  -- so its steps are done, and its outcome is their list
  comes_done : (t : Slotted) × (ys : List ℕ) × (safe_steps img c ≡ planned t ys) × (safe_outcome img blocks anodes buffer call ≡ safe_done img blocks anodes buffer (list_of img c t ys))
  unfolding safe_settled
  comes_done = elim (less? (free_blocks (anodes_of img)) (new_blocks img c)) [
    | inl l ↦ absurd (let e : 27 ≡ 0 = sym (ap (λ (o : SafeOutcome). o.answer) (is_plan ∙ ap (safe_left img blocks anodes buffer c) (few img blocks anodes buffer call ok passed l))) ∙ done in omega arith)
    | inr l ↦ go (safe_steps img c) refl l (is_plan ∙ ap (safe_left img blocks anodes buffer c) (enough img blocks anodes buffer call ok passed l))
  ]
    where
      go : (p : Plan Slotted) → safe_steps img c ≡ p → new_blocks img c ≤ free_blocks (anodes_of img) → safe_outcome img blocks anodes buffer call ≡ safe_left img blocks anodes buffer c p →
          (t : Slotted) × (ys : List ℕ) × (safe_steps img c ≡ planned t ys) × (safe_outcome img blocks anodes buffer call ≡ safe_done img blocks anodes buffer (list_of img c t ys))
      go (refused k) q l e = absurd (let z : k ≡ 0 = sym (ap (λ (o : SafeOutcome). o.answer) e) ∙ done in omega (arith, (enough_28 image call passed l).only_28 k q))
      go (planned t ys) q l e = (t, ys, q, e ∙ fitting t ys (sym (ap (λ (o : SafeOutcome). o.answer) e) ∙ done))

  -- THE CRASH THEOREM, but for soundness and tree of the image left
  pub crash_but_left : LeftRight img call (safe_change img call) → CrashSafe img call (safe_outcome img blocks anodes buffer call)
  crash_but_left right =
      let (t, ys, q, e) = comes_done in
      subst (λ (o : SafeOutcome). CrashSafe img call o) (sym e)
      (with_own image (λ d. safe_steps img d ≡ planned t ys → LeftRight img call d → CrashSafe img call (safe_done img blocks anodes buffer (list_of img d t ys))) call passed
      (λ d left own p r. let (sound, tree) = r t ys p in left_safe image own t ys p blocks anodes buffer call sound tree) q right)

  -- the image that it leaves is that of its plan
  pub done-image : (t : Slotted) × (ys : List ℕ) × (safe_steps img (safe_change img call) ≡ planned t ys) × ((safe_outcome img blocks anodes buffer call).image ≡ new_image img (safe_change img call) t ys)
  unfolding safe_settled
  done-image =
      let (t, ys, q, e) = comes_done in
      let left = with_own image (λ d. safe_steps img d ≡ planned t ys → applied img (list_of img d t ys) ≡ new_image img d t ys) call passed (λ d left own p. writes_leave image own t ys p) q in
      (t, ys, q, ap (λ (o : SafeOutcome). o.image) e ∙ left)
