-- What a safe call answers on an accepted image: the check's number or its own, 20 to 26, then 27, 28 or 32; and where it answers anything but 0, on any image, it leaves the image and the buffer.
use Prim.Native.Nat.{ℕ, zero, suc, ◌*◌, ◌≤◌}
use Rattle.std.specs.Prelude.{◌≡◌, ◌≢◌, ◌⊎◌, Bool, cond, not, List, ltb, length}
use Rattle.std.proofs.Math.Path.{refl, ap}
use Rattle.std.proofs.Common.{sym, ◌∙◌, arith}
use Rattle.std.proofs.Math.Logic.{inl, inr}
use Rattle.std.proofs.Math.Bool.{true, false}
use Rattle.rules.specs.Counting.{◌if◌else◌}
use Rattle.rules.specs.Anodes.{anodes_of}
use Rattle.rules.specs.Accepted.{check_answer}
use Rattle.rules.specs.Lookup.{no_directory, entry_named, is_there, names_dir, not_empty_dir, past_end}
use Rattle.rules.specs.Totals.{free_blocks}
use Rattle.rules.specs.Plans.{Slotted, Plan, refused, planned}
use Rattle.rules.specs.Calls.{done_or, checked_first, span_refusal, resize_refusal, remove_refusal, wrong_entry, make_refusal}
use Rattle.laws.specs.Tests.{less?, first_of-zero}
use Rattle.change_laws.specs.Answers.{Late}
use Rattle.change_laws.specs.Image.{AcceptedImage}
use Rattle.safe_rules.specs.SafePlans.{SafeChange, new_blocks, safe_steps, safe_plan}
use Rattle.safe_rules.specs.SafeWrites.{BlockWrite, list_of}
use Rattle.safe_rules.specs.SafeCalls.{SafeCall, safe_make, safe_resize, safe_write, safe_remove, safe_refusal, safe_change, SafeOutcome, safe_settled, safe_refused, safe_done, list_or32, safe_left, safe_outcome}
use Rattle.safe_laws.specs.Theorems.{enough_28, comes_to, few, enough}

-- ---- its own refusals

-- 0, or a number from 20 to 26
abbrev pub OwnRefusal : ℕ → Type 0
OwnRefusal n = (n ≡ 0) ⊎ ((20 ≤ n) × (n ≤ 26))

-- a row in front of a table of these
row_own : (n : ℕ) (t : Bool) (rest : ℕ) → 20 ≤ n → n ≤ 26 → OwnRefusal rest → OwnRefusal (n if t else rest)
row_own n true rest l h o = inr (l, h)
row_own n false rest l h o = o

-- ITS OWN REFUSALS are 20 to 26
pub refusal_own : (img : List ℕ) (call : SafeCall) → OwnRefusal (safe_refusal img call)
unfolding make_refusal resize_refusal span_refusal remove_refusal
refusal_own img (safe_make h type name comment day minute tick protection) =
    row_own 20 (wrong_entry type name comment) _ (omega arith) (omega arith)
    (row_own 21 (no_directory img (anodes_of img) h) _ (omega arith) (omega arith)
    (row_own 23 (is_there (entry_named img (anodes_of img) h name)) _ (omega arith) (omega arith) (inl refl)))
refusal_own img (safe_resize h name new) =
    row_own 21 (no_directory img (anodes_of img) h) _ (omega arith) (omega arith)
    (row_own 22 (not (is_there (entry_named img (anodes_of img) h name))) _ (omega arith) (omega arith)
    (row_own 24 (names_dir (entry_named img (anodes_of img) h name)) _ (omega arith) (omega arith) (inl refl)))
refusal_own img (safe_write h name offset bytes) =
    row_own 21 (no_directory img (anodes_of img) h) _ (omega arith) (omega arith)
    (row_own 22 (not (is_there (entry_named img (anodes_of img) h name))) _ (omega arith) (omega arith)
    (row_own 24 (names_dir (entry_named img (anodes_of img) h name)) _ (omega arith) (omega arith)
    (row_own 26 (past_end (entry_named img (anodes_of img) h name) offset (length bytes)) _ (omega arith) (omega arith) (inl refl))))
refusal_own img (safe_remove h name) =
    row_own 21 (no_directory img (anodes_of img) h) _ (omega arith) (omega arith)
    (row_own 22 (not (is_there (entry_named img (anodes_of img) h name))) _ (omega arith) (omega arith)
    (row_own 25 (not_empty_dir img (anodes_of img) (entry_named img (anodes_of img) h name)) _ (omega arith) (omega arith) (inl refl)))

-- so they come after the damage numbers
pub refusal_late : (img : List ℕ) (call : SafeCall) → Late (safe_refusal img call)
refusal_late img call = elim (refusal_own img call) [ inl z ↦ inl z | inr o ↦ inr (omega (arith, o.0)) ]

-- ---- the answers

-- the number that the check and its own table come to, 0 where both pass, else 27, 28 or 32
abbrev pub SafeAnswer : ℕ → ℕ → Type 0
SafeAnswer first n = (n ≡ first) ⊎ ((n ≡ 27) ⊎ ((n ≡ 28) ⊎ (n ≡ 32)))

module _ (img blocks anodes buffer : List ℕ) where
  -- ---- an answer other than 0

  -- with it all is as a refusal leaves it
  abbrev Leaves : SafeOutcome → Type 0
  Leaves o = o.answer ≢ 0 → o ≡ safe_refused img blocks anodes buffer o.answer

  -- a refusal does
  refused_leaves : (n : ℕ) → Leaves (safe_refused img blocks anodes buffer n)
  unfolding safe_settled
  refused_leaves n other = refl

  -- a list is done, or refused with 32
  list_leaves : (ws : List BlockWrite) → Leaves (list_or32 img blocks anodes buffer ws)
  unfolding list_or32 safe_settled
  list_leaves ws = go (ltb (length buffer) (length ws * 514))
    where
      go : (b : Bool) → Leaves (cond b (safe_refused img blocks anodes buffer 32) (safe_done img blocks anodes buffer ws))
      go true other = refl
      go false other = absurd (other refl)

  -- a plan is refused, or a list
  plan_leaves : (c : SafeChange) (p : Plan Slotted) → Leaves (safe_left img blocks anodes buffer c p)
  plan_leaves c (refused n) = refused_leaves n
  plan_leaves c (planned t ys) = list_leaves (list_of img c t ys)

  module _ (call : SafeCall) where
    -- the change that it makes
    abbrev c : SafeChange
    c = safe_change img call

    -- A REFUSED CALL leaves the image and the buffer
    pub refused_whole : (safe_outcome img blocks anodes buffer call).answer ≢ 0 → safe_outcome img blocks anodes buffer call ≡ safe_refused img blocks anodes buffer (safe_outcome img blocks anodes buffer call).answer
    unfolding safe_outcome done_or
    refused_whole = go (checked_first img blocks anodes (safe_refusal img call))
      where
        go : (n : ℕ) → Leaves (done_or n (safe_left img blocks anodes buffer (safe_change img call) (safe_plan img (anodes_of img) (safe_change img call))) (safe_refused img blocks anodes buffer n))
        go zero = plan_leaves (safe_change img call) (safe_plan img (anodes_of img) (safe_change img call))
        go (suc n) = refused_leaves (suc n)

    -- the image alone
    pub refused_image_lem : (safe_outcome img blocks anodes buffer call).answer ≢ 0 → (safe_outcome img blocks anodes buffer call).image ≡ img
    unfolding safe_settled
    refused_image_lem other = ap (λ (o : SafeOutcome). o.image) (refused_whole other)

    -- ---- which answers

    -- what the check or its own table refuses is answered with that number
    first_refused : (n : ℕ) → checked_first img blocks anodes (safe_refusal img call) ≡ suc n → (safe_outcome img blocks anodes buffer call).answer ≡ suc n
    unfolding safe_outcome done_or safe_settled
    first_refused n e = rw e

    -- so a done call is refused by neither
    pub done-passed : (safe_outcome img blocks anodes buffer call).answer ≡ 0 → (check_answer img (length blocks) (length anodes) ≡ 0) × (safe_refusal img call ≡ 0)
    done-passed done = first_of-zero (check_answer img (length blocks) (length anodes)) (safe_refusal img call) (go (checked_first img blocks anodes (safe_refusal img call)) refl)
      where
        go : (n : ℕ) → checked_first img blocks anodes (safe_refusal img call) ≡ n → checked_first img blocks anodes (safe_refusal img call) ≡ 0
        go zero e = e
        go (suc n) e = absurd (let z : suc n ≡ 0 = sym (first_refused n e) ∙ done in omega arith)

    -- a list answers 0 or 32
    list_answers : (ws : List BlockWrite) → ((list_or32 img blocks anodes buffer ws).answer ≡ 0) ⊎ ((list_or32 img blocks anodes buffer ws).answer ≡ 32)
    unfolding list_or32 safe_settled
    list_answers ws = go (ltb (length buffer) (length ws * 514))
      where
        go : (b : Bool) → ((cond b (safe_refused img blocks anodes buffer 32) (safe_done img blocks anodes buffer ws)).answer ≡ 0) ⊎ ((cond b (safe_refused img blocks anodes buffer 32) (safe_done img blocks anodes buffer ws)).answer ≡ 32)
        go true = inr refl
        go false = inl refl

    -- its steps answer 0, 27, 28 or 32
    plan-answers : AcceptedImage img → check_answer img (length blocks) (length anodes) ≡ 0 → safe_refusal img call ≡ 0 → SafeAnswer 0 (safe_outcome img blocks anodes buffer call).answer
    unfolding safe_settled
    plan-answers image ok z = elim (less? (free_blocks (anodes_of img)) (new_blocks img c)) [
      | inl l ↦ inr (inl (ap (λ (o : SafeOutcome). o.answer) (comes_to img blocks anodes buffer call ok z ∙ ap (safe_left img blocks anodes buffer c) (few img blocks anodes buffer call ok z l))))
      | inr l ↦ go (safe_steps img c) refl l (ap (λ (o : SafeOutcome). o.answer) (comes_to img blocks anodes buffer call ok z ∙ ap (safe_left img blocks anodes buffer c) (enough img blocks anodes buffer call ok z l)))
    ]
      where
        go : (p : Plan Slotted) → safe_steps img c ≡ p → new_blocks img c ≤ free_blocks (anodes_of img) → (safe_outcome img blocks anodes buffer call).answer ≡ (safe_left img blocks anodes buffer c p).answer →
            SafeAnswer 0 (safe_outcome img blocks anodes buffer call).answer
        go (refused k) q l e = inr (inr (inl (e ∙ (enough_28 image call z l).only_28 k q)))
        go (planned t ys) q l e = elim (list_answers (list_of img c t ys)) [ inl d ↦ inl (e ∙ d) | inr d ↦ inr (inr (inr (e ∙ d))) ]

    -- THE ANSWERS
    pub safe_answers : AcceptedImage img → SafeAnswer (checked_first img blocks anodes (safe_refusal img call)) (safe_outcome img blocks anodes buffer call).answer
    safe_answers image = go (checked_first img blocks anodes (safe_refusal img call)) refl
      where
        go : (n : ℕ) → checked_first img blocks anodes (safe_refusal img call) ≡ n → SafeAnswer (checked_first img blocks anodes (safe_refusal img call)) (safe_outcome img blocks anodes buffer call).answer
        go (suc n) e = inl (first_refused n e ∙ sym e)
        go zero e =
            let (ok, z) = first_of-zero (check_answer img (length blocks) (length anodes)) (safe_refusal img call) e in
            elim (plan-answers image ok z) [ inl d ↦ inl (d ∙ sym e) | inr d ↦ inr d ]
