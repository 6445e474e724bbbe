-- The outcome of a safe call, from the check's and from what the change by name leaves.
use Prim.Native.Nat.{ℕ, zero, suc, ◌*◌, ◌/◌}
use mathlib.Core.Path.{◌≡◌, refl, sym, ap, subst, ◌∙◌}
use mathlib.Core.Logic.{inl, inr}
use mathlib.Core.Bool.{Bool, true, false, cond, true≢false, false≢true}
use Rattle.std.specs.Result.{is_err}
use mathlib.Core.List.{List, []}
use native.Mathlib.Omega.{arith}
use lib.Dec.{ltb}
use lib.ListN.{length, get_or, drop}
use Rattle.disk.specs.declared.Refusal.{Refusal}
use Rattle.std.specs.Prelude.{Result, Ok, Err}
use Rattle.disk.specs.Refusals.{number_of, answer_of}
use Rattle.disk.proofs.Laws.{number_some}
use Rattle.rules.specs.Anodes.{limit, anodes_of}
use Rattle.rules.specs.Accepted.{disk_size, short_tables, check_answer}
use Rattle.rules.specs.Tables.{block_entry, block_table, anode_table, table_left, blocks_left, anodes_left}
use Rattle.rules.specs.Plans.{Slotted, Plan, refused, planned}
use Rattle.rules.specs.Calls.{Outcome, outcome_of, settled, done_or, check_outcome, checked_first}
use Rattle.laws.specs.Acceptance.{passed_of}
use Rattle.laws.specs.OwnerTable.{table-entry, blocks_past, heads_past}
use Rattle.change_laws.specs.Answers.{Late}
use Rattle.fsck.specs.declared.Tally.{Tally}
use Rattle.find.proofs.Laws.{not_done}
use Rattle.call_laws.specs.Opened.{first_k, settled_k, answers-0, first-0, settled_late}
use Rattle.safe_rules.specs.SafePlans.{SafeChange, safe_plan}
use Rattle.safe_rules.specs.SafeWrites.{BlockWrite, list_of}
use Rattle.safe_rules.specs.SafeCalls.{SafeCall, SafeOutcome, safe_refusal, safe_change, safe_settled, safe_refused, safe_done, list_or32, safe_left, safe_outcome}
use Rattle.safe_laws.specs.SafeAnswers.{refusal_late, refused_image_lem, safe_answers}
use Rattle.safe_laws.specs.PulledPlug.{crash_theorem}
use Rattle.safe_plans.specs.Planned.{ShowsBlocks}
use Rattle.safe_stores.specs.Leaves.{writes_in}
use Rattle.safe_named.specs.After.{after_check, CallLeaves}
use Rattle.safe_calls.specs.Outcomes.{safe_outcome_of, ShownAgain}

-- ---- the tables of an outcome

-- they are those of its answer and its image
abbrev TablesOf : List ℕ → List ℕ → SafeOutcome → Type 0
TablesOf b a o = (o.blocks ≡ blocks_left o.answer o.image b) × (o.anodes ≡ anodes_left o.answer o.image a)

module _ (img b a out : List ℕ) where
  -- a refusal's are
  refused_tables : (n : ℕ) → TablesOf b a (safe_refused img b a out n)
  unfolding safe_settled
  refused_tables n = (refl, refl)

  -- a list's are
  list_tables : (ws : List BlockWrite) → TablesOf b a (list_or32 img b a out ws)
  unfolding list_or32 safe_settled
  list_tables ws = go (ltb (length out) (length ws * 514))
    where
      go : (t : Bool) → TablesOf b a (cond t (safe_refused img b a out 32) (safe_done img b a out ws))
      go true = (refl, refl)
      go false = (refl, refl)

  -- a plan's are
  plan_tables : (c : SafeChange) (p : Plan Slotted) → TablesOf b a (safe_left img b a out c p)
  plan_tables c (refused n) = refused_tables n
  plan_tables c (planned t ys) = list_tables (list_of img c t ys)

  -- so every safe call's are
  outcome_tables : (call : SafeCall) → TablesOf b a (safe_outcome img b a out call)
  unfolding safe_outcome done_or
  outcome_tables call = go (checked_first img b a (safe_refusal img call))
    where
      go : (n : ℕ) → TablesOf b a (done_or n (safe_left img b a out (safe_change img call) (safe_plan img (anodes_of img) (safe_change img call))) (safe_refused img b a out n))
      go zero = plan_tables (safe_change img call) (safe_plan img (anodes_of img) (safe_change img call))
      go (suc n) = refused_tables (suc n)

-- an outcome by its fields
by_fields : (o : SafeOutcome) (n : ℕ) (img b a out : List ℕ) (count : ℕ) → n ≡ o.answer → img ≡ o.image → b ≡ o.blocks → a ≡ o.anodes → out ≡ o.buffer → count ≡ o.count → safe_outcome_of n img b a out count ≡ o
by_fields o n img b a out count e1 e2 e3 e4 e5 e6 = rw (e1, e2, e3, e4, e5, e6)

-- ---- the check

-- an accepted image is accepted with other tables that are long enough
other_tables : (img : List ℕ) (blocks anodes : ℕ) → check_answer img blocks anodes ≡ 0 → (long many : ℕ) → short_tables img long many ≡ false → check_answer img long many ≡ 0
unfolding check_answer
other_tables img blocks anodes e long many q = let p = passed_of img blocks anodes e in rw (p.size_right, q) (rw (p.size_right, p.tables_long) at e)

-- the tables that it leaves of an image that it accepts
accepted_tables : (img b a : List ℕ) → check_answer img (length b) (length a) ≡ 0 → ((check_outcome img b a).blocks ≡ blocks_left 0 img b) × ((check_outcome img b a).anodes ≡ anodes_left 0 img a)
unfolding check_outcome settled
accepted_tables img b a e = rw e (refl, refl)

-- what stands behind the range is all that a table keeps
same-behind : (range : ℕ) (shown old new : List ℕ) → drop range old ≡ drop range new → table_left 0 range shown old ≡ table_left 0 range shown new
unfolding table_left
same-behind range shown old new e = rw e

-- ---- both tables after a change

-- a refused one leaves them
pub shown_kept : (l : Result ℕ Refusal) → is_err l ≡ true → (img b a : List ℕ) → ShownAgain (answer_of l) img b a b a
shown_kept (Ok n) e img b a = absurd (false≢true e)
shown_kept (Err r) e img b a = record { blocks = sym (not_done (number_of r) (number_some r) (check_outcome img b a).blocks b); anodes = sym (not_done (number_of r) (number_some r) (check_outcome img b a).anodes a) }

-- a done one leaves them to the check
pub shown_checked : (l : Result ℕ Refusal) → is_err l ≡ false → (img b a b' a' : List ℕ) (x : Result Tally Refusal) → outcome_of (answer_of x) img b' a' [] [] ≡ check_outcome img b a → ShownAgain (answer_of l) img b a b' a'
unfolding done_or
shown_checked (Ok n) z img b a b' a' x e = record { blocks = ap (λ (o : Outcome). o.blocks) e; anodes = ap (λ (o : Outcome). o.anodes) e }
shown_checked (Err r) z img b a b' a' x e = absurd (true≢false z)

module _ (img b₀ a₀ b a : List ℕ) (x : Result Tally Refusal) (e : outcome_of (answer_of x) img b a [] [] ≡ check_outcome img b₀ a₀) where
  -- ---- the check refused

  -- the call answers its number, and leaves all as the check does
  module _ (r : Refusal) (is : x ≡ Err r) (out : List ℕ) (call : SafeCall) where
    pub refused_outcome : safe_outcome_of (number_of r) img b a out 0 ≡ safe_outcome img b₀ a₀ out call
    unfolding safe_outcome safe_settled settled
    refused_outcome =
        let s = settled_k img b₀ a₀ b a x e r is [] [] in
        rw (
          first_k img b₀ a₀ b a x e r is (safe_refusal img call),
          not_done (number_of r) (number_some r) (safe_left img b₀ a₀ out (safe_change img call) (safe_plan img (anodes_of img) (safe_change img call))) (safe_refused img b₀ a₀ out (number_of r)),
        )
        (by_fields (safe_refused img b₀ a₀ out (number_of r)) (number_of r) img b a out 0 refl refl (ap (λ (o : Outcome). o.blocks) s) (ap (λ (o : Outcome). o.anodes) s) refl refl)

  -- ---- the check accepted

  module _ (t : Tally) (is : x ≡ Ok t) where
    ok : check_answer img (length b₀) (length a₀) ≡ 0
    ok = answers-0 img b₀ a₀ b a x e t is

    -- both tables are as an answer past the damage numbers leaves them
    kept_tables : (k : ℕ) → Late k → (b ≡ blocks_left k img b₀) × (a ≡ anodes_left k img a₀)
    unfolding settled
    kept_tables k l =
        let s = settled_late img b₀ a₀ b a x e t is k l [] [] in
        (ap (λ (o : Outcome). o.blocks) s, ap (λ (o : Outcome). o.anodes) s)

    -- the block table shows the image
    pub shows_blocks : ShowsBlocks img b
    unfolding blocks_left table_left block_table
    shows_blocks y l = ap (λ (z : List ℕ). get_or z y 0) (kept_tables 0 (inl refl)).0 ∙ table-entry (block_entry img (anodes_of img)) (disk_size img) (drop (disk_size img) b₀) y l

    -- behind their ranges both are as they were lent
    blocks-behind : drop (disk_size img) b ≡ drop (disk_size img) b₀
    unfolding blocks_left table_left
    blocks-behind = blocks_past img (anodes_of img) b b₀ (kept_tables 0 (inl refl)).0

    anodes_behind : drop limit a ≡ drop limit a₀
    unfolding anodes_left table_left
    anodes_behind = heads_past (anodes_of img) a a₀ (kept_tables 0 (inl refl)).1

    -- ---- a new image of the same length, which the check accepts with tables as long as 2 asks

    module _ (img' : List ℕ) (long : length img' ≡ length img) where
      same_size : disk_size img' ≡ disk_size img
      unfolding disk_size
      same_size = ap (λ (n : ℕ). n / 512) long

      module _ (blocks_long : length b ≡ length b₀) (anodes_long : length a ≡ length a₀) (sound : check_answer img' (disk_size img') limit ≡ 0) where
        -- both tables are long enough for it
        room : short_tables img' (length b) (length a) ≡ false
        unfolding short_tables
        room = rw (same_size, blocks_long, anodes_long) (passed_of img (length b₀) (length a₀) ok).tables_long

        -- so the check accepts it again
        again : check_answer img' (length b) (length a) ≡ 0
        again = other_tables img' (disk_size img') limit sound (length b) (length a) room

        -- it leaves the tables of a done call
        again_tables : ((check_outcome img' b a).blocks ≡ blocks_left 0 img' b₀) × ((check_outcome img' b a).anodes ≡ anodes_left 0 img' a₀)
        unfolding blocks_left anodes_left
        again_tables =
            let q = accepted_tables img' b a again in (
              q.0 ∙ same-behind (disk_size img') (block_table img' (anodes_of img')) b b₀ (rw same_size blocks-behind),
              q.1 ∙ same-behind limit (anode_table (anodes_of img')) a a₀ anodes_behind,
            )

    -- ---- the call

    module _ (out : List ℕ) (call : SafeCall) where
      -- what it settles
      abbrev o : SafeOutcome
      o = safe_outcome img b₀ a₀ out call

      -- behind the check
      after : after_check img b₀ a₀ out call ≡ safe_outcome img b₀ a₀ out call
      unfolding after_check safe_outcome
      after = rw (first-0 img b₀ a₀ b a x e t is (safe_refusal img call))

      -- its answer comes after the damage numbers
      answer_late : Late (safe_outcome img b₀ a₀ out call).answer
      answer_late = elim (safe_answers img b₀ a₀ out call (record { blocks = length b₀; anodes = length a₀; accepted = ok })) [
        | inl n ↦ subst Late (sym (n ∙ first-0 img b₀ a₀ b a x e t is (safe_refusal img call))) (refusal_late img call)
        | inr (inl n) ↦ inr (omega (arith, n))
        | inr (inr (inl n)) ↦ inr (omega (arith, n))
        | inr (inr (inr n)) ↦ inr (omega (arith, n))
      ]

      module _ (img' : List ℕ) (is_image : img' ≡ o.image) (long : length img' ≡ length img) (blocks_long : length b ≡ length b₀) (anodes_long : length a ≡ length a₀) where
        -- both tables after it
        left_tables : (k : ℕ) → k ≡ o.answer → (b' a' : List ℕ) → ShownAgain k img' b a b' a' → (b' ≡ o.blocks) × (a' ≡ o.anodes)
        unfolding done_or
        left_tables zero n b' a' s =
            let sound = rw (← is_image) at (crash_theorem img b₀ a₀ out call ok (sym n)).new_sound.accepted in
            let q = again_tables img' long blocks_long anodes_long sound in
            let w = outcome_tables img b₀ a₀ out call in
            (s.blocks ∙ q.0 ∙ rw (n, is_image) (sym w.0), s.anodes ∙ q.1 ∙ rw (n, is_image) (sym w.1))
        left_tables (suc m) n b' a' s =
            let same = refused_image_lem img b₀ a₀ out call (λ z. omega (arith, n, z)) in
            let q = kept_tables o.answer answer_late in
            let w = rw same at (outcome_tables img b₀ a₀ out call) in
            (s.blocks ∙ q.0 ∙ sym w.0, s.anodes ∙ q.1 ∙ sym w.1)

      -- the whole outcome, from what the change by name leaves and from both tables, shown again
      pub listed_answered : (l : Result ℕ Refusal) (img' out' : List ℕ) → CallLeaves img out call l img' out' → length img' ≡ length img → length b ≡ length b₀ → length a ≡ length a₀ → (b' a' : List ℕ) → ShownAgain (answer_of l) img' b a b' a' →
          safe_outcome_of (answer_of l) img' b' a' out' (writes_in l) ≡ safe_outcome img b₀ a₀ out call
      listed_answered l img' out' leaves long blocks_long anodes_long b' a' s =
          let w = rw after at (leaves b₀ a₀) in
          let q = left_tables img' w.image long blocks_long anodes_long (answer_of l) w.number b' a' s in
          by_fields o (answer_of l) img' b' a' out' (writes_in l) w.number w.image q.0 q.1 w.buffer w.count
