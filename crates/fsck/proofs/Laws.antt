-- The check's answer and the tables that it leaves, from the answers of its parts.
use Rattle.std.specs.Prelude.{Result, Ok, Err}
use Rattle.std.specs.Result.{is_err}
use Prim.Native.Nat.{ℕ, ◌≤◌}
use mathlib.Core.Path.{◌≡◌, refl, sym, ap, ◌∙◌}
use mathlib.Core.Logic.{inl, inr}
use mathlib.Core.Bool.{true, false, false≢true}
use mathlib.Core.List.{List, [], ◌++◌}
use native.Mathlib.Omega.{arith}
use lib.ListN.{length, drop, replicate}
use lib.Dec.{ltb}
use borrow.Author.Tests.{le-leb, lt-leb, ltb-false}
use Rattle.disk.specs.declared.Refusal.{Refusal}
use Rattle.disk.specs.Refusals.{number_of, answer_of}
use Rattle.disk.proofs.Laws.{number_some}
use Rattle.rules.specs.Counting.{◌if◌else◌}
use Rattle.rules.specs.Anodes.{Anodes, limit, anodes_of}
use Rattle.rules.specs.Walk.{reached_dirs}
use Rattle.rules.specs.Accepted.{disk_size, wrong_size, short_tables, wrong_type, wrong_root, wrong_slots, tree_fault, damage_in, check_answer}
use Rattle.rules.specs.Tables.{block_table, anode_table, table_left, blocks_left, anodes_left}
use Rattle.rules.specs.Calls.{Outcome, outcome_of, settled, check_outcome, file_count, dir_count}
use Rattle.counting.specs.Laws.{neither}
use Rattle.laws.specs.Acceptance.{passed_of, size_bounds}
use Rattle.laws.specs.Damage.{NoneOr, if_number, damage_range, wider}
use Rattle.tables.specs.Held.{zeroed_first}
use Rattle.tables.proofs.Laws.{zeroed_past}
use Rattle.laws.specs.Chains.{HeadTable}
use Rattle.tree.specs.Tree.{Counts, Queued}
use Rattle.walk_steps.specs.Steps.{queue_of}
use Rattle.tree.specs.declared.Counted.{Counted}
use Rattle.fsck.specs.declared.Tally.{Tally}
use Rattle.fsck.specs.Answers.{Headed, HeaderTested, SpaceTested, Filled, PastKept, TablesAfter, TablesLeft}
use Rattle.laws.specs.OwnerTable.{blocks_past, heads_past}

-- ---- 1 to 4

module _ (img : List ℕ) (b a : ℕ) where
  pub header_1 : wrong_size img ≡ true → check_answer img b a ≡ 1
  unfolding check_answer
  header_1 t = rw t

  module _ (size : wrong_size img ≡ false) where
    pub header_2 : short_tables img b a ≡ true → check_answer img b a ≡ 2
    unfolding check_answer
    header_2 t = rw (size, t)

    module _ (tables : short_tables img b a ≡ false) where
      pub header_3 : wrong_type img ≡ true → check_answer img b a ≡ 3
      unfolding check_answer
      header_3 t = rw (size, tables, t)

      module _ (type : wrong_type img ≡ false) where
        pub header_4 : wrong_root img ≡ true → check_answer img b a ≡ 4
        unfolding check_answer
        header_4 t = rw (size, tables, type, t)

        pub header_none : wrong_root img ≡ false → Headed img b a
        unfolding check_answer short_tables
        header_none t =
            let enough = neither (ltb b (disk_size img)) (ltb a limit) tables in
            record {
              size_right = size;
              room = record { for_blocks = ltb-false b (disk_size img) enough.0; for_anodes = ltb-false a limit enough.1 };
              answered = rw (size, tables, type, t);
            }

  pub headed : (t : Result (Unit {0}) Refusal) (u : Unit {0}) → t ≡ Ok u → HeaderTested t img b a → Headed img b a
  headed t u is e = rw is at e

-- ---- 6 to 17

-- tables that are not touched are kept
pub kept-all : (img b a : List ℕ) → PastKept img b a b a
kept-all img b a = record { blocks-kept = refl; anodes_kept = refl }

module _ (img : List ℕ) (s : Anodes) where
  -- tables that show the image keep what stands behind it
  filled-kept : (b₀ a₀ b a : List ℕ) → Filled img s b₀ a₀ b a → PastKept img b₀ a₀ b a
  filled-kept b₀ a₀ b a f = record { blocks-kept = blocks_past img s b b₀ f.blocks_shown; anodes_kept = heads_past s a a₀ f.anodes_shown }

  module _ (b₀ a₀ b a : List ℕ) (t : Result (Unit {0}) Refusal) (left : TablesAfter t img s b₀ a₀ b a) where
    pub all_heads : (u : Unit {0}) → t ≡ Ok u → (s₁ : Anodes) → s₁ ≡ s → HeadTable a s₁
    all_heads u is s₁ same = rw same (rw is at left).1

    module _ (e : SpaceTested t img s) where
      pub all_failed : (r : Refusal) → t ≡ Err r → (number_of r ≡ damage_in img s) × PastKept img b₀ a₀ b a
      all_failed r is = (sym (rw is at e), rw is at left)

      module _ (u : Unit {0}) (is : t ≡ Ok u) (s₁ : Anodes) (same : s₁ ≡ s) (w : Result Counted Refusal) (n : answer_of w ≡ tree_fault img s₁) where
        damaged : damage_in img s ≡ answer_of w
        damaged = rw is at e ∙ sym (rw same at n)

        pub all_fault : (r : Refusal) → w ≡ Err r → (number_of r ≡ damage_in img s) × PastKept img b₀ a₀ b a
        all_fault r fault = (sym (rw fault at damaged), filled-kept b₀ a₀ b a (rw is at left).0)

        pub all-counted : (queue parents : List ℕ) → Counts w img s₁ → Queued w img s₁ queue parents → (found : Counted) → w ≡ Ok found
            → (0 ≡ damage_in img s) × ((found.files ≡ file_count img s) × (found.dirs ≡ dir_count img s)) × Filled img s b₀ a₀ b a × (queue_of queue parents found.dirs ≡ reached_dirs img s)
        all-counted queue parents k q found counted =
            (sym (rw counted at damaged), rw (counted, same) at k, (rw is at left).0, rw (counted, same) at q)

-- ---- 5

pub slots_wrong : (img : List ℕ) (k : ℕ) → wrong_slots img ≡ true → 5 ≡ (5 if wrong_slots img else k)
slots_wrong img k t = rw t

pub slots_right : (img : List ℕ) (x k : ℕ) → wrong_slots img ≡ false → x ≡ k → x ≡ (5 if wrong_slots img else k)
slots_right img x k t e = rw t e

-- ---- the tables

module _ (range : ℕ) (shown old : List ℕ) where
  left_early : (k : ℕ) → 1 ≤ k → k ≤ 4 → table_left k range shown old ≡ old
  unfolding table_left
  left_early k l m = rw (le-leb 1 k l, le-leb k 4 m)

  left-zeroed : (k : ℕ) → 5 ≤ k → k ≤ 17 → table_left k range shown old ≡ zeroed_first range old
  unfolding table_left
  left-zeroed k l m = rw (le-leb 1 k (omega arith), lt-leb k 4 (omega arith), le-leb 5 k l, le-leb k 17 m)

  left_shown : table_left 0 range shown old ≡ shown ++ drop range old
  unfolding table_left
  left_shown = refl

-- zeroed, changed in its range alone, and shown
once : (n : ℕ) (t₀ t₁ t₂ shown t₃ : List ℕ) → t₁ ≡ zeroed_first n t₀ → drop n t₂ ≡ drop n t₁ → t₃ ≡ shown ++ drop n t₂ → t₃ ≡ shown ++ drop n t₀
once n t₀ t₁ t₂ shown t₃ z k e =
    e ∙ ap (λ (l : List ℕ). shown ++ l) (k ∙ zeroed_past n t₀ t₁ z)

-- ---- the outcome

-- a result is a refusal or an answer
pub refused_is : (x : Result Tally Refusal) → is_err x ≡ true → (r : Refusal) × (x ≡ Err r)
refused_is (Ok t) e = absurd (false≢true e)
refused_is (Err r) e = (r, refl)

pub accepted_is : (x : Result Tally Refusal) → is_err x ≡ false → (t : Tally) × (x ≡ Ok t)
accepted_is (Ok t) e = (t, refl)
accepted_is (Err r) e = absurd (false≢true (sym e))

-- what is known once 5 to 17 are tried: what 1 to 4 said, both tables as they were zeroed before, the answer, and both tables as they are left
pub record Examined (img b₀ a₀ : List ℕ) (n : ℕ) (b₂ a₂ : List ℕ) (x : Result Tally Refusal) : Type 0 where
  pub size : n ≡ disk_size img
  pub header : Headed img (length b₀) (length a₀)
  pub b₁ : List ℕ
  pub a₁ : List ℕ
  pub blocks-zeroed : b₁ ≡ zeroed_first n b₀
  pub anodes_zeroed : a₁ ≡ zeroed_first limit a₀
  pub answer : answer_of x ≡ (5 if wrong_slots img else damage_in img (anodes_of img))
  pub left : TablesLeft x img (anodes_of img) b₁ a₁ b₂ a₂

late_range : (img : List ℕ) → NoneOr 5 17 (5 if wrong_slots img else damage_in img (anodes_of img))
late_range img =
    if_number 5 (wrong_slots img) 5 17 (damage_in img (anodes_of img)) (omega arith) (omega arith)
    (wider 6 17 5 17 (damage_in img (anodes_of img)) (omega arith) (omega arith) (damage_range img (anodes_of img)))

module _ (img b₀ a₀ : List ℕ) where
  outcome : (k : ℕ) (b a : List ℕ) → check_answer img (length b₀) (length a₀) ≡ k → b ≡ blocks_left k img b₀ → a ≡ anodes_left k img a₀
      → outcome_of k img b a [] [] ≡ check_outcome img b₀ a₀
  unfolding check_outcome settled
  outcome k b a e p q = rw (e, p, q)

  -- an accepted image has at most 65,535 blocks
  pub outcome_size : (x : Result Tally Refusal) (t : Tally) → x ≡ Ok t → (b a : List ℕ) → outcome_of (answer_of x) img b a [] [] ≡ check_outcome img b₀ a₀ → disk_size img ≤ 65535
  unfolding check_outcome settled
  outcome_size x t is b a e =
      let z : 0 ≡ check_answer img (length b₀) (length a₀) = ap (λ (o : Outcome). o.answer) (rw is at e) in
      (size_bounds img (passed_of img (length b₀) (length a₀) (sym z)).size_right).1

  pub outcome_header : (t : Result (Unit {0}) Refusal) (r : Refusal) → t ≡ Err r → HeaderTested t img (length b₀) (length a₀)
      → outcome_of (number_of r) img b₀ a₀ [] [] ≡ check_outcome img b₀ a₀
  unfolding blocks_left anodes_left
  outcome_header t r is e =
      let n : (check_answer img (length b₀) (length a₀) ≡ number_of r) × (number_of r ≤ 4) = rw is at e in
      outcome (number_of r) b₀ a₀ n.0
      (sym (left_early (disk_size img) _ b₀ (number_of r) (number_some r) n.1)) (sym (left_early limit _ a₀ (number_of r) (number_some r) n.1))

  module _ {n : ℕ} {b₂ a₂ : List ℕ} {x : Result Tally Refusal} (w : Examined img b₀ a₀ n b₂ a₂ x) where
    pub outcome-accepted : (t : Tally) → x ≡ Ok t → outcome_of (answer_of x) img b₂ a₂ [] [] ≡ check_outcome img b₀ a₀
    unfolding blocks_left anodes_left
    outcome-accepted t is =
        let f : Filled img (anodes_of img) w.b₁ w.a₁ b₂ a₂ = rw is at w.left in
        let z : 0 ≡ (5 if wrong_slots img else damage_in img (anodes_of img)) = rw is at w.answer in
        rw is (outcome 0 b₂ a₂ (w.header.answered ∙ sym z)
        (once (disk_size img) b₀ w.b₁ w.b₁ (block_table img (anodes_of img)) b₂ (rw w.size at w.blocks-zeroed) refl f.blocks_shown ∙ sym (left_shown (disk_size img) (block_table img (anodes_of img)) b₀))
        (once limit a₀ w.a₁ w.a₁ (anode_table (anodes_of img)) a₂ w.anodes_zeroed refl f.anodes_shown ∙ sym (left_shown limit (anode_table (anodes_of img)) a₀)))

    pub outcome_refused : (r : Refusal) → x ≡ Err r → (b₃ a₃ : List ℕ) → b₃ ≡ zeroed_first n b₂ → a₃ ≡ zeroed_first limit a₂
        → outcome_of (answer_of x) img b₃ a₃ [] [] ≡ check_outcome img b₀ a₀
    unfolding blocks_left anodes_left
    outcome_refused r is b₃ a₃ wb wa =
        let k : PastKept img w.b₁ w.a₁ b₂ a₂ = rw is at w.left in
        let m : number_of r ≡ (5 if wrong_slots img else damage_in img (anodes_of img)) = rw is at w.answer in
        let some = number_some r in
        let within : (5 ≤ number_of r) × (number_of r ≤ 17) = elim (late_range img) [ inl z ↦ absurd (omega arith) | inr l ↦ (omega (arith, l.0), omega (arith, l.1)) ] in
        rw is (outcome (number_of r) b₃ a₃ (w.header.answered ∙ sym m)
        (once (disk_size img) b₀ w.b₁ b₂ (replicate (disk_size img) 0) b₃ (rw w.size at w.blocks-zeroed) k.blocks-kept (rw w.size at wb) ∙ sym (left-zeroed (disk_size img) (block_table img (anodes_of img)) b₀ (number_of r) within.0 within.1))
        (once limit a₀ w.a₁ a₂ (replicate limit 0) a₃ w.anodes_zeroed k.anodes_kept wa ∙ sym (left-zeroed limit (anode_table (anodes_of img)) a₀ (number_of r) within.0 within.1)))
