-- The outcome of the calls that read an image, from the check's; what the check loaded of an image that it accepted.
use Rattle.std.specs.Prelude.{ℕ, ◌≤◌, ◌≡◌, refl, ltb, length, drop, replicate, Result, Ok, Err}
use Rattle.std.proofs.Math.Path.{sym, ap}
use Rattle.std.proofs.Common.{◌∙◌, inl, inr, ltb-false}
use mathlib.Core.List.{List, [], ◌∷◌, ◌++◌}
use Rattle.std.proofs.Math.ListN.{get_or}
use Rattle.disk.specs.declared.Refusal.{Refusal}
use Rattle.disk.specs.Refusals.{number_of, answer_of}
use Rattle.rules.specs.Anodes.{limit, anodes_of}
use Rattle.rules.specs.Accepted.{disk_size, short_tables, check_answer}
use Rattle.rules.specs.Changes.{Left, left}
use Rattle.rules.specs.Tables.{anode_entry, anode_table, block_table, table_left, blocks_left, anodes_left}
use Rattle.rules.specs.Lookup.{entry_named, entries_of, nth}
use Rattle.rules.specs.Calls.{Outcome, outcome_of, settled, check_outcome, summary_of, done_or, left_after, summary_outcome, checked_first, span_refusal, bytes_read, read_answer, read_outcome, list_refusal, list_answer, fields_listed, name_listed, list_outcome}
use Rattle.fsck.specs.declared.Tally.{Tally}
use Rattle.fsck.specs.Answers.{Tallied, Opened}
use Rattle.counting.specs.Laws.{neither}
use Rattle.laws.specs.Tests.{first_of_some, first_of-none}
use Rattle.laws.specs.Acceptance.{passed_of}
use Rattle.laws.specs.OwnerTable.{table-entry}
use Rattle.change_laws.specs.Answers.{Late, own_tables, span_late, list_late}
use Rattle.change_tables.specs.Leaves.{Leaves}
use Rattle.change_tables.specs.Laws.{late_table}
use Rattle.find.specs.Open.{Open}
use Rattle.find.proofs.Laws.{not_done}
use Rattle.disk.proofs.Laws.{number_some}

-- the tables that 0 shows are those of every late answer
late_tables : (k : ℕ) → Late k → (range : ℕ) (shown old : List ℕ) → table_left k range shown old ≡ table_left 0 range shown old
late_tables k (inl e) range shown old = ap (λ (n : ℕ). table_left n range shown old) e
late_tables k (inr l) range shown old = late_table k l range shown old

module _ (img b₀ a₀ b a : List ℕ) (x : Result Tally Refusal) (e : outcome_of (answer_of x) img b a [] [] ≡ check_outcome img b₀ a₀) where
  -- what the check's own outcome says
  module _ (k : ℕ) (is_k : answer_of x ≡ k) where
    answers : check_answer img (length b₀) (length a₀) ≡ k
    unfolding check_outcome settled
    answers = ap (λ (o : Outcome). o.answer) (sym e) ∙ is_k

    blocks-left : b ≡ blocks_left k img b₀
    unfolding check_outcome settled
    blocks-left = ap (λ (o : Outcome). o.blocks) e ∙ ap (λ (n : ℕ). blocks_left n img b₀) answers

    anodes_left_lem : a ≡ anodes_left k img a₀
    unfolding check_outcome settled
    anodes_left_lem = ap (λ (o : Outcome). o.anodes) e ∙ ap (λ (n : ℕ). anodes_left n img a₀) answers

  -- ---- refused

  module _ (r : Refusal) (is : x ≡ Err r) where
    number_is : answer_of x ≡ number_of r
    number_is = ap (answer_of {X = Tally}) is

    pub answers_k : check_answer img (length b₀) (length a₀) ≡ number_of r
    answers_k = answers (number_of r) number_is

    -- its number comes before the call's own
    pub first_k : (m : ℕ) → checked_first img b₀ a₀ m ≡ number_of r
    first_k m = first_of_some (check_answer img (length b₀) (length a₀)) m (number_of r) answers_k (number_some r)

    -- a refused call leaves the image and the tables as the check does
    pub settled_k : (output name : List ℕ) → outcome_of (number_of r) img b a output name ≡ settled (left (number_of r) img) b₀ a₀ output name
    unfolding settled
    settled_k output name = rw (← blocks-left (number_of r) number_is, ← anodes_left_lem (number_of r) number_is)

    pub check_refused : outcome_of (number_of r) img b a [] [] ≡ check_outcome img b₀ a₀
    unfolding check_outcome
    check_refused = rw answers_k (settled_k [] [])

    pub summary_refused : outcome_of (number_of r) img b a (replicate 4 0) [] ≡ summary_outcome img b₀ a₀
    unfolding summary_outcome
    summary_refused = rw (answers_k, not_done (number_of r) (number_some r) (summary_of img (anodes_of img)) (replicate 4 0)) (settled_k (replicate 4 0) [])

    pub read_refused : (h : ℕ) (name : List ℕ) (offset : ℕ) (out : List ℕ) → outcome_of (number_of r) img b a out [] ≡ read_outcome img b₀ a₀ h name offset out
    unfolding read_outcome read_answer
    read_refused h name offset out = rw (first_k (span_refusal img (anodes_of img) h name offset (length out)), not_done (number_of r) (number_some r) _ out) (settled_k out [])

    pub list_refused : (h n : ℕ) → outcome_of (number_of r) img b a (replicate 11 0) [] ≡ list_outcome img b₀ a₀ h n
    unfolding list_outcome list_answer
    list_refused h n =
        rw (
          first_k (list_refusal img (anodes_of img) h n),
          not_done {X = List ℕ} (number_of r) (number_some r) _ (replicate 11 0),
          not_done {X = List ℕ} (number_of r) (number_some r) _ [],
        )
        (settled_k (replicate 11 0) [])

    -- a change is not made
    pub change_refused : (m : ℕ) (done : Left) → outcome_of (number_of r) img b a [] [] ≡ settled (left_after (checked_first img b₀ a₀ m) img done) b₀ a₀ [] []
    change_refused m done = rw (first_k m, not_done (number_of r) (number_some r) done (left (number_of r) img)) (settled_k [] [])

  -- ---- accepted

  module _ (t : Tally) (is : x ≡ Ok t) where
    number_0 : answer_of x ≡ 0
    number_0 = ap (answer_of {X = Tally}) is

    pub answers-0 : check_answer img (length b₀) (length a₀) ≡ 0
    answers-0 = answers 0 number_0

    -- the call's own number is its answer
    pub first-0 : (m : ℕ) → checked_first img b₀ a₀ m ≡ m
    first-0 m = first_of-none (check_answer img (length b₀) (length a₀)) m answers-0

    accepted-answer : check_answer img (disk_size img) limit ≡ 0
    accepted-answer = own_tables img (length b₀) (length a₀) answers-0

    blocks_late : (k : ℕ) → Late k → blocks_left k img b₀ ≡ b
    unfolding blocks_left
    blocks_late k l = late_tables k l (disk_size img) (block_table img (anodes_of img)) b₀ ∙ sym (blocks-left 0 number_0)

    anodes_late : (k : ℕ) → Late k → anodes_left k img a₀ ≡ a
    unfolding anodes_left
    anodes_late k l = late_tables k l limit (anode_table (anodes_of img)) a₀ ∙ sym (anodes_left_lem 0 number_0)

    -- an answered call that leaves the image leaves the tables too
    pub settled_late : (k : ℕ) → Late k → (output name : List ℕ) → outcome_of k img b a output name ≡ settled (left k img) b₀ a₀ output name
    unfolding settled
    settled_late k l output name = rw (blocks_late k l, anodes_late k l)

    pub check_accepted : outcome_of 0 img b a [] [] ≡ check_outcome img b₀ a₀
    unfolding check_outcome
    check_accepted = rw answers-0 (settled_late 0 (inl refl) [] [])

    pub summary_accepted : Tallied x img (anodes_of img) → (n : ℕ) → n ≡ disk_size img → outcome_of 0 img b a (n ∷ t.free ∷ t.files ∷ t.dirs ∷ []) [] ≡ summary_outcome img b₀ a₀
    unfolding summary_outcome done_or summary_of
    summary_accepted told n size =
        let v = rw is at told in
        rw (answers-0, ← size, ← v.0, ← v.1, ← v.2) (settled_late 0 (inl refl) (n ∷ t.free ∷ t.files ∷ t.dirs ∷ []) [])

    -- the block table shows the image
    pub table-left : b ≡ block_table img (anodes_of img) ++ drop (disk_size img) b₀
    unfolding blocks_left table_left
    table-left = blocks-left 0 number_0

    -- what the check loaded and filled
    pub opened : (counts firsts nexts queue parents : List ℕ) → Opened x img counts firsts nexts queue parents → Open img counts firsts nexts queue parents a t.dirs
    unfolding anodes_left table_left anode_table
    opened counts firsts nexts queue parents q =
        let o = rw is at q in
        record {
          loaded = record { accepted = accepted-answer; is_loaded = o.0; tables = o.2.0 };
          queued = o.1;
          shown = λ i l. ap (λ (z : List ℕ). get_or z i 0) (anodes_left_lem 0 number_0)
              ∙ table-entry (anode_entry (anodes_of img)) limit (drop limit a₀) i l;
        }

    pub read_answered : (h : ℕ) (name : List ℕ) (offset : ℕ) (out out' : List ℕ) (k : ℕ) → k ≡ span_refusal img (anodes_of img) h name offset (length out) →
        out' ≡ bytes_read k img (anodes_of img) (entry_named img (anodes_of img) h name) offset out → outcome_of k img b a out' [] ≡ read_outcome img b₀ a₀ h name offset out
    unfolding read_outcome read_answer
    read_answered h name offset out out' k span bytes =
        rw (first-0 (span_refusal img (anodes_of img) h name offset (length out)), ← span, ← bytes)
        (settled_late k (rw span (span_late img (anodes_of img) h name offset (length out))) out' [])

    pub list_answered : (h n : ℕ) (fields name : List ℕ) (k : ℕ) → k ≡ list_refusal img (anodes_of img) h n → fields ≡ fields_listed k img (nth (entries_of img (anodes_of img) h) n) →
        name ≡ name_listed k (nth (entries_of img (anodes_of img) h) n) → outcome_of k img b a fields name ≡ list_outcome img b₀ a₀ h n
    unfolding list_outcome list_answer
    list_answered h n fields name k is_k f m =
        rw (first-0 (list_refusal img (anodes_of img) h n), ← is_k, ← f, ← m)
        (settled_late k (rw is_k (list_late img (anodes_of img) h n)) fields name)

    -- a change by name, as it leaves the image and the tables
    pub change_answered : (m : ℕ) (done : Left) (r : ℕ) (img' b' a' : List ℕ) → Leaves r img b a img' b' a' (left_after m img done) → outcome_of r img' b' a' [] [] ≡ settled (left_after (checked_first img b₀ a₀ m) img done) b₀ a₀ [] []
    change_answered m done r img' b' a' l = rw (first-0 m) (l b₀ a₀ (blocks-left 0 number_0) (anodes_left_lem 0 number_0))

    -- the anode table is as long as 2 asks
    pub heads_long : length a ≡ length a₀ → limit ≤ length a
    unfolding short_tables
    heads_long e =
        let s = neither (ltb (length b₀) (disk_size img)) (ltb (length a₀) limit) (passed_of img (length b₀) (length a₀) answers-0).tables_long in
        rw e (ltb-false (length a₀) limit s.1)
