-- The outcome of a report, from the check's.
use Rattle.std.specs.Prelude.{Result, Ok, Err}
use Prim.Native.Nat.{ℕ}
use mathlib.Core.Path.{◌≡◌, refl, sym, ap}
use mathlib.Core.Logic.{inl}
use mathlib.Core.Bool.{true, false}
use mathlib.Core.List.{List, []}
use lib.ListN.{take, drop, replicate}
use Rattle.disk.specs.declared.Refusal.{Refusal}
use Rattle.disk.specs.Refusals.{number_of, answer_of}
use Rattle.rules.specs.Anodes.{anodes_of}
use Rattle.rules.specs.Accepted.{disk_size}
use Rattle.rules.specs.Calls.{Outcome, outcome_of, check_outcome, done_or}
use Rattle.fsck.specs.declared.Tally.{Tally}
use Rattle.fsck.specs.Answers.{Tallied, Opened}
use Rattle.find.proofs.Laws.{not_done}
use Rattle.disk.proofs.Laws.{number_some}
use Rattle.call_laws.specs.Opened.{answers_k, settled_k, answers-0, settled_late, table-left, opened}
use Rattle.report.specs.Figures.{figures_of}
use Rattle.report.specs.Report.{is_full, with_image, reported, taken_outcome, report_outcome}
use Rattle.report_laws.specs.Theorems.{full_leaves}
use Rattle.report_calls.specs.Reportable.{Reportable}

-- 31, and nothing changes
pub report_full : (img blocks anodes totals disk : List ℕ) → is_full totals ≡ true → reported (outcome_of 31 img blocks anodes disk []) totals ≡ report_outcome img blocks anodes totals disk
report_full img blocks anodes totals disk e = sym (full_leaves img blocks anodes totals disk e)

module _ (img b₀ a₀ b a : List ℕ) (x : Result Tally Refusal) (e : outcome_of (answer_of x) img b a [] [] ≡ check_outcome img b₀ a₀) where
  module _ (totals disk : List ℕ) (room : is_full totals ≡ false) where
    -- refused by the check
    module _ (r : Refusal) (is : x ≡ Err r) where
      pub report_refused : (after : List ℕ) → ((figures : List ℕ) → after ≡ with_image totals (number_of r) figures) → reported (outcome_of (number_of r) img b a (replicate 5 0) []) after ≡ report_outcome img b₀ a₀ totals disk
      unfolding report_outcome taken_outcome
      report_refused after added =
          rw (
            room,
            answers_k img b₀ a₀ b a x e r is,
            not_done (number_of r) (number_some r) (take 5 (figures_of img (anodes_of img))) (replicate 5 0),
            ← added (figures_of img (anodes_of img)),
          )
          (ap (λ (o : Outcome). reported o after) (settled_k img b₀ a₀ b a x e r is (replicate 5 0) []))

    -- accepted
    module _ (t : Tally) (is : x ≡ Ok t) where
      pub report_accepted : (five after : List ℕ) → five ≡ take 5 (figures_of img (anodes_of img)) → after ≡ with_image totals 0 (figures_of img (anodes_of img)) →
          reported (outcome_of 0 img b a five []) after ≡ report_outcome img b₀ a₀ totals disk
      unfolding report_outcome taken_outcome done_or
      report_accepted five after told added =
          rw (room, answers-0 img b₀ a₀ b a x e t is, ← told, ← added)
          (ap (λ (o : Outcome). reported o after) (settled_late img b₀ a₀ b a x e t is 0 (inl refl) five []))

  -- what the check has filled and loaded of an accepted image
  pub reportable : (t : Tally) → x ≡ Ok t → Tallied x img (anodes_of img) → (counts firsts nexts queue parents : List ℕ) → Opened x img counts firsts nexts queue parents → Reportable img b firsts nexts queue t
  reportable t is told counts firsts nexts queue parents o =
      let v = rw is at told in record {
        counts = counts;
        parents = parents;
        heads = a;
        rest = drop (disk_size img) b₀;
        is_open = opened img b₀ a₀ b a x e t is counts firsts nexts queue parents o;
        shown = table-left img b₀ a₀ b a x e t is;
        free = v.0;
        files = v.1;
        dirs = v.2;
      }
