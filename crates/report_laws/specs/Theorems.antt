-- 02, No. 1: the theorems about the shift report.
use Rattle.std.specs.Prelude.{ℕ, zero, suc, ◌+◌, ◌-◌, ◌<◌, ◌≤◌, ◌≡◌, refl, ◌≢◌, true, false, List, [], ◌∷◌, ◌++◌, length, get_or}
use Rattle.std.proofs.Common.{sym, ap, ◌∙◌, inl, inr, arith, ext_get_or}
use Rattle.rules.specs.Counting.{one_at, sum_list}
use Rattle.rules.specs.Anodes.{Anodes}
use Rattle.rules.specs.Accepted.{disk_size}
use Rattle.rules.specs.Calls.{outcome_of, done_or}
use Rattle.laws.specs.Tests.{less?}
use Rattle.report.specs.Runs.{in_chain, file_runs, longest_free}
use Rattle.report.specs.Report.{empty_totals, answers_in, sums_in, mean_in, is_full, one_more_at, with_image, reported, report_outcome}
use Rattle.report.specs.Shift.{Fed, answer_of, figures_in, fed, fed_all, images_answered, accepted_sum, TotalsOf, Reordered, same, behind, swapped, both}
use Rattle.report_laws.specs.RunsMean.{AllPass, RunOf, NonePass, Contiguous, Apart, longest_most, longest_there, no_run_exactly, one-run_exactly, more_runs_exactly}
use Rattle.report_laws.specs.ShiftTotals.{answer_low, fed-taken, answer-full, answer-taken, full-after, after_empty, room-left}

-- ---- runs

module _ (img : List ℕ) (s : Anodes) where
  -- THE LONGEST FREE RUN: there is a run of so many free blocks, and none is longer
  pub longest_free_lem : RunOf (in_chain s 1) (disk_size img) (longest_free img s)
      × ((start k : ℕ) → start + k ≤ disk_size img → AllPass (in_chain s 1) start k → k ≤ longest_free img s)
  unfolding longest_free
  longest_free_lem = (longest_there (in_chain s 1) (disk_size img), longest_most (in_chain s 1) (disk_size img))

  -- ONE RUN: a file is in one run exactly if its blocks are contiguous, whatever anodes hold them and in whatever order
  pub one-run : (h : ℕ) → (file_runs img s h ≡ 1 → Contiguous (in_chain s h) (disk_size img)) × (Contiguous (in_chain s h) (disk_size img) → file_runs img s h ≡ 1)
  unfolding file_runs
  one-run h = one-run_exactly (in_chain s h) (disk_size img)

  -- in no run exactly if it has no block on the disk
  pub no_run : (h : ℕ) → (file_runs img s h ≡ 0 → NonePass (in_chain s h) (disk_size img)) × (NonePass (in_chain s h) (disk_size img) → file_runs img s h ≡ 0)
  unfolding file_runs
  no_run h = no_run_exactly (in_chain s h) (disk_size img)

  -- in more than one exactly if a block that is not its own lies between two that are
  pub more_runs : (h : ℕ) → (1 < file_runs img s h → Apart (in_chain s h) (disk_size img)) × (Apart (in_chain s h) (disk_size img) → 1 < file_runs img s h)
  unfolding file_runs
  more_runs h = more_runs_exactly (in_chain s h) (disk_size img)

-- ---- one image

-- 31 leaves all that is lent as it came
pub full_leaves : (img blocks anodes totals disk : List ℕ) → is_full totals ≡ true → report_outcome img blocks anodes totals disk ≡ reported (outcome_of 31 img blocks anodes disk []) totals
unfolding report_outcome
full_leaves img blocks anodes totals disk e = rw e

-- a refused disk adds to its refusal's count only
pub refused_adds : (totals : List ℕ) (f : Fed) → is_full totals ≡ false → answer_of f ≢ 0 → (fed totals f).totals ≡ one_more_at (answers_in totals) (answer_of f) ++ sums_in totals
unfolding with_image done_or
refused_adds totals f room d = fed-taken totals f room ∙ go (answer_of f) d
  where
    go : (n : ℕ) → n ≢ 0 → with_image totals n (figures_in f) ≡ one_more_at (answers_in totals) n ++ sums_in totals
    go zero d = absurd (d refl)
    go (suc n) d = refl

-- ---- a list of images

-- THE TOTALS: from empty totals, after at most 100,000 images, they are how many had each answer, and the sums over the accepted
pub totals_after : (fs : List Fed) → length fs ≤ 100000 → TotalsOf fs (fed_all empty_totals fs)
totals_after = after_empty

-- and the mean is the bytes and the files of the accepted
pub mean_after : (fs : List Fed) → length fs ≤ 100000 → mean_in (fed_all empty_totals fs) ≡ accepted_sum 5 fs ∷ accepted_sum 1 fs ∷ []
unfolding mean_in
mean_after fs few = let t = totals_after fs few in rw (t.sums 5, t.sums 1)

-- NO 31 AMONG THE FIRST 100,000
pub first_taken : (fs : List Fed) (f : Fed) → length fs < 100000 → (fed (fed_all empty_totals fs) f).outcome.answer ≢ 31
first_taken fs f l e = omega (arith, answer_low f, e, answer-taken (fed_all empty_totals fs) f (room-left fs (omega arith) l))

-- THE NEXT IS ANSWERED 31, and every one behind it
pub next_refused : (fs : List Fed) (f : Fed) → 100000 ≤ length fs → (fed (fed_all empty_totals fs) f).outcome.answer ≡ 31
next_refused fs f l = answer-full (fed_all empty_totals fs) f (full-after fs empty_totals refl (omega (arith, l)))

sum_reordered {ℓ} : {X : Type ℓ} {fs gs : List X} → Reordered fs gs → (w : X → ℕ) → sum_list w fs ≡ sum_list w gs
unfolding sum_list
sum_reordered same w = refl
sum_reordered (behind f r) w = ap (λ (n : ℕ). w f + n) (sum_reordered r w)
sum_reordered (swapped f g) w = omega arith
sum_reordered (both r s) w = sum_reordered r w ∙ sum_reordered s w

length_reordered {ℓ} : {X : Type ℓ} {fs gs : List X} → Reordered fs gs → length fs ≡ length gs
length_reordered same = refl
length_reordered (behind f r) = ap suc (length_reordered r)
length_reordered (swapped f g) = refl
length_reordered (both r s) = length_reordered r ∙ length_reordered s

-- totals of the same images are the same
same_totals : (fs gs : List Fed) (t u : List ℕ) → Reordered fs gs → TotalsOf fs t → TotalsOf gs u → t ≡ u
unfolding images_answered accepted_sum
same_totals fs gs t u r a b = ext_get_or 0 t u (a.places ∙ sym b.places) (λ i l. elim (less? i 18) [
  | inl low ↦ a.answers i low ∙ sum_reordered r (λ f. one_at (answer_of f) i) ∙ sym (b.answers i low)
  | inr high ↦ (
      let at : i ≡ 18 + (i - 18) = omega arith in
      rw at (a.sums (i - 18) ∙ sum_reordered r (λ f. done_or (answer_of f) (get_or (figures_in f) (i - 18) 0) 0) ∙ sym (b.sums (i - 18))))
])

-- IN ANY ORDER WITH THE SAME TOTALS
pub any_order : (fs gs : List Fed) → Reordered fs gs → length fs ≤ 100000 → fed_all empty_totals fs ≡ fed_all empty_totals gs
any_order fs gs r few =
    same_totals fs gs (fed_all empty_totals fs) (fed_all empty_totals gs) r (totals_after fs few) (totals_after gs (omega (arith, few, length_reordered r)))
