-- When each answer of a conversion is given, and what the file that it writes holds.
use Rattle.std.specs.Prelude.{◌≡◌, Bool, true, ◌⊎◌, List, [], ◌∷◌, ◌++◌, ℕ, ◌+◌, ◌-◌, ◌^◌, ◌<◌, ◌≤◌, take, drop}
use Rattle.std.proofs.Math.Path.{refl, ap}
use Rattle.std.proofs.Common.{sym, ◌∙◌, true≢false}
use Rattle.std.proofs.Math.Bool.{false}
use Rattle.std.proofs.Math.Logic.{inl, inr}
use native.Mathlib.Omega.{arith}
use Rattle.std.proofs.Math.ListN.{length}
use Rattle.std.proofs.Math.Seq.{take_at, sets-eq}
use borrow.Author.Tests.{leb-true, leb-false, lt-ltb, le-ltb}
use Rattle.endian.specs.Bytes.{stored}
use Rattle.endian.proofs.Laws.{less?, same?}
use Rattle.rules.specs.Calls.{done_or}
use Rattle.counting.specs.Laws.{any_below-all}
use Rattle.laws.specs.Tests.{T_true, T_false}
use Rattle.laws.specs.Sums.{least_cases}
use Rattle.settings.specs.declared.Form.{Form}
use Rattle.settings.specs.Files.{old_form, new_form, record_place, record_count, mark_at, key_at, seconds_at, wrong_record, not_of_form, settings_from, settings_in, file_of}
use Rattle.settings.specs.Conversions.{conversion_of, too_long, first_too_long, converted, convert_answer, conversion_by, convert_outcome, result_of}
use Rattle.settings.specs.Laws.{number_be16, converted-count, few_records, record_first, record_later, form_records}
use Rattle.settings_laws.specs.Records.{AllBytes, number_fits, turned-mark, turned-key, turned-seconds, turned-count, turned_whole, turned_settings, right_record, right_mark, file-there}

-- ---- what is in a file of bytes

key_fits : (form : Form) (file : List ℕ) → AllBytes file → (i : ℕ) → key_at form file i < 65536
unfolding key_at
key_fits form file bytes i = rw (← (number_be16 file (record_place form i + 2))) (number_fits 2 file (record_place form i + 2) bytes)

seconds-fit : (form : Form) (file : List ℕ) → AllBytes file → (i : ℕ) → seconds_at form file i < 256 ^ form.width
unfolding seconds_at
seconds-fit form file bytes i = number_fits form.width file (record_place form i + 4) bytes

-- two bytes of seconds fit in four
pub old-fits : (file : List ℕ) → AllBytes file → (i : ℕ) → i < record_count old_form file → seconds_at old_form file i < 256 ^ new_form.width
old-fits file bytes i l = omega (arith, seconds-fit old_form file bytes i)

-- ---- the answers

-- no record of the file has more seconds than the form can hold
abbrev pub AllFit : Form → Form → List ℕ → Type 0
AllFit from to file = (i : ℕ) → i < record_count from file → seconds_at from file i < 256 ^ to.width

-- the first record that has
pub record FirstLong (from to : Form) (file : List ℕ) : Type 0 where
  pub within : first_too_long from to file < record_count from file
  pub long : 256 ^ to.width ≤ seconds_at from file (first_too_long from to file)
  pub earlier : (i : ℕ) → i < first_too_long from to file → seconds_at from file i < 256 ^ to.width

-- the four answers, and when each is given
pub data Answered (from to : Form) (file : List ℕ) (room : ℕ) : Type 0 where
  not_of_form_lem : not_of_form from file ≡ true → convert_answer from to file room ≡ 50 → Answered from to file room
  long_seconds : not_of_form from file ≡ false → FirstLong from to file → convert_answer from to file room ≡ 51 → Answered from to file room
  short-buffer : not_of_form from file ≡ false → AllFit from to file → room < length (converted from to file) → convert_answer from to file room ≡ 52 → Answered from to file room
  converts : not_of_form from file ≡ false → AllFit from to file → length (converted from to file) ≤ room → convert_answer from to file room ≡ 0 → Answered from to file room

module _ (from to : Form) (file : List ℕ) where
  long_or-not : FirstLong from to file ⊎ ((record_count from file ≤ first_too_long from to file) × AllFit from to file)
  unfolding first_too_long too_long
  long_or-not = elim (least_cases (too_long from to file) (record_count from file)) [
    | inl d ↦ inl (record { within = d.0; long = leb-true _ _ (T_true _ d.1); earlier = λ i l. leb-false _ _ (T_false _ (d.2 i l)) })
    | inr d ↦ inr (omega (arith, d.0), λ i l. leb-false _ _ (T_false _ (d.1 i l)))
  ]

  pub answer_cases : (room : ℕ) → Answered from to file room
  unfolding convert_answer
  answer_cases room = by_form (not_of_form from file) refl where
    by_room : not_of_form from file ≡ false → record_count from file ≤ first_too_long from to file → AllFit from to file → Answered from to file room
    by_room p q fit = elim (less? room (length (converted from to file))) [
      | inl l ↦ short-buffer p fit l (rw (p, le-ltb (first_too_long from to file) (record_count from file) q, lt-ltb room (length (converted from to file)) l))
      | inr l ↦ converts p fit l (rw (p, le-ltb (first_too_long from to file) (record_count from file) q, le-ltb room (length (converted from to file)) l))
    ]

    by_form : (b : Bool) → not_of_form from file ≡ b → Answered from to file room
    by_form true p = not_of_form_lem p (rw p)
    by_form false p = elim long_or-not [
      | inl f ↦ long_seconds p f (rw (p, lt-ltb (first_too_long from to file) (record_count from file) f.within))
      | inr f ↦ by_room p f.0 f.1
    ]

-- ---- the output buffer

module _ (from to : Form) (file out : List ℕ) where
  -- a done conversion leaves the result at the front
  pub done_output : length (converted from to file) ≤ length out → stored out 0 (converted from to file) ≡ converted from to file ++ drop (length (converted from to file)) out
  unfolding stored
  done_output l =
      let z : 0 + length (converted from to file) ≡ length (converted from to file) = omega arith in
      sets-eq (converted from to file) out 0 (omega arith) ∙ rw z

  pub done_result : convert_answer from to file (length out) ≡ 0 → length (converted from to file) ≤ length out → result_of (convert_outcome from to file out) ≡ converted from to file
  unfolding result_of convert_outcome conversion_by done_or
  done_result e l = rw e (ap (take (length (converted from to file))) (done_output l) ∙ take_at (converted from to file) _ _ refl)

-- ---- each key and its seconds, in order

module _ (from to : Form) (file : List ℕ) (bytes : AllBytes file) (right : not_of_form from file ≡ false) (fit : AllFit from to file) where
  abbrev count : ℕ
  count = record_count from file

  is_turned : converted from to file ≡ file_of to (settings_from from file 0 count)
  is_turned = converted-count from to file count refl

  keys : (j : ℕ) → j < count → key_at from file j < 65536
  keys j l = key_fits from file bytes j

  pub converted_settings : settings_in to (converted from to file) ≡ settings_in from file
  unfolding settings_in
  converted_settings = rw is_turned (turned_settings from to file count keys fit)

  converted-key : (j : ℕ) → j < count → key_at to (converted from to file) j ≡ key_at from file j
  converted-key j l = rw is_turned (turned-key from to file count keys fit j l)

  converted-seconds : (j : ℕ) → j < count → seconds_at to (converted from to file) j ≡ seconds_at from file j
  converted-seconds j l = rw is_turned (turned-seconds from to file count keys fit j l)

  converted_records : record_count to (converted from to file) ≡ count
  converted_records = rw is_turned (turned-count from to file count keys fit)

  -- the result is of the other form
  pub converted_form : to.mark < 65536 → not_of_form to (converted from to file) ≡ false
  converted_form small =
      form_records to (converted from to file) (rw is_turned (turned_whole from to file count keys fit)) (rw converted_records (few_records from file right))
      ∙ rw converted_records (any_below-all (wrong_record to (converted from to file)) count right_there)
    where
      mark-there : (j : ℕ) → j < count → mark_at to (converted from to file) j ≡ to.mark
      mark-there j l = rw is_turned (turned-mark from to file count keys fit j l small)

      right_there : (j : ℕ) → j < count → wrong_record to (converted from to file) j ≡ false
      right_there j l = elim (same? j 0) [
        | inl z ↦ record_first to (converted from to file) j (mark-there j l) z
        | inr n ↦ record_later to (converted from to file) j (mark-there j l) n
            ∙ rw (converted-key j l, converted-key (j - 1) (omega arith)) (sym (record_later from file j (right_mark from file right j l) n) ∙ right_record from file right j l)
      ]

  -- and converting it gives the file
  pub converted-back : converted to from (converted from to file) ≡ file
  unfolding converted
  converted-back = ap (file_of from) converted_settings ∙ file-there from file right bytes

  pub converted-fit : AllFit to from (converted from to file)
  converted-fit j l = rw (converted-seconds j (rw converted_records at l)) (seconds-fit from file bytes j)

-- what a done conversion has met
pub done-facts : (from to : Form) (file out : List ℕ) → (convert_outcome from to file out).answer ≡ 0
    → (not_of_form from file ≡ false) × AllFit from to file × (length (converted from to file) ≤ length out)
unfolding convert_outcome conversion_by
done-facts from to file out z = elim (answer_cases from to file (length out)) [
  | not_of_form_lem p e ↦ absurd (omega (arith, z, e))
  | long_seconds p f e ↦ absurd (omega (arith, z, e))
  | short-buffer p f l e ↦ absurd (omega (arith, z, e))
  | converts p f l e ↦ (p, f, l)
]

-- where the four tests pass, this is what a conversion does
pub done-outcome : (from to : Form) (file out : List ℕ) → not_of_form from file ≡ false → AllFit from to file → length (converted from to file) ≤ length out
    → convert_outcome from to file out ≡ conversion_of 0 (stored out 0 (converted from to file)) (length (converted from to file) ∷ 0 ∷ [])
unfolding convert_outcome conversion_by done_or
done-outcome from to file out right fit room = elim (answer_cases from to file (length out)) [
  | not_of_form_lem p e ↦ absurd (true≢false (sym p ∙ right))
  | long_seconds p f e ↦ absurd (omega (arith, f.long, fit (first_too_long from to file) f.within))
  | short-buffer p f l e ↦ absurd (omega arith)
  | converts p f l e ↦ rw e
]
