-- 02, No. 12: the theorems. The result has the file's records in the other form; one conversion undoes the other; 51 comes just where seconds do not fit.
use Rattle.std.specs.Prelude.{◌≡◌, false, ◌≢◌, ◌↔◌, List, [], ◌∷◌, length, get_or, drop}
use Rattle.std.proofs.Math.Path.{refl}
use Rattle.std.proofs.Common.{sym, ap, ◌∙◌, true≢false, inl, inr, arith, leb-false}
use Prim.Native.Nat.{ℕ, zero, suc, ◌-◌, ◌<◌, ◌≤◌}
use Rattle.std.proofs.Math.Seq.{drop_at}
use Rattle.endian.specs.Bytes.{stored}
use Rattle.endian.proofs.Laws.{same?}
use Rattle.rules.specs.Counting.{any_below}
use Rattle.rules.specs.Calls.{done_or}
use Rattle.settings.specs.declared.Form.{Form}
use Rattle.settings.specs.Files.{old_form, new_form, record_length, record_place, record_count, key_at, seconds_at, not_of_form, settings_in}
use Rattle.settings.specs.Conversions.{Conversion, conversion_of, first_too_long, converted, convert_answer, conversion_by, convert_outcome, widen_outcome, narrow_outcome, result_of}
use Rattle.settings.specs.Laws.{length-converted, record_later}
use Rattle.settings_laws.specs.Records.{AllBytes, right_record, right_mark}
use Rattle.settings_laws.specs.Converted.{not_of_form_lem, long_seconds, short-buffer, converts, answer_cases, old-fits, done_output, done_result, converted_settings, converted_form, converted-back, converted-fit, done-facts, done-outcome}

-- The records of the result are those of the file, key by key and second by second, in the same order,
pub settings_kept : (from to : Form) (file out : List ℕ) → AllBytes file → (convert_outcome from to file out).answer ≡ 0
    → settings_in to (result_of (convert_outcome from to file out)) ≡ settings_in from file
unfolding convert_outcome conversion_by
settings_kept from to file out bytes z =
    let d = done-facts from to file out z in
    ap (settings_in to) (done_result from to file out z d.2) ∙ converted_settings from to file bytes d.0 d.1

-- and it is a file of the other form.
pub form_kept : (from to : Form) (file out : List ℕ) → to.mark < 65536 → AllBytes file → (convert_outcome from to file out).answer ≡ 0
    → not_of_form to (result_of (convert_outcome from to file out)) ≡ false
unfolding convert_outcome conversion_by
form_kept from to file out small bytes z =
    let d = done-facts from to file out z in
    ap (not_of_form to) (done_result from to file out z d.2) ∙ converted_form from to file bytes d.0 d.1 small

-- A conversion that is done can be undone: with room, the other one gives the same bytes.
pub there_and_back : (from to : Form) (file out back : List ℕ) → to.mark < 65536 → AllBytes file → (convert_outcome from to file out).answer ≡ 0 → length file ≤ length back
    → convert_outcome to from (result_of (convert_outcome from to file out)) back ≡ conversion_of 0 (stored back 0 file) (length file ∷ 0 ∷ [])
unfolding convert_outcome conversion_by
there_and_back from to file out back small bytes z room =
    let d = done-facts from to file out z in
    let again = converted-back from to file bytes d.0 d.1 in
    ap (λ (l : List ℕ). convert_outcome to from l back) (done_result from to file out z d.2)
    ∙ done-outcome to from (converted from to file) back (converted_form from to file bytes d.0 d.1 small) (converted-fit from to file bytes d.0 d.1) (rw again room)
    ∙ rw again

-- Any file of old records, widened with room for as many new ones, narrows to the bytes that it was.
pub widen_narrow : (file out back : List ℕ) → AllBytes file → not_of_form old_form file ≡ false → record_place new_form (record_count old_form file) ≤ length out → length file ≤ length back
    → ((widen_outcome file out).answer ≡ 0) × (narrow_outcome (result_of (widen_outcome file out)) back ≡ conversion_of 0 (stored back 0 file) (length file ∷ 0 ∷ []))
widen_narrow file out back bytes right room back-room =
    let z = ap (λ (c : Conversion). c.answer) (done-outcome old_form new_form file out right (old-fits file bytes) (rw (length-converted old_form new_form file) room)) in
    (z, there_and_back old_form new_form file out back (omega arith) bytes z back-room)

-- A file of new records that could be narrowed widens to the bytes that it was.
pub narrow_widen : (file out back : List ℕ) → AllBytes file → (narrow_outcome file out).answer ≡ 0 → length file ≤ length back
    → widen_outcome (result_of (narrow_outcome file out)) back ≡ conversion_of 0 (stored back 0 file) (length file ∷ 0 ∷ [])
narrow_widen file out back bytes z room = there_and_back new_form old_form file out back (omega arith) bytes z room

-- ---- 51

-- some record of a file has seconds above 65,535
pub record SomeAbove (file : List ℕ) : Type 0 where
  pub place : ℕ
  pub within : place < record_count new_form file
  pub above : 65535 < seconds_at new_form file place

-- Narrow answers 51 for those files of new records in which two bytes are too few somewhere, and for no other input;
pub narrow_51_exactly : (file out : List ℕ) → ((narrow_outcome file out).answer ≡ 51) ↔ ((not_of_form new_form file ≡ false) × SomeAbove file)
unfolding convert_outcome conversion_by
narrow_51_exactly file out = elim (answer_cases new_form old_form file (length out)) [
  | not_of_form_lem p e ↦ (λ z. absurd (omega (arith, z, e)), λ w. absurd (true≢false (sym p ∙ w.0)))
  | long_seconds p f e ↦ (λ z. (p, record { place = first_too_long new_form old_form file; within = f.within; above = omega (arith, f.long) }), λ w. e)
  | short-buffer p f l e ↦ (λ z. absurd (omega (arith, z, e)), λ w. absurd (omega (arith, w.1.above, f w.1.place w.1.within)))
  | converts p f l e ↦ (λ z. absurd (omega (arith, z, e)), λ w. absurd (omega (arith, w.1.above, f w.1.place w.1.within)))
]

-- the first such record, and its key
pub record FirstAbove (file : List ℕ) (key : ℕ) : Type 0 where
  pub place : ℕ
  pub within : place < record_count new_form file
  pub above : 65535 < seconds_at new_form file place
  pub earlier : (i : ℕ) → i < place → seconds_at new_form file i ≤ 65535
  pub is_key : key ≡ key_at new_form file place

-- the key it tells is the first one's;
pub narrow_51-key : (file out : List ℕ) → (narrow_outcome file out).answer ≡ 51 → FirstAbove file (get_or (narrow_outcome file out).fields 1 0)
unfolding convert_outcome conversion_by
narrow_51-key file out z = elim (answer_cases new_form old_form file (length out)) [
  | not_of_form_lem p e ↦ absurd (omega (arith, z, e))
  | long_seconds p f e ↦ record {
    place = first_too_long new_form old_form file;
    within = f.within;
    above = omega (arith, f.long);
    earlier = λ i l. omega (arith, f.earlier i l);
    is_key = rw e;
  }
  | short-buffer p f l e ↦ absurd (omega (arith, z, e))
  | converts p f l e ↦ absurd (omega (arith, z, e))
]

-- widen never answers 51.
pub widen_never_51 : (file out : List ℕ) → AllBytes file → (widen_outcome file out).answer ≢ 51
unfolding convert_outcome conversion_by
widen_never_51 file out bytes z = elim (answer_cases old_form new_form file (length out)) [
  | not_of_form_lem p e ↦ omega (arith, z, e)
  | long_seconds p f e ↦ omega (arith, f.long, old-fits file bytes (first_too_long old_form new_form file) f.within)
  | short-buffer p f l e ↦ omega (arith, z, e)
  | converts p f l e ↦ omega (arith, z, e)
]

-- ---- the output buffer

module _ (from to : Form) (file out : List ℕ) where
  -- A refused conversion leaves the buffer as it was,
  pub refusal_leaves : (convert_outcome from to file out).answer ≢ 0 → (convert_outcome from to file out).output ≡ out
  unfolding convert_outcome conversion_by done_or
  refusal_leaves n = go (convert_answer from to file (length out)) n where
    go : (k : ℕ) → k ≢ 0 → done_or k (stored out 0 (converted from to file)) out ≡ out
    go zero m = absurd (m refl)
    go (suc k) m = refl

  -- and none reaches past its result.
  pub past_kept : drop (get_or (convert_outcome from to file out).fields 0 0) (convert_outcome from to file out).output ≡ drop (get_or (convert_outcome from to file out).fields 0 0) out
  unfolding convert_outcome conversion_by done_or
  past_kept = elim (answer_cases from to file (length out)) [
    | not_of_form_lem p e ↦ rw e
    | long_seconds p f e ↦ rw e
    | short-buffer p f l e ↦ rw e
    | converts p f l e ↦ rw e (ap (drop (length (converted from to file))) (done_output from to file out l) ∙ drop_at (converted from to file) _ _ refl)
  ]

-- ---- files

-- The keys of a file rise strictly: each is above all that come before it.
pub keys_rise : (form : Form) (file : List ℕ) → not_of_form form file ≡ false → (i j : ℕ) → i < j → j < record_count form file → key_at form file i < key_at form file j
keys_rise form file is i zero l m = absurd (omega arith)
keys_rise form file is i (suc k) l m =
    let e : suc k - 1 ≡ k = omega arith in
    let above = leb-false (key_at form file (suc k)) (key_at form file (suc k - 1)) (sym (record_later form file (suc k) (right_mark form file is (suc k) m) (λ z. omega arith)) ∙ right_record form file is (suc k) m) in
    let step : key_at form file k < key_at form file (suc k) = rw e at above in
    elim (same? i k) [ inl p ↦ rw p step | inr p ↦ omega (arith, keys_rise form file is i k (omega arith) (omega arith), step) ]

-- The file without records has either form.
pub empty_both : (not_of_form old_form [] ≡ false) × (not_of_form new_form [] ≡ false)
unfolding not_of_form record_count record_length any_below
empty_both = (refl, refl)
