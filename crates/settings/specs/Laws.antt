-- Laws of the definitions: numbers of any width, the places and lengths of records, the first record that is too long, and the four ways out of a conversion.
use Rattle.std.specs.Prelude.{◌≡◌, refl, true, false, not, ℕ, zero, suc, ◌+◌, ◌*◌, ◌/◌, ◌%◌, ◌-◌, ◌^◌, ◌<◌, ◌≤◌, length, get_or, set, eqb, leb, ltb}
use Rattle.std.proofs.Math.Path.{sym, ap}
use Rattle.std.proofs.Common.{◌∙◌, inl, inr, arith, add-one, pow-suc, mul-le-mul, mul-le-mul_right, add-mul, length-append}
use mathlib.Core.List.{List, [], ◌∷◌, ◌++◌}
use Rattle.std.proofs.Math.Nat.{pow-le-pow_right}
use Rattle.std.proofs.lemmas.List.{set_comm}
use borrow.Author.Tests.{ltb-false, lt-ltb, le-ltb, le-leb, lt-leb, eq-eqb, ne_eqb}
use Rattle.endian.specs.Bytes.{be16, be32, stored}
use Rattle.endian.proofs.Laws.{same?, run_on, stored-none}
use Rattle.rules.specs.Counting.{any_below, least, gather}
use Rattle.rules.specs.Calls.{done_or}
use Rattle.counting.specs.Laws.{neither}
use Rattle.laws.specs.Sums.{least-found, least-none}
use Rattle.settings.specs.declared.Form.{Form}
use Rattle.settings.specs.declared.Setting.{Setting}
use Rattle.settings.specs.Files.{setting_of, number_at, number_bytes, record_length, record_place, record_count, mark_at, key_at, seconds_at, wrong_record, not_of_form, settings_from, settings_in, record_bytes, file_of}
use Rattle.settings.specs.Conversions.{conversion_of, too_long, first_too_long, converted, convert_answer, conversion_by, convert_outcome}

-- ---- numbers of any width

pub power_more : (w : ℕ) → 256 ^ (w + 1) ≡ 256 ^ w * 256
power_more w = rw (add-one w) (pow-suc 256 w)

pub power_small : (w : ℕ) → w ≤ 4 → 256 ^ w ≤ 4294967296
power_small w l = pow-le-pow_right {n = 256} (omega arith) l

pub number_none : (bytes : List ℕ) (at : ℕ) → number_at 0 bytes at ≡ 0
unfolding number_at
number_none bytes at = refl

pub number_more : (w : ℕ) (bytes : List ℕ) (at : ℕ) → number_at (w + 1) bytes at ≡ number_at w bytes at * 256 + get_or bytes (at + w) 0
unfolding number_at
number_more w bytes at = rw (add-one w)

-- the numbers of two bytes are those of 01
pub number_be16 : (bytes : List ℕ) (at : ℕ) → number_at 2 bytes at ≡ be16 bytes at
unfolding number_at be16
number_be16 bytes at = let e : at + 0 ≡ at = omega arith in rw e (omega arith)

-- and so are those of four
pub number_be32 : (bytes : List ℕ) (at : ℕ) → number_at 4 bytes at ≡ be32 bytes at
unfolding number_at be32 be16
number_be32 bytes at =
    let e : at + 0 ≡ at = omega arith in
    let f : at + 2 + 1 ≡ at + 3 = omega arith in
    rw (e, f) (omega arith)

pub bytes-none : (v : ℕ) → number_bytes 0 v ≡ []
unfolding number_bytes
bytes-none v = refl

pub bytes_more : (w v : ℕ) → number_bytes (w + 1) v ≡ number_bytes w (v / 256) ++ (v % 256 ∷ [])
unfolding number_bytes
bytes_more w v = rw (add-one w)

pub length-bytes : (w v : ℕ) → length (number_bytes w v) ≡ w
unfolding number_bytes
length-bytes zero v = refl
length-bytes (suc w) v = length-append (number_bytes w (v / 256)) (v % 256 ∷ []) ∙ omega (arith, length-bytes w (v / 256))

-- ---- stores from the last byte back

-- the last byte of a run may be stored first
stored_last : (l : List ℕ) (at : ℕ) (s : List ℕ) (v : ℕ) → stored l at (s ++ (v ∷ [])) ≡ stored (set l (at + length s) v) at s
unfolding stored
stored_last l at [] v = let e : at + 0 ≡ at = omega arith in rw e
stored_last l at (x ∷ s) v =
    let e : suc at + length s ≡ at + suc (length s) = omega arith in
    stored_last (set l at x) (suc at) s v ∙ rw (e, set_comm l at (at + suc (length s)) x v (λ p. omega arith))

-- a number's last byte, then the others
pub number_step : (l : List ℕ) (at w left v : ℕ) → left ≡ w + 1 → stored l at (number_bytes left v) ≡ stored (set l (at + w) (v % 256)) at (number_bytes w (v / 256))
number_step l at w left v e =
    rw (e, bytes_more w v) (stored_last l at (number_bytes w (v / 256)) (v % 256) ∙ rw (length-bytes w (v / 256)))

-- ---- places and lengths

pub place_start : (form : Form) → record_place form 0 ≡ 0
unfolding record_place
place_start form = omega arith

pub place_more : (form : Form) (i : ℕ) → record_place form (i + 1) ≡ record_place form i + record_length form
unfolding record_place
place_more form i = add-mul i 1 (record_length form) ∙ omega arith

pub place_upto : (form : Form) (i n : ℕ) → i ≤ n → record_place form i ≤ record_place form n
unfolding record_place
place_upto form i n l = mul-le-mul_right (record_length form) l

pub place_small : (form : Form) (i : ℕ) → form.width ≤ 4 → i ≤ 512 → record_place form i ≤ 4096
unfolding record_place record_length
place_small form i w l = mul-le-mul {n₁ = i} {m₁ = 4 + form.width} {n₂ = 512} {m₂ = 8} l (omega arith)

pub length_record : (form : Form) (s : Setting) → length (record_bytes form s) ≡ record_length form
unfolding record_bytes record_length
length_record form s =
    let a = number_bytes 2 form.mark in
    let b = number_bytes 2 s.key in
    let d = number_bytes form.width s.seconds in
    omega (arith, length-append a (b ++ d), length-append b d, length-bytes 2 form.mark, length-bytes 2 s.key, length-bytes form.width s.seconds)

pub length_settings : (form : Form) (file : List ℕ) (i n : ℕ) → length (settings_from form file i n) ≡ n
unfolding settings_from
length_settings form file i zero = refl
length_settings form file i (suc n) = ap suc (length_settings form file (suc i) n)

pub file-none : (form : Form) → file_of form [] ≡ []
unfolding file_of gather
file-none form = refl

pub file_more : (form : Form) (s : Setting) (l : List Setting) → file_of form (s ∷ l) ≡ record_bytes form s ++ file_of form l
unfolding file_of gather
file_more form s l = refl

pub length-file : (form : Form) (l : List Setting) → length (file_of form l) ≡ record_place form (length l)
length-file form [] = rw (file-none form) (sym (place_start form))
length-file form (s ∷ l) =
    ap length (file_more form s l)
    ∙ length-append (record_bytes form s) (file_of form l)
    ∙ omega (arith, length_record form s, length-file form l, place_more form (length l), ap (record_place form) (add-one (length l)))

pub length-converted : (from to : Form) (file : List ℕ) → length (converted from to file) ≡ record_place to (record_count from file)
unfolding converted settings_in
length-converted from to file = length-file to _ ∙ ap (record_place to) (length_settings from file 0 (record_count from file))

pub converted-count : (from to : Form) (file : List ℕ) (n : ℕ) → n ≡ record_count from file → converted from to file ≡ file_of to (settings_from from file 0 n)
unfolding converted settings_in
converted-count from to file n e = rw e

-- ---- what 50 tests

module _ (form : Form) (file : List ℕ) where
  pub record_mark : (i : ℕ) → (mark_at form file i ≡ form.mark → ⊥) → wrong_record form file i ≡ true
  unfolding wrong_record
  record_mark i n = rw (ne_eqb (mark_at form file i) form.mark n)

  pub record_first : (i : ℕ) → mark_at form file i ≡ form.mark → i ≡ 0 → wrong_record form file i ≡ false
  unfolding wrong_record
  record_first i e z = rw (eq-eqb (mark_at form file i) form.mark e, eq-eqb i 0 z)

  pub record_later : (i : ℕ) → mark_at form file i ≡ form.mark → (i ≡ 0 → ⊥) → wrong_record form file i ≡ leb (key_at form file i) (key_at form file (i - 1))
  unfolding wrong_record
  record_later i e n = rw (eq-eqb (mark_at form file i) form.mark e, ne_eqb i 0 n)

  pub form_part : (length file % record_length form ≡ 0 → ⊥) → not_of_form form file ≡ true
  unfolding not_of_form
  form_part n = rw (ne_eqb (length file % record_length form) 0 n)

  pub form_many : length file % record_length form ≡ 0 → 512 < record_count form file → not_of_form form file ≡ true
  unfolding not_of_form
  form_many e l = rw (eq-eqb (length file % record_length form) 0 e, lt-ltb 512 (record_count form file) l)

  pub form_records : length file % record_length form ≡ 0 → record_count form file ≤ 512 → not_of_form form file ≡ any_below (wrong_record form file) (record_count form file)
  unfolding not_of_form
  form_records e l = rw (eq-eqb (length file % record_length form) 0 e, le-ltb 512 (record_count form file) l)

  pub few_records : not_of_form form file ≡ false → record_count form file ≤ 512
  unfolding not_of_form
  few_records e =
      let w = neither (not (eqb (length file % record_length form) 0)) _ e in
      ltb-false 512 (record_count form file) (neither (ltb 512 (record_count form file)) _ w.1).0

-- ---- the records stored one after the other

pub records_none : (from to : Form) (file out : List ℕ) (at i : ℕ) → stored out at (file_of to (settings_from from file i 0)) ≡ out
unfolding settings_from
records_none from to file out at i = rw (file-none to) (stored-none out at)

pub records_step : (from to : Form) (file out : List ℕ) (i m n : ℕ) → n ≡ m + 1
    → stored out (record_place to i) (file_of to (settings_from from file i n))
    ≡ stored (stored out (record_place to i) (record_bytes to (setting_of (key_at from file i) (seconds_at from file i)))) (record_place to (i + 1)) (file_of to (settings_from from file (i + 1) m))
unfolding settings_from
records_step from to file out i m n e =
    let s = setting_of (key_at from file i) (seconds_at from file i) in
    rw (e, add-one m, add-one i, file_more to s (settings_from from file (suc i) m))
    (sym (run_on out (record_place to i) (record_bytes to s) _ refl (record_place to (suc i)) (file_of to (settings_from from file (suc i) m))
    (omega (arith, length_record to s, place_more to i, ap (record_place to) (add-one i)))))

-- mark, key and seconds stored one after the other are the record stored
pub record_stored : (form : Form) (s : Setting) (at : ℕ) (l l₁ l₂ l₃ : List ℕ) → l₁ ≡ stored l at (number_bytes 2 form.mark) → l₂ ≡ stored l₁ (at + 2) (number_bytes 2 s.key)
    → l₃ ≡ stored l₂ (at + 4) (number_bytes form.width s.seconds) → l₃ ≡ stored l at (record_bytes form s)
unfolding record_bytes
record_stored form s at l l₁ l₂ l₃ p q r =
    r
    ∙ run_on l₁ (at + 2) (number_bytes 2 s.key) l₂ q (at + 4) _ (omega (arith, length-bytes 2 s.key))
    ∙ run_on l at (number_bytes 2 form.mark) l₁ p (at + 2) _ (omega (arith, length-bytes 2 form.mark))

-- ---- the first record that is too long

module _ (from to : Form) (file : List ℕ) (past : ℕ) (is : past ≡ 256 ^ to.width) where
  -- none of the first i records is
  abbrev pub NoneLong : ℕ → Type 0
  NoneLong i = (j : ℕ) → j < i → leb past (seconds_at from file j) ≡ false

  pub long_found : (i n v : ℕ) → i < n → NoneLong i → v ≡ seconds_at from file i → past ≤ v → i ≡ least (too_long from to file) n
  unfolding too_long
  long_found i n v l none e m = sym (least-found _ i n l (rw is at none) (le-leb (256 ^ to.width) (seconds_at from file i) (omega (arith, is, e, m))))

  pub long_none : (i n : ℕ) → i ≡ n → NoneLong i → n ≡ least (too_long from to file) n
  unfolding too_long
  long_none i n e none = sym (least-none _ n (rw (is, e) at none))

  pub none_long : (i v : ℕ) → NoneLong i → v ≡ seconds_at from file i → v < past → NoneLong (i + 1)
  none_long i v none e m j l = elim (same? j i) [
    | inl p ↦ rw p (lt-leb past (seconds_at from file i) (omega (arith, e, m)))
    | inr p ↦ none j (omega arith)
  ]

-- ---- the four ways out

module _ (from to : Form) (file out : List ℕ) where
  pub convert_50 : not_of_form from file ≡ true → conversion_of 50 out (0 ∷ 0 ∷ []) ≡ convert_outcome from to file out
  unfolding convert_outcome convert_answer conversion_by done_or
  convert_50 e = rw e

  -- a file of the form, its n records, and the first one that is too long
  module _ (is : not_of_form from file ≡ false) (n long : ℕ) (count : n ≡ record_count from file) (first : long ≡ least (too_long from to file) n) where
    first_long : first_too_long from to file ≡ long
    unfolding first_too_long
    first_long = rw (first, count)

    pub convert_51 : (key : ℕ) → long < n → key ≡ key_at from file long → conversion_of 51 out (0 ∷ key ∷ []) ≡ convert_outcome from to file out
    unfolding convert_outcome convert_answer conversion_by done_or
    convert_51 key l k = rw (is, first_long, ← count, lt-ltb long n l, k)

    module _ (fit : n ≤ long) (len : ℕ) (long_enough : len ≡ record_place to n) where
      pub convert_52 : length out < len → conversion_of 52 out (0 ∷ 0 ∷ []) ≡ convert_outcome from to file out
      unfolding convert_outcome convert_answer conversion_by done_or
      convert_52 l = rw (is, first_long, length-converted from to file, ← count, le-ltb long n fit, ← long_enough, lt-ltb (length out) len l)

      pub convert_done : (left : List ℕ) → len ≤ length out → left ≡ stored out 0 (file_of to (settings_from from file 0 n)) → conversion_of 0 left (len ∷ 0 ∷ []) ≡ convert_outcome from to file out
      unfolding convert_outcome convert_answer conversion_by done_or
      convert_done left l e =
          let r : stored out 0 (converted from to file) ≡ left = stored-converted ∙ sym e in
          rw (is, first_long, length-converted from to file, ← count, le-ltb long n fit, ← long_enough, le-ltb (length out) len l, r)
        where
          stored-converted : stored out 0 (converted from to file) ≡ stored out 0 (file_of to (settings_from from file 0 n))
          stored-converted = ap (λ (l : List ℕ). stored out 0 l) (converted-count from to file n count)
