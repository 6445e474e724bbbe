-- 02, No. 12: the two conversions, as one definition over two forms; refusals in the order 50, 51, 52.
use Rattle.std.specs.Prelude.{ℕ, ◌^◌, Bool, cond, List, [], ◌∷◌, length, get_or, take, eqb, leb, ltb}
use Rattle.endian.specs.Bytes.{stored}
use Rattle.rules.specs.Counting.{◌if◌else◌, least}
use Rattle.rules.specs.Calls.{done_or}
use Rattle.settings.specs.declared.Form.{Form}
use Rattle.settings.specs.Files.{old_form, new_form, record_count, key_at, seconds_at, not_of_form, settings_in, file_of}

-- all that a conversion settles: its answer, the output buffer, and the fields (the bytes written, and with 51 the key)
pub record Conversion : Type 0 where
  pub answer : ℕ
  pub output : List ℕ
  pub fields : List ℕ

-- its fields in one line
abbrev pub conversion_of : ℕ → List ℕ → List ℕ → Conversion
conversion_of answer output fields = record { answer = answer; output = output; fields = fields }

-- record i has more seconds than the form `to` can hold
unfoldable pub too_long : Form → Form → List ℕ → ℕ → Bool
too_long from to file i = leb (256 ^ to.width) (seconds_at from file i)

-- the first such record, or the number of records
unfoldable pub first_too_long : Form → Form → List ℕ → ℕ
first_too_long from to file = least (too_long from to file) (record_count from file)

-- the same records in the other form
unfoldable pub converted : Form → Form → List ℕ → List ℕ
converted from to file = file_of to (settings_in from file)

-- not of the form asked: 50; seconds that do not fit: 51; the output buffer is too short: 52
unfoldable pub convert_answer : Form → Form → List ℕ → ℕ → ℕ
convert_answer from to file room =
    50 if not_of_form from file
    else 51 if ltb (first_too_long from to file) (record_count from file)
    else 52 if ltb room (length (converted from to file))
    else 0

-- a refusal leaves the output buffer, a done conversion the result at its front
unfoldable pub conversion_by : ℕ → List ℕ → ℕ → List ℕ → Conversion
conversion_by answer result key out =
    conversion_of answer (done_or answer (stored out 0 result) out) (done_or answer (length result) 0 ∷ cond (eqb answer 51) key 0 ∷ [])

-- Convert: from one form to the other, for every file and every output buffer
unfoldable pub convert_outcome : Form → Form → List ℕ → List ℕ → Conversion
convert_outcome from to file out =
    conversion_by (convert_answer from to file (length out)) (converted from to file) (key_at from file (first_too_long from to file)) out

-- Widen: old records become new ones
abbrev pub widen_outcome : List ℕ → List ℕ → Conversion
widen_outcome file out = convert_outcome old_form new_form file out

-- Narrow: new records become old ones
abbrev pub narrow_outcome : List ℕ → List ℕ → Conversion
narrow_outcome file out = convert_outcome new_form old_form file out

-- the bytes that a done conversion wrote
unfoldable pub result_of : Conversion → List ℕ
result_of c = take (get_or c.fields 0 0) c.output
