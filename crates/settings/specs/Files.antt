-- 02, No. 12: settings files. A form says how a record is stored: the mark that begins it, and how many bytes its seconds have.
use Rattle.std.specs.Prelude.{ℕ, zero, suc, ◌+◌, ◌*◌, ◌/◌, ◌%◌, ◌-◌, Bool, not, ◌&&◌, ◌||◌, List, [], ◌∷◌, ◌++◌, length, get_or, eqb, leb, ltb}
use Rattle.endian.specs.Bytes.{be16}
use Rattle.rules.specs.Counting.{any_below, gather}
use Rattle.settings.specs.declared.Form.{Form}
use Rattle.settings.specs.declared.Setting.{Setting}

-- a form by its fields
abbrev pub form_of : ℕ → ℕ → Form
form_of mark width = record { mark = mark; width = width }

-- old records: the mark `S1`, two bytes of seconds
abbrev pub old_form : Form
old_form = form_of 0x5331 2

-- new records: the mark `S2`, four bytes of seconds
abbrev pub new_form : Form
new_form = form_of 0x5332 4

-- a key with its seconds
abbrev pub setting_of : ℕ → ℕ → Setting
setting_of key seconds = record { key = key; seconds = seconds }

-- 01, "What the box handles": numbers are big-endian and unsigned. The `width` bytes at `at`.
unfoldable pub number_at : ℕ → List ℕ → ℕ → ℕ
number_at zero bytes at = 0
number_at (suc width) bytes at = number_at width bytes at * 256 + get_or bytes (at + width) 0

-- the `width` bytes of a number
unfoldable pub number_bytes : ℕ → ℕ → List ℕ
number_bytes zero v = []
number_bytes (suc width) v = number_bytes width (v / 256) ++ (v % 256 ∷ [])

-- the bytes of a record: two of mark, two of key, then its seconds
unfoldable pub record_length : Form → ℕ
record_length form = 4 + form.width

-- where record i begins, from 0
unfoldable pub record_place : Form → ℕ → ℕ
record_place form i = i * record_length form

-- how many whole records the file has
unfoldable pub record_count : Form → List ℕ → ℕ
record_count form file = length file / record_length form

-- the mark of record i
unfoldable pub mark_at : Form → List ℕ → ℕ → ℕ
mark_at form file i = be16 file (record_place form i)

-- its key
unfoldable pub key_at : Form → List ℕ → ℕ → ℕ
key_at form file i = be16 file (record_place form i + 2)

-- its seconds
unfoldable pub seconds_at : Form → List ℕ → ℕ → ℕ
seconds_at form file i = number_at form.width file (record_place form i + 4)

-- record i has the wrong mark, or a key that is not above the one before it
unfoldable pub wrong_record : Form → List ℕ → ℕ → Bool
wrong_record form file i = not (eqb (mark_at form file i) form.mark) || (not (eqb i 0) && leb (key_at form file i) (key_at form file (i - 1)))

-- 50: a part of a record at the end, more than 512 records, or a wrong record
unfoldable pub not_of_form : Form → List ℕ → Bool
not_of_form form file =
    not (eqb (length file % record_length form) 0)
    || (ltb 512 (record_count form file)
    || any_below (wrong_record form file) (record_count form file))

-- `n` records from record i on, in order
unfoldable pub settings_from : Form → List ℕ → ℕ → ℕ → List Setting
settings_from form file i zero = []
settings_from form file i (suc n) = setting_of (key_at form file i) (seconds_at form file i) ∷ settings_from form file (suc i) n

-- the records of a file, in order
unfoldable pub settings_in : Form → List ℕ → List Setting
settings_in form file = settings_from form file 0 (record_count form file)

-- the bytes of a record
unfoldable pub record_bytes : Form → Setting → List ℕ
record_bytes form s = number_bytes 2 form.mark ++ (number_bytes 2 s.key ++ number_bytes form.width s.seconds)

-- the file of some records
unfoldable pub file_of : Form → List Setting → List ℕ
file_of form settings = gather (record_bytes form) settings
