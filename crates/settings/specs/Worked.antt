-- Conversions that the checker computes: 65,535 s goes both ways, 65,536 s does not go back, and each refusal in its order.
use Rattle.std.specs.Prelude.{ℕ, ◌≡◌, refl, List, [], ◌∷◌, ◌++◌, map, replicate}
use Rattle.endian.specs.Bytes.{be16, stored}
use Rattle.rules.specs.Counting.{any_below, least, gather}
use Rattle.rules.specs.Calls.{done_or}
use Rattle.settings.specs.Files.{number_at, number_bytes, record_length, record_place, record_count, mark_at, key_at, seconds_at, wrong_record, not_of_form, settings_from, settings_in, record_bytes, file_of}
use Rattle.settings.specs.Conversions.{Conversion, conversion_of, too_long, first_too_long, converted, convert_answer, conversion_by, convert_outcome, widen_outcome, narrow_outcome}

-- key 7 with 65,535 s, in the old form and in the new one
abbrev short : List ℕ
short = 0x53 ∷ 0x31 ∷ 0 ∷ 7 ∷ 255 ∷ 255 ∷ []

abbrev same : List ℕ
same = 0x53 ∷ 0x32 ∷ 0 ∷ 7 ∷ 0 ∷ 0 ∷ 255 ∷ 255 ∷ []

-- and with it keys 9 and 258, both with 65,536 s
abbrev longer : List ℕ
longer = same ++ (0x53 ∷ 0x32 ∷ 0 ∷ 9 ∷ 0 ∷ 1 ∷ 0 ∷ 0 ∷ 0x53 ∷ 0x32 ∷ 1 ∷ 2 ∷ 0 ∷ 1 ∷ 0 ∷ 0 ∷ [])

-- an output buffer of n bytes that all hold 165
abbrev buffer : ℕ → List ℕ
buffer n = replicate n 165

-- a row: what the definitions give, and what is stated
pub record Row : Type 0 where
  pub given : Conversion
  pub stated : Conversion

abbrev row : Conversion → ℕ → List ℕ → ℕ → ℕ → Row
row given answer output written key = record { given = given; stated = conversion_of answer output (written ∷ key ∷ []) }

-- the rows, by the definitions
abbrev pub rows : List Row
rows =
    -- there and back, with a byte of the buffer past the result
    row (widen_outcome short (buffer 9)) 0 (same ++ buffer 1) 8 0
    ∷ row (narrow_outcome same (buffer 7)) 0 (short ++ buffer 1) 6 0
    -- the file without records has either form
    ∷ row (widen_outcome [] (buffer 2)) 0 (buffer 2) 0 0
    ∷ row (narrow_outcome [] []) 0 [] 0 0
    -- 50: the other form, a part of a record, a key that repeats, keys that fall
    ∷ row (widen_outcome same (buffer 8)) 50 (buffer 8) 0 0
    ∷ row (widen_outcome (short ++ (0x53 ∷ [])) (buffer 8)) 50 (buffer 8) 0 0
    ∷ row (widen_outcome (short ++ short) (buffer 16)) 50 (buffer 16) 0 0
    ∷ row (narrow_outcome (longer ++ same) (buffer 24)) 50 (buffer 24) 0 0
    -- 51 names the first key, and comes before 52
    ∷ row (narrow_outcome longer (buffer 18)) 51 (buffer 18) 0 9
    ∷ row (narrow_outcome longer []) 51 [] 0 9
    -- 52: a byte is missing
    ∷ row (widen_outcome short (buffer 7)) 52 (buffer 7) 0 0
    ∷ row (narrow_outcome same (buffer 5)) 52 (buffer 5) 0 0
    ∷ []

-- they give what is stated
pub worked_conversions : map (λ r. r.given) rows ≡ map (λ r. r.stated) rows
unfolding number_at number_bytes record_length record_place record_count mark_at key_at seconds_at wrong_record not_of_form settings_from settings_in record_bytes file_of too_long first_too_long converted convert_answer conversion_by convert_outcome be16 stored any_below least gather done_or
worked_conversions = refl
