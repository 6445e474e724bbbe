-- A record is read as it was written, in any form that can hold it, and a file of a form is what its records are written as.
use Rattle.std.specs.Prelude.{◌≡◌, refl, false, not, length, get_or, take, drop, eqb, ltb}
use Rattle.std.proofs.Math.Path.{sym, ap}
use Rattle.std.proofs.Common.{◌∙◌, add-one, pow-suc, mul-div_cancel, length-append, length-drop, take-append-drop, drop_of_length-le, get_or-append-add, take-suc, get_or-drop}
use mathlib.Core.List.{List, [], ◌∷◌, ◌++◌, append_assoc}
use Prim.Native.Nat.{ℕ, zero, suc, ◌+◌, ◌*◌, ◌/◌, ◌%◌, ◌-◌, ◌^◌, ◌<◌, ◌≤◌}
use native.Mathlib.Omega.{arith}
use Rattle.std.proofs.Math.Nat.{mul-mod_left, div-add-mod'}
use Rattle.std.proofs.lemmas.List.{get_or_at}
use Rattle.std.proofs.Math.Seq.{take-add, drop-drop}
use borrow.Author.Tests.{eqb-true, not-false}
use Rattle.rules.specs.Counting.{gather}
use Rattle.counting.specs.Laws.{neither, any_below_each}
use Rattle.laws.specs.Bags.{gather_append}
use Rattle.settings.specs.declared.Form.{Form}
use Rattle.settings.specs.declared.Setting.{Setting}
use Rattle.settings.specs.Files.{setting_of, number_at, number_bytes, record_length, record_place, record_count, mark_at, key_at, seconds_at, wrong_record, not_of_form, settings_from, settings_in, record_bytes, file_of}
use Rattle.settings.specs.Laws.{number_be16, length-bytes, place_start, place_more, place_upto, length-file, length_settings, file-none, file_more}

-- every number of the list is a byte
abbrev pub AllBytes : List ℕ → Type 0
AllBytes l = (i : ℕ) → get_or l i 0 < 256

-- ---- numbers

-- bytes make a number that fits them
pub number_fits : (w : ℕ) (l : List ℕ) (at : ℕ) → AllBytes l → number_at w l at < 256 ^ w
unfolding number_at
number_fits zero l at b = omega arith
number_fits (suc w) l at b = omega (arith, number_fits w l at b, b (at + w), pow-suc 256 w)

-- a number that fits is read as it was written
pub number_there : (w v : ℕ) (l pre post : List ℕ) (at : ℕ) → l ≡ pre ++ (number_bytes w v ++ post) → length pre ≡ at → v < 256 ^ w → number_at w l at ≡ v
unfolding number_at number_bytes
number_there zero v l pre post at e k f = omega arith
number_there (suc w) v l pre post at e k f =
    let front = number_bytes w (v / 256) in
    let is : l ≡ pre ++ (front ++ (v % 256 ∷ post)) = e ∙ ap (λ (m : List ℕ). pre ++ m) (append_assoc front (v % 256 ∷ []) post) in
    let high = number_there w (v / 256) l pre (v % 256 ∷ post) at is k (omega (arith, f, pow-suc 256 w)) in
    let low : get_or l (at + w) 0 ≡ v % 256 =
    rw (is, ← k) (get_or-append-add pre (front ++ (v % 256 ∷ post)) w 0 ∙ get_or_at front (v % 256) post 0 w (length-bytes w (v / 256))) in
    omega (arith, high, low)

-- bytes are what the number that they make is written as
pub bytes-there : (w : ℕ) (l : List ℕ) (at : ℕ) → AllBytes l → at + w ≤ length l → number_bytes w (number_at w l at) ≡ take w (drop at l)
unfolding number_at number_bytes
bytes-there zero l at b h = refl
bytes-there (suc w) l at b h =
    let x = number_at w l at in
    let y = get_or l (at + w) 0 in
    let high : (x * 256 + y) / 256 ≡ x = omega (arith, b (at + w)) in
    let low : (x * 256 + y) % 256 ≡ get_or (drop at l) w 0 = omega (arith, b (at + w), get_or-drop at l w 0) in
    rw (high, low, bytes-there w l at b (omega arith)) (sym (take-suc (drop at l) w 0 (omega (arith, length-drop at l, h))))

-- ---- the record that stands behind some bytes

module _ (form : Form) (s : Setting) (l pre post : List ℕ) (i : ℕ) (is : l ≡ pre ++ (record_bytes form s ++ post)) (there : length pre ≡ record_place form i) where
  abbrev mark : List ℕ
  mark = number_bytes 2 form.mark

  abbrev key : List ℕ
  key = number_bytes 2 s.key

  abbrev seconds : List ℕ
  seconds = number_bytes form.width s.seconds

  at_mark : l ≡ pre ++ (mark ++ ((key ++ seconds) ++ post))
  unfolding record_bytes
  at_mark = is ∙ ap (λ (m : List ℕ). pre ++ m) (append_assoc mark (key ++ seconds) post)

  at_key : l ≡ (pre ++ mark) ++ (key ++ (seconds ++ post))
  at_key = at_mark ∙ sym (append_assoc pre mark ((key ++ seconds) ++ post)) ∙ ap (λ (m : List ℕ). (pre ++ mark) ++ m) (append_assoc key seconds post)

  at-seconds : l ≡ ((pre ++ mark) ++ key) ++ (seconds ++ post)
  at-seconds = at_key ∙ sym (append_assoc (pre ++ mark) key (seconds ++ post))

  past_mark : length (pre ++ mark) ≡ record_place form i + 2
  past_mark = length-append pre mark ∙ omega (arith, there, length-bytes 2 form.mark)

  past_key : length ((pre ++ mark) ++ key) ≡ record_place form i + 4
  past_key = length-append (pre ++ mark) key ∙ omega (arith, past_mark, length-bytes 2 s.key)

  pub mark-there : form.mark < 65536 → mark_at form l i ≡ form.mark
  unfolding mark_at
  mark-there f = sym (number_be16 l (record_place form i)) ∙ number_there 2 form.mark l pre ((key ++ seconds) ++ post) (record_place form i) at_mark there f

  pub key-there : s.key < 65536 → key_at form l i ≡ s.key
  unfolding key_at
  key-there f = sym (number_be16 l (record_place form i + 2)) ∙ number_there 2 s.key l (pre ++ mark) (seconds ++ post) (record_place form i + 2) at_key past_mark f

  pub seconds-there : s.seconds < 256 ^ form.width → seconds_at form l i ≡ s.seconds
  unfolding seconds_at
  seconds-there f = number_there form.width s.seconds l ((pre ++ mark) ++ key) post (record_place form i + 4) at-seconds past_key f

-- ---- the records of a file one by one

abbrev setting_at : Form → List ℕ → ℕ → Setting
setting_at form file i = setting_of (key_at form file i) (seconds_at form file i)

settings_split : (form : Form) (file : List ℕ) (i j m : ℕ) → settings_from form file i (j + suc m) ≡ settings_from form file i j ++ (setting_at form file (i + j) ∷ settings_from form file (suc (i + j)) m)
unfolding settings_from
settings_split form file i zero m =
    let z : 0 + suc m ≡ suc m = omega arith in
    let e : i + 0 ≡ i = omega arith in
    rw (z, e)
settings_split form file i (suc j) m =
    let z : suc j + suc m ≡ suc (j + suc m) = omega arith in
    let e : suc i + j ≡ i + suc j = omega arith in
    rw z (ap (λ (l : List Setting). setting_at form file i ∷ l) (settings_split form file (suc i) j m ∙ rw e))

-- records that are the same one by one are the same list
settings_same : (form other : Form) (file back : List ℕ) (i n : ℕ)
    → ((j : ℕ) → i ≤ j → j < i + n → (key_at form file j ≡ key_at other back j) × (seconds_at form file j ≡ seconds_at other back j))
    → settings_from form file i n ≡ settings_from other back i n
unfolding settings_from
settings_same form other file back i zero same = refl
settings_same form other file back i (suc n) same =
    let w = same i (omega arith) (omega arith) in
    rw (w.0, w.1) (ap (λ (l : List Setting). setting_at other back i ∷ l) (settings_same form other file back (suc i) n (λ j p q. same j (omega arith) (omega arith))))

-- ---- n records of one form, written in another that can hold them

module _ (from to : Form) (file : List ℕ) (n : ℕ) (keys : (j : ℕ) → j < n → key_at from file j < 65536) (fits : (j : ℕ) → j < n → seconds_at from file j < 256 ^ to.width) where
  abbrev turned : List ℕ
  turned = file_of to (settings_from from file 0 n)

  length-turned : length turned ≡ record_place to n
  length-turned = length-file to (settings_from from file 0 n) ∙ ap (record_place to) (length_settings from file 0 n)

  module _ (j : ℕ) (l : j < n) where
    before : List ℕ
    before = file_of to (settings_from from file 0 j)

    after : List ℕ
    after = file_of to (settings_from from file (suc j) (n - suc j))

    turned-parts : turned ≡ before ++ (record_bytes to (setting_at from file j) ++ after)
    unfolding file_of before after gather
    turned-parts =
        let e : n ≡ j + suc (n - suc j) = omega arith in
        let z : 0 + j ≡ j = omega arith in
        ap (λ (k : ℕ). file_of to (settings_from from file 0 k)) e
        ∙ ap (file_of to) (settings_split from file 0 j (n - suc j))
        ∙ gather_append (record_bytes to) (settings_from from file 0 j) _
        ∙ rw z

    length_before : length before ≡ record_place to j
    unfolding before
    length_before = length-file to (settings_from from file 0 j) ∙ ap (record_place to) (length_settings from file 0 j)

    pub turned-mark : to.mark < 65536 → mark_at to turned j ≡ to.mark
    turned-mark f = mark-there to (setting_at from file j) turned before after j turned-parts length_before f

    pub turned-key : key_at to turned j ≡ key_at from file j
    turned-key = key-there to (setting_at from file j) turned before after j turned-parts length_before (keys j l)

    pub turned-seconds : seconds_at to turned j ≡ seconds_at from file j
    turned-seconds = seconds-there to (setting_at from file j) turned before after j turned-parts length_before (fits j l)

  pub turned-count : record_count to turned ≡ n
  unfolding record_count record_place record_length
  turned-count = rw length-turned (mul-div_cancel n {n = 4 + to.width} (omega arith))

  pub turned_whole : length turned % record_length to ≡ 0
  unfolding record_place
  turned_whole = rw length-turned (mul-mod_left n (record_length to))

  -- they are read as the records that they were
  pub turned_settings : settings_in to turned ≡ settings_from from file 0 n
  unfolding settings_in
  turned_settings = rw turned-count (settings_same to from turned file 0 n (λ j p q. (turned-key j (omega arith), turned-seconds j (omega arith))))

-- ---- a file of a form

module _ (form : Form) (file : List ℕ) (is : not_of_form form file ≡ false) where
  pub whole_records : record_place form (record_count form file) ≡ length file
  unfolding not_of_form record_place record_count
  whole_records =
      let w = neither (not (eqb (length file % record_length form) 0)) _ is in
      let z = eqb-true (length file % record_length form) 0 (not-false _ w.0) in
      omega (arith, z, div-add-mod' (length file) (record_length form))

  pub right_record : (i : ℕ) → i < record_count form file → wrong_record form file i ≡ false
  unfolding not_of_form
  right_record i l =
      let w = neither (not (eqb (length file % record_length form) 0)) _ is in
      any_below_each (wrong_record form file) i (record_count form file) l (neither (ltb 512 (record_count form file)) _ w.1).1

  pub right_mark : (i : ℕ) → i < record_count form file → mark_at form file i ≡ form.mark
  unfolding wrong_record
  right_mark i l = eqb-true (mark_at form file i) form.mark (not-false _ (neither (not (eqb (mark_at form file i) form.mark)) _ (right_record i l)).0)

  module _ (bytes : AllBytes file) where
    module _ (i : ℕ) (l : i < record_count form file) (h : record_place form i + record_length form ≤ length file) where
      abbrev p : ℕ
      p = record_place form i

      mark-bytes : number_bytes 2 form.mark ≡ take 2 (drop p file)
      unfolding mark_at record_length
      mark-bytes = ap (number_bytes 2) (sym (right_mark i l) ∙ sym (number_be16 file p)) ∙ bytes-there 2 file p bytes (omega (arith, h))

      key-bytes : number_bytes 2 (key_at form file i) ≡ take 2 (drop (p + 2) file)
      unfolding key_at record_length
      key-bytes = ap (number_bytes 2) (sym (number_be16 file (p + 2))) ∙ bytes-there 2 file (p + 2) bytes (omega (arith, h))

      seconds-bytes : number_bytes form.width (seconds_at form file i) ≡ take form.width (drop (p + 4) file)
      unfolding seconds_at record_length
      seconds-bytes = bytes-there form.width file (p + 4) bytes (omega (arith, h))

      -- a record is written as its bytes
      record_there : record_bytes form (setting_at form file i) ≡ take (record_length form) (drop p file)
      unfolding record_bytes record_length
      record_there =
          let e : 4 + form.width ≡ 2 + (2 + form.width) = omega arith in
          let q : p + 2 + 2 ≡ p + 4 = omega arith in
          rw (mark-bytes, key-bytes, seconds-bytes, e, take-add 2 (2 + form.width) (drop p file), drop-drop 2 p file, take-add 2 form.width (drop (p + 2) file), drop-drop 2 (p + 2) file, q)

    -- the records from i on are the rest of the file
    rest-there : (n i : ℕ) → i + n ≡ record_count form file → file_of form (settings_from form file i n) ≡ drop (record_place form i) file
    unfolding settings_from
    rest-there zero i e =
        let k : i ≡ record_count form file = omega arith in
        file-none form ∙ sym (drop_of_length-le file {i = record_place form i} (omega (arith, whole_records, ap (record_place form) k)))
    rest-there (suc n) i e =
        let room = place_upto form (i + 1) (record_count form file) (omega arith) in
        let next : record_place form (suc i) ≡ record_place form i + record_length form = ap (record_place form) (sym (add-one i)) ∙ place_more form i in
        file_more form (setting_at form file i) (settings_from form file (suc i) n)
        ∙ rw (record_there i (omega arith) (omega (arith, room, whole_records, place_more form i)), rest-there n (suc i) (omega arith), next, ← (drop-drop (record_length form) (record_place form i) file))
        (take-append-drop (record_length form) (drop (record_place form i) file))

    -- and all of them are all of it
    pub file-there : file_of form (settings_in form file) ≡ file
    unfolding settings_in
    file-there = rest-there (record_count form file) 0 (omega arith) ∙ rw (place_start form)
