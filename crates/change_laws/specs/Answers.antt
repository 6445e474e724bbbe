-- What the check answers for an accepted image lent other tables; each call's own refusals, row by row, what a 0 says, and that they come after the damage numbers.
use Rattle.std.specs.Prelude.{ℕ, zero, suc, ◌+◌, ◌≤◌, ◌≡◌, ◌⊎◌, Bool, not, List}
use Rattle.std.proofs.Math.Path.{refl}
use Rattle.std.proofs.Common.{sym, ap, ◌∙◌, true≢false, arith, le-ltb, ltb-false}
use Rattle.std.proofs.Math.Logic.{inl, inr}
use Rattle.std.proofs.Math.Bool.{true, false}
use Rattle.std.proofs.Math.Option.{Option, none, some}
use Rattle.rules.specs.Counting.{◌if◌else◌, first_of}
use Rattle.rules.specs.Anodes.{Anodes, limit}
use Rattle.rules.specs.Walk.{Entered}
use Rattle.rules.specs.Accepted.{disk_size, short_tables, check_answer, PastDamage}
use Rattle.rules.specs.Lookup.{no_directory, entry_named, is_there, names_dir, not_empty_dir, past_end, nth, entries_of}
use Rattle.rules.specs.Calls.{span_refusal, resize_refusal, remove_refusal, make_refusal, wrong_entry, list_refusal}
use Rattle.laws.specs.Tests.{if-zero, first_of-zero, first_of_some}
use Rattle.laws.specs.Acceptance.{passed_of}

-- 0, or a number after the damage numbers
abbrev pub Late : ℕ → Type 0
Late n = (n ≡ 0) ⊎ (PastDamage n)

-- what the steps of a change answer: done, no free block, no free anode
abbrev pub StepsAnswer : ℕ → Type 0
StepsAnswer n = (n ≡ 0) ⊎ ((n ≡ 27) ⊎ (n ≡ 28))

-- the steps' refusals come after the damage numbers
pub step_late : (k : ℕ) → (k ≡ 27) ⊎ (k ≡ 28) → PastDamage k
step_late k (inl e) = omega (arith, e)
step_late k (inr e) = omega (arith, e)

-- the check of an accepted image lent other tables
module _ (img : List ℕ) where
  with_tables : (blocks anodes : ℕ) → check_answer img blocks anodes ≡ 0 → (long many : ℕ) → short_tables img long many ≡ false → check_answer img long many ≡ 0
  unfolding check_answer
  with_tables blocks anodes e long many q = let p = passed_of img blocks anodes e in rw (p.size_right, q) (rw (p.size_right, p.tables_long) at e)

  -- tables as long as 2 asks
  pub own_tables : (blocks anodes : ℕ) → check_answer img blocks anodes ≡ 0 → check_answer img (disk_size img) limit ≡ 0
  unfolding short_tables
  own_tables blocks anodes e = with_tables blocks anodes e (disk_size img) limit (rw (le-ltb (disk_size img) (disk_size img) (omega arith)))

  -- 0, or 2 where a table is short
  pub any_tables : check_answer img (disk_size img) limit ≡ 0 → (blocks anodes : ℕ) → (check_answer img blocks anodes ≡ 0) ⊎ (check_answer img blocks anodes ≡ 2)
  unfolding check_answer
  any_tables e blocks anodes = go (short_tables img blocks anodes) refl
    where
      go : (t : Bool) → short_tables img blocks anodes ≡ t → (check_answer img blocks anodes ≡ 0) ⊎ (check_answer img blocks anodes ≡ 2)
      go true q = inr (rw ((passed_of img (disk_size img) limit e).size_right, q))
      go false q = inl (with_tables (disk_size img) limit e blocks anodes q)

-- ---- a table of refusals is a shorter one with a row behind it

-- 21 where the directory is none, 22 where there is no entry
abbrev pub search_number : Bool → Option Entered → ℕ
search_number missing o = 21 if missing else 22 if not (is_there o) else 0

-- an entry that is not there
pub not_there : (o : Option Entered) → is_there o ≡ false → o ≡ none
not_there none e = refl
not_there (some x) e = absurd (true≢false e)

-- a row in front of a table and its last rows
row_first : (n : ℕ) (t : Bool) (a b c : ℕ) → 1 ≤ n → c ≡ first_of a b → (n if t else c) ≡ first_of (n if t else a) b
row_first n true a b c l e = sym (first_of_some n b n refl l)
row_first n false a b c l e = e

-- a table answers 0 where it does without its last row, and that row's test fails
both_passed : (a c n : ℕ) (t : Bool) → c ≡ first_of a (n if t else 0) → 1 ≤ n → c ≡ 0 → (a ≡ 0) × (t ≡ false)
both_passed a c n t is l e =
    let z = first_of-zero a (n if t else 0) (sym is ∙ e) in
    (z.0, (if-zero n t 0 (omega arith) z.1).0)

search-reached : (missing : Bool) (o : Option Entered) → search_number missing o ≡ 0 → missing ≡ false
search-reached missing o e = (if-zero 21 missing (22 if not (is_there o) else 0) (omega arith) e).0

-- what stands behind 21 and 22
behind-search : (missing : Bool) (o : Option Entered) (rest : ℕ) → (21 if missing else 22 if not (is_there o) else rest) ≡ first_of (search_number missing o) rest
unfolding first_of
behind-search missing o rest = row_first 21 missing _ _ _ (omega arith) (row_first 22 (not (is_there o)) 0 _ _ (omega arith) refl)

module _ (img : List ℕ) (s : Anodes) (h : ℕ) where
  -- a list is a search
  pub list_search : (n : ℕ) → list_refusal img s h n ≡ search_number (no_directory img s h) (nth (entries_of img s h) n)
  unfolding list_refusal
  list_search n = refl

  -- the directory of a listed entry is reached
  pub list_reached : (n : ℕ) → list_refusal img s h n ≡ 0 → no_directory img s h ≡ false
  list_reached n e = search-reached (no_directory img s h) (nth (entries_of img s h) n) (sym (list_search n) ∙ e)

  module _ (name : List ℕ) where
    abbrev found : Option Entered
    found = entry_named img s h name

    -- 24 behind 21 and 22
    pub file-row : resize_refusal img s h name ≡ first_of (search_number (no_directory img s h) found) (24 if names_dir found else 0)
    unfolding resize_refusal
    file-row = behind-search (no_directory img s h) found (24 if names_dir found else 0)

    -- 26 behind those of a file
    pub span_row : (offset len : ℕ) → span_refusal img s h name offset len ≡ first_of (resize_refusal img s h name) (26 if past_end found offset len else 0)
    unfolding span_refusal resize_refusal first_of
    span_row offset len =
        row_first 21 (no_directory img s h) _ _ _ (omega arith)
        (row_first 22 (not (is_there found)) _ _ _ (omega arith) (row_first 24 (names_dir found) 0 _ _ (omega arith) refl))

    -- 25 behind 21 and 22
    pub not_empty-row : remove_refusal img s h name ≡ first_of (search_number (no_directory img s h) found) (25 if not_empty_dir img s found else 0)
    unfolding remove_refusal
    not_empty-row = behind-search (no_directory img s h) found (25 if not_empty_dir img s found else 0)

    -- a found entry that the row behind 21 and 22 passed: its own directory is reached
    module _ (x : Entered) (is : found ≡ some x) where
      row-found : (test : Option Entered → Bool) (n c : ℕ) → c ≡ first_of (search_number (no_directory img s h) found) (n if test found else 0) → 1 ≤ n → c ≡ 0 → (no_directory img s h ≡ false) × (test (some x) ≡ false)
      row-found test n c row l e =
          let z = both_passed (search_number (no_directory img s h) found) c n (test found) row l e in
          (search-reached (no_directory img s h) found z.0, ap test (sym is) ∙ z.1)

      -- a file is no directory
      pub file-found : resize_refusal img s h name ≡ 0 → (no_directory img s h ≡ false) × (x.dir ≡ false)
      file-found e = row-found names_dir 24 (resize_refusal img s h name) file-row (omega arith) e

      -- a span is a file's, and ends within its size
      pub span_found : (offset len : ℕ) → span_refusal img s h name offset len ≡ 0 → (no_directory img s h ≡ false) × (x.dir ≡ false) × (offset + len ≤ x.size)
      span_found offset len e =
          let z = both_passed (resize_refusal img s h name) (span_refusal img s h name offset len) 26 (past_end found offset len) (span_row offset len) (omega arith) e in
          let f = file-found z.0 in
          (f.0, f.1, ltb-false x.size (offset + len) (rw is at z.1))

      -- an entry that may go names no directory that is not empty
      pub removable_found : remove_refusal img s h name ≡ 0 → (no_directory img s h ≡ false) × (not_empty_dir img s (some x) ≡ false)
      removable_found e = row-found (not_empty_dir img s) 25 (remove_refusal img s h name) not_empty-row (omega arith) e

-- ---- each call's own refusals come after the damage numbers

if_late : (n : ℕ) (t : Bool) (rest : ℕ) → PastDamage n → Late rest → Late (n if t else rest)
if_late n true rest l h = inr l
if_late n false rest l h = h

none_late : Late 0
none_late = inl refl

-- a table with a late row behind it
behind_late : (a c n : ℕ) (t : Bool) → c ≡ first_of a (n if t else 0) → PastDamage n → Late a → Late c
unfolding first_of
behind_late zero c n t is l h = rw is (if_late n t 0 l none_late)
behind_late (suc a) c n t is l h = rw is h

search_late : (missing : Bool) (o : Option Entered) → Late (search_number missing o)
search_late missing o = if_late 21 missing _ (omega arith) (if_late 22 (not (is_there o)) 0 (omega arith) none_late)

module _ (img : List ℕ) (s : Anodes) (h : ℕ) where
  pub list_late : (n : ℕ) → Late (list_refusal img s h n)
  list_late n = rw (list_search img s h n) (search_late (no_directory img s h) (nth (entries_of img s h) n))

  pub resize_late : (name : List ℕ) → Late (resize_refusal img s h name)
  resize_late name = behind_late _ _ 24 (names_dir (entry_named img s h name)) (file-row img s h name) (omega arith) (search_late (no_directory img s h) (entry_named img s h name))

  pub span_late : (name : List ℕ) (offset len : ℕ) → Late (span_refusal img s h name offset len)
  span_late name offset len = behind_late _ _ 26 (past_end (entry_named img s h name) offset len) (span_row img s h name offset len) (omega arith) (resize_late name)

  pub remove_late : (name : List ℕ) → Late (remove_refusal img s h name)
  remove_late name = behind_late _ _ 25 (not_empty_dir img s (entry_named img s h name)) (not_empty-row img s h name) (omega arith) (search_late (no_directory img s h) (entry_named img s h name))

  pub make_late : (type : ℕ) (name comment : List ℕ) → Late (make_refusal img s h type name comment)
  unfolding make_refusal
  make_late type name comment =
      if_late 20 (wrong_entry type name comment) _ (omega arith)
      (if_late 21 (no_directory img s h) _ (omega arith)
      (if_late 23 (is_there (entry_named img s h name)) 0 (omega arith) none_late))
