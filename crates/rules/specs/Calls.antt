-- What each call answers, leaves and hands out, for every image and every argument; the refusals of each in 01's order.
-- Every call but format runs the whole check first; refusals 20 and above leave the image and show it in the tables; a done change leaves tables for the new image.
use Rattle.std.specs.Prelude.{ℕ, zero, suc, ◌+◌, ◌/◌, ◌%◌, Bool, cond, not, ◌||◌, List, [], ◌∷◌, length, get_or, take, drop, replicate, eqb}
use Rattle.std.proofs.Math.Option.{Option}
use Rattle.disk.specs.Blocks.{block_of}
use Rattle.directory.specs.declared.Entry.{Entry}
use Rattle.directory.specs.declared.Kind.TheVariants.{File}
use Rattle.directory.specs.Entries.{good_name, good_comment, entry_in}
use Rattle.rules.specs.Counting.{◌if◌else◌, first_of, sum_list}
use Rattle.rules.specs.Anodes.{Anodes, anodes_of}
use Rattle.rules.specs.Chains.{block_count}
use Rattle.rules.specs.Walk.{Entered, reached, reached_dirs}
use Rattle.rules.specs.Accepted.{disk_size, check_answer}
use Rattle.rules.specs.Tables.{blocks_left, anodes_left}
use Rattle.rules.specs.Lookup.{no_directory, entries_of, entry_named, nth, of_entry, is_there, names_dir, not_empty_dir, past_end, contents}
use Rattle.rules.specs.Format.{format_answer, formatted}
use Rattle.rules.specs.Plans.{table_of}
use Rattle.rules.specs.Changes.{Left, left, new_entry, resized, made, written, removed, usual_growth}

-- all that a call settles: its answer, the image, both tables, the output and, of list, the name
pub record Outcome : Type 0 where
  pub answer : ℕ
  pub image : List ℕ
  pub blocks : List ℕ
  pub anodes : List ℕ
  pub output : List ℕ
  pub name : List ℕ

-- its fields in one line
abbrev pub outcome_of : ℕ → List ℕ → List ℕ → List ℕ → List ℕ → List ℕ → Outcome
outcome_of answer image blocks anodes output name = record { answer = answer; image = image; blocks = blocks; anodes = anodes; output = output; name = name }

-- a call's outcome by its answer and the image that it leaves: both settle the tables
unfoldable pub settled : Left → List ℕ → List ℕ → List ℕ → List ℕ → Outcome
settled l blocks anodes output name =
    outcome_of l.answer l.image (blocks_left l.answer l.image blocks) (anodes_left l.answer l.image anodes) output name

-- x of a done call, y of one that its number refuses
unfoldable pub done_or {ℓ} : {X : Type ℓ} → ℕ → X → X → X
done_or zero x y = x
done_or (suc n) x y = y

-- a refused change leaves the image, a done one what it makes
abbrev pub left_after : ℕ → List ℕ → Left → Left
left_after n img l = done_or n l (left n img)

-- f of the entry that a done call found, x after a refusal
abbrev pub found_or : ℕ → Option Entered → (Entered → List ℕ) → List ℕ → List ℕ
found_or n e f x = done_or n (of_entry e f x) x

-- Check
unfoldable pub check_outcome : List ℕ → List ℕ → List ℕ → Outcome
check_outcome img blocks anodes = settled (left (check_answer img (length blocks) (length anodes)) img) blocks anodes [] []

-- the files: the reached entries of type 253
unfoldable pub file_count : List ℕ → Anodes → ℕ
file_count img s = sum_list (λ i. cond i.dir 0 1) (reached img s)

-- the directories: the reached ones, the root among them
unfoldable pub dir_count : List ℕ → Anodes → ℕ
dir_count img s = length (reached_dirs img s)

-- the four numbers of an accepted image: N, free blocks (those of 1's chain), files, directories
unfoldable pub summary_of : List ℕ → Anodes → List ℕ
summary_of img s = disk_size img ∷ block_count s 1 ∷ file_count img s ∷ dir_count img s ∷ []

-- Summary: the check's outcome, with the four numbers as output, or zeros where the check refuses
unfoldable pub summary_outcome : List ℕ → List ℕ → List ℕ → Outcome
summary_outcome img blocks anodes =
    settled (left (check_answer img (length blocks) (length anodes)) img) blocks anodes
    (done_or (check_answer img (length blocks) (length anodes)) (summary_of img (anodes_of img)) (replicate 4 0)) []

-- Format, which is lent no tables: the answer, and the image that is left
unfoldable pub format_outcome : List ℕ → ℕ → ℕ → List ℕ → ℕ → ℕ → ℕ → ℕ → Left
format_outcome img last k name day minute tick protection =
    left_after (format_answer img last k name) img (left 0 (formatted img last k name day minute tick protection))

-- every call but format runs the whole check first; n is what its own refusals come to
abbrev pub checked_first : List ℕ → List ℕ → List ℕ → ℕ → ℕ
checked_first img blocks anodes n = first_of (check_answer img (length blocks) (length anodes)) n

-- read and write: 21, 22, 24, 26
unfoldable pub span_refusal : List ℕ → Anodes → ℕ → List ℕ → ℕ → ℕ → ℕ
span_refusal img s h name offset len =
    21 if no_directory img s h
    else 22 if not (is_there (entry_named img s h name))
    else 24 if names_dir (entry_named img s h name)
    else 26 if past_end (entry_named img s h name) offset len
    else 0

-- resize: 21, 22, 24, then 27 and 28 by its steps
unfoldable pub resize_refusal : List ℕ → Anodes → ℕ → List ℕ → ℕ
resize_refusal img s h name =
    21 if no_directory img s h
    else 22 if not (is_there (entry_named img s h name))
    else 24 if names_dir (entry_named img s h name)
    else 0

-- remove: 21, 22, 25, then 28 by its steps
unfoldable pub remove_refusal : List ℕ → Anodes → ℕ → List ℕ → ℕ
remove_refusal img s h name =
    21 if no_directory img s h
    else 22 if not (is_there (entry_named img s h name))
    else 25 if not_empty_dir img s (entry_named img s h name)
    else 0

-- 20: name or comment against the entry rules
abbrev pub wrong_text : List ℕ → List ℕ → Bool
wrong_text name comment = not (good_name name) || not (good_comment comment)

-- 20: type, name or comment
unfoldable pub wrong_entry : ℕ → List ℕ → List ℕ → Bool
wrong_entry type name comment = not (eqb type 253 || eqb type 2) || wrong_text name comment

-- make: 20, 21, 23, then 27 and 28 by its steps
unfoldable pub make_refusal : List ℕ → Anodes → ℕ → ℕ → List ℕ → List ℕ → ℕ
make_refusal img s h type name comment =
    20 if wrong_entry type name comment
    else 21 if no_directory img s h
    else 23 if is_there (entry_named img s h name)
    else 0

-- list: 21, 22
unfoldable pub list_refusal : List ℕ → Anodes → ℕ → ℕ → ℕ
list_refusal img s h n =
    21 if no_directory img s h
    else 22 if not (is_there (nth (entries_of img s h) n))
    else 0

-- a change of the named entry (22, were there none)
abbrev pub change_named : ℕ → List ℕ → Option Entered → (Entered → Left) → Left
change_named n img e f = left_after n img (of_entry e f (left 22 img))

-- Read: a done read fills the output buffer, whose length is the length asked; a refused one leaves it unchanged
abbrev pub bytes_read : ℕ → List ℕ → Anodes → Option Entered → ℕ → List ℕ → List ℕ
bytes_read n img s e offset out = found_or n e (λ e. take (length out) (drop offset (contents img s e))) out

-- the check first, then 21, 22, 24, 26; write answers the same
unfoldable pub read_answer : List ℕ → List ℕ → List ℕ → ℕ → List ℕ → ℕ → ℕ → ℕ
read_answer img blocks anodes h name offset len = checked_first img blocks anodes (span_refusal img (anodes_of img) h name offset len)

-- Read: the image stays, the buffer is the output
unfoldable pub read_outcome : List ℕ → List ℕ → List ℕ → ℕ → List ℕ → ℕ → List ℕ → Outcome
read_outcome img blocks anodes h name offset out =
    settled (left (read_answer img blocks anodes h name offset (length out)) img) blocks anodes
    (bytes_read (read_answer img blocks anodes h name offset (length out)) img (anodes_of img) (entry_named img (anodes_of img) h name) offset out) []

-- the fields that list hands back: type, anode, size, day, minute, tick, protection, the name's offset in the image and length, the comment's
unfoldable pub field_list : Entry → ℕ → ℕ → List ℕ
field_list e type start =
    type ∷ e.anode.0 ∷ e.size ∷ e.day ∷ e.minute ∷ e.tick ∷ e.protection
    ∷ (start + 16) ∷ e.name ∷ (start + 17 + e.name) ∷ e.comment ∷ []

-- the eleven fields of the entry at a place of the image
unfoldable pub fields_at : List ℕ → ℕ → List ℕ
fields_at img start =
    field_list (entry_in (block_of img (start / 512)) (start % 512) File) (get_or (block_of img (start / 512)) (start % 512 + 1) 0) start

-- the fields of the entry that was found; zeros after a refusal
abbrev pub fields_listed : ℕ → List ℕ → Option Entered → List ℕ
fields_listed n img e = found_or n e (λ e. fields_at img e.start) (replicate 11 0)

-- its name, as stored; empty after a refusal
abbrev pub name_listed : ℕ → Option Entered → List ℕ
name_listed n e = found_or n e (λ e. e.name) []

-- the check first, then 21, 22
unfoldable pub list_answer : List ℕ → List ℕ → List ℕ → ℕ → ℕ → ℕ
list_answer img blocks anodes h n = checked_first img blocks anodes (list_refusal img (anodes_of img) h n)

-- List: the image stays, the fields are the output, and the name
unfoldable pub list_outcome : List ℕ → List ℕ → List ℕ → ℕ → ℕ → Outcome
list_outcome img blocks anodes h n =
    settled (left (list_answer img blocks anodes h n) img) blocks anodes
    (fields_listed (list_answer img blocks anodes h n) img (nth (entries_of img (anodes_of img) h) n))
    (name_listed (list_answer img blocks anodes h n) (nth (entries_of img (anodes_of img) h) n))

-- Make: the check first, then 20, 21, 23, then the steps
unfoldable pub make_outcome : List ℕ → List ℕ → List ℕ → ℕ → ℕ → List ℕ → List ℕ → ℕ → ℕ → ℕ → ℕ → Outcome
make_outcome img blocks anodes h type name comment day minute tick protection =
    settled
    (left_after (checked_first img blocks anodes (make_refusal img (anodes_of img) h type name comment)) img
    (made usual_growth img (table_of img) h (new_entry (eqb type 2) name comment day minute tick protection)))
    blocks anodes [] []

-- Resize
unfoldable pub resize_outcome : List ℕ → List ℕ → List ℕ → ℕ → List ℕ → ℕ → Outcome
resize_outcome img blocks anodes h name new =
    settled
    (change_named (checked_first img blocks anodes (resize_refusal img (anodes_of img) h name)) img
    (entry_named img (anodes_of img) h name) (λ e. resized usual_growth img (table_of img) e new))
    blocks anodes [] []

-- Write
unfoldable pub write_outcome : List ℕ → List ℕ → List ℕ → ℕ → List ℕ → ℕ → List ℕ → Outcome
write_outcome img blocks anodes h name offset bytes =
    settled
    (change_named (read_answer img blocks anodes h name offset (length bytes)) img
    (entry_named img (anodes_of img) h name) (λ e. left 0 (written img (anodes_of img) e offset bytes)))
    blocks anodes [] []

-- Remove
unfoldable pub remove_outcome : List ℕ → List ℕ → List ℕ → ℕ → List ℕ → Outcome
remove_outcome img blocks anodes h name =
    settled
    (change_named (checked_first img blocks anodes (remove_refusal img (anodes_of img) h name)) img
    (entry_named img (anodes_of img) h name) (λ e. removed usual_growth img (table_of img) e))
    blocks anodes [] []
