-- 02, No. 8: what each safe call answers, leaves and hands out, for every image, argument and buffer.
use Rattle.std.specs.Prelude.{ℕ, ◌*◌, cond, List, [], length, eqb, ltb}
use Rattle.rules.specs.Anodes.{anodes_of}
use Rattle.rules.specs.Walk.{Entered}
use Rattle.rules.specs.Lookup.{entry_named, of_entry}
use Rattle.rules.specs.Tables.{blocks_left, anodes_left}
use Rattle.rules.specs.Plans.{Slotted, Plan, refused, planned, table_of}
use Rattle.rules.specs.Changes.{new_entry}
use Rattle.rules.specs.Calls.{done_or, checked_first, span_refusal, resize_refusal, remove_refusal, make_refusal}
use Rattle.safe_rules.specs.SafePlans.{SafeChange, resize_change, write_change, remove_change, make_change, safe_plan}
use Rattle.safe_rules.specs.SafeWrites.{BlockWrite, applied, list_of, buffer_after}

-- a safe call with what it is handed beside the image, the tables and the buffer
pub data SafeCall : Type 0 where
  safe_make : (directory type : ℕ) (name comment : List ℕ) (day minute tick protection : ℕ) → SafeCall
  safe_resize : (directory : ℕ) (name : List ℕ) (size : ℕ) → SafeCall
  safe_write : (directory : ℕ) (name : List ℕ) (offset : ℕ) (bytes : List ℕ) → SafeCall
  safe_remove : (directory : ℕ) (name : List ℕ) → SafeCall

-- its own refusals, 20 to 26, as in 01
abbrev pub safe_refusal : List ℕ → SafeCall → ℕ
safe_refusal img (safe_make h type name comment day minute tick protection) = make_refusal img (anodes_of img) h type name comment
safe_refusal img (safe_resize h name new) = resize_refusal img (anodes_of img) h name
safe_refusal img (safe_write h name offset bytes) = span_refusal img (anodes_of img) h name offset (length bytes)
safe_refusal img (safe_remove h name) = remove_refusal img (anodes_of img) h name

-- no change: 22, were there no entry of that name
abbrev pub missing_entry : SafeChange
missing_entry = record { steps = refused 22; takes = 0; changing = []; bytes = []; old = [] }

-- f of the entry of that name in the directory that h heads
abbrev pub named_change : List ℕ → ℕ → List ℕ → (Entered → SafeChange) → SafeChange
named_change img h name f = of_entry (entry_named img (anodes_of img) h name) f missing_entry

-- the change that it makes where those refuse nothing
abbrev pub safe_change : List ℕ → SafeCall → SafeChange
safe_change img (safe_make h type name comment day minute tick protection) = make_change img (table_of img) h (new_entry (eqb type 2) name comment day minute tick protection)
safe_change img (safe_resize h name new) = named_change img h name (λ e. resize_change img (table_of img) e new)
safe_change img (safe_write h name offset bytes) = named_change img h name (λ e. write_change img (table_of img) e offset bytes)
safe_change img (safe_remove h name) = named_change img h name (λ e. remove_change img (table_of img) e)

-- all that a safe call settles
pub record SafeOutcome : Type 0 where
  pub answer : ℕ
  pub image : List ℕ
  pub blocks : List ℕ
  pub anodes : List ℕ
  pub buffer : List ℕ
  -- how many writes stand in the buffer
  pub count : ℕ

-- its fields by the answer and the image that it leaves, which settle the tables, the buffer and the count
unfoldable pub safe_settled : ℕ → List ℕ → List ℕ → List ℕ → List ℕ → ℕ → SafeOutcome
safe_settled n img blocks anodes buffer count =
    record { answer = n; image = img; blocks = blocks_left n img blocks; anodes = anodes_left n img anodes; buffer = buffer; count = count }

module _ (img blocks anodes buffer : List ℕ) where
  -- refused: the image and the buffer stay
  abbrev pub safe_refused : ℕ → SafeOutcome
  safe_refused n = safe_settled n img blocks anodes buffer 0

  -- done: the old image with all writes done, and the list in the buffer
  abbrev pub safe_done : List BlockWrite → SafeOutcome
  safe_done ws = safe_settled 0 (applied img ws) blocks anodes (buffer_after ws buffer) (length ws)

  -- 32, after 28, if the buffer is too short for the list
  unfoldable pub list_or32 : List BlockWrite → SafeOutcome
  list_or32 ws = cond (ltb (length buffer) (length ws * 514)) (safe_refused 32) (safe_done ws)

  -- the plan of a change: refused with 27 or 28, or its list
  abbrev pub safe_left : SafeChange → Plan Slotted → SafeOutcome
  safe_left c (refused n) = safe_refused n
  safe_left c (planned t ys) = list_or32 (list_of img c t ys)

  -- the check, then 20 to 26 as in 01, then 27, 28, 32
  unfoldable pub safe_outcome : SafeCall → SafeOutcome
  safe_outcome call =
      done_or (checked_first img blocks anodes (safe_refusal img call))
      (safe_left (safe_change img call) (safe_plan img (anodes_of img) (safe_change img call)))
      (safe_refused (checked_first img blocks anodes (safe_refusal img call)))
