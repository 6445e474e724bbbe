-- Demand 3's list of calls: each call with its arguments, its outcome for an image, and what is said after every call of a list.
use Rattle.std.specs.Prelude.{ℕ, List, [], ◌∷◌}
use Rattle.rules.specs.Accepted.{Damage}
use Rattle.rules.specs.Totals.{Sound}
use Rattle.rules.specs.Changes.{Left}
use Rattle.rules.specs.Calls.{Outcome, outcome_of, check_outcome, summary_outcome, format_outcome, read_outcome, list_outcome, make_outcome, resize_outcome, write_outcome, remove_outcome}
use Rattle.bitmap.specs.Calls.{bitmap_outcome, bitmap_differs_outcome}
use Rattle.looks.specs.Calls.{find_outcome, label_outcome}
use Rattle.report.specs.Report.{report_outcome}
use Rattle.differences.specs.Calls.{Compared, compare_outcome, differences_outcome, answer_of_image}
use Rattle.safe_rules.specs.SafeCalls.{SafeCall, SafeOutcome, safe_outcome}

-- a call with all that it is lent or handed but the image; tables and buffers may have any length and content
pub data Call : Type 0 where
  check : (blocks anodes : List ℕ) → Call
  summary : (blocks anodes : List ℕ) → Call
  format : (last anode_blocks : ℕ) (name : List ℕ) (day minute tick protection : ℕ) → Call
  read : (blocks anodes : List ℕ) (directory : ℕ) (name : List ℕ) (offset : ℕ) (out : List ℕ) → Call
  list : (blocks anodes : List ℕ) (directory place : ℕ) → Call
  make : (blocks anodes : List ℕ) (directory type : ℕ) (name comment : List ℕ) (day minute tick protection : ℕ) → Call
  resize : (blocks anodes : List ℕ) (directory : ℕ) (name : List ℕ) (size : ℕ) → Call
  write : (blocks anodes : List ℕ) (directory : ℕ) (name : List ℕ) (offset : ℕ) (bytes : List ℕ) → Call
  remove : (blocks anodes : List ℕ) (directory : ℕ) (name : List ℕ) → Call
  bitmap : (blocks anodes out : List ℕ) → Call
  bitmap_differs : (blocks anodes bytes : List ℕ) → Call
  find : (blocks anodes : List ℕ) (directory : ℕ) (name : List ℕ) → Call
  label : (blocks anodes : List ℕ) → Call
  report : (blocks anodes totals disk : List ℕ) → Call
  -- with any other image as the second, or as the first
  compare : (blocks anodes second second_blocks second_anodes : List ℕ) (place : ℕ) → Call
  compare_as_second : (first first_blocks first_anodes blocks anodes : List ℕ) (place : ℕ) → Call
  differences : (blocks anodes second second_blocks second_anodes : List ℕ) (place : ℕ) (out : List ℕ) → Call
  differences_as_second : (first first_blocks first_anodes blocks anodes : List ℕ) (place : ℕ) (out : List ℕ) → Call
  -- make, resize, write or remove as a safe update
  safely : (blocks anodes buffer : List ℕ) (call : SafeCall) → Call

-- format is lent no tables and hands nothing out
abbrev pub of_left : Left → Outcome
of_left l = outcome_of l.answer l.image [] [] [] []

-- a comparison for its first image, and for its second: neither changes, and a number that refuses the other one says nothing of it
abbrev pub for_first : List ℕ → Compared → Outcome
for_first img c = outcome_of (answer_of_image 1 c) img c.blocks c.anodes c.output []

abbrev pub for_second : List ℕ → Compared → Outcome
for_second img c = outcome_of (answer_of_image 2 c) img c.second_blocks c.second_anodes c.output []

-- a safe call hands out its buffer; the count of its writes is handed out beside
abbrev pub of_safe : SafeOutcome → Outcome
of_safe o = outcome_of o.answer o.image o.blocks o.anodes o.buffer []

-- each call's outcome is the one that its contract equals
unfoldable pub outcome : List ℕ → Call → Outcome
outcome img (check blocks anodes) = check_outcome img blocks anodes
outcome img (summary blocks anodes) = summary_outcome img blocks anodes
outcome img (format last k name day minute tick protection) = of_left (format_outcome img last k name day minute tick protection)
outcome img (read blocks anodes h name offset out) = read_outcome img blocks anodes h name offset out
outcome img (list blocks anodes h n) = list_outcome img blocks anodes h n
outcome img (make blocks anodes h type name comment day minute tick protection) =
    make_outcome img blocks anodes h type name comment day minute tick protection
outcome img (resize blocks anodes h name new) = resize_outcome img blocks anodes h name new
outcome img (write blocks anodes h name offset bytes) = write_outcome img blocks anodes h name offset bytes
outcome img (remove blocks anodes h name) = remove_outcome img blocks anodes h name
outcome img (bitmap blocks anodes out) = bitmap_outcome img blocks anodes out
outcome img (bitmap_differs blocks anodes bytes) = bitmap_differs_outcome img blocks anodes bytes
outcome img (find blocks anodes h name) = find_outcome img blocks anodes h name
outcome img (label blocks anodes) = label_outcome img blocks anodes
outcome img (report blocks anodes totals disk) = (report_outcome img blocks anodes totals disk).outcome
outcome img (compare blocks anodes j second_blocks second_anodes place) = for_first img (compare_outcome img blocks anodes j second_blocks second_anodes place)
outcome img (compare_as_second j first_blocks first_anodes blocks anodes place) = for_second img (compare_outcome j first_blocks first_anodes img blocks anodes place)
outcome img (differences blocks anodes j second_blocks second_anodes place out) = for_first img (differences_outcome img blocks anodes j second_blocks second_anodes place out)
outcome img (differences_as_second j first_blocks first_anodes blocks anodes place out) = for_second img (differences_outcome j first_blocks first_anodes img blocks anodes place out)
outcome img (safely blocks anodes buffer call) = of_safe (safe_outcome img blocks anodes buffer call)

-- sound at the start and after every call, and no call reports damage; only the image passes from call to call
abbrev pub SoundThroughout : List ℕ → List Call → Type 0
SoundThroughout img [] = Sound img
SoundThroughout img (c ∷ cs) = Sound img × (Damage (outcome img c).answer → ⊥) × SoundThroughout (outcome img c).image cs
