-- The walk as the code makes it: a table of marks for the named anodes, two tables for the queue, and counts.
use Rattle.std.specs.Prelude.{ℕ, zero, suc, ◌+◌, ◌-◌, ◌≤◌, ◌≡◌, Bool, false, cond, ◌&&◌, List, [], ◌∷◌, ◌++◌, length, get_or, set, eqb, leb, ltb, Result, Ok, Err}
use Rattle.disk.specs.Refusals.{number_of}
use Rattle.rules.specs.Counting.{sum_list, gather}
use Rattle.rules.specs.Folding.{folded}
use Rattle.rules.specs.Anodes.{Anodes, limit}
use Rattle.rules.specs.Chains.{chain_of}
use Rattle.rules.specs.Walk.{Dir, Entered, Item, entries_in, is_block_of, blocks_for, items_for, twins, dir_made}
use Rattle.names.specs.Index.{seen_in, Indexed}
use Rattle.walk_steps.specs.declared.Tally.{Tally}
use Rattle.disk.specs.declared.Refusal.{Refusal}

-- the sum of the counts along a chain of at most k anodes
unfoldable pub sum_from : List ℕ → List ℕ → ℕ → ℕ → ℕ
sum_from counts nexts k a = sum_list (λ x. get_or counts x 0) (chain_of (λ x. get_or nexts x 0) k a)

-- an anode that an entry may name: from 6 up, and its own head in the table of heads
unfoldable pub head_at : List ℕ → ℕ → Bool
head_at heads a = cond (leb 6 a) (cond (ltb a limit) (eqb (get_or heads a 0) a) false) false

-- an entry with the numbers that the walk tries on it, by the tables
unfoldable pub item_in : List ℕ → List ℕ → List ℕ → Entered → Item
item_in counts nexts heads e = record {
  early = cond e.broken 12 (cond (head_at heads e.anode) 0 13);
  late = cond e.dir 0 (cond (eqb (sum_from counts nexts limit e.anode) (blocks_for e.size)) 0 15);
  dir = e.dir;
  anode = e.anode;
  name = folded e.name;
  start = e.start;
}

-- how far the walk is: the first fault, or all directories queued so far, the marks and the number of files
pub data Progress : Type 0 where
  stopped : ℕ → Progress
  going : List Dir → List ℕ → ℕ → Progress

-- a fault's number stops the walk, 0 does not
abbrev pub refuse : ℕ → Progress → Progress
refuse zero p = p
refuse (suc n) p = stopped (suc n)

-- one item of the directory with this head
unfoldable pub enter_item : ℕ → Item → List Dir → List ℕ → ℕ → Progress
enter_item head i queue marks files =
    refuse i.early
    (cond (eqb (get_or marks i.anode 0) 0)
    (refuse i.late
    (cond i.dir (going (queue ++ (dir_made i.anode head ∷ [])) (set marks i.anode 1) files)
    (going queue (set marks i.anode 1) (files + 1))))
    (stopped 14))

-- what comes after, if the walk goes on
abbrev pub onward : Progress → (List Dir → List ℕ → ℕ → Progress) → Progress
onward (stopped n) f = stopped n
onward (going queue marks files) f = f queue marks files

-- the items of the directory with this head, one after the other
unfoldable pub enter_all : ℕ → List Item → List Dir → List ℕ → ℕ → Progress
enter_all head [] queue marks files = going queue marks files
enter_all head (i ∷ is) queue marks files = onward (enter_item head i queue marks files) (enter_all head is)

-- what anode a of directory d of an image gives, where `item` looks at an entry
abbrev pub items_from : (Entered → Item) → List ℕ → Anodes → Dir → ℕ → List Item
items_from item img s d a = items_for item (entries_in img) (is_block_of img) s d a

-- what the chain of at most k anodes from a on gives
abbrev pub items_along : (Entered → Item) → List ℕ → Anodes → Dir → ℕ → ℕ → List Item
items_along item img s d k a = gather (items_from item img s d) (chain_of s.next k a)

-- what directory d gives, with 17 for a name that came before
unfoldable pub items_with : (Entered → Item) → List ℕ → Anodes → Dir → List Item
items_with item img s d = twins [] (items_along item img s d limit d.head)

-- the end of the walk: the first fault, or the marks, the files and the directories in the order they were taken from the queue
pub data Run : Type 0 where
  halted : ℕ → Run
  ended : List ℕ → ℕ → List Dir → Run

-- what comes after a directory, if the walk goes on
abbrev pub after_dir : Progress → (List Dir → List ℕ → ℕ → Run) → Run
after_dir (stopped n) f = halted n
after_dir (going queue marks files) f = f queue marks files

module _ (items : Dir → List Item) where
  -- at most k directories of the queue, each with the items that it gives, after those taken
  unfoldable pub run_from : ℕ → List Dir → List ℕ → ℕ → List Dir → Run
  run_from zero [] marks files taken = ended marks files taken
  run_from zero (d ∷ queue) marks files taken = halted 14
  run_from (suc k) [] marks files taken = ended marks files taken
  run_from (suc k) (d ∷ queue) marks files taken =
      after_dir (enter_all d.head (items d) queue marks files) (λ q m f. run_from k q m f (taken ++ (d ∷ [])))

-- the n directories of the two tables from i on
unfoldable pub dirs_from : List ℕ → List ℕ → ℕ → ℕ → List Dir
dirs_from queue parents i zero = []
dirs_from queue parents i (suc n) = dir_made (get_or queue i 0) (get_or parents i 0) ∷ dirs_from queue parents (suc i) n

-- the first n directories of the two tables
unfoldable pub queue_of : List ℕ → List ℕ → ℕ → List Dir
queue_of queue parents n = dirs_from queue parents 0 n

-- a chain from 6 up whose head has no mark
unfoldable pub unnamed_at : List ℕ → List ℕ → ℕ → Bool
unnamed_at heads marks x = leb 6 x && (eqb (get_or heads x 0) x && eqb (get_or marks x 0) 0)

-- how many entries of a table are marked
unfoldable pub marked : List ℕ → ℕ
marked marks = sum_list (λ x. cond (eqb x 0) 0 1) marks

-- the items of the directory with this head, entered after a tally and in these tables
abbrev pub entering : Tally → List ℕ → List ℕ → List ℕ → ℕ → List Item → Progress
entering t marks queue parents head is = enter_all head is (queue_of queue parents t.last) marks t.files

-- the step's answer and the tables that it leaves
abbrev pub progress : Result Tally Refusal → List ℕ → List ℕ → List ℕ → Progress
progress (Ok t) marks queue parents = going (queue_of queue parents t.last) marks t.files
progress (Err r) marks queue parents = stopped (number_of r)

-- a tally, by its two numbers
abbrev pub tally_made : ℕ → ℕ → Tally
tally_made last files = record { last = last; files = files }

-- every directory queued and every file has a mark of its own, so that the tables suffice
abbrev pub Fits : Tally → List ℕ → Type 0
Fits t marks = t.last + t.files ≤ marked marks

-- tables of the right length that suffice
abbrev pub WalkRoom : Tally → List ℕ → List ℕ → List ℕ → Type 0
WalkRoom t marks queue parents = (length marks ≡ limit) × (length queue ≡ limit) × (length parents ≡ limit) × Fits t marks

-- what a step that goes on leaves still suffices
abbrev pub StepFits : Result Tally Refusal → List ℕ → Type 0
StepFits (Ok t) marks = Fits t marks
StepFits (Err r) marks = Unit {0}

-- a step that comes to p and leaves tables that suffice
abbrev pub Proceeds : Result Tally Refusal → List ℕ → List ℕ → List ℕ → Progress → Type 0
Proceeds r marks queue parents p = (progress r marks queue parents ≡ p) × StepFits r marks

-- the number of the next entry: how many were met before it; the root is queued and has no entry
abbrev pub number_in : Tally → ℕ
number_in t = t.last + t.files - 1

-- the folded names met from number `from` on, the last first
abbrev pub seen_by : List ℕ → List ℕ → ℕ → Tally → List (List ℕ)
seen_by img index from t = seen_in img index from (number_in t - from)

-- the names of all entries met are in the index; those of this directory have numbers from `from` on
abbrev pub Numbered : List ℕ → List ℕ → ℕ → Tally → Type 0
Numbered img index from t = Indexed img index (number_in t) × (1 ≤ t.last) × (from ≤ number_in t)

-- what a step that goes on leaves in the index: the names of all entries met
abbrev pub StepNumbered : Result Tally Refusal → List ℕ → List ℕ → Type 0
StepNumbered (Ok t) img index = Numbered img index (number_in t) t
StepNumbered (Err r) img index = Unit {0}

-- and those of this directory are `seen`
abbrev pub StepSeen : Result Tally Refusal → List ℕ → List ℕ → ℕ → List (List ℕ) → Type 0
StepSeen (Ok t) img index from seen = Numbered img index from t × (seen_by img index from t ≡ seen)
StepSeen (Err r) img index from seen = Unit {0}
