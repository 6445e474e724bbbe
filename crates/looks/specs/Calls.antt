-- Two calls for hosts: what each answers, leaves and hands out, for every image and every argument; both leave the image.
use Rattle.std.specs.Prelude.{ℕ, not, List, [], ◌∷◌, length, replicate}
use Rattle.disk.specs.Blocks.{block_of}
use Rattle.disk.specs.Root.{root_in}
use Rattle.disk.specs.declared.Root.{Root}
use Rattle.rules.specs.Counting.{◌if◌else◌}
use Rattle.rules.specs.Anodes.{Anodes, anodes_of}
use Rattle.rules.specs.Accepted.{check_answer}
use Rattle.rules.specs.Lookup.{no_directory, entry_named, is_there}
use Rattle.rules.specs.Changes.{left}
use Rattle.rules.specs.Calls.{Outcome, settled, done_or, checked_first, fields_listed}

-- find: 21, 22
unfoldable pub find_refusal : List ℕ → Anodes → ℕ → List ℕ → ℕ
find_refusal img s h name =
    21 if no_directory img s h
    else 22 if not (is_there (entry_named img s h name))
    else 0

-- the check first, then 21, 22
unfoldable pub find_answer : List ℕ → List ℕ → List ℕ → ℕ → List ℕ → ℕ
find_answer img blocks anodes h name = checked_first img blocks anodes (find_refusal img (anodes_of img) h name)

-- Find: the output is the eleven fields that list hands back of the first entry with that name, or zeros after a refusal
unfoldable pub find_outcome : List ℕ → List ℕ → List ℕ → ℕ → List ℕ → Outcome
find_outcome img blocks anodes h name =
    settled (left (find_answer img blocks anodes h name) img) blocks anodes
    (fields_listed (find_answer img blocks anodes h name) img (entry_named img (anodes_of img) h name)) []

-- the label in the root block's fields: last reserved, day, minute, tick, protection, the name's offset in the image (21 bytes into block 2) and length
unfoldable pub label_fields : Root → List ℕ
label_fields root = root.last.0 ∷ root.day ∷ root.minute ∷ root.tick ∷ root.protection ∷ 1045 ∷ root.name ∷ []

-- the label of a disk
unfoldable pub label_of : List ℕ → List ℕ
label_of img = label_fields (root_in (block_of img 2))

-- Label: the check's outcome, with the label as output, or zeros where the check refuses
unfoldable pub label_outcome : List ℕ → List ℕ → List ℕ → Outcome
label_outcome img blocks anodes =
    settled (left (check_answer img (length blocks) (length anodes)) img) blocks anodes
    (done_or (check_answer img (length blocks) (length anodes)) (label_of img) (replicate 7 0)) []
