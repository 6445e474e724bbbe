-- 01, "Refusal numbers", 12 to 15, and 02, No. 5, 17: one walk, directories breadth first from the root, blocks in chain order, entries in byte order; the first fault met answers.
use Rattle.std.specs.Prelude.{ℕ, zero, suc, ◌+◌, ◌*◌, ◌/◌, Bool, true, false, cond, ◌&&◌, ◌||◌, List, [], ◌∷◌, ◌++◌, map, get_or, eqb, leb, Some, None, Ok, Err}
use Rattle.disk.specs.Blocks.{block_of}
use Rattle.directory.specs.Entries.{Walked}
use Rattle.directory.specs.Entries.{is_dir, directory_mark, directory_header_in, name_in, walked_at}
use Rattle.rules.specs.Counting.{◌if◌else◌, first_of, occurrences, any_in, gather, same_bytes}
use Rattle.rules.specs.Folding.{folded}
use Rattle.rules.specs.Anodes.{Anodes, limit}
use Rattle.rules.specs.Chains.{chain_of, one_if_head, block_count}

-- a directory: its head anode and its parent's
pub record Dir : Type 0 where
  pub head : ℕ
  pub parent : ℕ

-- the same in one line
abbrev pub dir_made : ℕ → ℕ → Dir
dir_made head parent = record { head = head; parent = parent }

-- 5 heads the root directory
abbrev pub root : Dir
root = dir_made 5 0

-- an entry as it stands in a directory block: whether it breaks the entry rules, whether it names a directory, its anode and size, its name as stored, its first byte's place in the image
pub record Entered : Type 0 where
  pub broken : Bool
  pub dir : Bool
  pub anode : ℕ
  pub size : ℕ
  pub name : List ℕ
  pub start : ℕ

-- what stands at a place, with the name there and the entries behind it
abbrev pub with_rest : Walked → List ℕ → ℕ → List Entered → List Entered
with_rest (Ok (Some e)) name start rest = record { broken = false; dir = is_dir e.kind; anode = e.anode.0; size = e.size; name = name; start = start } ∷ rest
with_rest (Ok None) name start rest = []
with_rest (Err r) name start rest = record { broken = true; dir = false; anode = 0; size = 0; name = []; start = start } ∷ []

-- the entries of block y from a place of it on, in byte order, up to the end mark or the first that breaks the rules
unfoldable pub entries_from : ℕ → List ℕ → ℕ → ℕ → List Entered
entries_from zero block y at = []
entries_from (suc k) block y at = with_rest (walked_at block at) (name_in block at) (y * 512 + at) (entries_from k block y (at + get_or block at 0))

-- the entries of a directory block, from 16 on; 27 of the shortest fill it
unfoldable pub entries_in : List ℕ → ℕ → List Entered
entries_in img y = entries_from 28 (block_of img y) y 16

-- block y is marked as the directory's: mark, owner, parent; the root's own parent field is not examined
unfoldable pub is_block_of : List ℕ → Dir → ℕ → Bool
is_block_of img d y =
    eqb (directory_header_in (block_of img y)).mark directory_mark
    && (eqb (directory_header_in (block_of img y)).owner.0 d.head
    && (eqb d.head 5 || eqb (directory_header_in (block_of img y)).parent.0 d.parent))

-- what the walk meets: the number that is tried before 14, the one after it, what is named under which folded name, and where
pub record Item : Type 0 where
  pub early : ℕ
  pub late : ℕ
  pub dir : Bool
  pub anode : ℕ
  pub name : List ℕ
  pub start : ℕ

-- 15: the blocks that a size asks for: size / 512, rounded up
unfoldable pub blocks_for : ℕ → ℕ
blocks_for size = (size + 511) / 512

-- 13: anode under 6, missing, free, or with a predecessor
unfoldable pub wrong_anode : Anodes → ℕ → ℕ
wrong_anode s a = cond (leb 6 a && eqb (one_if_head limit s.next s.block a) 1) 0 13

-- 15: a file's chain does not hold the blocks of its size
unfoldable pub wrong_file_size : Anodes → Entered → ℕ
wrong_file_size s e = cond e.dir 0 (cond (eqb (block_count s e.anode) (blocks_for e.size)) 0 15)

-- what the walk makes of an entry: 12 where it breaks the rules, else 13, else (after 14) 15
unfoldable pub item_of : Anodes → Entered → Item
item_of s e = record {
  early = cond e.broken 12 (wrong_anode s e.anode);
  late = wrong_file_size s e;
  dir = e.dir;
  anode = e.anode;
  name = folded e.name;
  start = e.start;
}

-- a directory anode with count other than 1, or whose block is not the directory's: 12
abbrev pub broken_item : Item
broken_item = record { early = 12; late = 0; dir = false; anode = 0; name = []; start = 0 }

-- what anode a of directory d gives, where `entries` are those of a block, `marked` says whether a block is a directory's and `item` looks at an entry
unfoldable pub items_for : (Entered → Item) → (ℕ → List Entered) → (Dir → ℕ → Bool) → Anodes → Dir → ℕ → List Item
items_for item entries marked s d a =
    cond (eqb (s.count a) 1 && marked d (s.block a)) (map item (entries (s.block a))) (broken_item ∷ [])

-- what anode a of directory d gives the walk
abbrev pub items_at : (ℕ → List Entered) → (Dir → ℕ → Bool) → Anodes → Dir → ℕ → List Item
items_at entries marked s d a = items_for (item_of s) entries marked s d a

-- what directory d gives, anode by anode
unfoldable pub items_by : (ℕ → List Entered) → (Dir → ℕ → Bool) → Anodes → Dir → List Item
items_by entries marked s d = gather (items_at entries marked s d) (chain_of s.next limit d.head)

-- 17: an item whose name an earlier one has; its 12 is tried before
unfoldable pub as_twin : Item → Item
as_twin i = record {
  early = cond (eqb i.early 12) 12 17;
  late = i.late;
  dir = i.dir;
  anode = i.anode;
  name = i.name;
  start = i.start;
}

-- the items of one directory behind others with the names `seen`: 17 stands before 13 where an earlier item has the same name
unfoldable pub twins : List (List ℕ) → List Item → List Item
twins seen [] = []
twins seen (i ∷ is) = cond (any_in (same_bytes i.name) seen) (as_twin i) i ∷ twins (i.name ∷ seen) is

-- what directory d of an image gives
unfoldable pub items_of : List ℕ → Anodes → Dir → List Item
items_of img s d = twins [] (items_by (entries_in img) (is_block_of img) s d)

-- the directory that an item of d names
unfoldable pub sub_dirs : Dir → Item → List Dir
sub_dirs d i = cond i.dir (dir_made i.anode d.head ∷ []) []

-- the first fault of an item, after these anodes were named: 14 where its anode is one of them
unfoldable pub fault_of : Item → List ℕ → ℕ
fault_of i named = first_of i.early (14 if leb 1 (occurrences i.anode named) else i.late)

-- a directory's items: the first fault, or the queue and the named anodes behind them
pub data Scanned : Type 0 where
  faulty : ℕ → Scanned
  fine : List Dir → List ℕ → Scanned

-- the items of directory d in order: the first fault, or the queue and the named anodes behind them
unfoldable pub scan : Dir → List Item → List Dir → List ℕ → Scanned
scan d [] queue named = fine queue named
scan d (i ∷ is) queue named =
    elim (fault_of i named) [ zero ↦ scan d is (queue ++ sub_dirs d i) (i.anode ∷ named) | suc n ↦ faulty (suc n) ]

-- the walk: the first fault, or the directories in the order they were taken from the queue
pub data Walk : Type 0 where
  fault : ℕ → Walk
  done : List Dir → Walk

-- a directory before those of the rest of the walk
unfoldable pub visited : Dir → Walk → Walk
visited d (fault n) = fault n
visited d (done ds) = done (d ∷ ds)

module _ (items : Dir → List Item) where
  -- one directory of the queue after the other, k at most, with the anodes named so far; each but the root has a named anode of its own from 6 up (13, 14), so that 3,444 are never passed
  unfoldable pub walk : ℕ → List Dir → List ℕ → Walk
  walk zero [] named = done []
  walk zero (d ∷ queue) named = fault 14
  walk (suc k) [] named = done []
  walk (suc k) (d ∷ queue) named = elim (scan d (items d) queue named) [ faulty n ↦ fault n | fine q l ↦ visited d (walk k q l) ]

-- the walk over an image's directories, from the root on
unfoldable pub walk_of : List ℕ → Anodes → Walk
walk_of img s = walk (items_of img s) limit (root ∷ []) []

-- the fault that a walk met, 0 for none
abbrev pub fault_in : Walk → ℕ
fault_in (fault n) = n
fault_in (done ds) = 0

-- the directories of a walk that met no fault
abbrev pub dirs_in : Walk → List Dir
dirs_in (fault n) = []
dirs_in (done ds) = ds

-- the reached directories, in the walk's order
unfoldable pub reached_dirs : List ℕ → Anodes → List Dir
reached_dirs img s = dirs_in (walk_of img s)

-- what is named in the reached directories
unfoldable pub reached : List ℕ → Anodes → List Item
reached img s = gather (items_of img s) (reached_dirs img s)

-- how often reached entries name an anode
unfoldable pub naming : List ℕ → Anodes → ℕ → ℕ
naming img s x = occurrences x (map (λ i. i.anode) (reached img s))
