-- 01, refusals 21 to 26, and the bytes of a file: what a directory number and a name stand for in an accepted image.
use Rattle.std.specs.Prelude.{ℕ, zero, suc, ◌+◌, ◌/◌, ◌%◌, Bool, true, false, cond, List, [], ◌∷◌, map, take, eqb, ltb}
use Rattle.std.proofs.Math.Option.{Option, none, some}
use Rattle.disk.specs.Blocks.{block_of}
use Rattle.directory.specs.Entries.{name_in}
use Rattle.rules.specs.Counting.{occurrences, gather, same_bytes}
use Rattle.rules.specs.Folding.{folded}
use Rattle.rules.specs.Anodes.{Anodes, limit}
use Rattle.rules.specs.Chains.{chain_of, blocks_of}
use Rattle.rules.specs.Walk.{Entered, entries_in, reached_dirs, Dir}

-- no directory of a list has the head h
abbrev pub none_headed : List Dir → ℕ → Bool
none_headed dirs h = eqb (occurrences h (map (λ d. d.head) dirs)) 0

-- 21: directory number is not a reached directory's head
unfoldable pub no_directory : List ℕ → Anodes → ℕ → Bool
no_directory img s h = none_headed (reached_dirs img s) h

-- the entries of the directory that h heads, blocks in chain order, entries in byte order
unfoldable pub entries_of : List ℕ → Anodes → ℕ → List Entered
entries_of img s h = gather (λ a. entries_in img (s.block a)) (chain_of s.next limit h)

-- the name of the entry at a place of the image
unfoldable pub name_at : List ℕ → ℕ → List ℕ
name_at img start = name_in (block_of img (start / 512)) (start % 512)

-- names match byte for byte after folding
unfoldable pub is_named : List ℕ → Entered → Bool
is_named name e = same_bytes (folded e.name) (folded name)

-- the first match counts
unfoldable pub first_named : List ℕ → List Entered → Option Entered
first_named name [] = none
first_named name (e ∷ es) = elim (is_named name e) [ true ↦ some e | false ↦ first_named name es ]

-- the entry of that name in the directory that h heads
unfoldable pub entry_named : List ℕ → Anodes → ℕ → List ℕ → Option Entered
entry_named img s h name = first_named name (entries_of img s h)

-- the n-th entry of a list, from 0
unfoldable pub nth : List Entered → ℕ → Option Entered
nth [] n = none
nth (e ∷ es) zero = some e
nth (e ∷ es) (suc n) = nth es n

-- f of an entry that is there, else x
abbrev pub of_entry {ℓ} : {X : Type ℓ} → Option Entered → (Entered → X) → X → X
of_entry none f x = x
of_entry (some e) f x = f e

-- 22 and 23: name or place not there, already there
abbrev pub is_there : Option Entered → Bool
is_there o = of_entry o (λ e. true) false

-- 24: a directory where a file is needed
abbrev pub names_dir : Option Entered → Bool
names_dir o = of_entry o (λ e. e.dir) false

-- 25: directory not empty
unfoldable pub not_empty : List ℕ → Anodes → Entered → Bool
not_empty img s e = is_there (nth (entries_of img s e.anode) 0)

-- 25: the entry is there, is a directory's, and that is not empty
abbrev pub not_empty_dir : List ℕ → Anodes → Option Entered → Bool
not_empty_dir img s o = of_entry o (λ e. cond e.dir (not_empty img s e) false) false

-- 26: offset + length above size; the sum is a whole number
abbrev pub past_end : Option Entered → ℕ → ℕ → Bool
past_end o offset len = of_entry o (λ e. ltb e.size (offset + len)) false

-- the bytes of a chain's blocks, in chain order
unfoldable pub bytes_of : List ℕ → Anodes → ℕ → List ℕ
bytes_of img s h = gather (block_of img) (blocks_of s h)

-- the file's bytes: those of its blocks, cut at its size
unfoldable pub contents : List ℕ → Anodes → Entered → List ℕ
contents img s e = take e.size (bytes_of img s e.anode)
