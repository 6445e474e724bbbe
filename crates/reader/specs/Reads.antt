-- 01, "List" and "Layouts", Entry: what a reader of a directory block reads at its place.
use Rattle.std.specs.Prelude.{ℕ, ◌≡◌, ◌≢◌, ◌+◌, ◌<◌, ◌⊎◌, List, get_or, Option, Some, None, Result, Ok, Err}
use Rattle.disk.specs.declared.Refusal.{Refusal}
use Rattle.directory.specs.Entries.{walked_at}
use Rattle.reader.specs.declared.EntryRead.{EntryRead}
use Rattle.reader.specs.declared.PlaceRead.{PlaceRead}
use Rattle.reader.specs.declared.Reader.{Reader}
use Rattle.reader.specs.declared.Places.{Places}

-- the place behind what stands at a place: its length byte further
unfoldable pub place_after : List ℕ → ℕ → ℕ
place_after b at = at + get_or b at 0

-- what stands at a place, and the place behind it
unfoldable pub entry_read : List ℕ → ℕ → PlaceRead
entry_read b at = record { walked = walked_at b at; after = place_after b at }

-- an entry is read at the reader's place, which is behind it then
pub record ReadsEntry (r : Reader) (x : EntryRead) (r' : Reader) : Type 0 where
  pub may : r.left ≡ r'.left + 1
  pub place : x.at ≡ r.at
  pub entry : walked_at r.block.now r.at ≡ Ok (Some x.entry)
  pub same_block : r'.block ≡ r.block
  pub behind : r'.at ≡ place_after r.block.now r.at

-- what a reader gives: an entry; nothing, and the reader stays as it is, where no more may come or the end mark stands; or the fault that stands there, and nothing after it
abbrev pub Reads : Reader → Option (Result EntryRead Refusal) → Reader → Type 0
Reads r None r' = (r' ≡ r) × ((r.left ≡ 0) ⊎ (walked_at r.block.now r.at ≡ Ok None))
Reads r (Some (Ok x)) r' = ReadsEntry r x r'
Reads r (Some (Err fault)) r' = (0 < r.left) × (walked_at r.block.now r.at ≡ Err fault) × (r'.left ≡ 0)

-- a place is given, whose length byte is not 0, and the reader is behind it then
pub record GivesPlace (r : Reader) (at : ℕ) (r' : Reader) : Type 0 where
  pub may : r.left ≡ r'.left + 1
  pub place : at ≡ r.at
  pub some : get_or r.block.now r.at 0 ≢ 0
  pub same_block : r'.block ≡ r.block
  pub behind : r'.at ≡ place_after r.block.now r.at

-- what the places give: one; or nothing, where no more may come or the length byte is 0
abbrev pub GivesPlaces : Places → Option ℕ → Places → Type 0
GivesPlaces p None p' = (p' ≡ p) × ((p.reader.left ≡ 0) ⊎ (get_or p.reader.block.now p.reader.at 0 ≡ 0))
GivesPlaces p (Some at) p' = GivesPlace p.reader at p'.reader
