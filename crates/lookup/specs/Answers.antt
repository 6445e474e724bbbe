-- The answers of the lookups, in the terms of the rules.
use Rattle.std.specs.Prelude.{ℕ, Bool, true, false, List, Option as Answer, Some, None, Result, Ok, Err}
use Rattle.std.proofs.Math.Option.{Option, none, some}
use Rattle.directory.specs.declared.Entry.{Entry}
use Rattle.directory.specs.Entries.{is_dir}
use Rattle.rules.specs.Walk.{Entered}
use Rattle.rules.specs.Lookup.{name_at, nth}
use Rattle.lookup.specs.declared.EntryAt.{EntryAt}

-- an entry of a block, at a place of the image
abbrev pub placed : Entry → ℕ → EntryAt
placed e start = record { kind = e.kind; anode = e.anode; size = e.size; start = start }

-- as the rules list it, with the name that stands there in the image
abbrev pub entered : List ℕ → EntryAt → Entered
entered img e = record { broken = false; dir = is_dir e.kind; anode = e.anode.0; size = e.size; name = name_at img e.start; start = e.start }

-- the entry that a lookup found
abbrev pub entry_of : List ℕ → Answer EntryAt → Option Entered
entry_of img (Some e) = some (entered img e)
entry_of img None = none

-- the first of two entries that is there
abbrev pub or_else : Option Entered → Option Entered → Option Entered
or_else (some e) o = some e
or_else none o = o

-- the entry, if the test holds
abbrev pub only_if : Bool → Entered → Option Entered
only_if true e = some e
only_if false e = none

-- the entry met while counting down, or the one in the entries behind
abbrev pub or_rest : List ℕ → Result EntryAt ℕ → List Entered → Option Entered
or_rest img (Ok e) rest = some (entered img e)
or_rest img (Err n) rest = nth rest n
