-- 01, "Layouts", Directory block and Entry.
use Rattle.std.specs.Prelude.{ℕ, Option, Some, None, Result, Ok, Err, ◌+◌, ◌-◌, ◌*◌, ◌/◌, ◌%◌, List, [], ◌∷◌, Bool, true, false, cond, not, ◌&&◌, length, get_or, set, take, drop, leb, eqb}
use Rattle.endian.specs.Bytes.{be16, be32, put16, put32, stored, cleared}
use Rattle.directory.specs.declared.DirectoryHeader.{DirectoryHeader}
use Rattle.directory.specs.declared.Kind.{Kind}
use Rattle.directory.specs.declared.Kind.TheVariants.{File, Directory}
use Rattle.directory.specs.declared.UnknownKind.{UnknownKind}
use Rattle.directory.specs.declared.Entry.{Entry}
use Rattle.disk.specs.declared.Refusal.{Refusal}
use Rattle.disk.specs.declared.Refusal.TheVariants.{DirectoryBlock}

-- the mark `DB`
abbrev pub directory_mark : ℕ
directory_mark = 0x4442

-- the mark at 0, the owning directory's head anode at 12, the parent's at 14
unfoldable pub directory_header_in : List ℕ → DirectoryHeader
directory_header_in b = record { mark = be16 b 0; owner = record { 0 = be16 b 12 }; parent = record { 0 = be16 b 14 } }

-- the block with these three stored
unfoldable pub put_directory_header : List ℕ → DirectoryHeader → List ℕ
put_directory_header b h = put16 (put16 (put16 b 0 h.mark) 12 h.owner.0) 14 h.parent.0

-- type is 253 (file) or 2 (directory)
unfoldable pub kind_read : ℕ → Result Kind UnknownKind
kind_read byte = cond (eqb byte 253) (Ok File) (cond (eqb byte 2) (Ok Directory) (Err (record { 0 = byte })))

-- the type byte of each kind
abbrev pub type_of : Kind → ℕ
type_of File = 253
type_of Directory = 2

-- whether an entry is a directory's
abbrev pub is_dir : Kind → Bool
is_dir File = false
is_dir Directory = true

-- no 0, `:` or `/` in a name
unfoldable pub good_name_byte : ℕ → Bool
good_name_byte byte = not (eqb byte 0) && (not (eqb byte 58) && not (eqb byte 47))

-- every byte passes the test
unfoldable pub all_bytes : (ℕ → Bool) → List ℕ → Bool
all_bytes test [] = true
all_bytes test (x ∷ l) = test x && all_bytes test l

-- name 1 to 107 bytes
unfoldable pub good_name : List ℕ → Bool
good_name name = leb 1 (length name) && (leb (length name) 107 && all_bytes good_name_byte name)

-- comment 0 to 79 bytes
unfoldable pub good_comment : List ℕ → Bool
good_comment comment = leb (length comment) 79

-- length is 17 + name + comment, rounded up to even
unfoldable pub entry_length : ℕ → ℕ → ℕ
entry_length name comment = (name + comment + 18) / 2 * 2

-- the name's length, at 15
unfoldable pub name_length : List ℕ → ℕ → ℕ
name_length b at = get_or b (at + 15) 0

-- the comment's length, after the name
unfoldable pub comment_length : List ℕ → ℕ → ℕ
comment_length b at = get_or b (at + 16 + name_length b at) 0

-- the name, from 16 on
unfoldable pub name_in : List ℕ → ℕ → List ℕ
name_in b at = take (name_length b at) (drop (at + 16) b)

-- the length byte is exact, the entry leaves room for the end mark (it ends at 510 or before), comment and name are within the rules
unfoldable pub entry_shaped : List ℕ → ℕ → Bool
entry_shaped b at =
    eqb (get_or b at 0) (entry_length (name_length b at) (comment_length b at))
    && (leb (at + get_or b at 0) 510
    && (leb (comment_length b at) 79
    && good_name (name_in b at)))

-- the fields: anode 2, size 4 (four bytes), day 8, minute 10, tick 12, protection 14, the two lengths
unfoldable pub entry_in : List ℕ → ℕ → Kind → Entry
entry_in b at kind = record {
  kind = kind;
  anode = record { 0 = be16 b (at + 2) };
  size = be32 b (at + 4);
  day = be16 b (at + 8);
  minute = be16 b (at + 10);
  tick = be16 b (at + 12);
  protection = get_or b (at + 14) 0;
  name = name_length b at;
  comment = comment_length b at;
}

-- what stands at a place: an entry, none at the end mark, or a fault
abbrev pub Walked : Type 0
Walked = Result (Option Entry) Refusal

-- an entry of that kind, or a fault (12)
abbrev pub walked_kind : Result Kind UnknownKind → (Kind → Entry) → Walked
walked_kind (Ok kind) entry = Ok (Some (entry kind))
walked_kind (Err other) entry = Err DirectoryBlock

-- what stands at a place: a length byte 0 ends the entries; an entry that breaks the rules is a fault (12)
unfoldable pub walked_at : List ℕ → ℕ → Walked
walked_at b at =
    cond (eqb (get_or b at 0) 0) (Ok None)
    (cond (entry_shaped b at) (walked_kind (kind_read (get_or b (at + 1) 0)) (entry_in b at)) (Err DirectoryBlock))

-- the block with an entry stored at a place: its length at 0, its type at 1 and the fields as above, the name, the comment's length byte and the comment;
-- its pad byte and the byte after it become 0
unfoldable pub put_entry : List ℕ → ℕ → Entry → List ℕ → List ℕ → List ℕ
put_entry b at e name comment =
    cleared
    (stored
    (set
    (stored
    (set
    (set
    (put16
    (put16
    (put16
    (put32
    (put16
    (set
    (set b at (entry_length e.name e.comment % 256))
    (at + 1) (type_of e.kind))
    (at + 2) e.anode.0)
    (at + 4) e.size)
    (at + 8) e.day)
    (at + 10) e.minute)
    (at + 12) e.tick)
    (at + 14) e.protection)
    (at + 15) e.name)
    (at + 16) name)
    (at + 16 + e.name) e.comment)
    (at + 16 + e.name + 1) comment)
    (at + 16 + e.name + 1 + e.comment)
    (at + entry_length e.name e.comment + 1 - (at + 16 + e.name + 1 + e.comment))
