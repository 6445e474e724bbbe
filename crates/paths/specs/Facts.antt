-- The tree of an image as a value: the facts of what a path names.
use Rattle.std.specs.Prelude.{ℕ, ◌+◌, ◌/◌, ◌%◌, ◌≡◌, cond, List, [], get_or, take, drop}
use Rattle.std.proofs.Math.Option.{Option, none, some}
use Rattle.endian.specs.Bytes.{be16}
use Rattle.disk.specs.Blocks.{block_of}
use Rattle.directory.specs.Entries.{name_length, comment_length, name_in}
use Rattle.rules.specs.Anodes.{anodes_of}
use Rattle.rules.specs.Walk.{Entered}
use Rattle.rules.specs.Lookup.{of_entry, contents}
use Rattle.paths.specs.Paths.{Path, entry_at}

-- the comment, behind the name and its own length byte
unfoldable pub comment_in : List ℕ → ℕ → List ℕ
comment_in b at = take (comment_length b at) (drop (at + 17 + name_length b at) b)

-- what the tree holds of an entry: type, name bytes, comment, stamps, protection; of a file its size and bytes, of a directory 0 and none
pub record Facts : Type 0 where
  pub type : ℕ
  pub name : List ℕ
  pub comment : List ℕ
  pub day : ℕ
  pub minute : ℕ
  pub tick : ℕ
  pub protection : ℕ
  pub size : ℕ
  pub bytes : List ℕ

-- those that stand at a place of a directory block, with this size and these bytes
unfoldable pub facts_in : List ℕ → ℕ → ℕ → List ℕ → Facts
facts_in b at size bytes = record {
  type = get_or b (at + 1) 0;
  name = name_in b at;
  comment = comment_in b at;
  day = be16 b (at + 8);
  minute = be16 b (at + 10);
  tick = be16 b (at + 12);
  protection = get_or b (at + 14) 0;
  size = size;
  bytes = bytes;
}

-- the facts of an entry; its anode, its place and a directory's size field are none of them
unfoldable pub facts_of : List ℕ → Entered → Facts
facts_of img e =
    facts_in (block_of img (e.start / 512)) (e.start % 512)
    (cond e.dir 0 e.size)
    (cond e.dir [] (contents img (anodes_of img) e))

-- the facts at a path, none where it names no entry: the tree
unfoldable pub facts_at : List ℕ → Path → Option Facts
facts_at img path = of_entry (entry_at img path) (λ e. some (facts_of img e)) none

-- both images hold the same tree, with the same fields and bytes
abbrev pub SameTree : List ℕ → List ℕ → Type 0
SameTree img j = (path : Path) → facts_at img path ≡ facts_at j path
