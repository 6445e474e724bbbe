-- 01, "Layouts", Root block: block 2.
use Rattle.std.specs.Prelude.{ℕ, ◌+◌, ◌*◌, List, cond, get_or, set, ltb}
use Rattle.endian.specs.Bytes.{be16, be32, put16, put32, stored}
use Rattle.disk.specs.Blocks.{block_of}
use Rattle.disk.specs.declared.Root.{Root}

-- the four bytes of the disk type, hex 50465300
abbrev pub pfs0 : ℕ
pfs0 = 0x50465300

-- the fields: disk type at 0, day 12, minute 14, tick 16, protection 18, the name's length 20, first reserved 52, last reserved 54
unfoldable pub root_in : List ℕ → Root
root_in b = record {
  signature = be32 b 0;
  day = be16 b 12;
  minute = be16 b 14;
  tick = be16 b 16;
  protection = be16 b 18;
  name = get_or b 20 0;
  first = record { 0 = be16 b 52 };
  last = record { 0 = be16 b 54 };
}

-- the block with these fields, and the disk's name from 21 on
unfoldable pub put_root : List ℕ → Root → List ℕ → List ℕ
put_root b r name =
    put16
    (put16
    (stored
    (set
    (put16
    (put16
    (put16
    (put16
    (put32 b 0 r.signature)
    12 r.day)
    14 r.minute)
    16 r.tick)
    18 r.protection)
    20 r.name)
    21 name)
    52 r.first.0)
    54 r.last.0

-- the byte where slot `s` starts: 42 of them from 96, two bytes each
abbrev pub slot_byte : ℕ → ℕ
slot_byte s = 96 + 2 * s

-- the anode block number in slot `s`, unsigned
unfoldable pub slot_in : List ℕ → ℕ → ℕ
slot_in b s = be16 b (slot_byte s)

-- the block with an anode block number stored in slot `s`
abbrev pub put_slot : List ℕ → ℕ → ℕ → List ℕ
put_slot b s v = put16 b (slot_byte s) v

-- the number in slot `s` of an image; 0 past the 42 slots
unfoldable pub slot_of : List ℕ → ℕ → ℕ
slot_of img s = cond (ltb s 42) (slot_in (block_of img 2) s) 0
