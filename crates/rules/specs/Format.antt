-- 01, "The changes", Format.
use Rattle.std.specs.Prelude.{ℕ, zero, suc, ◌+◌, ◌-◌, Bool, cond, ◌||◌, List, length, replicate, eqb, leb, ltb}
use Rattle.endian.specs.Bytes.{put32}
use Rattle.disk.specs.declared.Anode.{Anode}
use Rattle.disk.specs.declared.Root.{Root}
use Rattle.disk.specs.Blocks.{with_block}
use Rattle.disk.specs.Root.{pfs0, put_root, put_slot}
use Rattle.disk.specs.AnodeBlocks.{anode_mark, anode_made, put_anode_header, put_anode}
use Rattle.directory.specs.Entries.{directory_mark, put_directory_header}
use Rattle.rules.specs.Counting.{◌if◌else◌}
use Rattle.rules.specs.Accepted.{disk_size, wrong_size}

-- 20 unless k is 1 to 42, 3 + k <= L < N and the name length is 1 to 31
unfoldable pub wrong_format : List ℕ → ℕ → ℕ → List ℕ → Bool
wrong_format img last k name =
    ltb k 1
    || (ltb 42 k
    || (ltb last (3 + k)
    || (leb (disk_size img) last
    || (eqb (length name) 0
    || ltb 31 (length name)))))

-- number 1 first, then 20
unfoldable pub format_answer : List ℕ → ℕ → ℕ → List ℕ → ℕ
format_answer img last k name =
    1 if wrong_size img
    else 20 if wrong_format img last k name
    else 0

-- a block of zeros
abbrev pub zero_block : List ℕ
zero_block = replicate 512 0

-- the first k slots: anode blocks from 3
unfoldable pub with_slots : List ℕ → ℕ → List ℕ
with_slots b zero = b
with_slots b (suc s) = put_slot (with_slots b s) s (3 + s)

-- the root's fields: disk type, stamps, protection, the name's length, first reserved 0, last reserved L
abbrev pub root_made : ℕ → List ℕ → ℕ → ℕ → ℕ → ℕ → Root
root_made last name day minute tick protection = record {
  signature = pfs0;
  day = day;
  minute = minute;
  tick = tick;
  protection = protection;
  name = length name;
  first = record { 0 = 0 };
  last = record { 0 = last };
}

-- the root block: these fields, the name, and the slots
unfoldable pub root_block : ℕ → ℕ → List ℕ → ℕ → ℕ → ℕ → ℕ → List ℕ
root_block last k name day minute tick protection = with_slots (put_root zero_block (root_made last name day minute tick protection) name) k

-- free blocks up to L go in anode 2 (if none, (0, 65535, 0))
unfoldable pub lower_anode : ℕ → ℕ → Anode
lower_anode last k = cond (eqb last (3 + k)) (anode_made 0 65535 0) (anode_made (last - (3 + k)) (4 + k) 0)

-- those above L in anode 6, linked 1, 6, 2 (if none, 1 links to 2)
unfoldable pub upper_anode : ℕ → ℕ → Anode
upper_anode n last = cond (eqb (last + 1) n) (anode_made 0 0 0) (anode_made (n - (last + 1)) (last + 1) 2)

-- anode 1, the head of the free list: (0, 65535, 6), or (0, 65535, 2) if no block is above L
unfoldable pub list_head : ℕ → ℕ → Anode
list_head n last = anode_made 0 65535 (cond (eqb (last + 1) n) 2 6)

-- anode 5 is the root directory's block, 3 + k
unfoldable pub first_anodes : List ℕ → ℕ → ℕ → ℕ → List ℕ
first_anodes b n last k =
    put_anode
    (put_anode
    (put_anode
    (put_anode
    (put_anode b 0 (anode_made 0 65535 0))
    1 (list_head n last))
    2 (lower_anode last k))
    5 (anode_made 1 (3 + k) 0))
    6 (upper_anode n last)

-- an anode block with its mark and sequence number
unfoldable pub empty_anode_block : ℕ → List ℕ
empty_anode_block s = put_anode_header zero_block (record { mark = anode_mark; sequence = s })

-- anode block s; the first has the anodes above
unfoldable pub anode_block : ℕ → ℕ → ℕ → ℕ → List ℕ
anode_block n last k s = cond (eqb s 0) (first_anodes (empty_anode_block s) n last k) (empty_anode_block s)

-- the first s anode blocks, from 3
unfoldable pub with_anode_blocks : List ℕ → ℕ → ℕ → ℕ → ℕ → List ℕ
with_anode_blocks img n last k zero = img
with_anode_blocks img n last k (suc s) = with_block (with_anode_blocks img n last k s) (3 + s) (anode_block n last k s)

-- a directory block with no entry: zeroed, then headed
unfoldable pub new_directory_block : ℕ → ℕ → List ℕ
new_directory_block owner parent = put_directory_header zero_block (record { mark = directory_mark; owner = record { 0 = owner }; parent = record { 0 = parent } })

-- everything is zero but: disk type in blocks 0 and 2; the root; anode blocks from 3; the root directory in block 3 + k, parent 0
unfoldable pub formatted : List ℕ → ℕ → ℕ → List ℕ → ℕ → ℕ → ℕ → ℕ → List ℕ
formatted img last k name day minute tick protection =
    with_block
    (with_anode_blocks
    (with_block
    (with_block (replicate (length img) 0)
    0 (put32 zero_block 0 pfs0))
    2 (root_block last k name day minute tick protection))
    (disk_size img) last k k)
    (3 + k) (new_directory_block 5 0)
