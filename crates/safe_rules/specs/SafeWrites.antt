-- 02, No. 8: the list of block writes in the order taken, the root last, as bytes in a lent buffer; and the image with such writes done.
use Rattle.std.specs.Prelude.{ℕ, zero, suc, ◌+◌, ◌*◌, List, [], ◌∷◌, ◌++◌, map, length, take, drop}
use Rattle.endian.specs.Bytes.{be16, put16}
use Rattle.disk.specs.Blocks.{block_of, with_block}
use Rattle.rules.specs.Counting.{gather}
use Rattle.rules.specs.Plans.{Slotted}
use Rattle.rules.specs.Table.{with_table}
use Rattle.rules.specs.Changes.{spread}
use Rattle.safe_rules.specs.SafePlans.{SafeChange}

-- one block write
pub record BlockWrite : Type 0 where
  pub block : ℕ
  pub bytes : List ℕ

-- the same in one line
abbrev pub block_write : ℕ → List ℕ → BlockWrite
block_write block bytes = record { block = block; bytes = bytes }

-- the image with these writes done, in order
unfoldable pub applied : List ℕ → List BlockWrite → List ℕ
applied img [] = img
applied img (w ∷ ws) = applied (with_block img w.block w.bytes) ws

-- ---- the writes of a change

-- the image with all done: the anode table in its new blocks, and the change's bytes in those that it took first
unfoldable pub new_image : List ℕ → SafeChange → Slotted → List ℕ → List ℕ
new_image img c t ys = spread (with_table img t) (take (c.takes + length c.changing) ys) c.bytes

-- some blocks, as an image has them
unfoldable pub writes_of : List ℕ → List ℕ → List BlockWrite
writes_of img ys = map (λ y. block_write y (block_of img y)) ys

-- the list of a change whose steps left the state t and took the blocks ys: each new block once, with its final bytes, and the root last
unfoldable pub list_of : List ℕ → SafeChange → Slotted → List ℕ → List BlockWrite
list_of img c t ys = writes_of (new_image img c t ys) (ys ++ (2 ∷ []))

-- ---- the buffer

-- a write as bytes: a two-byte block number and 512 bytes
unfoldable pub write_bytes : BlockWrite → List ℕ
write_bytes w = put16 (0 ∷ 0 ∷ []) 0 w.block ++ w.bytes

-- the list as bytes
unfoldable pub list_bytes : List BlockWrite → List ℕ
list_bytes ws = gather write_bytes ws

-- the buffer after a done call: the list, and past it what was there
unfoldable pub buffer_after : List BlockWrite → List ℕ → List ℕ
buffer_after ws buffer = list_bytes ws ++ drop (length ws * 514) buffer

-- the image with the first k writes done that stand in a buffer, as a host does them
unfoldable pub replayed : ℕ → List ℕ → List ℕ → List ℕ
replayed zero img buffer = img
replayed (suc k) img buffer = replayed k (with_block img (be16 buffer 0) (take 512 (drop 2 buffer))) (drop 514 buffer)
