-- 01, after the refusal table: what the block table and the anode table hold after a call.
use Rattle.std.specs.Prelude.{ℕ, cond, ◌&&◌, List, ◌++◌, drop, replicate, eqb, leb, ltb}
use Rattle.disk.specs.AnodeBlocks.{listed}
use Rattle.rules.specs.Counting.{sum_below}
use Rattle.rules.specs.Anodes.{Anodes, limit, anodes_of}
use Rattle.rules.specs.Chains.{head_of, one_if_covers, system_owns}
use Rattle.rules.specs.Accepted.{disk_size}

-- the head of anode a's chain
unfoldable pub chain_head : Anodes → ℕ → ℕ
chain_head s a = head_of limit s.next s.block a

-- the entry of anode a in the anode table: its chain's head, or 0 for anode 0, free and missing ones
unfoldable pub anode_entry : Anodes → ℕ → ℕ
anode_entry s a = cond (eqb a 0) 0 (cond (eqb (s.block a) 0) 0 (chain_head s a))

-- the anode table, 3,444 entries
unfoldable pub anode_table : Anodes → List ℕ
anode_table s = listed (anode_entry s) 0 limit

-- the head of a's chain where anode a owns block x, else 0
unfoldable pub head_where : Anodes → ℕ → ℕ → ℕ
head_where s x a = cond (eqb (one_if_covers (s.count a) (s.block a) x) 1) (chain_head s a) 0

-- the head of the chain that owns block x; in an accepted image one anode at most covers it
unfoldable pub owner_head : Anodes → ℕ → ℕ
owner_head s x = sum_below (head_where s x) limit

-- a block's owner: 65535 for blocks 0 to 2, 65534 for anode blocks, else h
unfoldable pub entry_or : List ℕ → ℕ → ℕ → ℕ
entry_or img h x = cond (ltb x 3) 65535 (cond (eqb (system_owns img x) 0) h 65534)

-- the entry of block x in the block table: its owner, the head of the chain whose anode owns it
unfoldable pub block_entry : List ℕ → Anodes → ℕ → ℕ
block_entry img s x = entry_or img (owner_head s x) x

-- the block table, N entries
unfoldable pub block_table : List ℕ → Anodes → List ℕ
block_table img s = listed (block_entry img s) 0 (disk_size img)

-- refusals 1 to 4 touch no table; 5 to 17 leave both zeroed in their ranges; after anything else they show the image that is left;
-- entries past the range keep their content
unfoldable pub table_left : ℕ → ℕ → List ℕ → List ℕ → List ℕ
table_left answer range shown old =
    cond (leb 1 answer && leb answer 4) old
    (cond (leb 5 answer && leb answer 17) (replicate range 0) shown ++ drop range old)

-- the block table after a call that answers so and leaves this image
unfoldable pub blocks_left : ℕ → List ℕ → List ℕ → List ℕ
blocks_left answer img old = table_left answer (disk_size img) (block_table img (anodes_of img)) old

-- the anode table after it
unfoldable pub anodes_left : ℕ → List ℕ → List ℕ → List ℕ
anodes_left answer img old = table_left answer limit (anode_table (anodes_of img)) old
