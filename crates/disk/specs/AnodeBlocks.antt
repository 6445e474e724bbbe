-- 01, "Layouts", Anode block.
use Rattle.std.specs.Prelude.{ℕ, zero, suc, ◌+◌, ◌*◌, ◌/◌, ◌%◌, List, [], ◌∷◌, cond, get_or, eqb}
use Rattle.endian.specs.Bytes.{be16, put16}
use Rattle.disk.specs.Blocks.{block_of, with_block}
use Rattle.disk.specs.Root.{slot_of}
use Rattle.disk.specs.declared.Anode.{Anode}
use Rattle.disk.specs.declared.AnodeHeader.{AnodeHeader}

-- the mark `AB`
abbrev pub anode_mark : ℕ
anode_mark = 0x4142

-- the mark at 0, the sequence number at 10
unfoldable pub anode_header_in : List ℕ → AnodeHeader
anode_header_in b = record { mark = be16 b 0; sequence = be16 b 10 }

-- the block with both stored
unfoldable pub put_anode_header : List ℕ → AnodeHeader → List ℕ
put_anode_header b h = put16 (put16 b 0 h.mark) 10 h.sequence

-- an anode by its count, block and next
abbrev pub anode_made : ℕ → ℕ → ℕ → Anode
anode_made c b n = record { count = c; block = record { 0 = b }; next = record { 0 = n } }

-- the byte where the anode at a place starts: 82 of them from 16, six bytes each
abbrev pub anode_byte : ℕ → ℕ
anode_byte p = 16 + 6 * p

-- the anode at a place: count, block, next
unfoldable pub anode_in : List ℕ → ℕ → Anode
anode_in b p = anode_made (be16 b (anode_byte p)) (be16 b (anode_byte p + 2)) (be16 b (anode_byte p + 4))

-- the block with the anode at a place stored
unfoldable pub put_anode : List ℕ → ℕ → Anode → List ℕ
put_anode b p x =
    put16 (put16 (put16 b (anode_byte p) x.count) (anode_byte p + 2) x.block.0) (anode_byte p + 4) x.next.0

-- f at each of the `n` numbers from `k` up
unfoldable pub listed {ℓ} : {A : Type ℓ} → (ℕ → A) → ℕ → ℕ → List A
listed f k zero = []
listed f k (suc n) = f k ∷ listed f (suc k) n

-- the anodes of the block that a slot holds; a slot holding 0 has none
unfoldable pub anodes_in : List ℕ → ℕ → List Anode
anodes_in img zero = []
anodes_in img (suc b) = listed (anode_in (block_of img (suc b))) 0 82

-- the anodes of each slot
unfoldable pub anode_slots : List ℕ → List (List Anode)
anode_slots img = listed (λ s. anodes_in img (slot_of img s)) 0 42

-- anode `a` is in slot a / 82 at place a mod 82
abbrev pub slot_for : ℕ → ℕ
slot_for a = a / 82

-- the place in that slot's block
abbrev pub place_for : ℕ → ℕ
place_for a = a % 82

-- a missing anode reads (0, 0, 0)
unfoldable pub anode_at : List (List Anode) → ℕ → Anode
anode_at slots a = get_or (get_or slots (slot_for a) []) (place_for a) (anode_made 0 0 0)

-- anode `a` of an image
unfoldable pub anode_of : List ℕ → ℕ → Anode
anode_of img a = anode_at (anode_slots img) a

-- the image with another anode `a`; unchanged where that is missing
unfoldable pub set_anode : List ℕ → ℕ → Anode → List ℕ
set_anode img a x =
    cond (eqb (slot_of img (slot_for a)) 0) img
    (with_block img (slot_of img (slot_for a)) (put_anode (block_of img (slot_of img (slot_for a))) (place_for a) x))
