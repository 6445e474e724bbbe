-- 01, "Anodes, chains, free list": the anodes of an image, as three functions of the anode's number.
use Rattle.std.specs.Prelude.{ℕ, zero, suc, Bool, cond, not, ◌&&◌, List, eqb}
use Rattle.disk.specs.declared.Anode.{Anode}
use Rattle.disk.specs.Root.{slot_of}
use Rattle.disk.specs.AnodeBlocks.{anode_made, anode_slots, anode_at, slot_for, set_anode}

-- at most 3,444 anodes
abbrev pub limit : ℕ
limit = 3444

-- the three fields of every anode, by its number
pub record Anodes : Type 0 where
  pub count : ℕ → ℕ
  pub block : ℕ → ℕ
  pub next : ℕ → ℕ

-- an anode exists where its slot holds a block
unfoldable pub exists_by : (ℕ → ℕ) → ℕ → Bool
exists_by slots a = not (eqb (slots (slot_for a)) 0)

-- the anodes that exist in an image
abbrev pub exists : List ℕ → ℕ → Bool
exists img = exists_by (slot_of img)

-- the fields as they are stored; a missing anode reads (0, 0, 0)
unfoldable pub fields_of : List (List Anode) → Anodes
fields_of slots = record {
  count = λ a. (anode_at slots a).count;
  block = λ a. (anode_at slots a).block.0;
  next = λ a. (anode_at slots a).next.0;
}

-- the anodes of an image
unfoldable pub anodes_of : List ℕ → Anodes
anodes_of img = fields_of (anode_slots img)

-- 02, No. 2: free means all three fields zero
unfoldable pub is_free : Anodes → ℕ → Bool
is_free s a = eqb (s.count a) 0 && (eqb (s.block a) 0 && eqb (s.next a) 0)

-- anode a has the same three fields in both
unfoldable pub same_anode : Anodes → Anodes → ℕ → Bool
same_anode s t a = eqb (s.count a) (t.count a) && (eqb (s.block a) (t.block a) && eqb (s.next a) (t.next a))

-- the image with each anode below k stored that has other fields in t than in s
unfoldable pub store_changed : Anodes → Anodes → List ℕ → ℕ → List ℕ
store_changed s t img zero = img
store_changed s t img (suc a) =
    cond (same_anode s t a) (store_changed s t img a)
    (set_anode (store_changed s t img a) a (anode_made (t.count a) (t.block a) (t.next a)))

-- the image with the anodes t: exactly the anodes that differ are stored
unfoldable pub with_anodes : List ℕ → Anodes → List ℕ
with_anodes img t = store_changed (anodes_of img) t img limit
