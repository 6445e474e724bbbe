-- What reading gives after a store: in an anode block, in the root block, of a block, a slot and an anode of an image. Assumes nothing.
use mathlib.Core.Path.{◌≡◌, refl, sym, ◌∙◌}
use mathlib.Core.Logic.{⊎_elim}
use Prim.Native.Nat.{ℕ, ◌+◌, ◌*◌, ◌/◌, ◌%◌, ◌<◌, ◌≤◌}
use mathlib.Core.List.{List, append_assoc}
use native.Mathlib.Omega.{arith}
use native.Mathlib.Nat.{le_of_eq}
use lib.ListN.{length, get_or, set, take, drop, length-set}
use lib.Seq.{get_or-set_same, get_or-take, get_or-drop, length-take-le, take_all, ext_get_or, sets-eq}
use Rattle.endian.specs.Bytes.{be16, put16, put32, stored}
use Rattle.endian.proofs.Laws.{less?, same?, length-put16, length-put32, length-stored, be32_halves, be16-put16-same, be16-put16_other, be32-put32-same, be16-set_other, get_or-put16_other, stored-out, stored-take, be16-stored_other, get_or-stored_other, get_or-stored-before, get_or-stored_in}
use Rattle.disk.specs.Blocks.{block_of, with_block}
use Rattle.disk.specs.Root.{root_in, put_root, slot_byte, slot_in, put_slot, slot_of}
use Rattle.disk.specs.AnodeBlocks.{anode_header_in, put_anode_header, anode_byte, anode_in, put_anode, anode_of, set_anode}
use Rattle.disk.specs.declared.Anode.{Anode}
use Rattle.disk.specs.declared.AnodeHeader.{AnodeHeader}
use Rattle.disk.specs.declared.Root.{Root}
use Rattle.disk.proofs.Laws.{length-block_of, length-block_of-min, after_block, length-put_anode, with_block-out, slot_of_high, slot_of-there, anode_of_missing, anode_of-there, set_anode_missing, set_anode-there}

-- ---- an anode block

module _ (l : List ℕ) (p : ℕ) (x : Anode) where
  pub anode_in-put_anode-same : p < 82 → 512 ≤ length l → anode_in (put_anode l p x) p ≡ x
  unfolding anode_in put_anode
  anode_in-put_anode-same h k =
      let at = anode_byte p in
      let l1 = put16 l at x.count in
      let l2 = put16 l1 (at + 2) x.block.0 in
      rw (
        be16-put16_other l2 (at + 4) x.next.0 at (λ j m e. omega arith),
        be16-put16_other l1 (at + 2) x.block.0 at (λ j m e. omega arith),
        be16-put16-same l at x.count (omega arith),
        be16-put16_other l2 (at + 4) x.next.0 (at + 2) (λ j m e. omega arith),
        be16-put16-same l1 (at + 2) x.block.0 (simp length-put16 (omega arith)),
        be16-put16-same l2 (at + 4) x.next.0 (simp length-put16 (omega arith)),
      )

  -- a number with no byte among the six of the place
  be16-put_anode_other : (k : ℕ) → ((j : ℕ) → j < 7 → k + 1 ≡ anode_byte p + j → ⊥) → be16 (put_anode l p x) k ≡ be16 l k
  unfolding put_anode
  be16-put_anode_other k n =
      be16-put16_other _ (anode_byte p + 4) _ k (λ j m e. n (j + 4) (omega arith) (omega arith))
      ∙ be16-put16_other _ (anode_byte p + 2) _ k (λ j m e. n (j + 2) (omega arith) (omega arith))
      ∙ be16-put16_other _ (anode_byte p) _ k (λ j m e. n j (omega arith) e)

  pub anode_in-put_anode_other : (q : ℕ) → (q ≡ p → ⊥) → anode_in (put_anode l p x) q ≡ anode_in l q
  unfolding anode_in
  anode_in-put_anode_other q n =
      rw (
        be16-put_anode_other (anode_byte q) (λ j h e. omega arith),
        be16-put_anode_other (anode_byte q + 2) (λ j h e. omega arith),
        be16-put_anode_other (anode_byte q + 4) (λ j h e. omega arith),
      )

  pub anode_header_in-put_anode : anode_header_in (put_anode l p x) ≡ anode_header_in l
  unfolding anode_header_in
  anode_header_in-put_anode = rw (be16-put_anode_other 0 (λ j h e. omega arith), be16-put_anode_other 10 (λ j h e. omega arith))

module _ (l : List ℕ) (h : AnodeHeader) where
  pub length-put_anode_header : length (put_anode_header l h) ≡ length l
  unfolding put_anode_header
  length-put_anode_header = simp length-put16

  pub anode_header_in-put_anode_header : 512 ≤ length l → anode_header_in (put_anode_header l h) ≡ h
  unfolding anode_header_in put_anode_header
  anode_header_in-put_anode_header k =
      let l1 = put16 l 0 h.mark in
      rw (
        be16-put16_other l1 10 h.sequence 0 (λ j m e. omega arith),
        be16-put16-same l 0 h.mark (omega arith),
        be16-put16-same l1 10 h.sequence (simp length-put16 (omega arith)),
      )

  be16-put_anode_header : (k : ℕ) → 16 ≤ k → be16 (put_anode_header l h) k ≡ be16 l k
  unfolding put_anode_header
  be16-put_anode_header k n =
      be16-put16_other _ 10 _ k (λ j m e. omega arith) ∙ be16-put16_other _ 0 _ k (λ j m e. omega arith)

  pub anode_in-put_anode_header : (p : ℕ) → anode_in (put_anode_header l h) p ≡ anode_in l p
  unfolding anode_in
  anode_in-put_anode_header p =
      rw (be16-put_anode_header (anode_byte p) (omega arith), be16-put_anode_header (anode_byte p + 2) (omega arith), be16-put_anode_header (anode_byte p + 4) (omega arith))

-- ---- the root block

module _ (b : List ℕ) (r : Root) (name : List ℕ) where
  pub length-put_root : length (put_root b r name) ≡ length b
  unfolding put_root
  length-put_root = simp (length-put16, length-stored, length-set, length-put32)

  -- the block with the disk type and the stamp, all before the name
  abbrev dated : List ℕ
  dated = put16 (put16 (put16 (put16 (put32 b 0 r.signature) 12 r.day) 14 r.minute) 16 r.tick) 18 r.protection

  -- and with the name
  abbrev named : List ℕ
  named = stored (set dated 20 r.name) 21 name

  -- a number with no byte of the name, its length byte before it, and first and last reserved
  be16-dated : (k : ℕ) → ((j : ℕ) → j < length name + 2 → k + 1 ≡ 20 + j → ⊥) → ((j : ℕ) → j < 5 → k + 1 ≡ 52 + j → ⊥) → be16 (put_root b r name) k ≡ be16 dated k
  unfolding put_root
  be16-dated k n m =
      be16-put16_other _ 54 r.last.0 k (λ j h e. m (j + 2) (omega arith) (omega arith))
      ∙ be16-put16_other named 52 r.first.0 k (λ j h e. m j (omega arith) e)
      ∙ be16-stored_other (set dated 20 r.name) 21 name k (λ j h e. n (j + 1) (omega arith) (omega arith))
      ∙ be16-set_other dated 20 r.name k (λ e. n 1 (omega arith) (omega arith)) (λ e. n 0 (omega arith) (omega arith))

  -- and none of the stamp
  be16_typed : (k : ℕ) → ((j : ℕ) → j < 9 → k + 1 ≡ 12 + j → ⊥) → be16 dated k ≡ be16 (put32 b 0 r.signature) k
  be16_typed k n =
      be16-put16_other _ 18 r.protection k (λ j h e. n (j + 6) (omega arith) (omega arith))
      ∙ be16-put16_other _ 16 r.tick k (λ j h e. n (j + 4) (omega arith) (omega arith))
      ∙ be16-put16_other _ 14 r.minute k (λ j h e. n (j + 2) (omega arith) (omega arith))
      ∙ be16-put16_other _ 12 r.day k (λ j h e. n j (omega arith) e)

  -- a number of the stamp or before it
  be16-before : (k : ℕ) → k < 19 → be16 (put_root b r name) k ≡ be16 dated k
  be16-before k h = be16-dated k (λ j m e. omega arith) (λ j m e. omega arith)

  -- a half of the disk type
  be16_type : (k : ℕ) → k < 11 → be16 (put_root b r name) k ≡ be16 (put32 b 0 r.signature) k
  be16_type k h = be16-before k (omega arith) ∙ be16_typed k (λ j m e. omega arith)

  pub root_in-put_root : 512 ≤ length b → root_in (put_root b r name) ≡ r
  unfolding root_in put_root
  root_in-put_root long =
      let b0 = put32 b 0 r.signature in
      let b1 = put16 b0 12 r.day in
      let b2 = put16 b1 14 r.minute in
      let b3 = put16 b2 16 r.tick in
      let b7 = put16 named 52 r.first.0 in
      rw (
        be32_halves (put_root b r name) b0 0 0 (be16_type 0 (omega arith)) (be16_type 2 (omega arith)),
        be32-put32-same b 0 r.signature (omega arith),
        be16-before 12 (omega arith),
        be16-put16_other b3 18 r.protection 12 (λ j m e. omega arith),
        be16-put16_other b2 16 r.tick 12 (λ j m e. omega arith),
        be16-put16_other b1 14 r.minute 12 (λ j m e. omega arith),
        be16-put16-same b0 12 r.day (simp length-put32 (omega arith)),
        be16-before 14 (omega arith),
        be16-put16_other b3 18 r.protection 14 (λ j m e. omega arith),
        be16-put16_other b2 16 r.tick 14 (λ j m e. omega arith),
        be16-put16-same b1 14 r.minute (simp (length-put16, length-put32) (omega arith)),
        be16-before 16 (omega arith),
        be16-put16_other b3 18 r.protection 16 (λ j m e. omega arith),
        be16-put16-same b2 16 r.tick (simp (length-put16, length-put32) (omega arith)),
        be16-before 18 (omega arith),
        be16-put16-same b3 18 r.protection (simp (length-put16, length-put32) (omega arith)),
        get_or-put16_other b7 54 r.last.0 20 (omega arith) (omega arith),
        get_or-put16_other named 52 r.first.0 20 (omega arith) (omega arith),
        get_or-stored-before (set dated 20 r.name) 21 name 20 (omega arith),
        get_or-set_same dated 20 r.name 0 (simp (length-put16, length-put32) (omega arith)),
        be16-put16_other b7 54 r.last.0 52 (λ j m e. omega arith),
        be16-put16-same named 52 r.first.0 (simp (length-stored, length-set, length-put16, length-put32) (omega arith)),
        be16-put16-same b7 54 r.last.0 (simp (length-stored, length-set, length-put16, length-put32) (omega arith)),
      )

  pub get_or-put_root_name : (k : ℕ) → 512 ≤ length b → length name ≤ 31 → k < length name → get_or (put_root b r name) (21 + k) 0 ≡ get_or name k 0
  unfolding put_root
  get_or-put_root_name k long short h =
      get_or-put16_other _ 54 r.last.0 (21 + k) (omega arith) (omega arith)
      ∙ get_or-put16_other named 52 r.first.0 (21 + k) (omega arith) (omega arith)
      ∙ get_or-stored_in (set dated 20 r.name) 21 name (21 + k) k refl h (simp (length-set, length-put16, length-put32) (omega arith))

  -- a number behind all fields
  be16-put_root-after : (k : ℕ) → length name ≤ 31 → 56 ≤ k → be16 (put_root b r name) k ≡ be16 b k
  unfolding put32
  be16-put_root-after k short h =
      be16-dated k (λ j m e. omega arith) (λ j m e. omega arith)
      ∙ be16_typed k (λ j m e. omega arith)
      ∙ be16-put16_other _ 2 (r.signature % 65536) k (λ j m e. omega arith)
      ∙ be16-put16_other b 0 (r.signature / 65536) k (λ j m e. omega arith)

  pub slot_in-put_root : (s : ℕ) → length name ≤ 31 → slot_in (put_root b r name) s ≡ slot_in b s
  unfolding slot_in
  slot_in-put_root s short = be16-put_root-after (slot_byte s) short (omega arith)

module _ (b : List ℕ) (s v : ℕ) where
  pub slot_in-put_slot-same : s < 42 → 512 ≤ length b → slot_in (put_slot b s v) s ≡ v
  unfolding slot_in
  slot_in-put_slot-same h long = be16-put16-same b (slot_byte s) v (omega arith)

  pub slot_in-put_slot_other : (t : ℕ) → (t ≡ s → ⊥) → slot_in (put_slot b s v) t ≡ slot_in b t
  unfolding slot_in
  slot_in-put_slot_other t n = be16-put16_other b (slot_byte s) v (slot_byte t) (λ j m e. omega arith)

  -- the fields end before the slots
  be16-put_slot : (k : ℕ) → k < 95 → be16 (put_slot b s v) k ≡ be16 b k
  be16-put_slot k h = be16-put16_other b (slot_byte s) v k (λ j m e. omega arith)

  pub root_in-put_slot : root_in (put_slot b s v) ≡ root_in b
  unfolding root_in
  root_in-put_slot =
      rw (
        be32_halves (put_slot b s v) b 0 0 (be16-put_slot 0 (omega arith)) (be16-put_slot 2 (omega arith)),
        be16-put_slot 12 (omega arith),
        be16-put_slot 14 (omega arith),
        be16-put_slot 16 (omega arith),
        be16-put_slot 18 (omega arith),
        get_or-put16_other b (slot_byte s) v 20 (omega arith) (omega arith),
        be16-put_slot 52 (omega arith),
        be16-put_slot 54 (omega arith),
      )

-- ---- a block of an image

pub get_or-block_of : (img : List ℕ) (b i : ℕ) → i < 512 → get_or (block_of img b) i 0 ≡ get_or img (b * 512 + i) 0
unfolding block_of
get_or-block_of img b i h = get_or-take 512 (drop (b * 512) img) i 0 h ∙ get_or-drop (b * 512) img i 0

-- a block of an image of the same length with the same bytes there
block_of-bytes : (img j : List ℕ) (b : ℕ) → length j ≡ length img
    → ((i : ℕ) → i < 512 → get_or j (b * 512 + i) 0 ≡ get_or img (b * 512 + i) 0) → block_of j b ≡ block_of img b
block_of-bytes img j b e same =
    let m = length-block_of-min j b in
    let n : length (block_of j b) ≡ length (block_of img b) = m ∙ rw e (sym (length-block_of-min img b)) in
    ext_get_or 0 (block_of j b) (block_of img b) n
    (λ i h. let k : i < 512 = omega arith in get_or-block_of j b i k ∙ same i k ∙ sym (get_or-block_of img b i k))

module _ (img : List ℕ) (b : ℕ) (new : List ℕ) (enough : length (block_of img b) ≤ length new) where
  -- as many of the new bytes as the block has
  abbrev fit : List ℕ
  fit = take (length (block_of img b)) new

  length-fit : length fit ≡ length (block_of img b)
  length-fit = length-take-le (length (block_of img b)) new enough

  with_block_in : b * 512 < length img → with_block img b new ≡ stored img (b * 512) fit
  unfolding with_block stored
  with_block_in t =
      let m = length-block_of-min img b in
      let n = length-fit in
      let e = b * 512 + length fit in
      rw (← after_block img b e (omega arith) (omega arith), sets-eq fit img (b * 512) (omega arith))
      (sym (append_assoc (take (b * 512) img) fit (drop e img)))

  with_block-fit : with_block img b new ≡ stored img (b * 512) fit
  with_block-fit =
      ⊎_elim with_block_in (λ o. with_block-out img b new o ∙ sym (stored-out img (b * 512) fit o)) (less? (b * 512) (length img))

  -- a block stored is a run of bytes stored from its start on
  pub with_block-stored : length new ≤ 512 → with_block img b new ≡ stored img (b * 512) new
  with_block-stored most = with_block-fit ∙ ⊎_elim
      (λ t. stored-take img (b * 512) new (length (block_of img b)) (omega (arith, length-block_of-min img b)))
      (λ e. rw (take_all (length (block_of img b)) new (omega arith)))
      (less? (length (block_of img b)) (length new))

  pub length-with_block : length (with_block img b new) ≡ length img
  length-with_block = rw with_block-fit (length-stored img (b * 512) fit)

  pub block_of-with_block_other : (d : ℕ) → (d ≡ b → ⊥) → block_of (with_block img b new) d ≡ block_of img d
  block_of-with_block_other d n =
      let m = length-block_of-min img b in
      let f = length-fit in
      block_of-bytes img (with_block img b new) d length-with_block
      (λ i h. rw with_block-fit (get_or-stored_other img (b * 512) fit (d * 512 + i) (λ j u e. omega arith)))

pub block_of-with_block-same : (img : List ℕ) (b : ℕ) (new : List ℕ) → length new ≡ length (block_of img b) → block_of (with_block img b new) b ≡ new
block_of-with_block-same img b new same =
    let m = length-block_of-min img b in
    let enough = le_of_eq (sym same) in
    let n : length (block_of (with_block img b new) b) ≡ length new =
    length-block_of-min (with_block img b new) b ∙ rw (length-with_block img b new enough) (omega arith) in
    ext_get_or 0 (block_of (with_block img b new) b) new n
    (λ i h. get_or-block_of (with_block img b new) b i (omega arith)
    ∙ rw (with_block-stored img b new enough (omega arith)) (get_or-stored_in img (b * 512) new (b * 512 + i) i refl (omega arith) (omega arith)))

-- ---- a slot of an image

slot_of-with_block-root : (img new : List ℕ) (s : ℕ) → length new ≡ length (block_of img 2) → s < 42 → slot_of (with_block img 2 new) s ≡ slot_in new s
slot_of-with_block-root img new s same h =
    slot_of-there (with_block img 2 new) s h ∙ rw (block_of-with_block-same img 2 new same)

pub slot_of-with_block_other : (img : List ℕ) (b : ℕ) (new : List ℕ) (s : ℕ) → length (block_of img b) ≤ length new → (b ≡ 2 → ⊥)
    → slot_of (with_block img b new) s ≡ slot_of img s
unfolding slot_of
slot_of-with_block_other img b new s enough n = rw (block_of-with_block_other img b new enough 2 (λ e. n (sym e)))

module _ (img : List ℕ) (s v : ℕ) where
  -- a stored slot keeps the root block's length
  kept : length (put_slot (block_of img 2) s v) ≡ length (block_of img 2)
  kept = length-put16 (block_of img 2) (slot_byte s) v

  pub slot_of-put_slot-same : s < 42 → 1536 ≤ length img → slot_of (with_block img 2 (put_slot (block_of img 2) s v)) s ≡ v
  slot_of-put_slot-same h there =
      let n = length-block_of img 2 there in
      slot_of-with_block-root img _ s kept h ∙ slot_in-put_slot-same (block_of img 2) s v h (omega arith)

  pub slot_of-put_slot_other : (t : ℕ) → (t ≡ s → ⊥) → slot_of (with_block img 2 (put_slot (block_of img 2) s v)) t ≡ slot_of img t
  slot_of-put_slot_other t n =
      ⊎_elim
      (λ h. slot_of-with_block-root img _ t kept h ∙ slot_in-put_slot_other (block_of img 2) s v t n ∙ sym (slot_of-there img t h))
      (λ h. slot_of_high _ t h ∙ sym (slot_of_high img t h))
      (less? t 42)

-- ---- an anode of an image

-- the same slot and the same block have the same anode
anode_of-same : (img j : List ℕ) (a s : ℕ) → slot_of img (a / 82) ≡ s → slot_of j (a / 82) ≡ s → ((s ≡ 0 → ⊥) → block_of j s ≡ block_of img s)
    → anode_of j a ≡ anode_of img a
anode_of-same img j a s p q same =
    ⊎_elim
    (λ z. anode_of_missing j a (q ∙ z) ∙ sym (anode_of_missing img a (p ∙ z)))
    (λ n. anode_of-there j a s q n ∙ rw (same n) (sym (anode_of-there img a s p n)))
    (same? s 0)

-- a store in a block that is not the root and not the anode's
pub anode_of-with_block_other : (img : List ℕ) (b : ℕ) (new : List ℕ) (a : ℕ) → length (block_of img b) ≤ length new → (b ≡ 2 → ⊥)
    → (slot_of img (a / 82) ≡ b → ⊥) → anode_of (with_block img b new) a ≡ anode_of img a
anode_of-with_block_other img b new a enough root n =
    anode_of-same img (with_block img b new) a (slot_of img (a / 82)) refl (slot_of-with_block_other img b new (a / 82) enough root)
    (λ some. block_of-with_block_other img b new enough (slot_of img (a / 82)) n)

module _ (img : List ℕ) (a : ℕ) (x : Anode) where
  -- a stored anode keeps its block's length
  whole : (s : ℕ) → length (put_anode (block_of img s) (a % 82) x) ≡ length (block_of img s)
  whole s = length-put_anode (block_of img s) (a % 82) x

  pub length-set_anode : length (set_anode img a x) ≡ length img
  length-set_anode =
      let s = slot_of img (a / 82) in
      ⊎_elim
      (λ z. rw (set_anode_missing img a x z))
      (λ n. rw (set_anode-there img a s x refl n) (length-with_block img s _ (le_of_eq (sym (whole s)))))
      (same? s 0)

  pub block_of-set_anode-same : (s : ℕ) → slot_of img (a / 82) ≡ s → (s ≡ 0 → ⊥) → block_of (set_anode img a x) s ≡ put_anode (block_of img s) (a % 82) x
  block_of-set_anode-same s slot some = rw (set_anode-there img a s x slot some) (block_of-with_block-same img s _ (whole s))

  pub block_of-set_anode_other : (d : ℕ) → (slot_of img (a / 82) ≡ d → ⊥) → block_of (set_anode img a x) d ≡ block_of img d
  block_of-set_anode_other d m =
      let s = slot_of img (a / 82) in
      ⊎_elim
      (λ z. rw (set_anode_missing img a x z))
      (λ n. rw (set_anode-there img a s x refl n) (block_of-with_block_other img s _ (le_of_eq (sym (whole s))) d (λ e. m (sym e))))
      (same? s 0)

  -- an anode's block is not the root
  module _ (root : slot_of img (a / 82) ≡ 2 → ⊥) where
    slot_of-set_anode : (t : ℕ) → slot_of (set_anode img a x) t ≡ slot_of img t
    unfolding slot_of
    slot_of-set_anode t = rw (block_of-set_anode_other 2 root)

    pub anode_of-set_anode-same : (s : ℕ) → slot_of img (a / 82) ≡ s → (s ≡ 0 → ⊥) → s * 512 + 512 ≤ length img
        → anode_of (set_anode img a x) a ≡ x
    anode_of-set_anode-same s slot some there =
        let n = length-block_of img s there in
        anode_of-there (set_anode img a x) a s (slot_of-set_anode (a / 82) ∙ slot) some
        ∙ rw (block_of-set_anode-same s slot some) (anode_in-put_anode-same (block_of img s) (a % 82) x (omega arith) (omega arith))

    -- where no other slot holds the block
    pub anode_of-set_anode_other : (b : ℕ) → (b ≡ a → ⊥)
        → (slot_of img (b / 82) ≡ slot_of img (a / 82) → (slot_of img (a / 82) ≡ 0 → ⊥) → b / 82 ≡ a / 82)
        → anode_of (set_anode img a x) b ≡ anode_of img b
    anode_of-set_anode_other b n one =
        let s = slot_of img (a / 82) in
        let t = slot_of img (b / 82) in
        ⊎_elim
        (λ z. rw (set_anode_missing img a x z))
        (λ some.
        ⊎_elim
        (λ e. let q = one e some in
        anode_of-there (set_anode img a x) b s (slot_of-set_anode (b / 82) ∙ e) some
        ∙ rw (block_of-set_anode-same s refl some) (anode_in-put_anode_other (block_of img s) (a % 82) x (b % 82) (omega arith))
        ∙ sym (anode_of-there img b s e some))
        (λ m. anode_of-same img (set_anode img a x) b t refl (slot_of-set_anode (b / 82)) (λ k. block_of-set_anode_other t (λ e. m (sym e))))
        (same? t s))
        (same? s 0)
