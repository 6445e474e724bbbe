-- The parts that format stores: zeros, whole blocks, the root block with its slots, the anode blocks.
use mathlib.Core.Path.{◌≡◌, refl, sym, ap, ◌∙◌}
use mathlib.Core.Logic.{⊎_elim}
use Prim.Native.Nat.{ℕ, zero, suc, ◌+◌, ◌*◌, ◌-◌, ◌<◌, ◌≤◌}
use mathlib.Core.List.{List}
use native.Mathlib.Omega.{arith}
use native.Mathlib.Numerals.{add-one}
use native.Mathlib.Nat.{not-suc-le-zero, eq-or-lt_of_le, le_of_suc-le-suc, le_of_eq}
use lib.ListN.{length, take, drop, replicate, length-replicate}
use lib.Seq.{take_all, ext_get_or}
use borrow.Rule.Slice.PartMut.{put_mid}
use borrow.Author.Tests.{ne_eqb, eq-eqb}
use Rattle.endian.specs.Bytes.{cleared}
use Rattle.endian.proofs.Laws.{same?, length-put16, cleared-front, get_or_zeros}
use Rattle.disk.specs.Blocks.{block_of, with_block}
use Rattle.disk.specs.Root.{root_in, put_root, slot_byte, slot_in, put_slot}
use Rattle.disk.specs.AnodeBlocks.{anode_made, anode_in, put_anode}
use Rattle.disk.proofs.Laws.{length-block_of, length-block_of-min, part_block, block_back, length-put_anode}
use Rattle.disk.proofs.Store.{anode_in-put_anode-same, anode_in-put_anode_other, length-put_root, root_in-put_root, slot_in-put_root, slot_in-put_slot-same, slot_in-put_slot_other, root_in-put_slot, get_or-block_of, length-with_block, block_of-with_block-same, block_of-with_block_other}
use Rattle.rules.specs.Format.{zero_block, with_slots, root_block, lower_anode, upper_anode, list_head, first_anodes, empty_anode_block, anode_block, with_anode_blocks, root_made}
use Rattle.laws.specs.NewAnodeBlock.{be16_zeros, length-zero_block, length-empty_anode_block}

-- ---- zeros

-- an image with every byte zeroed
pub all-cleared : (l : List ℕ) → cleared l 0 (length l) ≡ replicate (length l) 0
all-cleared l = cleared-front l (length l) (omega arith) ∙ take_all (length l) (replicate (length l) 0) (le_of_eq (length-replicate {A = ℕ} (length l) 0))

slot_in-zero_block : (s : ℕ) → slot_in zero_block s ≡ 0
unfolding slot_in
slot_in-zero_block s = be16_zeros 512 (96 + 2 * s)

pub block_of_zeros : (n b : ℕ) → b * 512 + 512 ≤ n → block_of (replicate n 0) b ≡ zero_block
block_of_zeros n b h =
    let z = replicate {A = ℕ} n 0 in
    let e = length-replicate {A = ℕ} n 0 in
    let m : length (block_of z b) ≡ 512 = length-block_of z b (omega arith) in
    ext_get_or 0 (block_of z b) zero_block (m ∙ sym length-zero_block)
    (λ i g. get_or-block_of z b i (omega arith) ∙ get_or_zeros n (b * 512 + i) ∙ sym (get_or_zeros 512 i))

-- ---- whole blocks

-- a block of an image has at most as many bytes as a whole one
fits : (img : List ℕ) (b : ℕ) (new : List ℕ) → length new ≡ 512 → length (block_of img b) ≤ length new
fits img b new e = omega (arith, length-block_of-min img b)

pub length-stored : (img : List ℕ) (b : ℕ) (new : List ℕ) → length new ≡ 512 → length (with_block img b new) ≡ length img
length-stored img b new e = length-with_block img b new (fits img b new e)

pub block_of_other : (img : List ℕ) (b : ℕ) (new : List ℕ) → length new ≡ 512 → (d : ℕ) → (d ≡ b → ⊥) → block_of (with_block img b new) d ≡ block_of img d
block_of_other img b new e d n = block_of-with_block_other img b new (fits img b new e) d n

-- a block that is lent whole
module _ (img : List ℕ) (b : ℕ) (there : b * 512 + 512 ≤ length img) where
  pub block_of-same : (new : List ℕ) → length new ≡ 512 → block_of (with_block img b new) b ≡ new
  block_of-same new e = block_of-with_block-same img b new (e ∙ sym (length-block_of img b there))

  pub block_lent : take (b * 512 + 512 - b * 512) (drop (b * 512) img) ≡ block_of img b
  block_lent = part_block img b (b * 512 + 512) (omega arith) (omega arith)

  pub block_stored : (new : List ℕ) → length new ≡ 512 → put_mid (b * 512) (b * 512 + 512 - b * 512) img new ≡ with_block img b new
  block_stored new e = block_back img b (b * 512 + 512) (omega arith) (omega arith) new (e ∙ sym (length-block_of img b there))

-- a block of zeros, stored after a change to the part that was lent
pub block_over : (img : List ℕ) (b : ℕ) (f : List ℕ → List ℕ) (new : List ℕ) → b * 512 + 512 ≤ length img → block_of img b ≡ zero_block
    → length (f zero_block) ≡ 512 → new ≡ f (take (b * 512 + 512 - b * 512) (drop (b * 512) img))
    → put_mid (b * 512) (b * 512 + 512 - b * 512) img new ≡ with_block img b (f zero_block)
block_over img b f new there blank long is =
    let e : new ≡ f zero_block = is ∙ ap f (block_lent img b there ∙ blank) in
    block_stored img b there new (ap length e ∙ long) ∙ ap (with_block img b) e

-- ---- slots

pub with_slots-none : (b : List ℕ) → with_slots b 0 ≡ b
unfolding with_slots
with_slots-none b = refl

pub with_slots_more : (b : List ℕ) (s : ℕ) → with_slots b (s + 1) ≡ put_slot (with_slots b s) s (3 + s)
unfolding with_slots
with_slots_more b s = rw (add-one s)

length-with_slots : (b : List ℕ) (s : ℕ) → length (with_slots b s) ≡ length b
unfolding with_slots
length-with_slots b zero = refl
length-with_slots b (suc s) = length-put16 (with_slots b s) (slot_byte s) (3 + s) ∙ length-with_slots b s

root_in-with_slots : (b : List ℕ) (s : ℕ) → root_in (with_slots b s) ≡ root_in b
unfolding with_slots
root_in-with_slots b zero = refl
root_in-with_slots b (suc s) = root_in-put_slot (with_slots b s) s (3 + s) ∙ root_in-with_slots b s

slot_in-with_slots_some : (b : List ℕ) (s t : ℕ) → t < s → s ≤ 42 → length b ≡ 512 → slot_in (with_slots b s) t ≡ 3 + t
unfolding with_slots
slot_in-with_slots_some b zero t h m long = absurd (not-suc-le-zero h)
slot_in-with_slots_some b (suc s) t h m long =
    let n = length-with_slots b s in
    ⊎_elim
    (λ e. rw e (slot_in-put_slot-same (with_slots b s) s (3 + s) (omega arith) (omega arith)))
    (λ l. slot_in-put_slot_other (with_slots b s) s (3 + s) t (omega arith) ∙ slot_in-with_slots_some b s t l (omega arith) long)
    (eq-or-lt_of_le (le_of_suc-le-suc h))

slot_in-with_slots-none : (b : List ℕ) (s t : ℕ) → s ≤ t → slot_in (with_slots b s) t ≡ slot_in b t
unfolding with_slots
slot_in-with_slots-none b zero t h = refl
slot_in-with_slots-none b (suc s) t h =
    slot_in-put_slot_other (with_slots b s) s (3 + s) t (omega arith) ∙ slot_in-with_slots-none b s t (omega arith)

module _ (last k : ℕ) (name : List ℕ) (day minute tick protection : ℕ) where
  -- the root block before its slots
  abbrev bare : List ℕ
  bare = put_root zero_block (root_made last name day minute tick protection) name

  length-bare : length bare ≡ 512
  length-bare = length-put_root zero_block (root_made last name day minute tick protection) name ∙ length-zero_block

  pub length-root_block : length (root_block last k name day minute tick protection) ≡ 512
  unfolding root_block
  length-root_block = length-with_slots bare k ∙ length-bare

  pub root_in-root_block : root_in (root_block last k name day minute tick protection) ≡ root_made last name day minute tick protection
  unfolding root_block
  root_in-root_block = root_in-with_slots bare k ∙ root_in-put_root zero_block (root_made last name day minute tick protection) name (le_of_eq (sym length-zero_block))

  pub slot_in-root_block_some : (s : ℕ) → s < k → k ≤ 42 → slot_in (root_block last k name day minute tick protection) s ≡ 3 + s
  unfolding root_block
  slot_in-root_block_some s h m = slot_in-with_slots_some bare k s h m length-bare

  pub slot_in-root_block-none : (s : ℕ) → k ≤ s → length name ≤ 31 → slot_in (root_block last k name day minute tick protection) s ≡ 0
  unfolding root_block
  slot_in-root_block-none s h short =
      slot_in-with_slots-none bare k s h ∙ slot_in-put_root zero_block (root_made last name day minute tick protection) name s short ∙ slot_in-zero_block s

-- ---- anode blocks

-- the first anode block has room for all its places
pub empty_long : 512 ≤ length (empty_anode_block 0)
empty_long = le_of_eq (sym (length-empty_anode_block 0))

module _ (n last k : ℕ) where
  length-first_anodes : (b : List ℕ) → length (first_anodes b n last k) ≡ length b
  unfolding first_anodes
  length-first_anodes b = simp length-put_anode

  pub anode_block-first : (s : ℕ) → s ≡ 0 → anode_block n last k s ≡ first_anodes (empty_anode_block s) n last k
  unfolding anode_block
  anode_block-first s e = rw (eq-eqb s 0 e)

  pub anode_block-later : (s : ℕ) → (s ≡ 0 → ⊥) → anode_block n last k s ≡ empty_anode_block s
  unfolding anode_block
  anode_block-later s h = rw (ne_eqb s 0 h)

  -- what holds of both holds of every anode block
  pub anode_block_both : (P : List ℕ → Type 0) (s : ℕ) → P (first_anodes (empty_anode_block s) n last k) → P (empty_anode_block s) → P (anode_block n last k s)
  anode_block_both P s p q = ⊎_elim (λ e. rw (anode_block-first s e) p) (λ h. rw (anode_block-later s h) q) (same? s 0)

  length-anode_block : (s : ℕ) → length (anode_block n last k s) ≡ 512
  length-anode_block s =
      anode_block_both (λ b. length b ≡ 512) s (length-first_anodes (empty_anode_block s) ∙ length-empty_anode_block s) (length-empty_anode_block s)

  -- the first block's anodes, over those of the block that it is stored in
  module _ (b : List ℕ) (whole : 512 ≤ length b) where
    -- the block once anode 0 is stored, then 1, 2 and 5
    abbrev b0 : List ℕ
    b0 = put_anode b 0 (anode_made 0 65535 0)

    abbrev b1 : List ℕ
    b1 = put_anode b0 1 (list_head n last)

    abbrev b2 : List ℕ
    b2 = put_anode b1 2 (lower_anode last k)

    abbrev b5 : List ℕ
    b5 = put_anode b2 5 (anode_made 1 (3 + k) 0)

    -- a store leaves every other place
    from_5 : (p : ℕ) → (p ≡ 6 → ⊥) → anode_in (first_anodes b n last k) p ≡ anode_in b5 p
    unfolding first_anodes
    from_5 p h = anode_in-put_anode_other b5 6 (upper_anode n last) p h

    from_2 : (p : ℕ) → (p ≡ 6 → ⊥) → (p ≡ 5 → ⊥) → anode_in (first_anodes b n last k) p ≡ anode_in b2 p
    from_2 p h g = from_5 p h ∙ anode_in-put_anode_other b2 5 (anode_made 1 (3 + k) 0) p g

    from_1 : (p : ℕ) → (p ≡ 6 → ⊥) → (p ≡ 5 → ⊥) → (p ≡ 2 → ⊥) → anode_in (first_anodes b n last k) p ≡ anode_in b1 p
    from_1 p h g f = from_2 p h g ∙ anode_in-put_anode_other b1 2 (lower_anode last k) p f

    pub first-0 : anode_in (first_anodes b n last k) 0 ≡ anode_made 0 65535 0
    first-0 =
        from_1 0 (omega arith) (omega arith) (omega arith)
        ∙ anode_in-put_anode_other b0 1 (list_head n last) 0 (omega arith)
        ∙ anode_in-put_anode-same b 0 (anode_made 0 65535 0) (omega arith) whole

    pub first-1 : anode_in (first_anodes b n last k) 1 ≡ list_head n last
    first-1 =
        from_1 1 (omega arith) (omega arith) (omega arith)
        ∙ anode_in-put_anode-same b0 1 (list_head n last) (omega arith) (simp length-put_anode whole)

    pub first-2 : anode_in (first_anodes b n last k) 2 ≡ lower_anode last k
    first-2 =
        from_2 2 (omega arith) (omega arith)
        ∙ anode_in-put_anode-same b1 2 (lower_anode last k) (omega arith) (simp length-put_anode whole)

    pub first-5 : anode_in (first_anodes b n last k) 5 ≡ anode_made 1 (3 + k) 0
    first-5 =
        from_5 5 (omega arith) ∙ anode_in-put_anode-same b2 5 (anode_made 1 (3 + k) 0) (omega arith) (simp length-put_anode whole)

    pub first-6 : anode_in (first_anodes b n last k) 6 ≡ upper_anode n last
    unfolding first_anodes
    first-6 = anode_in-put_anode-same b5 6 (upper_anode n last) (omega arith) (simp length-put_anode whole)

    pub first_other : (p : ℕ) → (p ≡ 0 → ⊥) → (p ≡ 1 → ⊥) → (p ≡ 2 → ⊥) → (p ≡ 5 → ⊥) → (p ≡ 6 → ⊥)
        → anode_in (first_anodes b n last k) p ≡ anode_in b p
    first_other p n0 n1 n2 n5 n6 =
        from_1 p n6 n5 n2 ∙ anode_in-put_anode_other b0 1 (list_head n last) p n1 ∙ anode_in-put_anode_other b 0 (anode_made 0 65535 0) p n0

  -- the anode blocks of an image
  module _ (img : List ℕ) where
    pub with_anode_blocks-none : with_anode_blocks img n last k 0 ≡ img
    unfolding with_anode_blocks
    with_anode_blocks-none = refl

    -- one more block, that was lent and is back
    pub with_anode_blocks_next : (s : ℕ) (j new : List ℕ) → (3 + s) * 512 + 512 ≤ length j → j ≡ with_anode_blocks img n last k s → new ≡ anode_block n last k s
        → put_mid ((3 + s) * 512) ((3 + s) * 512 + 512 - (3 + s) * 512) j new ≡ with_anode_blocks img n last k (s + 1)
    unfolding with_anode_blocks
    with_anode_blocks_next s j new there e is =
        block_stored j (3 + s) there new (ap length is ∙ length-anode_block s) ∙ rw (e, is, add-one s)

    pub length-with_anode_blocks : (s : ℕ) → length (with_anode_blocks img n last k s) ≡ length img
    unfolding with_anode_blocks
    length-with_anode_blocks zero = refl
    length-with_anode_blocks (suc s) =
        length-stored (with_anode_blocks img n last k s) (3 + s) (anode_block n last k s) (length-anode_block s) ∙ length-with_anode_blocks s

    pub block_of-with_anode_blocks_other : (s b : ℕ) → ((t : ℕ) → t < s → b ≡ 3 + t → ⊥) → block_of (with_anode_blocks img n last k s) b ≡ block_of img b
    unfolding with_anode_blocks
    block_of-with_anode_blocks_other zero b h = refl
    block_of-with_anode_blocks_other (suc s) b h =
        block_of_other (with_anode_blocks img n last k s) (3 + s) (anode_block n last k s) (length-anode_block s) b (h s (omega arith))
        ∙ block_of-with_anode_blocks_other s b (λ t g. h t (omega arith))

    pub block_of-with_anode_blocks-same : (s t : ℕ) → t < s → (3 + s) * 512 ≤ length img → block_of (with_anode_blocks img n last k s) (3 + t) ≡ anode_block n last k t
    unfolding with_anode_blocks
    block_of-with_anode_blocks-same zero t h g = absurd (not-suc-le-zero h)
    block_of-with_anode_blocks-same (suc s) t h g =
        let m = length-with_anode_blocks s in
        ⊎_elim
        (λ e. rw e (block_of-same (with_anode_blocks img n last k s) (3 + s) (omega arith) (anode_block n last k s) (length-anode_block s)))
        (λ l. block_of_other (with_anode_blocks img n last k s) (3 + s) (anode_block n last k s) (length-anode_block s) (3 + t) (omega arith)
        ∙ block_of-with_anode_blocks-same s t l (omega arith))
        (eq-or-lt_of_le (le_of_suc-le-suc h))
