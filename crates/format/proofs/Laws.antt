-- What stands in a formatted image: its blocks, the root's fields, the slots and the anodes.
use mathlib.Core.Path.{◌≡◌, refl, sym, ap, ◌∙◌}
use mathlib.Core.Bool.{false, not}
use mathlib.Core.Logic.{⊎_elim}
use Prim.Native.Nat.{ℕ, ◌+◌, ◌*◌, ◌/◌, ◌%◌, ◌-◌, ◌<◌, ◌≤◌}
use mathlib.Core.List.{List}
use native.Mathlib.Omega.{arith}
use lib.ListN.{length, take, drop, replicate, length-replicate}
use lib.Dec.{eqb, leb, ltb}
use borrow.Rule.Slice.PartMut.{put_mid}
use borrow.Author.Tests.{ltb-false, leb-false, eqb-true, eqb-false, not-false}
use Rattle.endian.specs.Bytes.{put32}
use Rattle.endian.proofs.Laws.{less?, same?, length-put32}
use Rattle.disk.specs.Blocks.{block_of, with_block}
use Rattle.disk.specs.Root.{pfs0, root_in, slot_of}
use Rattle.disk.specs.AnodeBlocks.{anode_made, anode_in, anode_of}
use Rattle.disk.proofs.Laws.{slot_of_high, slot_of-there, anode_of_missing, anode_of-there}
use Rattle.directory.specs.declared.DirectoryHeader.{DirectoryHeader}
use Rattle.directory.specs.Entries.{directory_mark, put_directory_header}
use Rattle.counting.specs.Laws.{neither}
use Rattle.rules.specs.Accepted.{disk_size, wrong_size}
use Rattle.rules.specs.Format.{wrong_format, zero_block, root_block, lower_anode, upper_anode, list_head, first_anodes, empty_anode_block, anode_block, with_anode_blocks, new_directory_block, formatted, root_made}
use Rattle.laws.specs.NewDirectory.{length-new}
use Rattle.laws.specs.NewAnodeBlock.{length-zero_block, anode_in-empty_anode_block}
use Rattle.format.proofs.Parts.{block_of_zeros, length-stored, block_of_other, block_of-same, block_lent, block_stored, block_over, length-root_block, root_in-root_block, slot_in-root_block_some, slot_in-root_block-none, empty_long, anode_block-first, anode_block-later, first-0, first-1, first-2, first-5, first-6, first_other, length-with_anode_blocks, block_of-with_anode_blocks_other, block_of-with_anode_blocks-same}

-- ---- arguments that are taken

-- what the tests of 1 and 20 leave
pub record Taken (img : List ℕ) (last k : ℕ) (name : List ℕ) : Type 0 where
  pub whole : length img ≡ disk_size img * 512
  pub small : disk_size img ≤ 65535
  pub some : 1 ≤ k
  pub few : k ≤ 42
  pub room : 3 + k ≤ last
  pub there : last < disk_size img
  pub named : 1 ≤ length name
  pub short : length name ≤ 31

pub taken : (img : List ℕ) (last k : ℕ) (name : List ℕ) → wrong_size img ≡ false → wrong_format img last k name ≡ false → Taken img last k name
unfolding wrong_size wrong_format disk_size
taken img last k name size good =
    let w1 = neither (not (eqb (length img % 512) 0)) _ size in
    let w2 = neither (ltb (disk_size img) 5) _ w1.1 in
    let g1 = neither (ltb k 1) _ good in
    let g2 = neither (ltb 42 k) _ g1.1 in
    let g3 = neither (ltb last (3 + k)) _ g2.1 in
    let g4 = neither (leb (disk_size img) last) _ g3.1 in
    let g5 = neither (eqb (length name) 0) _ g4.1 in
    let multiple = eqb-true (length img % 512) 0 (not-false _ w1.0) in
    let filled = eqb-false (length name) 0 g5.0 in
    record {
      whole = omega arith;
      small = ltb-false 65535 (disk_size img) w2.1;
      some = ltb-false k 1 g1.0;
      few = ltb-false 42 k g2.0;
      room = ltb-false last (3 + k) g3.0;
      there = leb-false (disk_size img) last g4.0;
      named = omega arith;
      short = ltb-false 31 (length name) g5.1;
    }

-- ---- the image before its root, its anode blocks and its root directory

-- zeros and the disk type
abbrev started : ℕ → List ℕ
started z = with_block (replicate z 0) 0 (put32 zero_block 0 pfs0)

length_type : length (put32 zero_block 0 pfs0) ≡ 512
length_type = length-put32 zero_block 0 pfs0 ∙ length-zero_block

length-started : (z : ℕ) → length (started z) ≡ z
length-started z = length-stored (replicate z 0) 0 (put32 zero_block 0 pfs0) length_type ∙ length-replicate {A = ℕ} z 0

block_of-started : (z b : ℕ) → (b ≡ 0 → ⊥) → b * 512 + 512 ≤ z → block_of (started z) b ≡ zero_block
block_of-started z b h g = block_of_other (replicate z 0) 0 (put32 zero_block 0 pfs0) length_type b h ∙ block_of_zeros z b g

-- block 0 when it is back
pub start-stored : (img : List ℕ) (z : ℕ) (new : List ℕ) → 512 ≤ z → img ≡ replicate z 0 → new ≡ put32 (take 512 (drop 0 img)) 0 pfs0
    → put_mid 0 512 img new ≡ started z
start-stored img z new h e is =
    let m = ap length e ∙ length-replicate {A = ℕ} z 0 in
    let blank = ap (λ (l : List ℕ). block_of l 0) e ∙ block_of_zeros z 0 h in
    block_over img 0 (λ (l : List ℕ). put32 l 0 pfs0) new (omega arith) blank length_type is
    ∙ ap (λ (l : List ℕ). with_block l 0 (put32 zero_block 0 pfs0)) e

-- block 2 when it is lent
pub root-lent : (img : List ℕ) (z : ℕ) → 1536 ≤ z → img ≡ started z → take 512 (drop 1024 img) ≡ zero_block
root-lent img z h e =
    let m = length-started z in
    rw e (block_lent (started z) 2 (omega arith) ∙ block_of-started z 2 (omega arith) h)

-- the root directory's head
abbrev root_header : DirectoryHeader
root_header = record { mark = directory_mark; owner = record { 0 = 5 }; parent = record { 0 = 0 } }

module _ (img : List ℕ) (last k : ℕ) (name : List ℕ) (day minute tick protection : ℕ) where
  abbrev root : List ℕ
  root = root_block last k name day minute tick protection

  length-root : length root ≡ 512
  length-root = length-root_block last k name day minute tick protection

  -- with the root block
  abbrev rooted : List ℕ
  rooted = with_block (started (length img)) 2 root

  -- and the anode blocks
  abbrev based : List ℕ
  based = with_anode_blocks rooted (disk_size img) last k k

  -- and the root directory
  abbrev disk : List ℕ
  disk = formatted img last k name day minute tick protection

  disk-based : disk ≡ with_block based (3 + k) (new_directory_block 5 0)
  unfolding formatted
  disk-based = refl

  length-rooted : length rooted ≡ length img
  length-rooted = length-stored (started (length img)) 2 root length-root ∙ length-started (length img)

  length-based : length based ≡ length img
  length-based = length-with_anode_blocks (disk_size img) last k rooted k ∙ length-rooted

  pub length-formatted : length disk ≡ length img
  length-formatted = rw disk-based (length-stored based (3 + k) (new_directory_block 5 0) (length-new 5 0) ∙ length-based)

  module _ (args : Taken img last k name) where
    -- block 2 when it is back
    pub root-stored : (i new : List ℕ) → i ≡ started (length img) → new ≡ root → put_mid 1024 512 i new ≡ rooted
    root-stored i new e is =
        let m = length-started (length img) in
        rw (e, is) (block_stored (started (length img)) 2 (omega (arith, args)) root length-root)

    block_of-rooted : (b : ℕ) → 3 ≤ b → b < disk_size img → block_of rooted b ≡ zero_block
    block_of-rooted b h g =
        block_of_other (started (length img)) 2 root length-root b (omega arith)
        ∙ block_of-started (length img) b (omega arith) (omega (arith, args))

    -- the anode blocks before they are stored
    pub anodes_blank : (i : List ℕ) → i ≡ rooted → (s : ℕ) → s < k → block_of i (3 + s) ≡ zero_block
    anodes_blank i e s h = rw e (block_of-rooted (3 + s) (omega arith) (omega (arith, args)))

    block_of-based : (b : ℕ) → 3 + k ≤ b → b < disk_size img → block_of based b ≡ zero_block
    block_of-based b h g =
        block_of-with_anode_blocks_other (disk_size img) last k rooted k b (λ t l e. omega arith) ∙ block_of-rooted b (omega arith) g

    -- the root directory's block when it is back
    pub directory_stored : (i j new : List ℕ) (n : ℕ) → i ≡ rooted → n ≡ disk_size img → j ≡ with_anode_blocks i n last k k
        → new ≡ put_directory_header (take ((3 + k) * 512 + 512 - (3 + k) * 512) (drop ((3 + k) * 512) j)) root_header
        → put_mid ((3 + k) * 512) ((3 + k) * 512 + 512 - (3 + k) * 512) j new ≡ disk
    unfolding new_directory_block
    directory_stored i j new n r d a is =
        let e : j ≡ based = a ∙ rw (r, d) in
        let m = ap length e ∙ length-based in
        let blank = ap (λ (l : List ℕ). block_of l (3 + k)) e ∙ block_of-based (3 + k) (omega arith) (omega (arith, args)) in
        block_over j (3 + k) (λ (l : List ℕ). put_directory_header l root_header) new (omega (arith, args)) blank (length-new 5 0) is
        ∙ ap (λ (l : List ℕ). with_block l (3 + k) (new_directory_block 5 0)) e
        ∙ sym disk-based

    -- ---- the blocks

    block_of-formatted_other : (b : ℕ) → (b ≡ 3 + k → ⊥) → block_of disk b ≡ block_of based b
    block_of-formatted_other b h = rw disk-based (block_of_other based (3 + k) (new_directory_block 5 0) (length-new 5 0) b h)

    block_of-formatted-root : block_of disk 2 ≡ root
    block_of-formatted-root =
        let m = length-started (length img) in
        block_of-formatted_other 2 (omega arith)
        ∙ block_of-with_anode_blocks_other (disk_size img) last k rooted k 2 (λ s h e. omega arith)
        ∙ block_of-same (started (length img)) 2 (omega (arith, args)) root length-root

    pub block_of-formatted_anodes : (s : ℕ) → s < k → block_of disk (3 + s) ≡ anode_block (disk_size img) last k s
    block_of-formatted_anodes s h =
        let m = length-rooted in
        block_of-formatted_other (3 + s) (omega arith) ∙ block_of-with_anode_blocks-same (disk_size img) last k rooted k s h (omega (arith, args))

    pub block_of-formatted_directory : block_of disk (3 + k) ≡ new_directory_block 5 0
    block_of-formatted_directory =
        let m = length-based in
        rw disk-based (block_of-same based (3 + k) (omega (arith, args)) (new_directory_block 5 0) (length-new 5 0))

    -- ---- the root's fields and the slots

    pub root_in-formatted : root_in (block_of disk 2) ≡ root_made last name day minute tick protection
    root_in-formatted = rw block_of-formatted-root (root_in-root_block last k name day minute tick protection)

    pub slot_of-formatted_some : (s : ℕ) → s < k → slot_of disk s ≡ 3 + s
    slot_of-formatted_some s h =
        slot_of-there _ s (omega (arith, args)) ∙ rw block_of-formatted-root (slot_in-root_block_some last k name day minute tick protection s h args.few)

    pub slot_of-formatted-none : (s : ℕ) → k ≤ s → slot_of disk s ≡ 0
    slot_of-formatted-none s h =
        ⊎_elim
        (λ g. slot_of-there _ s g
        ∙ rw block_of-formatted-root (slot_in-root_block-none last k name day minute tick protection s h args.short))
        (λ g. slot_of_high _ s g)
        (less? s 42)

    -- ---- the anodes

    anode_of-formatted-there : (a : ℕ) → a / 82 < k
        → anode_of disk a ≡ anode_in (anode_block (disk_size img) last k (a / 82)) (a % 82)
    anode_of-formatted-there a h =
        anode_of-there _ a (3 + a / 82) (slot_of-formatted_some (a / 82) h) (omega arith) ∙ rw (block_of-formatted_anodes (a / 82) h)

    -- an anode of the first anode block
    anode_of-formatted-first : (a : ℕ) → a < 82
        → anode_of disk a ≡ anode_in (first_anodes (empty_anode_block 0) (disk_size img) last k) a
    anode_of-formatted-first a h =
        let q : a / 82 ≡ 0 = omega arith in
        let r : a % 82 ≡ a = omega arith in
        anode_of-formatted-there a (omega (arith, args)) ∙ rw (r, q, anode_block-first (disk_size img) last k 0 refl)

    pub anode_of-formatted-0 : anode_of disk 0 ≡ anode_made 0 65535 0
    anode_of-formatted-0 = anode_of-formatted-first 0 (omega arith) ∙ first-0 (disk_size img) last k (empty_anode_block 0) empty_long

    pub anode_of-formatted-1 : anode_of disk 1 ≡ list_head (disk_size img) last
    anode_of-formatted-1 = anode_of-formatted-first 1 (omega arith) ∙ first-1 (disk_size img) last k (empty_anode_block 0) empty_long

    pub anode_of-formatted-2 : anode_of disk 2 ≡ lower_anode last k
    anode_of-formatted-2 = anode_of-formatted-first 2 (omega arith) ∙ first-2 (disk_size img) last k (empty_anode_block 0) empty_long

    pub anode_of-formatted-5 : anode_of disk 5 ≡ anode_made 1 (3 + k) 0
    anode_of-formatted-5 = anode_of-formatted-first 5 (omega arith) ∙ first-5 (disk_size img) last k (empty_anode_block 0) empty_long

    pub anode_of-formatted-6 : anode_of disk 6 ≡ upper_anode (disk_size img) last
    anode_of-formatted-6 = anode_of-formatted-first 6 (omega arith) ∙ first-6 (disk_size img) last k (empty_anode_block 0) empty_long

    pub anode_of-formatted_other : (a : ℕ) → (a ≡ 0 → ⊥) → (a ≡ 1 → ⊥) → (a ≡ 2 → ⊥) → (a ≡ 5 → ⊥) → (a ≡ 6 → ⊥)
        → anode_of disk a ≡ anode_made 0 0 0
    anode_of-formatted_other a n0 n1 n2 n5 n6 =
        ⊎_elim
        (λ h. ⊎_elim
        (λ e. anode_of-formatted-first a (omega arith)
        ∙ first_other (disk_size img) last k (empty_anode_block 0) empty_long a n0 n1 n2 n5 n6
        ∙ anode_in-empty_anode_block 0 a)
        (λ g. anode_of-formatted-there a h
        ∙ rw (anode_block-later (disk_size img) last k (a / 82) g) (anode_in-empty_anode_block (a / 82) (a % 82)))
        (same? (a / 82) 0))
        (λ h. anode_of_missing _ a (slot_of-formatted-none (a / 82) h))
        (less? (a / 82) k)
