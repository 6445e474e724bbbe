-- Laws of a slot that is stored, of the slots stored one after the other, and of the block table that shows them.
use Prim.Native.Nat.{ℕ, zero, suc, ◌+◌, ◌*◌, ◌-◌, ◌≤◌, ◌<◌}
use mathlib.Core.Path.{◌≡◌, refl, sym, ap, ◌∙◌}
use mathlib.Core.Logic.{◌≢◌, inl, inr}
use mathlib.Core.Bool.{false}
use mathlib.Core.List.{List}
use native.Mathlib.Omega.{arith}
use native.Mathlib.Numerals.{add-one}
use lib.ListN.{length, take, drop, set}
use borrow.Author.Tests.{eq-eqb, ne_eqb}
use borrow.Rule.Slice.PartMut.{put_mid}
use Rattle.endian.specs.Bytes.{cleared}
use Rattle.endian.proofs.Laws.{length-put16, cleared-rest}
use Rattle.disk.specs.Blocks.{block_of, with_block}
use Rattle.disk.specs.Root.{slot_byte, slot_of, put_slot}
use Rattle.disk.specs.AnodeBlocks.{put_anode_header}
use Rattle.disk.proofs.Laws.{length-block_of, part_block, block_back, block_changed}
use Rattle.rules.specs.Accepted.{disk_size, wrong_size}
use Rattle.rules.specs.Format.{zero_block, empty_anode_block}
use Rattle.rules.specs.Table.{in_block, slot_block, with_slot, store_slots}
use Rattle.laws.specs.Tests.{eqb_cases}
use Rattle.laws.specs.Acceptance.{size_bounds}
use Rattle.laws.specs.Moves.{SlotsGrew}
use Rattle.laws.specs.GotSlots.{slots_got, was_empty}
use Rattle.laws.specs.OwnerTable.{set_all}
use Rattle.laws.specs.NewAnodeBlock.{header_made, length-empty_anode_block}
use Rattle.frames.specs.StoredBlocks.{in_block-kept}
use Rattle.frames.specs.StoredSlots.{block_inside, slot_kept, slot_other}

-- ---- one slot

-- the root block is back with slot k in it, and then block y, zeroed and headed
module _ (img : List ℕ) (k y : ℕ) (rooted : 1536 ≤ length img) (inside : y * 512 + 512 ≤ length img) where
  pub root-back : (root : List ℕ) → root ≡ put_slot (take 512 (drop 1024 img)) k y → put_mid 1024 512 img root ≡ in_block img 2 (λ b. put_slot b k y)
  unfolding in_block
  root-back root is =
      block_changed img 2 1536 (omega arith) (omega arith) root (ap length is ∙ length-put16 (take 512 (drop 1024 img)) (slot_byte k) y) (λ b. put_slot b k y) is

  pub slot_back : (root blank new : List ℕ) → root ≡ put_slot (take 512 (drop 1024 img)) k y
      → blank ≡ cleared (take (y * 512 + 512 - y * 512) (drop (y * 512) (put_mid 1024 512 img root))) 0 512 → new ≡ put_anode_header blank (header_made k)
      → put_mid (y * 512) (y * 512 + 512 - y * 512) (put_mid 1024 512 img root) new ≡ with_slot img k y (empty_anode_block k)
  unfolding with_slot empty_anode_block
  slot_back root blank new is zeroed headed =
      let j = put_mid 1024 512 img root in
      let e = root-back root is in
      let kept = (in_block-kept img 2 (λ b. put_slot b k y) (length-put16 (block_of img 2) (slot_byte k) y)).length-kept in
      let long : length j ≡ length img = ap length e ∙ kept in
      let whole : length (block_of j y) ≡ 512 = length-block_of j y (omega arith) in
      let lent = part_block j y (y * 512 + 512) (omega arith) (omega arith) in
      let none : blank ≡ zero_block = zeroed ∙ cleared-rest _ 0 512 (ap length lent ∙ whole) in
      let full : new ≡ empty_anode_block k = headed ∙ ap (λ (b : List ℕ). put_anode_header b (header_made k)) none in
      block_back j y (y * 512 + 512) (omega arith) (omega arith) new (ap length full ∙ length-empty_anode_block k ∙ sym whole)
      ∙ ap (λ (i : List ℕ). with_block i y new) e
      ∙ ap (with_block (in_block img 2 (λ b. put_slot b k y)) y) full

-- ---- the slots below a bound

-- each slot that comes to hold another block has a place for it, and a whole block of bytes
module _ (img : List ℕ) (slots : ℕ → ℕ) (placed : (k : ℕ) → slots k ≢ slot_of img k → (3 ≤ slots k) × (slots k < disk_size img)) (whole : (k : ℕ) → slots k ≢ slot_of img k → length (slot_block img k) ≡ 512) where
  -- what the image keeps where the slots below k are stored: its length, every slot from k on, and each block but the root and those that a slot comes to hold
  pub record KeptFrom (k : ℕ) (j : List ℕ) : Type 0 where
    pub length-same : length j ≡ length img
    pub slot_same : (i : ℕ) → k ≤ i → slot_of j i ≡ slot_of img i
    pub block_same : (d : ℕ) → d ≢ 2 → ((i : ℕ) → slots i ≢ slot_of img i → d ≢ slots i) → block_of j d ≡ block_of img d

  kept_from : (k : ℕ) → k ≤ 42 → KeptFrom k (store_slots img slots k)
  unfolding store_slots
  kept_from zero l = record { length-same = refl; slot_same = λ i m. refl; block_same = λ d n o. refl }
  kept_from (suc k) l =
      let j = store_slots img slots k in
      let y = slots k in
      let p = kept_from k (omega arith) in
      elim (eqb_cases y (slot_of img k) j (with_slot j k y (slot_block img k))) [
        | inl (e, i) ↦ rw i (record { length-same = p.length-same; slot_same = λ i m. p.slot_same i (omega arith); block_same = p.block_same })
        | inr (o, i) ↦ (let here = placed k o in
            let inside : y * 512 + 512 ≤ length j = rw p.length-same (block_inside img y here.1) in
            let kept = slot_kept j k y (slot_block img k) (omega arith) here.0 inside (whole k o) in
            rw i (record {
              length-same = kept.length-kept ∙ p.length-same;
              slot_same = λ i m. slot_other j k y (slot_block img k) (omega arith) here.0 inside (whole k o) i (omega arith) ∙ p.slot_same i (omega arith);
              block_same = λ d n q. kept.block_kept d (n, q k o) ∙ p.block_same d n q;
            }))
      ]

  -- j is img with the slots below k stored, and y is the block of slot k
  module _ (right : wrong_size img ≡ false) (k y : ℕ) (j : List ℕ) (low : k < 42) (is : j ≡ store_slots img slots k) (now : y ≡ slots k) where
    pub kept-below : KeptFrom k j
    kept-below = rw is (kept_from k (omega arith))

    -- slot k holds what it held
    pub slot_before : slot_of j k ≡ slot_of img k
    slot_before = kept-below.slot_same k (omega arith)

    length-below : length j ≡ length img
    length-below = kept-below.length-same

    -- it holds y already
    pub slot_stays : slot_of j k ≡ y → j ≡ store_slots img slots (k + 1)
    unfolding store_slots
    slot_stays e = rw (add-one k, eq-eqb (slots k) (slot_of img k) (sym now ∙ sym e ∙ slot_before)) is

    -- it is to hold y
    module _ (other : slot_of j k ≢ y) where
      differs : slots k ≢ slot_of img k
      differs e = other (slot_before ∙ sym e ∙ sym now)

      -- there is room for both stores
      pub slot_room : (1536 ≤ length j) × (y * 512 + 512 ≤ length j)
      unfolding disk_size
      slot_room =
          let size = (size_bounds img right).0 in
          let there = block_inside img (slots k) (placed k differs).1 in
          rw (length-below, now) (omega arith, there)

      pub slot_comes : (new : List ℕ) → (slots k ≢ slot_of img k → new ≡ slot_block img k) → with_slot j k y new ≡ store_slots img slots (k + 1)
      unfolding store_slots
      slot_comes new full = rw (add-one k, ne_eqb (slots k) (slot_of img k) differs, full differs, is, now)

-- a slot that comes to hold another block was empty, and so its block is new
module _ (img : List ℕ) (slots : ℕ → ℕ) (w : SlotsGrew (disk_size img) (slot_of img) slots) where
  pub new_block : (k : ℕ) → slots k ≢ slot_of img k → slot_block img k ≡ empty_anode_block k
  unfolding slot_block
  new_block k o = rw (eq-eqb (slot_of img k) 0 (was_empty w k o))

  pub new_whole : (k : ℕ) → slots k ≢ slot_of img k → length (slot_block img k) ≡ 512
  new_whole k o = ap length (new_block k o) ∙ length-empty_anode_block k

pub no_slot_stored : (img : List ℕ) (slots : ℕ → ℕ) → store_slots img slots 0 ≡ img
unfolding store_slots
no_slot_stored img slots = refl

-- ---- the block table

pub none_shown : (old slots : ℕ → ℕ) (table : List ℕ) (v : ℕ) → set_all table (slots_got old slots 0) v ≡ table
unfolding slots_got set_all
none_shown old slots table v = refl

-- the highest slot below k, which is k'
module _ (old slots : ℕ → ℕ) (table : List ℕ) (v k k' y : ℕ) (next : k ≡ k' + 1) (now : y ≡ slots k') where
  -- it holds what it held
  pub shown_same : old k' ≡ y → set_all table (slots_got old slots k') v ≡ set_all table (slots_got old slots k) v
  unfolding slots_got
  shown_same e = rw (next, add-one k', eq-eqb (slots k') (old k') (sym now ∙ sym e))

  -- it has got y
  pub shown_other : old k' ≢ y → set_all (set table y v) (slots_got old slots k') v ≡ set_all table (slots_got old slots k) v
  unfolding slots_got set_all
  shown_other u = rw (next, add-one k', ne_eqb (slots k') (old k') (λ e. u (sym e ∙ sym now)), now)
