-- The image that a planned safe resize leaves, store by store, and its list of writes.
use Prim.Native.Nat.{ℕ, ◌+◌, ◌*◌, ◌/◌, ◌%◌, ◌≤◌, ◌<◌}
use mathlib.Core.Path.{◌≡◌, refl, sym, ap, ap₂, ◌∙◌}
use mathlib.Core.Logic.{◌≢◌}
use mathlib.Core.List.{List, [], ◌∷◌, ◌++◌, append_assoc}
use native.Mathlib.Omega.{arith}
use native.Mathlib.Nat.{le_of_eq}
use lib.ListN.{length, take, drop, length-drop, length-append, take-append-drop}
use lib.Seq.{take_all, take_at, drop_at, length-take-le}
use borrow.Author.Tests.{ne_eqb}
use Rattle.std.specs.Prelude.{Ok, Err}
use Rattle.disk.specs.declared.Refusal.TheVariants.{ShortWriteList}
use Rattle.endian.specs.Bytes.{put32}
use Rattle.endian.proofs.Laws.{length-put32}
use Rattle.disk.specs.Blocks.{block_of, with_block}
use Rattle.disk.proofs.Laws.{length-block_of}
use Rattle.rules.specs.Counting.{one_at, occurrences}
use Rattle.rules.specs.Anodes.{Anodes, anodes_of}
use Rattle.rules.specs.Chains.{blocks_of}
use Rattle.rules.specs.Walk.{Entered, blocks_for}
use Rattle.rules.specs.Lookup.{bytes_of}
use Rattle.rules.specs.Totals.{free_blocks}
use Rattle.rules.specs.Plans.{Slotted, table_of}
use Rattle.rules.specs.Table.{with_table}
use Rattle.rules.specs.Changes.{spread, with_size}
use Rattle.laws.specs.Sums.{one_at-same}
use Rattle.laws.specs.Bags.{occurrences-cons, occurrences-append}
use Rattle.laws.specs.Chains.{Inside}
use Rattle.frames.specs.Kept.{Kept}
use Rattle.frames.specs.StoredBlocks.{spread-kept}
use Rattle.frames.specs.DisjointBlocks.{chain_once}
use Rattle.change_laws.specs.Image.{AcceptedImage}
use Rattle.change_laws.specs.Reached.{EntryIn, EntryFacts, entry-facts, block_data, block_entry}
use Rattle.safe_rules.specs.SafePlans.{SafeChange, slot_blocks, resized_bytes, resize_change, new_blocks}
use Rattle.safe_rules.specs.SafeWrites.{new_image}
use Rattle.safe_laws.specs.OwnChanges.{length-resized, resize_own}
use Rattle.safe_laws.specs.LeftImage.{data_block, writes_leave}
use Rattle.safe_laws.specs.SafeResized.{resized-table, resized_head, resized-file, resized_many}
use Rattle.anodes.specs.Loaded.{anodes_from, Loaded}
use Rattle.write_lists.specs.Puts.{with_writes}
use Rattle.safe_plans.proofs.Counts.{extents_small}
use Rattle.safe_stores.specs.Stored.{TableMoves}
use Rattle.safe_stores.specs.Leaves.{SafeLeaves}
use Rattle.safe_stores.proofs.Leaves.{leaves_short, leaves_done}
use Rattle.safe_stores.proofs.Placed.{root_inside, list_inside, slot_inside, table_moves, table-length, entry_old, entry_stays}
use Rattle.safe_stores.proofs.Staged.{stored-changed}
use Rattle.safe_resizes.specs.Resized.{new_order, ResizePlan}
use Rattle.safe_resizes.proofs.Plans.{changes, takes_are}

-- ---- lists

-- bytes spread over some blocks, and those behind them in one block more
spread_then : (img ys : List ℕ) (z : ℕ) (front last : List ℕ) → length front ≡ length ys * 512 → length last ≡ 512 → spread img (ys ++ (z ∷ [])) (front ++ last) ≡ with_block (spread img ys front) z last
unfolding spread
spread_then img [] z [] last long whole = ap (with_block img z) (take_all 512 last (omega (arith, whole)))
spread_then img [] z (x ∷ front) last long whole = absurd (omega (arith, long))
spread_then img (y ∷ ys) z front last long whole =
    let part : length (take 512 front) ≡ 512 = length-take-le 512 front (omega (arith, long)) in
    let parts : front ++ last ≡ take 512 front ++ (drop 512 front ++ last) = ap (λ (l : List ℕ). l ++ last) (sym (take-append-drop 512 front)) ∙ append_assoc (take 512 front) (drop 512 front) last in
    ap₂ (λ (a b : List ℕ). spread (with_block img y a) (ys ++ (z ∷ [])) b)
    (ap (take 512) parts ∙ take_at (take 512 front) (drop 512 front ++ last) 512 part) (ap (drop 512) parts ∙ drop_at (take 512 front) (drop 512 front ++ last) 512 part)
    ∙ spread_then (with_block img y (take 512 front)) ys z (drop 512 front) last (length-drop 512 front ∙ omega (arith, long)) whole

-- ---- the file's bytes

-- as they are staged, by the tables that are lent
pub bytes_loaded : {img counts firsts nexts : List ℕ} → Loaded img counts firsts nexts → (h old size : ℕ) (bytes : List ℕ) → bytes ≡ resized_bytes (bytes_of img (anodes_from counts firsts nexts) h) old size → bytes ≡ resized_bytes (bytes_of img (anodes_of img) h) old size
bytes_loaded {img} loaded h old size bytes is = is ∙ ap (λ (s : Anodes). resized_bytes (bytes_of img s h) old size) loaded.is_loaded

-- ---- a planned resize

module _ {img : List ℕ} {k : ℕ} {e : Entered} (m : EntryIn img k e) (size : ℕ) (differs : e.size ≢ size) (t : Slotted) (z : ℕ) (plan : ResizePlan img e size t z) where
  -- the accepted image
  abbrev image : AcceptedImage img
  image = m.directory.image

  -- what is known of the entry
  abbrev facts : EntryFacts img k e
  facts = entry-facts m

  -- the resize
  abbrev c : SafeChange
  c = resize_change img (table_of img) e size

  -- the file's new blocks
  abbrev us : List ℕ
  us = blocks_of t.anodes e.anode

  -- all new blocks
  abbrev ys : List ℕ
  ys = new_order t e.anode z

  -- the entry's block
  abbrev y : ℕ
  y = e.start / 512

  -- the entry's place there
  abbrev at : ℕ
  at = e.start % 512

  -- the file's bytes
  abbrev file_new : List ℕ
  file_new = resized_bytes (bytes_of img (anodes_of img) e.anode) e.size size

  -- those of the directory block
  abbrev home_new : List ℕ
  home_new = put32 (block_of img (e.start / 512)) (e.start % 512 + 4) size

  -- ---- the new blocks

  -- the file has those that its size asks for
  pub file_many : length (blocks_of t.anodes e.anode) ≡ blocks_for size
  file_many = ap length (resized-file m size differs t ys plan) ∙ resized_many m size differs t ys plan

  -- all are these, the directory block's place, and the anode blocks
  pub list_long : length (new_order t e.anode z) ≡ blocks_for size + length (slot_blocks t.slots 42) + 1
  list_long = length-append us (z ∷ slot_blocks t.slots 42) ∙ omega (arith, file_many)

  -- block by block
  in_list : (x : ℕ) → occurrences x ys ≡ occurrences x us + (one_at z x + occurrences x (slot_blocks t.slots 42))
  in_list x = occurrences-append x us (z ∷ slot_blocks t.slots 42) ∙ omega (arith, occurrences-cons x z (slot_blocks t.slots 42))

  -- the file's are whole blocks
  pub file_inside : Inside img (blocks_of t.anodes e.anode)
  file_inside x p = (data_block image (resize_own m size) t ys plan x (omega (arith, p, in_list x))).inside

  -- each of them once
  pub file_once : (x : ℕ) → occurrences x (blocks_of t.anodes e.anode) ≤ 1
  file_once x = chain_once (resized-table m size differs t ys plan).table.good e.anode (resized_head m size differs t ys plan e.anode facts.head) x

  -- the new place of the entry's block is a whole block
  pub place_whole : z * 512 + 512 ≤ length img
  place_whole = (data_block image (resize_own m size) t ys plan z (omega (arith, in_list z, one_at-same z z refl))).inside

  -- so are the blocks of the slots
  pub slots_whole : (s : ℕ) → t.slots s * 512 + 512 ≤ length img
  slots_whole = slot_inside image (resize_own m size) t ys plan

  -- and the root
  pub root_whole : 1536 ≤ length img
  root_whole = root_inside image (resize_own m size) t ys plan

  -- every extent ends within 65,535 blocks
  pub new_extents : (a : ℕ) → 0 < t.anodes.count a → t.anodes.block a + t.anodes.count a ≤ 65535
  new_extents = extents_small image (resized-table m size differs t ys plan).table

  -- the anode table may be stored
  pub moves_table : TableMoves img t.slots
  moves_table = table_moves image (resize_own m size) t ys plan

  -- ---- the stores, one after the other

  module _ (i : List ℕ) (i_is : i ≡ with_table img t) where
    -- the table stored, the image has its length
    table_long : length i ≡ length img
    table_long = ap length i_is ∙ table-length image (resize_own m size) t ys plan

    -- so the file's blocks are whole
    pub file_whole : Inside i (blocks_of t.anodes e.anode)
    file_whole x p = omega (arith, file_inside x p, table_long)

    module _ (bytes : List ℕ) (bytes_are : bytes ≡ resized_bytes (bytes_of img (anodes_of img) e.anode) e.size size) where
      -- its bytes fill them
      pub bytes_fill : length bytes ≡ length (blocks_of t.anodes e.anode) * 512
      bytes_fill = ap length bytes_are ∙ length-resized (bytes_of img (anodes_of img) e.anode) e.size size ∙ ap (λ (n : ℕ). n * 512) (sym file_many)

      module _ (f : List ℕ) (f_is : f ≡ spread i (blocks_of t.anodes e.anode) bytes) where
        -- stored there, they leave all other blocks
        file-kept : Kept (λ b. occurrences b us ≡ 0) i f
        file-kept = rw f_is (spread-kept i us bytes (le_of_eq (sym bytes_fill)))

        -- nor do they change its length
        long : length f ≡ length img
        long = file-kept.length-kept ∙ table_long

        -- both places of the entry's block are whole
        pub both_whole : (e.start / 512 * 512 + 512 ≤ length f) × (z * 512 + 512 ≤ length f)
        both_whole = (omega (arith, long, (block_data facts).inside), omega (arith, long, place_whole))

        -- the block that is copied is the entry's
        source : block_of f y ≡ block_of img y
        source = file-kept.block_kept y (omega (arith, entry_old image (resize_own m size) t ys plan m, in_list y)) ∙ ap (λ (x : List ℕ). block_of x y) i_is ∙ entry_stays image (resize_own m size) t ys plan m

        -- 512 bytes
        source_long : length (block_of f y) ≡ 512
        source_long = length-block_of f y both_whole.0

        module _ (j : List ℕ) (j_is : j ≡ with_block f z (block_of f (e.start / 512))) where
          -- 512 bytes, with the new size too
          home_long : length home_new ≡ 512
          home_long = length-put32 (block_of img y) (at + 4) size ∙ (block_entry facts).whole

          -- the new size stored there leaves the block with it
          size_put : with_size j (z * 512 + at) size ≡ with_block f z home_new
          unfolding with_size
          size_put = stored-changed f z (block_of f y) both_whole.1 source_long j j_is at (omega arith) (λ b p. put32 b (p + 4) size) ∙ ap (λ (b : List ℕ). with_block f z (put32 b (at + 4) size)) source

          -- the file's blocks and the directory block's place are taken first
          taken-first : take (c.takes + length c.changing) ys ≡ us ++ (z ∷ [])
          taken-first = ap (take (c.takes + length c.changing)) (sym (append_assoc us (z ∷ []) (slot_blocks t.slots 42)))
              ∙ take_at (us ++ (z ∷ [])) (slot_blocks t.slots 42) (c.takes + length c.changing) (length-append us (z ∷ []) ∙ omega (arith, file_many, takes_are m size differs, ap length (changes m size differs)))

          -- the bytes of the resize are the file's and the directory block's
          both_bytes : c.bytes ≡ file_new ++ home_new
          unfolding resize_change
          both_bytes = rw (ne_eqb e.size size differs) refl

          -- they land there
          spread_both : new_image img c t ys ≡ with_block f z home_new
          unfolding new_image
          spread_both = ap₂ (spread (with_table img t)) taken-first both_bytes ∙ ap₂ (λ (x b : List ℕ). spread x (us ++ (z ∷ [])) (b ++ home_new)) (sym i_is) (sym bytes_are)
              ∙ spread_then i us z bytes home_new bytes_fill home_long ∙ ap (λ (x : List ℕ). with_block x z home_new) (sym f_is)

          -- THE IMAGE LEFT: the table stored, the file's bytes in its blocks, the directory block copied, and the size stored
          pub stores_leave : (new : List ℕ) → new ≡ with_size j (z * 512 + e.start % 512) size → new ≡ new_image img (resize_change img (table_of img) e size) t (new_order t e.anode z)
          stores_leave new is = is ∙ size_put ∙ sym spread_both

  -- ---- what the resize leaves

  module _ (out : List ℕ) (enough : new_blocks img (resize_change img (table_of img) e size) ≤ free_blocks (anodes_of img)) where
    -- 32
    pub short_leaves : length out < (blocks_for size + length (slot_blocks t.slots 42) + 2) * 514 → SafeLeaves img out (resize_change img (table_of img) e size) (Err ShortWriteList) img out
    short_leaves p = leaves_short img out c enough t ys plan (omega (arith, p, list_long))

    -- DONE
    pub done_leaves : (blocks_for size + length (slot_blocks t.slots 42) + 2) * 514 ≤ length out → (staged : List ℕ) (n : ℕ) → length staged ≡ length out → drop n staged ≡ drop n out → n ≤ blocks_for size * 512 → (i new : List ℕ) → i ≡ new_image img (resize_change img (table_of img) e size) t (new_order t e.anode z) →
        new ≡ with_writes staged 0 i (new_order t e.anode z ++ (2 ∷ [])) → (count : ℕ) → count ≡ blocks_for size + length (slot_blocks t.slots 42) + 2 → SafeLeaves img out (resize_change img (table_of img) e size) (Ok count) i new
    done_leaves fits staged n whole behind low i new i_is is count counts =
        leaves_done img out c enough t ys plan (omega (arith, fits, list_long)) (writes_leave image (resize_own m size) t ys plan) (list_inside image (resize_own m size) t ys plan) staged n whole behind (omega (arith, low, list_long)) i new i_is
        (is ∙ ap (λ (x : List ℕ). with_writes staged 0 x (ys ++ (2 ∷ []))) i_is) count (omega (arith, counts, list_long))
