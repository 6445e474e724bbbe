-- The image that a planned safe removal leaves, store by store, and its list of writes.
use Prim.Native.Nat.{ℕ, ◌+◌, ◌*◌, ◌/◌, ◌%◌, ◌≤◌, ◌<◌}
use mathlib.Core.Path.{◌≡◌, refl, sym, ap, ap₂, ◌∙◌}
use mathlib.Core.List.{List, [], ◌∷◌, ◌++◌}
use native.Mathlib.Omega.{arith}
use native.Mathlib.Nat.{le_of_eq}
use lib.ListN.{length}
use lib.Seq.{take_all}
use Rattle.std.specs.Prelude.{Ok, Err}
use Rattle.disk.specs.declared.Refusal.TheVariants.{ShortWriteList}
use Rattle.disk.specs.Blocks.{block_of, with_block}
use Rattle.disk.proofs.Laws.{length-block_of}
use Rattle.disk.proofs.Store.{length-with_block}
use Rattle.rules.specs.Anodes.{anodes_of}
use Rattle.rules.specs.Walk.{Entered}
use Rattle.rules.specs.Totals.{free_blocks}
use Rattle.rules.specs.Plans.{Slotted, table_of, planned}
use Rattle.rules.specs.Table.{with_table}
use Rattle.rules.specs.Changes.{spread, entry_closed, without_entry}
use Rattle.laws.specs.Bags.{occurrences-here}
use Rattle.change_laws.specs.Image.{AcceptedImage}
use Rattle.change_laws.specs.FoundEntries.{block_standing, end_within}
use Rattle.change_laws.specs.Reached.{EntryIn, EntryFacts, entry-facts, block_data, block_entry}
use Rattle.change_laws.specs.Gap.{length-closed}
use Rattle.safe_rules.specs.SafePlans.{SafeChange, slot_blocks, remove_change, new_blocks, safe_steps}
use Rattle.safe_rules.specs.SafeWrites.{new_image}
use Rattle.safe_laws.specs.OwnChanges.{remove_own}
use Rattle.safe_laws.specs.LeftImage.{data_block, left-kept, writes_leave}
use Rattle.edits.specs.Entries.{EntryStands}
use Rattle.write_lists.specs.Puts.{with_writes}
use Rattle.write_lists.proofs.Laws.{no_write}
use Rattle.safe_stores.specs.Stored.{TableMoves}
use Rattle.safe_stores.specs.Leaves.{SafeLeaves}
use Rattle.safe_stores.proofs.Leaves.{leaves_short, leaves_done}
use Rattle.safe_stores.proofs.Placed.{root_inside, list_inside, slot_inside, table_moves, table-length, entry_stays}
use Rattle.safe_stores.proofs.Staged.{place_parts, stored_there, stored-changed, none_inside, list_put}

-- the removal of an entry whose steps took block z and then the anode blocks
module _ {img : List ℕ} {k : ℕ} {e : Entered} (m : EntryIn img k e) (t : Slotted) (z : ℕ) (plan : safe_steps img (remove_change img (table_of img) e) ≡ planned t (z ∷ slot_blocks t.slots 42)) where
  abbrev image : AcceptedImage img
  image = m.directory.image

  abbrev facts : EntryFacts img k e
  facts = entry-facts m

  abbrev c : SafeChange
  c = remove_change img (table_of img) e

  abbrev ys : List ℕ
  ys = z ∷ slot_blocks t.slots 42

  -- the entry's block, and its place there
  abbrev y : ℕ
  y = e.start / 512

  abbrev at : ℕ
  at = e.start % 512

  -- the block with the gap closed
  abbrev closed : List ℕ
  closed = entry_closed (block_of img y) at

  -- the anode table may be stored
  pub moves_table : TableMoves img t.slots
  moves_table = table_moves image (remove_own m) t ys plan

  -- the blocks of the slots are whole
  pub slots_whole : (s : ℕ) → t.slots s * 512 + 512 ≤ length img
  slots_whole = slot_inside image (remove_own m) t ys plan

  -- and so is the root
  pub root_whole : 1536 ≤ length img
  root_whole = root_inside image (remove_own m) t ys plan

  -- the new place of the entry's block is a data block
  pub place_whole : z * 512 + 512 ≤ length img
  place_whole = (data_block image (remove_own m) t ys plan z (occurrences-here z (slot_blocks t.slots 42))).inside

  -- ---- the stores, one after the other

  module _ (i : List ℕ) (i_is : i ≡ with_table img t) where
    -- the image has its length
    long : length i ≡ length img
    long = ap length i_is ∙ table-length image (remove_own m) t ys plan

    -- both places of the block are whole
    pub both_whole : (e.start / 512 * 512 + 512 ≤ length i) × (z * 512 + 512 ≤ length i)
    both_whole = (omega (arith, long, (block_data facts).inside), omega (arith, long, place_whole))

    -- the block that is copied is the entry's
    source : block_of i y ≡ block_of img y
    source = ap (λ (x : List ℕ). block_of x y) i_is ∙ entry_stays image (remove_own m) t ys plan m

    module _ (j : List ℕ) (j_is : j ≡ with_block i z (block_of i (e.start / 512))) where
      -- it has 512 bytes
      source_long : length (block_of i y) ≡ 512
      source_long = length-block_of i y both_whole.0

      -- its new place has them
      copy_is : block_of j z ≡ block_of img y
      copy_is = stored_there i z (block_of i y) both_whole.1 source_long j j_is ∙ source

      -- and the image keeps its length
      copy_long : length j ≡ length img
      copy_long = ap length j_is ∙ length-with_block i z (block_of i y) (le_of_eq (length-block_of i z both_whole.1 ∙ sym source_long)) ∙ long

      -- THE ENTRY STANDS in the new place
      pub entry_stands : EntryStands j (z * 512 + e.start % 512)
      entry_stands =
          let (block, place) = place_parts z at (omega arith) in
          rw (block, place, copy_is) (omega (arith, copy_long, place_whole), (block_standing (block_entry facts)).before, end_within (block_entry facts))

      -- taken out there, it leaves the block with the gap closed
      taken_out : without_entry j (z * 512 + at) ≡ with_block (with_table img t) z closed
      unfolding without_entry
      taken_out = stored-changed i z (block_of i y) both_whole.1 source_long j j_is at (omega arith) entry_closed ∙ ap₂ (λ (x b : List ℕ). with_block x z (entry_closed b at)) i_is source

  -- the bytes of the removal land in its new place
  spread-one : new_image img c t ys ≡ with_block (with_table img t) z closed
  unfolding new_image remove_change spread
  spread-one = ap (with_block (with_table img t) z) (take_all 512 closed (omega (arith, length-closed (block_entry facts))))

  -- THE IMAGE LEFT: the table stored, the block copied, and the entry taken out
  pub stores_leave : (i : List ℕ) → i ≡ with_table img t → (j : List ℕ) → j ≡ with_block i z (block_of i (e.start / 512)) → (new : List ℕ) → new ≡ without_entry j (z * 512 + e.start % 512) → new ≡ new_image img (remove_change img (table_of img) e) t (z ∷ slot_blocks t.slots 42)
  stores_leave i a j b new is = is ∙ taken_out i a j b ∙ sym spread-one

  -- ---- the list

  -- it has the old one's length
  left_long : length (new_image img (remove_change img (table_of img) e) t (z ∷ slot_blocks t.slots 42)) ≡ length img
  left_long = (left-kept image (remove_own m) t ys plan).length-kept

  -- the write of the new place and, behind it, those of the anode blocks and the root
  list_left : (i out mid new : List ℕ) (place : ℕ) → i ≡ new_image img c t ys → mid ≡ with_writes out 0 i (z ∷ []) → place ≡ 0 + 514 → new ≡ with_writes mid place i (slot_blocks t.slots 42 ++ (2 ∷ [])) → new ≡ with_writes out 0 (new_image img c t ys) (ys ++ (2 ∷ []))
  list_left i out mid new place i_is first next is =
      list_put i [] z (slot_blocks t.slots 42) (none_inside i) (omega (arith, ap length i_is, left_long, place_whole)) out out mid new 0 place (sym (no_write out 0 i [] refl)) refl first next is
      ∙ ap (λ (x : List ℕ). with_writes out 0 x (ys ++ (2 ∷ []))) i_is

  -- ---- what the removal leaves

  module _ (out : List ℕ) (enough : new_blocks img (remove_change img (table_of img) e) ≤ free_blocks (anodes_of img)) where
    -- 32
    pub short_leaves : length out < (length (slot_blocks t.slots 42) + 2) * 514 → SafeLeaves img out (remove_change img (table_of img) e) (Err ShortWriteList) img out
    short_leaves p = leaves_short img out c enough t ys plan (omega (arith, p))

    -- DONE
    pub done_leaves : (length (slot_blocks t.slots 42) + 2) * 514 ≤ length out → (i mid new : List ℕ) (place : ℕ) → i ≡ new_image img (remove_change img (table_of img) e) t (z ∷ slot_blocks t.slots 42) → mid ≡ with_writes out 0 i (z ∷ []) → place ≡ 0 + 514 →
        new ≡ with_writes mid place i (slot_blocks t.slots 42 ++ (2 ∷ [])) → (count : ℕ) → count ≡ length (slot_blocks t.slots 42) + 2 → SafeLeaves img out (remove_change img (table_of img) e) (Ok count) i new
    done_leaves fits i mid new place i_is first next is count counts =
        leaves_done img out c enough t ys plan (omega (arith, fits)) (writes_leave image (remove_own m) t ys plan) (list_inside image (remove_own m) t ys plan) out 0 refl refl (omega arith) i new i_is
        (list_left i out mid new place i_is first next is) count (omega (arith, counts))
