-- A planned safe write: its new blocks in the order taken, and the image that is stored.
use Prim.Native.Nat.{ℕ, ◌+◌, ◌-◌, ◌*◌, ◌≤◌, ◌<◌}
use mathlib.Core.Path.{◌≡◌, sym, ap, ap₂, ◌∙◌}
use mathlib.Core.Bool.{false}
use mathlib.Core.List.{List, [], ◌∷◌, ◌++◌, append_assoc}
use native.Mathlib.Omega.{arith}
use lib.ListN.{length, take, drop, length-append}
use Rattle.endian.specs.Bytes.{stored}
use Rattle.rules.specs.Counting.{occurrences}
use Rattle.rules.specs.Anodes.{Anodes, anodes_of}
use Rattle.rules.specs.Chains.{blocks_of, block_count}
use Rattle.rules.specs.Walk.{Entered}
use Rattle.rules.specs.Lookup.{bytes_of}
use Rattle.rules.specs.Plans.{Slotted, planned, table_of}
use Rattle.rules.specs.Table.{with_table}
use Rattle.rules.specs.Changes.{spread}
use Rattle.laws.specs.Chains.{Inside}
use Rattle.laws.specs.Bags.{occurrences-append}
use Rattle.frames.specs.DisjointBlocks.{chain_once}
use Rattle.change_laws.specs.Image.{AcceptedImage}
use Rattle.change_laws.specs.Reached.{EntryIn}
use Rattle.anodes.specs.Loaded.{anodes_from, Loaded}
use Rattle.write_lists.specs.Puts.{with_writes}
use Rattle.write_lists.proofs.Laws.{writes_on}
use Rattle.safe_plans.proofs.Counts.{extents_small}
use Rattle.safe_stores.specs.Stored.{TableMoves}
use Rattle.safe_stores.proofs.Placed.{root_inside, slot_inside, table_moves, slots_taken, table-length}
use Rattle.safe_files.specs.Committed.{Committed}
use Rattle.safe_rules.specs.SafePlans.{write_change, slot_blocks, safe_steps}
use Rattle.safe_rules.specs.SafeWrites.{new_image}
use Rattle.safe_laws.specs.OwnChanges.{write_own}
use Rattle.safe_laws.specs.LeftImage.{data_block}
use Rattle.safe_laws.specs.SafeWritten.{d, anew, left, head_now, new-chain, taken-first}

module _ {img : List ℕ} {k : ℕ} {e : Entered} (m : EntryIn img k e) (file : e.dir ≡ false) (offset : ℕ) (bytes : List ℕ) (t : Slotted) (ys : List ℕ) (plan : safe_steps img (write_change img (table_of img) e offset bytes) ≡ planned t ys) where
  abbrev image : AcceptedImage img
  image = m.directory.image

  -- the file's new blocks, then the anode blocks
  pub blocks_order : ys ≡ blocks_of t.anodes e.anode ++ slot_blocks t.slots 42
  blocks_order =
      let w = d m file offset bytes t ys plan in
      w.are ∙ ap₂ ◌++◌ (sym (new-chain m file offset bytes t ys plan)) (slots_taken image (write_own m offset bytes) t ys plan w)

  -- the file has as many blocks as it had
  pub blocks_many : length (blocks_of t.anodes e.anode) ≡ block_count (anodes_of img) e.anode
  blocks_many = ap length (new-chain m file offset bytes t ys plan) ∙ (anew m file offset bytes t ys plan).many

  -- each of them is a whole block, once
  pub blocks_inside : Inside img (blocks_of t.anodes e.anode)
  blocks_inside y p = (data_block image (write_own m offset bytes) t ys plan y (omega (arith, p, ap (occurrences y) blocks_order, occurrences-append y (blocks_of t.anodes e.anode) (slot_blocks t.slots 42)))).inside

  pub blocks_once : (y : ℕ) → occurrences y (blocks_of t.anodes e.anode) ≤ 1
  blocks_once y = chain_once (left m file offset bytes t ys plan).table.good e.anode (head_now m file offset bytes t ys plan) y

  -- every extent ends within 65,535 blocks
  pub new_extents : (a : ℕ) → 0 < t.anodes.count a → t.anodes.block a + t.anodes.count a ≤ 65535
  new_extents = extents_small image (left m file offset bytes t ys plan).table

  -- THE IMAGE LEFT: the table, then the file's bytes in its new blocks
  pub image-left : spread (with_table img t) (blocks_of t.anodes e.anode) (stored (bytes_of img (anodes_of img) e.anode) offset bytes) ≡ new_image img (write_change img (table_of img) e offset bytes) t ys
  unfolding new_image write_change
  image-left = ap (λ (l : List ℕ). spread (with_table img t) l (stored (bytes_of img (anodes_of img) e.anode) offset bytes)) (sym (taken-first m file offset bytes t ys plan))

  -- the table stored, the image is as long
  pub table_long : length (with_table img t) ≡ length img
  table_long = table-length image (write_own m offset bytes) t ys plan

  -- in an image as long as the old one
  module _ (j : List ℕ) (long : length j ≡ length img) where
    pub chain_whole : Inside j (blocks_of t.anodes e.anode)
    chain_whole y p = omega (arith, blocks_inside y p, long)

    pub slots_whole : (k : ℕ) → t.slots k * 512 + 512 ≤ length j
    slots_whole k = omega (arith, slot_inside image (write_own m offset bytes) t ys plan k, long)

    pub root_whole : 1536 ≤ length j
    root_whole = omega (arith, root_inside image (write_own m offset bytes) t ys plan, long)

  -- the anode table may be stored
  pub moves_table : TableMoves img t.slots
  moves_table = table_moves image (write_own m offset bytes) t ys plan

  -- the new blocks with the root, as they are listed
  pub list_order : ys ++ (2 ∷ []) ≡ blocks_of t.anodes e.anode ++ (slot_blocks t.slots 42 ++ (2 ∷ []))
  list_order = ap (λ (l : List ℕ). l ++ (2 ∷ [])) blocks_order ∙ append_assoc (blocks_of t.anodes e.anode) (slot_blocks t.slots 42) (2 ∷ [])

  -- how long the list is
  pub list_long : length ys ≡ block_count (anodes_of img) e.anode + length (slot_blocks t.slots 42)
  list_long = ap length blocks_order ∙ length-append (blocks_of t.anodes e.anode) (slot_blocks t.slots 42) ∙ ap (λ (n : ℕ). n + length (slot_blocks t.slots 42)) blocks_many

  -- WHAT STORING IT LEAVES, step by step
  module _ {counts firsts nexts : List ℕ} (loaded : Loaded img counts firsts nexts) (len : ℕ) (len_is : len ≡ block_count (anodes_of img) e.anode * 512) (out staged : List ℕ) (long : length staged ≡ length out)
      (front : take len staged ≡ stored (bytes_of img (anodes_from counts firsts nexts) e.anode) offset bytes) (behind : drop len staged ≡ drop len out)
      (i part j : List ℕ) (table : i ≡ with_table img t) (part_is : part ≡ take (len - 0) (drop 0 staged)) (file_in : j ≡ spread i (blocks_of t.anodes e.anode) part) where
    -- the image
    pub stored-image : j ≡ new_image img (write_change img (table_of img) e offset bytes) t ys
    stored-image =
        let n : len - 0 ≡ len = omega arith in
        let all : part ≡ stored (bytes_of img (anodes_of img) e.anode) offset bytes = part_is ∙ ap (λ (k : ℕ). take k staged) n ∙ front ∙ ap (λ (s : Anodes). stored (bytes_of img s e.anode) offset bytes) loaded.is_loaded in
        file_in ∙ ap₂ (λ (x y : List ℕ). spread x (blocks_of t.anodes e.anode) y) table all ∙ image-left

    -- and the list
    module _ (two three : List ℕ) (at : ℕ) (chain-put : two ≡ with_writes staged 0 j (blocks_of t.anodes e.anode)) (place : at ≡ 0 + length (blocks_of t.anodes e.anode) * 514)
        (end-put : three ≡ with_writes two at j (slot_blocks t.slots 42 ++ (2 ∷ []))) (inside : Inside j (blocks_of t.anodes e.anode)) where
      pub committed : Committed img (write_change img (table_of img) e offset bytes) t ys out j three
      committed = record {
        image = stored-image;
        staged = staged;
        front = len;
        long = long;
        behind = behind;
        within = omega (arith, len_is, list_long);
        listed = end-put ∙ writes_on staged 0 j (blocks_of t.anodes e.anode) inside two at chain-put place (slot_blocks t.slots 42 ++ (2 ∷ []))
            ∙ ap₂ (λ (x y : List ℕ). with_writes staged 0 x y) stored-image (sym list_order);
      }
