-- The plan of a safe write: the state that it is made on, how many blocks it needs, and what the write leaves.
use Prim.Native.Nat.{ℕ, ◌+◌, ◌≤◌}
use mathlib.Core.Path.{◌≡◌, refl, subst}
use mathlib.Core.Logic.{inl, inr}
use mathlib.Core.List.{List}
use native.Mathlib.Omega.{arith}
use lib.ListN.{length}
use Rattle.std.specs.Prelude.{Result}
use Rattle.disk.specs.declared.Refusal.{Refusal}
use Rattle.disk.specs.Root.{slot_of}
use Rattle.rules.specs.Anodes.{anodes_of}
use Rattle.rules.specs.Chains.{block_count}
use Rattle.rules.specs.Walk.{Entered}
use Rattle.rules.specs.Accepted.{disk_size, last_reserved}
use Rattle.rules.specs.Totals.{free_blocks}
use Rattle.rules.specs.Plans.{Slotted, table_of, ◌and_then◌}
use Rattle.change_laws.specs.Image.{AcceptedImage, accepted_whole, image-passed}
use Rattle.change_laws.specs.Reached.{EntryIn, EntryFacts, entry-facts, entry-not-1}
use Rattle.safe_rules.specs.SafePlans.{SafeChange, slot_blocks, taken_anew, write_change, new_blocks, old_blocks, safe_steps}
use Rattle.safe_laws.specs.OwnChanges.{write_own}
use Rattle.safe_laws.specs.SafeWritten.{write_leaves}
use Rattle.anodes.specs.Loaded.{slots_from, table_from, Loaded}
use Rattle.change_tables.specs.Chains.{good_state}
use Rattle.placing.specs.Steps.{EndsIn}
use Rattle.placing.specs.States.{Ready}
use Rattle.giving_back.specs.OldTable.{old_from}
use Rattle.giving_back.proofs.OldShown.{old_shown}
use Rattle.safe_plans.specs.Planned.{ShowsBlocks, rest_from, FileReady}
use Rattle.safe_plans.proofs.Ends.{settle_ready, steps_end, first-none}
use Rattle.safe_plans.proofs.Counts.{free_few, slots_used}

module _ {img : List ℕ} {k : ℕ} {e : Entered} (m : EntryIn img k e) (offset : ℕ) (bytes : List ℕ) where
  abbrev image : AcceptedImage img
  image = m.directory.image

  abbrev facts : EntryFacts img k e
  facts = entry-facts m

  abbrev c : SafeChange
  c = write_change img (table_of img) e offset bytes

  -- the blocks that the block table shows as old ones are those of the write
  olds_are : (blocks : List ℕ) → ShowsBlocks img blocks → old_from blocks e.anode 65535 (disk_size img) 0 ≡ old_blocks img (write_change img (table_of img) e offset bytes)
  unfolding write_change
  olds_are blocks shown = old_shown image blocks shown c e.anode 65535 (inl (facts.head, refl)) (inr (refl, refl))

  -- the image's own state is good, and the file's head is one
  ready : Ready (last_reserved img) (table_of img) e.anode
  ready = (good_state img (image-passed image).size_right (accepted_whole image).good, (facts.head, entry-not-1 facts))

  -- THE FILE CAN TAKE ITS BLOCKS ANEW
  file_ready : (olds : List ℕ) → olds ≡ old_blocks img (write_change img (table_of img) e offset bytes) → FileReady (last_reserved img) olds e.anode (block_count (anodes_of img) e.anode) (table_of img)
  unfolding write_change
  file_ready olds same = record { from_6 = facts.from_6; ready = ready; settles = λ q us step. settle_ready image (write_own m offset bytes) (write_leaves m offset bytes) q us (first-none c q us refl step) olds same }

  -- both as they are asked and answered on the tables
  module _ {counts firsts nexts : List ℕ} (l : Loaded img counts firsts nexts) (slots : List ℕ) (held : slots_from slots ≡ slot_of img) (blocks : List ℕ) (shown : ShowsBlocks img blocks) (have last size : ℕ) (have_is : have ≡ block_count (anodes_of img) e.anode) (last_is : last ≡ last_reserved img) (size_is : size ≡ disk_size img) where
    pub write_ready : FileReady last (old_from blocks e.anode 65535 size 0) e.anode have (table_from counts firsts nexts slots)
    write_ready = rw (have_is, last_is, size_is, l.is_loaded, held) (file_ready (old_from blocks e.anode 65535 (disk_size img) 0) (olds_are blocks shown))

    pub write_ends : (moves : Result (Unit {0}) Refusal) (t : Slotted) → EndsIn moves t (taken_anew e.anode have (table_from counts firsts nexts slots) and_then rest_from last (old_from blocks e.anode 65535 size 0)) → EndsIn moves t (safe_steps img (write_change img (table_of img) e offset bytes))
    unfolding write_change
    write_ends moves t ends =
        let w : EndsIn moves t (taken_anew e.anode (block_count (anodes_of img) e.anode) (table_of img) and_then rest_from (last_reserved img) (old_from blocks e.anode 65535 (disk_size img) 0)) = rw (have_is, last_is, size_is, l.is_loaded, held) at ends in
        steps_end img c moves t (taken_anew e.anode (block_count (anodes_of img) e.anode) (table_of img)) refl refl
        (subst (λ (i : List ℕ). EndsIn moves t (taken_anew e.anode (block_count (anodes_of img) e.anode) (table_of img) and_then rest_from (last_reserved img) i)) (olds_are blocks shown) w)

  -- its new blocks are the file's and as many as slots are in use, as these are counted in memory
  pub new-counted : (slots : List ℕ) → slots_from slots ≡ slot_of img → (have used : ℕ) → have ≡ block_count (anodes_of img) e.anode → used ≡ length (slot_blocks (slots_from slots) 42) → new_blocks img (write_change img (table_of img) e offset bytes) ≡ have + used
  unfolding new_blocks write_change
  new-counted slots held have used have_is is = omega (arith, have_is, is, slots_used img slots held)

  -- the file has fewer blocks than a disk, where there are enough free ones
  pub file_small : new_blocks img (write_change img (table_of img) e offset bytes) ≤ free_blocks (anodes_of img) → block_count (anodes_of img) e.anode ≤ 65535
  unfolding new_blocks write_change
  file_small p = omega (arith, p, free_few image)
