-- The plan of a safe removal: the anode whose block moves, the state that it is made on, its blocks, and how many they are.
use Prim.Native.Nat.{ℕ, ◌+◌, ◌/◌, ◌≤◌}
use mathlib.Core.Path.{◌≡◌, refl, sym, ap, ap₂, subst, ◌∙◌}
use mathlib.Core.Logic.{inl}
use mathlib.Core.List.{List, [], ◌∷◌, ◌++◌}
use native.Mathlib.Omega.{arith}
use lib.ListN.{length, get_or}
use Rattle.std.specs.Prelude.{Result}
use Rattle.disk.specs.declared.Refusal.{Refusal}
use Rattle.disk.specs.Root.{slot_of}
use Rattle.rules.specs.Anodes.{Anodes, limit, anodes_of}
use Rattle.rules.specs.Chains.{chain_of}
use Rattle.rules.specs.Walk.{Entered}
use Rattle.rules.specs.Accepted.{disk_size, last_reserved}
use Rattle.rules.specs.Plans.{Slotted, table_of, planned, ◌and_then◌}
use Rattle.laws.specs.Members.{member-occurrences}
use Rattle.laws.specs.FixedSlots.{start_owned}
use Rattle.change_laws.specs.Image.{AcceptedWhole, AcceptedImage, accepted_whole, image-passed}
use Rattle.change_laws.specs.Reached.{EntryIn, EntryFacts, entry-facts, block_data, dir_block, reached_head, reached-not-1, not_itself}
use Rattle.safe_rules.specs.SafePlans.{SafeChange, owner_of, relocated, chain_zeroed, slot_blocks, remove_change, new_blocks, old_blocks, safe_steps}
use Rattle.safe_laws.specs.NewPlaces.{owner_is}
use Rattle.safe_laws.specs.OwnChanges.{remove_own}
use Rattle.safe_laws.specs.SafeRemoved.{zeroed, zeroed-good, home_block, home-one, remove_leaves, d, moved}
use Rattle.safe_laws.specs.RemovedImage.{left-chain}
use Rattle.anodes.specs.Loaded.{anodes_from, slots_from, table_from, Loaded}
use Rattle.change_tables.specs.Chains.{disk_state}
use Rattle.placing.specs.Steps.{EndsIn}
use Rattle.placing.specs.States.{GoodState}
use Rattle.giving.specs.Steps.{LinkedFrom}
use Rattle.giving_back.specs.OldTable.{old_from}
use Rattle.giving_back.proofs.OldShown.{old_shown}
use Rattle.safe_plans.specs.Planned.{ShowsBlocks, anode_with, rest_from, MoveReady}
use Rattle.safe_plans.proofs.Counts.{disk_small, slots_used}
use Rattle.safe_plans.proofs.Parts.{ends_twice, with-found}
use Rattle.safe_stores.proofs.Placed.{slots_taken}
use Rattle.safe_plans.proofs.Ends.{settle_ready, moved-end, first_one}

-- ---- an entry of a reached directory

module _ {img : List ℕ} {k : ℕ} {e : Entered} (m : EntryIn img k e) where
  abbrev image : AcceptedImage img
  image = m.directory.image

  w : AcceptedWhole img
  w = accepted_whole image

  abbrev facts : EntryFacts img k e
  facts = entry-facts m

  abbrev c : SafeChange
  c = remove_change img (table_of img) e

  -- its block
  abbrev y : ℕ
  y = e.start / 512

  -- the state with its chain zeroed
  abbrev q : Slotted
  q = chain_zeroed (table_of img) e.anode

  -- the number of its block has two bytes
  pub block_small : e.start / 512 ≤ 65535
  block_small = omega (arith, disk_small image, (block_data facts).below)

  -- ---- the anode that owns its block

  -- it is the directory's
  pub owner_home : owner_of (anodes_of img) (e.start / 512) ≡ (entry-facts m).a₀
  owner_home = ap (owner_of (anodes_of img)) facts.in_block_lem ∙ owner_is w.good facts.a₀ facts.block_facts.one

  -- which is the first of the directory's chain with that block
  with-home : anode_with (anodes_of img).block y (chain_of (anodes_of img).next limit k) ≡ facts.a₀
  with-home =
      let (on, has) = with-found (anodes_of img).block y (chain_of (anodes_of img).next limit k) facts.a₀ facts.member-chain (sym facts.in_block_lem) in
      sym (owner_is w.good _ (dir_block m.directory _ on).one) ∙ ap (owner_of (anodes_of img)) has ∙ owner_home

  -- as it is found in the tables
  pub owner_found : {counts firsts nexts : List ℕ} → Loaded img counts firsts nexts → (b : ℕ) → b ≡ e.start / 512 → (a : ℕ) → a ≡ anode_with (λ x. get_or firsts x 0) b (chain_of (λ x. get_or nexts x 0) 3444 k) → owner_of (anodes_of img) (e.start / 512) ≡ a
  unfolding anodes_from
  owner_found {counts} {firsts} {nexts} l b is a found =
      owner_home ∙ sym (found ∙ ap (λ (x : ℕ). anode_with (λ i. get_or firsts i 0) x (chain_of (λ i. get_or nexts i 0) 3444 k)) is
      ∙ ap (λ (s : Anodes). anode_with s.block y (chain_of s.next limit k)) l.is_loaded ∙ with-home)

  -- ---- the state that the plan is made on

  -- its chain is linked
  linked_from : LinkedFrom (anodes_of img) e.anode
  linked_from = (w.good.linked, facts.head.in_use)

  -- the blocks that the block table shows as old ones are those of the removal
  olds_are : (blocks : List ℕ) → ShowsBlocks img blocks → old_from blocks e.anode (e.start / 512) (disk_size img) 0 ≡ old_blocks img (remove_change img (table_of img) e)
  unfolding remove_change
  olds_are blocks shown = old_shown image blocks shown c e.anode y (inl (facts.head, refl)) (inl refl)

  -- with its chain zeroed the state is good
  zeroed_state : GoodState (last_reserved img) (chain_zeroed (table_of img) e.anode)
  zeroed_state = disk_state img (image-passed image).size_right (λ x l. omega (arith, start_owned (slot_of img) x l)) (zeroed-good m)

  -- the anode still owns its block then
  still_owns : owner_of (zeroed m) y ≡ facts.a₀
  still_owns = ap (owner_of (zeroed m)) (sym (home_block m)) ∙ owner_is (zeroed-good m) facts.a₀ (home-one m)

  -- THE BLOCK CAN MOVE
  move_ready : (a : ℕ) → owner_of (anodes_of img) (e.start / 512) ≡ a → (olds : List ℕ) → olds ≡ old_blocks img (remove_change img (table_of img) e) → MoveReady (last_reserved img) olds (e.start / 512) a (chain_zeroed (table_of img) e.anode)
  unfolding remove_change
  move_ready a is olds same =
      let home : facts.a₀ ≡ a = sym owner_home ∙ is in
      record {
        below = rw (← home) (w.good.linked.view.below facts.a₀ facts.block_facts.in_use);
        owns = still_owns ∙ home;
        state = zeroed_state;
        settles = λ r us step. settle_ready image (remove_own m) (remove_leaves m) r us (first_one c y q r [] us refl refl step) olds same;
      }

  -- ITS STEPS ARE THOSE OF THE REMOVAL
  plan_ends : (moves : Result (Unit {0}) Refusal) (t : Slotted) (olds : List ℕ) → olds ≡ old_blocks img (remove_change img (table_of img) e) → EndsIn moves t (relocated (e.start / 512) (chain_zeroed (table_of img) e.anode) and_then rest_from (last_reserved img) olds) → EndsIn moves t (safe_steps img (remove_change img (table_of img) e))
  unfolding remove_change
  plan_ends moves t olds same ends = moved-end img c moves t (planned q []) y refl refl (ends_twice (planned q []) (relocated y) (rest_from (last_reserved img) (old_blocks img c)) q [] refl moves t
      (subst (λ (l : List ℕ). EndsIn moves t (relocated y q and_then rest_from (last_reserved img) l)) same ends))

  -- both as they are asked and answered on the tables
  module _ {counts firsts nexts : List ℕ} (l : Loaded img counts firsts nexts) (slots : List ℕ) (held : slots_from slots ≡ slot_of img) (blocks : List ℕ) (shown : ShowsBlocks img blocks) (b last size : ℕ) (b_is : b ≡ e.start / 512) (last_is : last ≡ last_reserved img) (size_is : size ≡ disk_size img) where
    pub remove_ready : (a : ℕ) → owner_of (anodes_of img) (e.start / 512) ≡ a → LinkedFrom (anodes_from counts firsts nexts) e.anode × MoveReady last (old_from blocks e.anode b size 0) b a (chain_zeroed (table_from counts firsts nexts slots) e.anode)
    remove_ready a is = rw (b_is, last_is, size_is, l.is_loaded, held) (linked_from, move_ready a is (old_from blocks e.anode y (disk_size img) 0) (olds_are blocks shown))

    pub remove_ends : (moves : Result (Unit {0}) Refusal) (t : Slotted) → EndsIn moves t (relocated b (chain_zeroed (table_from counts firsts nexts slots) e.anode) and_then rest_from last (old_from blocks e.anode b size 0)) → EndsIn moves t (safe_steps img (remove_change img (table_of img) e))
    remove_ends moves t ends = plan_ends moves t (old_from blocks e.anode y (disk_size img) 0) (olds_are blocks shown) (rw (b_is, last_is, size_is, l.is_loaded, held) at ends)

  -- ---- its new blocks

  -- they are one more than the slots in use, as these are counted in memory
  pub new-counted : (slots : List ℕ) → slots_from slots ≡ slot_of img → (used : ℕ) → used ≡ length (slot_blocks (slots_from slots) 42) → new_blocks img (remove_change img (table_of img) e) ≡ used + 1
  unfolding new_blocks remove_change
  new-counted slots held used is = omega (arith, is, slots_used img slots held)

  module _ (t : Slotted) (ys : List ℕ) (plan : safe_steps img (remove_change img (table_of img) e) ≡ planned t ys) where
    -- the anode has the new place of its block
    has_place : t.anodes.block facts.a₀ ≡ (moved m t ys plan).z
    has_place = (left-chain m t ys plan k (reached_head m.directory) (reached-not-1 m.directory) (not_itself m.directory facts)).own_block
        (member-occurrences facts.a₀ (chain_of (anodes_of img).next limit k) facts.member-chain)

    -- THE NEW BLOCKS IN ORDER
    pub plan-placed : (a : ℕ) → owner_of (anodes_of img) (e.start / 512) ≡ a → (z : ℕ) → z ≡ t.anodes.block a → safe_steps img (remove_change img (table_of img) e) ≡ planned t (z ∷ slot_blocks t.slots 42)
    plan-placed a is z at =
        let l = d m t ys plan in
        let first : (moved m t ys plan).z ≡ z = sym has_place ∙ ap t.anodes.block (sym owner_home ∙ is) ∙ sym at in
        plan ∙ ap (planned t) (l.are ∙ ap₂ ◌++◌ (moved m t ys plan).are (slots_taken image (remove_own m) t ys plan l) ∙ ap (λ (i : ℕ). i ∷ slot_blocks t.slots 42) first)
