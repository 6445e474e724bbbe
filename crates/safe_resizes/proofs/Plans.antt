-- The plan of a safe resize to another size: the state that it is made on, its blocks, and how many they are.
use Prim.Native.Nat.{ℕ, ◌+◌, ◌/◌, ◌≤◌, ◌<◌}
use mathlib.Core.Path.{◌≡◌, refl, sym, ap, ap₂, subst, ◌∙◌}
use mathlib.Core.Logic.{◌≢◌, inl}
use mathlib.Core.Bool.{false}
use mathlib.Core.List.{List, [], ◌∷◌, ◌++◌, append_assoc}
use native.Mathlib.Omega.{arith}
use lib.ListN.{length, take}
use lib.Seq.{take_at}
use borrow.Author.Tests.{ne_eqb}
use Rattle.std.specs.Prelude.{Result}
use Rattle.disk.specs.declared.Refusal.{Refusal}
use Rattle.disk.specs.Root.{slot_of}
use Rattle.rules.specs.Anodes.{limit, anodes_of}
use Rattle.rules.specs.Chains.{chain_of, system_owns, blocks_of}
use Rattle.rules.specs.Walk.{Entered, blocks_for}
use Rattle.rules.specs.Accepted.{disk_size, last_reserved}
use Rattle.rules.specs.Totals.{free_blocks}
use Rattle.rules.specs.Plans.{Slotted, table_of, planned, ◌and_then◌}
use Rattle.laws.specs.Space.{Alike}
use Rattle.laws.specs.Members.{member-occurrences}
use Rattle.laws.specs.FixedSlots.{start_owned}
use Rattle.change_laws.specs.Image.{AcceptedWhole, AcceptedImage, accepted_whole, image-passed, head_in}
use Rattle.change_laws.specs.Reached.{EntryIn, EntryFacts, entry-facts, entry-not-1, reached_head, reached-not-1, not-file}
use Rattle.safe_rules.specs.SafePlans.{SafeChange, owner_of, relocated, taken_anew, slot_blocks, resize_change, new_blocks, old_blocks, safe_steps}
use Rattle.safe_laws.specs.NewPlaces.{owner_is}
use Rattle.safe_laws.specs.AllTaken.{takes_first}
use Rattle.safe_laws.specs.OwnChanges.{home-left, resize_own}
use Rattle.safe_laws.specs.Anew.{AnewTaken}
use Rattle.safe_laws.specs.AnewLeft.{file-anew}
use Rattle.safe_laws.specs.SafeResized.{resize_leaves, d, new_place, resized-file, resized-taken, resized-home}
use Rattle.anodes.specs.Loaded.{slots_from, table_from, Loaded}
use Rattle.change_tables.specs.Chains.{disk_state, good_state}
use Rattle.placing.specs.Steps.{EndsIn}
use Rattle.placing.specs.States.{GoodState, Ready}
use Rattle.giving_back.specs.OldTable.{old_from}
use Rattle.giving_back.proofs.OldShown.{old_shown}
use Rattle.safe_plans.specs.Planned.{ShowsBlocks, rest_from, MoveReady, ResizeReady}
use Rattle.safe_stores.proofs.Placed.{slots_taken}
use Rattle.safe_plans.proofs.Ends.{settle_ready, moved-end, first_one}
use Rattle.safe_plans.proofs.Counts.{free_few, slots_used}
use Rattle.safe_removes.proofs.Plans.{owner_home}
use Rattle.safe_resizes.specs.Resized.{new_order, ResizePlan}

module _ {img : List ℕ} {k : ℕ} {e : Entered} (m : EntryIn img k e) (size : ℕ) (differs : e.size ≢ size) where
  -- the accepted image
  abbrev image : AcceptedImage img
  image = m.directory.image

  -- its directories are whole
  w : AcceptedWhole img
  w = accepted_whole image

  -- what is known of the entry
  abbrev facts : EntryFacts img k e
  facts = entry-facts m

  -- the resize
  abbrev c : SafeChange
  c = resize_change img (table_of img) e size

  -- the entry's block
  abbrev y : ℕ
  y = e.start / 512

  -- it is the one directory block that changes
  pub changes : (resize_change img (table_of img) e size).changing ≡ e.start / 512 ∷ []
  unfolding resize_change
  changes = rw (ne_eqb e.size size differs) refl

  -- ---- the state that the plan is made on

  -- the blocks that the block table shows as old ones are those of the resize
  olds_are : (blocks : List ℕ) → ShowsBlocks img blocks → old_from blocks e.anode (e.start / 512) (disk_size img) 0 ≡ old_blocks img (resize_change img (table_of img) e size)
  unfolding resize_change
  olds_are blocks shown = old_shown image blocks shown c e.anode y (inl (facts.head, refl)) (inl changes)

  -- the file heads a chain in a good state
  ready : Ready (last_reserved img) (table_of img) e.anode
  ready = (good_state img (image-passed image).size_right w.good, (facts.head, entry-not-1 facts))

  -- once its blocks are taken anew
  module _ (q : Slotted) (us : List ℕ) (taken : taken_anew e.anode (blocks_for size) (table_of img) ≡ planned q us) where
    -- its chain has them
    anew : AnewTaken (disk_size img) (last_reserved img) (table_of img) (system_owns img) (head_in img) e.anode (blocks_for size) q us
    anew = file-anew m (blocks_for size) q us taken

    -- the state is good
    good_then : GoodState (last_reserved img) q
    good_then = disk_state img (image-passed image).size_right (λ x l. omega (arith, start_owned (slot_of img) x l)) anew.good

    -- the anode of the entry's block is as it was
    home_alike : Alike (anodes_of img) q.anodes (entry-facts m).a₀
    home_alike = let (u, one, other) = home-left m in anew.shift.apart facts.a₀ u one other

    -- and owns that block
    still_owns : owner_of q.anodes y ≡ facts.a₀
    still_owns = ap (owner_of q.anodes) (sym (home_alike.same_block ∙ sym facts.in_block_lem)) ∙ owner_is anew.good facts.a₀ (home_alike.same_count ∙ facts.block_facts.one)

    -- THE BLOCK CAN MOVE
    move_then : (a : ℕ) → owner_of (anodes_of img) (e.start / 512) ≡ a → (olds : List ℕ) → olds ≡ old_blocks img (resize_change img (table_of img) e size) → MoveReady (last_reserved img) olds (e.start / 512) a q
    unfolding resize_change
    move_then a is olds same =
        let home : facts.a₀ ≡ a = sym (owner_home m) ∙ is in
        record {
          below = rw (← home) (w.good.linked.view.below facts.a₀ facts.block_facts.in_use);
          owns = still_owns ∙ home;
          state = good_then;
          settles = λ r vs step. settle_ready image (resize_own m size) (resize_leaves m size) r (us ++ vs) (first_one c y q r us vs changes taken step) olds same;
        }

  -- THE FILE CAN BE RESIZED
  resize_may : (a : ℕ) → owner_of (anodes_of img) (e.start / 512) ≡ a → (olds : List ℕ) → olds ≡ old_blocks img (resize_change img (table_of img) e size) → ResizeReady (last_reserved img) olds e.anode (blocks_for size) (e.start / 512) a (table_of img)
  resize_may a is olds same = record { from_6 = facts.from_6; ready = ready; moves = λ q us taken. move_then q us taken a is olds same }

  -- ITS STEPS ARE THOSE OF THE RESIZE
  plan_ends : (moves : Result (Unit {0}) Refusal) (t : Slotted) (olds : List ℕ) → olds ≡ old_blocks img (resize_change img (table_of img) e size) → EndsIn moves t (taken_anew e.anode (blocks_for size) (table_of img) and_then relocated (e.start / 512) and_then rest_from (last_reserved img) olds) → EndsIn moves t (safe_steps img (resize_change img (table_of img) e size))
  unfolding resize_change
  plan_ends moves t olds same ends = moved-end img c moves t (taken_anew e.anode (blocks_for size) (table_of img)) y refl changes
      (subst (λ (l : List ℕ). EndsIn moves t (taken_anew e.anode (blocks_for size) (table_of img) and_then relocated y and_then rest_from (last_reserved img) l)) same ends)

  -- both as they are asked and answered on the tables
  module _ {counts firsts nexts : List ℕ} (l : Loaded img counts firsts nexts) (slots : List ℕ) (slots_are : slots_from slots ≡ slot_of img) (blocks : List ℕ) (shown : ShowsBlocks img blocks) (b last disk want : ℕ) (b_is : b ≡ e.start / 512) (last_is : last ≡ last_reserved img) (disk_is : disk ≡ disk_size img) (want_is : want ≡ blocks_for size) where
    -- what the plan asks
    pub resize_ready : (a : ℕ) → owner_of (anodes_of img) (e.start / 512) ≡ a → ResizeReady last (old_from blocks e.anode b disk 0) e.anode want b a (table_from counts firsts nexts slots)
    resize_ready a is = rw (b_is, last_is, disk_is, want_is, l.is_loaded, slots_are) (resize_may a is (old_from blocks e.anode y (disk_size img) 0) (olds_are blocks shown))

    -- what it ends in
    pub resize_ends : (moves : Result (Unit {0}) Refusal) (t : Slotted) → EndsIn moves t (taken_anew e.anode want (table_from counts firsts nexts slots) and_then relocated b and_then rest_from last (old_from blocks e.anode b disk 0)) → EndsIn moves t (safe_steps img (resize_change img (table_of img) e size))
    resize_ends moves t ends = plan_ends moves t (old_from blocks e.anode y (disk_size img) 0) (olds_are blocks shown) (rw (b_is, last_is, disk_is, want_is, l.is_loaded, slots_are) at ends)

  -- ---- how many new blocks

  -- the file's are those that the size asks for
  pub takes_are : (resize_change img (table_of img) e size).takes ≡ blocks_for size
  unfolding resize_change
  takes_are = refl

  -- all are these, one more, and as many as slots are in use, as they are counted in memory
  pub new-counted : (slots : List ℕ) → slots_from slots ≡ slot_of img → (want used : ℕ) → want ≡ blocks_for size → used ≡ length (slot_blocks (slots_from slots) 42) → new_blocks img (resize_change img (table_of img) e size) ≡ want + used + 1
  unfolding new_blocks
  new-counted slots slots_are want used want_is is = omega (arith, want_is, is, slots_used img slots slots_are, takes_are, ap length changes)

  -- where so many are free, the size fits its field
  pub size_fits : new_blocks img (resize_change img (table_of img) e size) ≤ free_blocks (anodes_of img) → size < 4294967296
  unfolding new_blocks blocks_for
  size_fits p = omega (arith, p, takes_are, free_few image)

  -- ---- its new blocks

  module _ (file : e.dir ≡ false) (t : Slotted) (ys : List ℕ) (plan : safe_steps img (resize_change img (table_of img) e size) ≡ planned t ys) where
    -- the anode has the new place of its block
    has_place : t.anodes.block facts.a₀ ≡ new_place m size differs t ys plan
    has_place = resized-home m size differs t ys plan k (reached_head m.directory) (reached-not-1 m.directory) (not-file m.directory facts file) facts.a₀
        (member-occurrences facts.a₀ (chain_of (anodes_of img).next limit k) facts.member-chain) refl

    -- the own steps take the file's blocks and that place
    first_taken : (d m size differs t ys plan).xs ≡ blocks_of t.anodes e.anode ++ (new_place m size differs t ys plan ∷ [])
    first_taken =
        let l = d m size differs t ys plan in
        let many = ((takes_first image (resize_own m size)).done l.r l.xs l.first).1 in
        sym (take_at l.xs l.us (c.takes + length c.changing) many) ∙ ap (take (c.takes + length c.changing)) (sym l.are)
        ∙ resized-taken m size differs t ys plan ∙ ap (λ (us : List ℕ). us ++ (new_place m size differs t ys plan ∷ [])) (sym (resized-file m size differs t ys plan))

    -- THE NEW BLOCKS IN ORDER
    pub plan-placed : (a : ℕ) → owner_of (anodes_of img) (e.start / 512) ≡ a → (z : ℕ) → z ≡ t.anodes.block a → ResizePlan img e size t z
    plan-placed a is z at =
        let l = d m size differs t ys plan in
        let place : new_place m size differs t ys plan ≡ z = sym has_place ∙ ap t.anodes.block (sym (owner_home m) ∙ is) ∙ sym at in
        plan ∙ ap (planned t) (l.are ∙ ap₂ ◌++◌ first_taken (slots_taken image (resize_own m size) t ys plan l) ∙ append_assoc (blocks_of t.anodes e.anode) (new_place m size differs t ys plan ∷ []) (slot_blocks t.slots 42) ∙ ap (new_order t e.anode) place)
