-- The plan of a make without growth, as the first steps of a safe make: what they leave, the room, the block that has it, and what then follows.
use Prim.Native.Nat.{ℕ, ◌+◌, ◌*◌, ◌/◌, ◌%◌, ◌≤◌, ◌<◌}
use mathlib.Core.Path.{◌≡◌, refl, sym, ap, ap₂, subst, ◌∙◌}
use mathlib.Core.Logic.{◌≢◌, inl, inr}
use mathlib.Core.Bool.{Bool, true, false, cond}
use mathlib.Core.List.{List, [], ◌∷◌, ◌++◌, append-nil, nil≢cons}
use mathlib.Core.Option.{Option, none, some}
use native.Mathlib.Omega.{arith}
use lib.ListN.{length, get_or}
use borrow.Author.Tests.{eq-eqb, ne_eqb}
use Rattle.disk.specs.Root.{slot_of}
use Rattle.disk.specs.declared.Refusal.{Refusal}
use Rattle.disk.specs.Refusals.{number_of}
use Rattle.directory.specs.Entries.{good_name, good_comment, entry_length}
use Rattle.rules.specs.Counting.{occurrences}
use Rattle.rules.specs.Anodes.{limit, exists_by, anodes_of}
use Rattle.rules.specs.Chains.{chain_of}
use Rattle.rules.specs.Accepted.{disk_size, wrong_size, last_reserved, PastDamage}
use Rattle.rules.specs.Plans.{Slotted, Plan, refused, planned, after, ◌and_then◌, no_growth, table_of}
use Rattle.rules.specs.Space.{lowest_free, with_spare}
use Rattle.rules.specs.Changes.{Left, left, left_by, NewEntry, no_room, room_for, entry_start, needed_block, head_made, made_image, made_in, made}
use Rattle.laws.specs.Bags.{occurrences-append}
use Rattle.laws.specs.Members.{member-occurrences, occurrences-member}
use Rattle.laws.specs.Plans.{refused≢planned, planned≢refused, planned_same, after_none, then_stop, then_stops}
use Rattle.laws.specs.Moves.{none_grows}
use Rattle.laws.specs.Tests.{same?, less?}
use Rattle.change_laws.specs.Image.{image-passed, disk_size_lem, ReachedDir}
use Rattle.change_laws.specs.Reached.{dir_block, reached-not-1}
use Rattle.change_laws.specs.MadeImage.{Making, plan, grown, table, spot, spot_data, in_block_lem}
use Rattle.change_laws.specs.SingleBlocks.{single_used}
use Rattle.change_tables.specs.Chains.{table_state}
use Rattle.safe_rules.specs.SafePlans.{SafeChange, owner_of, relocated, all_relocated, reslotted_from, given_back, old_blocks, room_block, make_in, make_change, make_steps, safe_steps}
use Rattle.safe_laws.specs.OwnMake.{spare_cases, make_own}
use Rattle.safe_laws.specs.SafeMade.{none_more, made_leaves}
use Rattle.safe_laws.specs.NewPlaces.{owner_is}
use Rattle.safe_laws.specs.LeftTable.{done_steps}
use Rattle.giving_back.specs.OldTable.{old_from}
use Rattle.giving_back.proofs.OldShown.{old_shown}
use Rattle.safe_steps.specs.Ready.{SettleReady}
use Rattle.safe_steps.proofs.Steps.{ends_then}
use Rattle.safe_stores.proofs.Placed.{slots_taken}
use Rattle.safe_plans.proofs.Ends.{settle_ready, all_end, first-none, first_one}
use Rattle.safe_plans.proofs.Counts.{disk_small}
use Rattle.safe_plans.proofs.Parts.{rest_ends, with-found}
use Rattle.anodes.specs.Loaded.{anodes_from}
use Rattle.std.specs.Prelude.{Result, Ok, Err}
use Rattle.placing.specs.Steps.{EndsIn}
use Rattle.safe_plans.specs.Planned.{ShowsBlocks, anode_with, rest_from}
use Rattle.making.specs.declared.MakePlan.{MakePlan}
use Rattle.making.specs.Steps.{some_block, Plans, PlanOf}
use Rattle.making.proofs.Steps.{no_block, one_block}
use Rattle.safe_makes.specs.SafePlanned.{entry_plan, room_number, RoomReady, SafelyMade}

-- ---- the anode with a block

-- the one that is found by the tables, where no new block is the parent's
pub room_owner : (counts firsts nexts : List ℕ) (p y h n owner : ℕ) → p ≡ 0 → n ≡ room_number p y → owner ≡ anode_with (λ a. get_or firsts a 0) n (chain_of (λ a. get_or nexts a 0) limit h) →
    owner ≡ anode_with (anodes_from counts firsts nexts).block y (chain_of (anodes_from counts firsts nexts).next limit h)
unfolding anodes_from room_number
room_owner counts firsts nexts p y h n owner z is e =
    e ∙ ap (λ (x : ℕ). anode_with (λ a. get_or firsts a 0) x (chain_of (λ a. get_or nexts a 0) limit h)) (is ∙ ap (λ (b : Bool). cond b y 65535) (eq-eqb p 0 z))

-- ---- the steps of a make

-- a plan behind no step
none_first : (s : Slotted) (g : Slotted → Plan Slotted) → planned s [] and_then g ≡ g s
unfolding ◌and_then◌
none_first s g = after_none (g s)

-- two plans, one after the other
both_planned : (p : Plan Slotted) (q : Slotted) (ys : List ℕ) (g : Slotted → Plan Slotted) (t : Slotted) (zs : List ℕ) → p ≡ planned q ys → g q ≡ planned t zs → p and_then g ≡ planned t (ys ++ zs)
unfolding ◌and_then◌ after
both_planned p q ys g t zs e i = ap (λ (x : Plan Slotted). x and_then g) e ∙ ap (after ys) i

-- what is left the same is left with one number
left_number : (j k : ℕ) (a b : List ℕ) → left j a ≡ left k b → j ≡ k
left_number j k a b e = ap (λ (l : Left). l.answer) e

module _ {img : List ℕ} {h : ℕ} (r : ReachedDir img h) (new : NewEntry) where
  -- the lowest free anode
  abbrev f₀ : ℕ
  f₀ = lowest_free limit (exists_by (slot_of img)) (anodes_of img)

  -- the room that is found
  abbrev room₀ : Option ℕ
  room₀ = room_for img (anodes_of img) h new

  -- behind an anode to be had
  spared_stops : (k : ℕ) → PastDamage k → made_in no_growth img (anodes_of img) h new room₀ (table_of img) f₀ ≡ left k img →
      needed_block no_growth new.dir f₀ (head_made (table_of img) f₀) and_then needed_block no_growth (no_room room₀) h ≡ refused k
  unfolding ◌and_then◌ after
  spared_stops k late e = first (needed_block no_growth new.dir f₀ (head_made (table_of img) f₀)) e
    where
      -- the parent's step
      second : (ys : List ℕ) (p : Plan Slotted) → left_by p img (λ t zs. left 0 (made_image img (anodes_of img) h new f₀ room₀ ys t zs)) ≡ left k img → after ys p ≡ refused k
      second ys (refused n) e = ap refused (left_number n k img img e)
      second ys (planned t zs) e = absurd (omega (arith, late, left_number 0 k (made_image img (anodes_of img) h new f₀ room₀ ys t zs) img e))

      -- the new directory's step
      first : (p : Plan Slotted) → left_by p img (λ q ys. left_by (needed_block no_growth (no_room room₀) h q) img (λ t zs. left 0 (made_image img (anodes_of img) h new f₀ room₀ ys t zs))) ≡ left k img →
          p and_then needed_block no_growth (no_room room₀) h ≡ refused k
      first (refused n) e = ap refused (left_number n k img img e)
      first (planned q ys) e = second ys (needed_block no_growth (no_room room₀) h q) e

  -- a make that is refused in its planning stops the own steps
  pub own_stopped : (why : Refusal) (t : Slotted) → PlanOf (Err why) img no_growth new.dir (entry_length (length new.name) (length new.comment)) h t → (make_change img (table_of img) h new).steps ≡ refused (number_of why)
  unfolding make_change make_in make_steps made
  own_stopped why t (late, stops) =
      let s = table_of img in
      let both : Slotted → Plan Slotted = λ q. needed_block no_growth new.dir f₀ (head_made q f₀) and_then needed_block no_growth (no_room room₀) h in
      let e = stops new refl refl in
      elim (spare_cases s) [
        | inl (spare, low, free) ↦ ap (λ (p : Plan Slotted). p and_then both) spare ∙ none_first s both ∙ spared_stops (number_of why) late (rw spare at e)
        | inr stuck ↦ then_stop (with_spare limit no_growth s) both 28 stuck ∙ ap refused (left_number 28 (number_of why) img img (rw stuck at e))
      ]

  module _ (m : MakePlan) (t : Slotted) (p : Plans img no_growth new.dir (entry_length (length new.name) (length new.comment)) h m t) where
    -- the state with an anode to be had is the image's
    spared_is : (p.spared ≡ table_of img) × (with_spare limit no_growth (table_of img) ≡ planned (table_of img) [])
    spared_is = elim (spare_cases (table_of img)) [
      | inl (spare, low, free) ↦ (sym (planned_same (table_of img) p.spared [] [] (sym spare ∙ p.fresh.spares)).0, spare)
      | inr stuck ↦ absurd (refused≢planned 28 p.spared [] (sym stuck ∙ p.fresh.spares))
    ]

    -- the fresh head is the lowest free anode of the image
    pub fresh_is : m.fresh.0 ≡ lowest_free limit (exists_by (slot_of img)) (anodes_of img)
    fresh_is = sym p.fresh.lowest ∙ ap (λ (s : Slotted). lowest_free limit (exists_by s.slots) s.anodes) spared_is.0

    -- the room is the one that was found
    room_is : room_for img (anodes_of img) h new ≡ p.room
    unfolding room_for
    room_is = p.steps.roomy

    -- THE OWN STEPS ARE DONE
    pub own_steps : (make_change img (table_of img) h new).steps ≡ planned t (some_block m.own.0 ++ some_block m.parents.0)
    unfolding make_change make_in make_steps
    own_steps =
        let both : Slotted → Plan Slotted = λ q. needed_block no_growth new.dir f₀ (head_made q f₀) and_then needed_block no_growth (no_room room₀) h in
        ap (λ (x : Plan Slotted). x and_then both) spared_is.1 ∙ none_first (table_of img) both
        ∙ both_planned (needed_block no_growth new.dir f₀ (head_made (table_of img) f₀)) p.steps.between (some_block m.own.0) (needed_block no_growth (no_room room₀) h) t (some_block m.parents.0)
        (ap₂ (λ (f : ℕ) (s : Slotted). needed_block no_growth new.dir f (head_made s f)) (sym fresh_is) (sym spared_is.0) ∙ p.steps.own)
        (ap (λ (o : Option ℕ). needed_block no_growth (no_room o) h p.steps.between) room_is ∙ p.steps.parent)

    module _ (named : good_name new.name ≡ true) (commented : good_comment new.comment ≡ true) where
      -- the change
      abbrev c : SafeChange
      c = make_change img (table_of img) h new

      -- the old block that changes, where room was found
      abbrev y : ℕ
      y = m.start / 512

      -- the make that is planned
      making : Making img h new m.fresh.0 p.room (some_block m.own.0) t (some_block m.parents.0)
      making = record { growth = no_growth; grows = none_grows limit (disk_size img) (last_reserved img); ready = p.spared; fresh = p.fresh; steps = p.steps; named = named; commented = commented }

      -- a new directory has a block of its own
      pub own_count : length (some_block m.own.0) ≡ cond new.dir 1 0
      own_count = ap length (plan making).own_blocks ∙ go new.dir
        where
          -- for a directory and for a file
          go : (b : Bool) → length (cond b (t.anodes.block m.fresh.0 ∷ []) []) ≡ cond b 1 0
          go true = refl
          go false = refl

      -- where the parent has no new block, room was found
      found-room : m.parents.0 ≡ 0 → p.room ≡ some m.start
      found-room z = go p.room refl
        where
          -- by the room
          go : (o : Option ℕ) → p.room ≡ o → p.room ≡ some m.start
          go none e = absurd (nil≢cons (sym (no_block m.parents.0 z) ∙ ((grown making).took (ap no_room e)).1))
          go (some start) e = e ∙ ap some (sym (p.start ∙ ap (λ (o : Option ℕ). entry_start o (m.parents.0 ∷ [])) e))

      -- so it was found by the rules
      pub room_some : m.parents.0 ≡ 0 → room_for img (anodes_of img) h new ≡ some m.start
      room_some z = room_is ∙ found-room z

      -- where it has one, none was
      pub room-none : m.parents.0 ≢ 0 → (room_for img (anodes_of img) h new ≡ none) × (m.start % 512 ≡ 16)
      room-none u = go p.room refl
        where
          -- by the room
          go : (o : Option ℕ) → p.room ≡ o → (room_for img (anodes_of img) h new ≡ none) × (m.start % 512 ≡ 16)
          go none e = (room_is ∙ e, (let at : m.start ≡ m.parents.0 * 512 + 16 = p.start ∙ ap (λ (o : Option ℕ). entry_start o (m.parents.0 ∷ [])) e in omega (arith, at)))
          go (some start) e = absurd (nil≢cons (sym (none_more making start e) ∙ one_block m.parents.0 u))

      -- so that block changes
      changing_one : m.parents.0 ≡ 0 → c.changing ≡ y ∷ []
      unfolding make_change make_in
      changing_one z = ap room_block (room_some z)

      -- or none changes
      changing_none : m.parents.0 ≢ 0 → c.changing ≡ []
      unfolding make_change make_in
      changing_none u = ap room_block (room-none u).0

      -- ---- the block that has room

      -- the image has a right size
      right_size : wrong_size img ≡ false
      right_size = (image-passed r.image).size_right

      module _ (z : m.parents.0 ≡ 0) where
        -- the anode whose block has room
        abbrev a : ℕ
        a = (spot making).anode

        -- it is that of an anode of the directory
        room_at : m.start / 512 ≡ t.anodes.block a
        room_at = omega (arith, in_block_lem making, ap (λ (o : Option ℕ). entry_start o (some_block m.parents.0)) (found-room z))

        -- its number fits into two bytes
        pub room_small : m.start / 512 ≤ 65535
        room_small = omega (arith, room_at, (spot_data making).below, disk_size_lem r.image (table making), disk_small r.image)

        -- each anode of the directory has one block
        anode_one : (b : ℕ) → 0 < occurrences b (chain_of t.anodes.next limit h) → t.anodes.count b ≡ 1
        anode_one b on = elim (less? 0 (occurrences b (chain_of (anodes_of img).next limit h))) [
          | inl q ↦ (let d = dir_block r b (occurrences-member b (chain_of (anodes_of img).next limit h) q) in ((grown making).kept b d.in_use (λ i. reached-not-1 r (sym d.on_chain_lem ∙ i))).0 ∙ d.one)
          | inr q ↦ (grown making).ones b (omega (arith, on, q, ap (occurrences b) (grown making).chain, occurrences-append b (chain_of (anodes_of img).next limit h) (grown making).new))
        ]

        -- THE BLOCK MAY MOVE
        pub room_ready : RoomReady (last_reserved img) (m.start / 512) h t
        room_ready =
            let chain = chain_of t.anodes.next limit h in
            let b = anode_with t.anodes.block y chain in
            let (on, is) = with-found t.anodes.block y chain a (occurrences-member a chain (spot making).on) (sym room_at) in
            let one = anode_one b (member-occurrences b chain on) in
            record {
              below = (table making).good.linked.view.below b (single_used (table making).good b one);
              owns = ap (owner_of t.anodes) (sym is) ∙ owner_is (table making).good b one;
              state = table_state img right_size (table making);
            }

      -- ---- the steps up to the entry's block

      -- they are done, and the entry's block is the last that they took
      pub first_taken : (q : Slotted) (to : ℕ) → entry_plan m.parents.0 (m.start / 512) t ≡ planned q (to ∷ []) → (make_change img (table_of img) h new).steps and_then all_relocated (make_change img (table_of img) h new).changing ≡ planned q (some_block m.own.0 ++ (to ∷ []))
      unfolding entry_plan
      first_taken q to e = elim (same? m.parents.0 0) [
        | inl z ↦ (
            let moved : relocated y t ≡ planned q (to ∷ []) = rw (eq-eqb m.parents.0 0 z) at e in
            first_one c y t q (some_block m.own.0 ++ some_block m.parents.0) (to ∷ []) (changing_one z) own_steps moved
            ∙ ap (λ (l : List ℕ). planned q (l ++ (to ∷ []))) (ap (λ (l : List ℕ). some_block m.own.0 ++ l) (no_block m.parents.0 z) ∙ append-nil (some_block m.own.0)))
        | inr u ↦ (
            let (same, are) = planned_same t q (m.parents.0 ∷ []) (to ∷ []) (rw (ne_eqb m.parents.0 0 u) at e) in
            first-none c t (some_block m.own.0 ++ some_block m.parents.0) (changing_none u) own_steps
            ∙ ap₂ (λ (s : Slotted) (l : List ℕ). planned s (some_block m.own.0 ++ l)) same (one_block m.parents.0 u ∙ sym are))
      ]

      -- or they are refused
      first_stops : (k : ℕ) → entry_plan m.parents.0 (m.start / 512) t ≡ refused k → c.steps and_then all_relocated c.changing ≡ refused k
      unfolding entry_plan all_relocated
      first_stops k e = elim (same? m.parents.0 0) [
        | inl z ↦ (
            let stops : relocated y t ≡ refused k = rw (eq-eqb m.parents.0 0 z) at e in
            then_stops c.steps (all_relocated c.changing) t (some_block m.own.0 ++ some_block m.parents.0) k own_steps
            (ap (λ (l : List ℕ). all_relocated l t) (changing_one z) ∙ then_stop (relocated y t) (all_relocated []) k stops))
        | inr u ↦ absurd (planned≢refused t (m.parents.0 ∷ []) k (rw (ne_eqb m.parents.0 0 u) at e))
      ]

      -- ---- the old blocks

      -- THE OLD BLOCKS by the block table
      pub old_are : (blocks : List ℕ) → ShowsBlocks img blocks → old_from blocks 0 (room_number m.parents.0 (m.start / 512)) (disk_size img) 0 ≡ old_blocks img (make_change img (table_of img) h new)
      unfolding room_number make_change make_in
      old_are blocks shown = elim (same? m.parents.0 0) [
        | inl z ↦ rw (eq-eqb m.parents.0 0 z) (old_shown r.image blocks shown c 0 y (inr (refl, refl)) (inl (changing_one z)))
        | inr u ↦ rw (ne_eqb m.parents.0 0 u) (old_shown r.image blocks shown c 0 65535 (inr (refl, refl)) (inr (refl, changing_none u)))
      ]

      -- ---- the ends

      -- the entry's block is refused
      pub entry_stopped : (why : Refusal) → entry_plan m.parents.0 (m.start / 512) t ≡ refused (number_of why) → safe_steps img (make_change img (table_of img) h new) ≡ refused (number_of why)
      entry_stopped why e = all_end img c (Err why) t (refused (number_of why)) (first_stops (number_of why) e) (then_stop (refused (number_of why)) (rest_from (last_reserved img) (old_blocks img c)) (number_of why) refl)

      module _ (q : Slotted) (to : ℕ) (entry : entry_plan m.parents.0 (m.start / 512) t ≡ planned q (to ∷ [])) where
        -- what is left of the plan can follow
        pub rest_ready : (olds : List ℕ) → olds ≡ old_blocks img (make_change img (table_of img) h new) → SettleReady (last_reserved img) olds q
        rest_ready olds e = settle_ready r.image (make_own r new) (made_leaves r new named commented) q (some_block m.own.0 ++ (to ∷ [])) (first_taken q to entry) olds e

        -- and then all is done, or refused
        pub all_ends : (olds : List ℕ) → olds ≡ old_blocks img (make_change img (table_of img) h new) → (moves : Result (Unit {0}) Refusal) (u : Slotted) → EndsIn moves u (reslotted_from 42 0 q and_then given_back (last_reserved img) olds) → EndsIn moves u (safe_steps img (make_change img (table_of img) h new))
        all_ends olds e moves u w =
            let xs = some_block m.own.0 ++ (to ∷ []) in
            all_end img c moves u (planned q xs) (first_taken q to entry)
            (ends_then (planned q xs) (rest_from (last_reserved img) (old_blocks img c)) q xs refl moves u
            (rest_ends (last_reserved img) (old_blocks img c) q moves u (subst (λ (l : List ℕ). EndsIn moves u (reslotted_from 42 0 q and_then given_back (last_reserved img) l)) e w)))

        -- ALL STEPS ARE DONE
        pub safely_made : (u : Slotted) (ws : List ℕ) → safe_steps img (make_change img (table_of img) h new) ≡ planned u ws → SafelyMade img h new m to u
        safely_made u ws done =
            let d = done_steps r.image (make_own r new) u ws done in
            let (same, are) = planned_same d.r q d.xs (some_block m.own.0 ++ (to ∷ [])) (sym d.first ∙ first_taken q to entry) in
            record {
              taken = ws;
              steps = done;
              are = d.are ∙ ap₂ (λ (k l : List ℕ). k ++ l) (sym are) (slots_taken r.image (make_own r new) u ws done d);
              fresh = fresh_is;
              own = own_count;
              room = room_some;
              no_room = room-none;
            }

        -- the same by the lent block table, and by the numbers that are read off the image
        module _ (blocks : List ℕ) (shown : ShowsBlocks img blocks) (last moved size : ℕ) (last_is : last ≡ last_reserved img) (moved_is : moved ≡ room_number m.parents.0 (m.start / 512)) (size_is : size ≡ disk_size img) where
          -- the old blocks
          olds_are : old_from blocks 0 moved size 0 ≡ old_blocks img c
          olds_are = ap₂ (λ (d n : ℕ). old_from blocks 0 d n 0) moved_is size_is ∙ old_are blocks shown

          -- what is left of the plan can follow
          pub settles_made : SettleReady last (old_from blocks 0 moved size 0) q
          settles_made = subst (λ (l : ℕ). SettleReady l (old_from blocks 0 moved size 0) q) (sym last_is) (rest_ready (old_from blocks 0 moved size 0) olds_are)

          module _ (moves : Result (Unit {0}) Refusal) (u : Slotted) (ends : EndsIn moves u (reslotted_from 42 0 q and_then given_back last (old_from blocks 0 moved size 0))) where
            -- the end of all steps
            plan_ends : EndsIn moves u (safe_steps img c)
            plan_ends = all_ends (old_from blocks 0 moved size 0) olds_are moves u (subst (λ (l : ℕ). EndsIn moves u (reslotted_from 42 0 q and_then given_back l (old_from blocks 0 moved size 0))) last_is ends)

            -- they are done
            pub done-made : (done : Unit {0}) → moves ≡ Ok done → SafelyMade img h new m to u
            done-made done e = let ends : EndsIn (Ok done) u (safe_steps img c) = rw e at plan_ends in safely_made u ends.0 ends.1

            -- or refused
            pub stopped_made : (why : Refusal) → moves ≡ Err why → safe_steps img (make_change img (table_of img) h new) ≡ refused (number_of why)
            stopped_made why e = let stops : EndsIn (Err why) u (safe_steps img c) = rw e at plan_ends in stops

  -- a make that is refused in its planning is refused
  pub plan_stopped : (why : Refusal) (t : Slotted) → PlanOf (Err why) img no_growth new.dir (entry_length (length new.name) (length new.comment)) h t → safe_steps img (make_change img (table_of img) h new) ≡ refused (number_of why)
  plan_stopped why t p =
      let c = make_change img (table_of img) h new in
      let n = number_of why in
      all_end img c (Err why) t (refused n) (then_stop c.steps (all_relocated c.changing) n (own_stopped why t p)) (then_stop (refused n) (rest_from (last_reserved img) (old_blocks img c)) n refl)
