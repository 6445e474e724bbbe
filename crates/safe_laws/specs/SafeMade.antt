-- The steps of a safe make: those of the make in place, with slots that do not grow, and then the block of the room that was found has a new place. Of all else only the free list is touched.
use Rattle.std.specs.Prelude.{ℕ, ◌/◌, ◌<◌, ◌≡◌, ◌≢◌, ◌⊎◌, true}
use Rattle.std.proofs.Math.Path.{refl, ap}
use Rattle.std.proofs.Common.{sym, ◌∙◌, arith}
use Rattle.std.proofs.Math.Logic.{inl, inr}
use mathlib.Core.List.{List, [], ◌∷◌, ◌++◌, append-nil, append_assoc}
use Rattle.std.proofs.Math.Option.{Option, none, some}
use Rattle.disk.specs.Root.{slot_of}
use Rattle.directory.specs.Entries.{good_name, good_comment}
use Rattle.rules.specs.Counting.{occurrences}
use Rattle.rules.specs.Anodes.{Anodes, limit, exists_by, anodes_of}
use Rattle.rules.specs.Chains.{system_by, system_owns}
use Rattle.rules.specs.Accepted.{disk_size, last_reserved}
use Rattle.rules.specs.Plans.{Slotted, planned, ◌and_then◌, no_growth, table_of}
use Rattle.rules.specs.Space.{lowest_free, with_spare}
use Rattle.rules.specs.Changes.{NewEntry, entry_start, no_room, room_for, needed_block, head_made}
use Rattle.laws.specs.Sums.{one_at_cases}
use Rattle.laws.specs.Bags.{occurrences-nil, occurrences-cons}
use Rattle.laws.specs.Space.{Good, good-same}
use Rattle.laws.specs.Ownership.{handed}
use Rattle.laws.specs.Plans.{refused≢planned, planned_same, then_planned}
use Rattle.laws.specs.Moves.{with_these, Shift, shift_none, none_grows}
use Rattle.laws.specs.FixedSlots.{needed_slots}
use Rattle.change_laws.specs.Image.{disk_size_lem, ReachedDir}
use Rattle.change_laws.specs.Reached.{reached-not-1}
use Rattle.change_laws.specs.SingleBlocks.{single_used, single_apart}
use Rattle.change_laws.specs.MadeImage.{Making, parent, plan, table, grown, spot, in_block_lem, spot_data, its_head}
use Rattle.safe_rules.specs.SafePlans.{relocated, all_relocated, make_steps, room_block, make_in, make_change, safe_steps}
use Rattle.safe_laws.specs.OwnMake.{spare_cases, make_own}
use Rattle.safe_laws.specs.Relocated.{none-relocated, block_moved}
use Rattle.safe_laws.specs.Limbo.{LeavesGood}
use Rattle.safe_laws.specs.LeftTable.{DoneSteps, LeftTable, done_steps, left-table}

-- ---- the own steps are those of a make

-- the steps that were planned from the state of img: a make with head f and the room that was found, u behind it, and then the block of that room, r behind it
pub record MakeTaken (img : List ℕ) (h : ℕ) (new : NewEntry) (f : ℕ) (room : Option ℕ) (r : Slotted) (xs : List ℕ) : Type 0 where
  pub u : Slotted
  pub ys : List ℕ
  pub zs : List ℕ
  pub vs : List ℕ
  pub making : Making img h new f room ys u zs
  pub slots : u.slots ≡ slot_of img
  pub moves : all_relocated (room_block room) u ≡ planned r vs
  pub are : xs ≡ ys ++ (zs ++ vs)

module _ {img : List ℕ} {h : ℕ} (r : ReachedDir img h) (new : NewEntry) (named : good_name new.name ≡ true) (commented : good_comment new.comment ≡ true) where
  abbrev s : Slotted
  s = table_of img

  abbrev f₀ : ℕ
  f₀ = lowest_free limit (exists_by (slot_of img)) (anodes_of img)

  abbrev room₀ : Option ℕ
  room₀ = room_for img (anodes_of img) h new

  -- behind an anode to be had
  make_taken : (q : Slotted) (xs : List ℕ) → make_steps s h new.dir f₀ room₀ and_then all_relocated (room_block room₀) ≡ planned q xs → MakeTaken img h new f₀ room₀ q xs
  unfolding make_steps room_for
  make_taken q xs e =
      let (u, us, vs, first, moves, are) = then_planned (make_steps s h new.dir f₀ room₀) (all_relocated (room_block room₀)) q xs e in
      let (p, ps, qs, spared, both, parts) = then_planned (with_spare limit no_growth s) (λ x. needed_block no_growth new.dir f₀ (head_made x f₀) and_then needed_block no_growth (no_room room₀) h) u us first in
      elim (spare_cases s) [
        | inr stuck ↦ absurd (refused≢planned 28 p ps (sym stuck ∙ spared))
        | inl (spare, low, free) ↦ (
            let (same, nothing) = planned_same s p [] ps (sym spare ∙ spared) in
            let (b, ys, zs, own, its, all) = then_planned (needed_block no_growth new.dir f₀ (head_made s f₀)) (needed_block no_growth (no_room room₀) h) u qs (ap (λ (x : Slotted). needed_block no_growth new.dir f₀ (head_made x f₀) and_then needed_block no_growth (no_room room₀) h) same ∙ both) in
            record {
              u = u;
              ys = ys;
              zs = zs;
              vs = vs;
              making = record {
                growth = no_growth;
                grows = none_grows limit (disk_size img) (last_reserved img);
                ready = s;
                fresh = record { parent = r; spares = spare; lowest = refl };
                steps = record { between = b; own = own; roomy = refl; parent = its };
                named = named;
                commented = commented;
              };
              slots = needed_slots (no_room room₀) h b u zs its ∙ needed_slots new.dir f₀ (head_made s f₀) b ys own;
              moves = moves;
              are = are ∙ ap (λ (l : List ℕ). l ++ vs) (parts ∙ ap (λ (l : List ℕ). l ++ qs) nothing ∙ all) ∙ append_assoc ys zs vs;
            })
      ]

-- ---- then the block of the room has a new place

-- where the steps of a make left u, r has block z for the entry's block y; y is no directory's block where none has moved
pub record MadeMoved {img : List ℕ} {h : ℕ} {new : NewEntry} {f : ℕ} {room : Option ℕ} {ys : List ℕ} {u : Slotted} {zs : List ℕ} (m : Making img h new f room ys u zs) (r : Slotted) (vs : List ℕ) : Type 0 where
  pub y : ℕ
  pub z : ℕ
  -- first z is out of the free list
  pub between : Anodes
  pub system' : ℕ → ℕ
  pub hd' : ℕ → ℕ
  pub sd' : ℕ → ℕ
  pub out-good : Good limit (exists_by u.slots) (disk_size img) (last_reserved img) between system' hd' sd'
  pub out : Shift u.anodes (plan m).hd' between hd' 1 1
  -- then it has the entry
  pub good : Good limit (exists_by r.slots) (disk_size img) (last_reserved img) r.anodes (with_these (system_owns img) (room_block room)) hd' sd'
  pub next : r.anodes.next ≡ between.next
  pub count : (b : ℕ) → r.anodes.count b ≡ between.count b
  pub others : (b : ℕ) → b ≢ (spot m).anode → r.anodes.block b ≡ between.block b
  pub at_spot : ((u.anodes.block (spot m).anode ≢ y) × (r.anodes.block (spot m).anode ≡ between.block (spot m).anode)) ⊎ ((u.anodes.block (spot m).anode ≡ y) × (r.anodes.block (spot m).anode ≡ z))
  pub spot_used : r.anodes.block (spot m).anode ≢ 0
  pub not-y : (a : ℕ) → u.anodes.count a ≡ 1 → a ≢ (spot m).anode → u.anodes.block a ≢ y
  -- the block that has the entry is the last that was taken
  pub taken : zs ++ vs ≡ r.anodes.block (spot m).anode ∷ []
  pub inside : (x : ℕ) → 0 < occurrences x (room_block room) → x < disk_size img
  -- and what the parent took is the entry's block
  pub parent_took : (x : ℕ) → 0 < occurrences x zs → x ≡ u.anodes.block (spot m).anode

module _ {img : List ℕ} {h : ℕ} {new : NewEntry} {f : ℕ} {room : Option ℕ} {ys : List ℕ} {u : Slotted} {zs : List ℕ} (m : Making img h new f room ys u zs) where
  -- the anode whose block has the entry is in use
  pub spot_used : u.anodes.block (spot m).anode ≢ 0
  spot_used = single_used (table m).good (spot m).anode (spot m).one

  -- and not the free list's
  pub spot_away : (plan m).hd' (spot m).anode ≢ 1
  spot_away i = reached-not-1 (parent m) (sym (its_head m) ∙ i)

  -- where room was found, the parent took no block
  pub none_more : (start : ℕ) → room ≡ some start → zs ≡ []
  unfolding needed_block
  none_more start is = (planned_same m.steps.between u [] zs (rw is at m.steps.parent)).1

module _ {img : List ℕ} {h : ℕ} {new : NewEntry} {f : ℕ} {room : Option ℕ} {ys : List ℕ} {u : Slotted} {zs : List ℕ} (m : Making img h new f room ys u zs) (slots : u.slots ≡ slot_of img) where
  abbrev a : ℕ
  a = (spot m).anode

  -- the state behind the own steps, by the old image's slots
  u-good : Good limit (exists_by u.slots) (disk_size img) (last_reserved img) u.anodes (system_owns img) (plan m).hd' (plan m).sd'
  u-good = good-same (table m).good (λ x. ap (λ (g : ℕ → ℕ). system_by g x) (sym slots))

  -- no block has moved
  moved_none : room ≡ none → (r : Slotted) (vs : List ℕ) → u ≡ r → vs ≡ [] → MadeMoved m r vs
  moved_none full r vs same nothing =
      let (y, is) = (grown m).took (ap no_room full) in
      let at : y ≡ u.anodes.block a = omega (arith, in_block_lem m, ap (λ (o : Option ℕ). entry_start o zs) full, ap (entry_start none) is) in
      rw (← same, nothing) (record {
        y = 0;
        z = 0;
        between = u.anodes;
        system' = system_owns img;
        hd' = (plan m).hd';
        sd' = (plan m).sd';
        out-good = u-good;
        out = shift_none u.anodes (plan m).hd' 1 1;
        good = good-same u-good (λ x. omega (arith, ap (λ (o : Option ℕ). occurrences x (room_block o)) full, occurrences-nil x));
        next = refl;
        count = λ b. refl;
        others = λ b o. refl;
        at_spot = inl (spot_used m, refl);
        spot_used = spot_used m;
        not-y = λ b one o. single_used u-good b one;
        taken = append-nil zs ∙ is ∙ ap (λ (x : ℕ). x ∷ []) at;
        inside = λ x p. absurd (omega (arith, p, ap (λ (o : Option ℕ). occurrences x (room_block o)) full, occurrences-nil x));
        parent_took = λ x p. elim (one_at_cases y x) [
          | inl c ↦ sym c.0 ∙ at
          | inr c ↦ absurd (omega (arith, p, ap (occurrences x) is, occurrences-cons x y [], occurrences-nil x, c.1))
        ];
      })

  -- one has
  moved-one : (start : ℕ) → room ≡ some start → zs ≡ [] → (r : Slotted) (vs : List ℕ) → relocated (u.anodes.block a) u ≡ planned r vs → MadeMoved m r vs
  moved-one start is none-taken r vs e =
      let b = block_moved u (system_owns img) (plan m).hd' (plan m).sd' u-good a (spot m).one (spot_away m) r vs e in
      let at : start / 512 ≡ u.anodes.block a = omega (arith, in_block_lem m, ap (λ (o : Option ℕ). entry_start o zs) is) in
      let blocks : room_block room ≡ u.anodes.block a ∷ [] = ap room_block is ∙ ap (λ (x : ℕ). x ∷ []) at in
      record {
        y = u.anodes.block a;
        z = b.z;
        between = b.between;
        system' = handed (system_owns img) 1 b.z;
        hd' = b.hd';
        sd' = b.sd';
        out-good = b.out-good;
        out = b.out;
        good = good-same b.good (λ x. omega (arith, ap (occurrences x) blocks));
        next = b.next;
        count = b.count;
        others = b.others;
        at_spot = inr (refl, b.own);
        spot_used = λ i. b.some_block (sym b.own ∙ i);
        not-y = λ c one o. single_apart u-good c one a (spot m).one o;
        taken = ap (λ (l : List ℕ). l ++ vs) none-taken ∙ b.are ∙ ap (λ (x : ℕ). x ∷ []) (sym b.own);
        inside = λ x p. elim (one_at_cases (u.anodes.block a) x) [
          | inl c ↦ omega (arith, c.0, (spot_data m).below, disk_size_lem (parent m).image (table m))
          | inr c ↦ absurd (omega (arith, p, ap (occurrences x) blocks, occurrences-cons x (u.anodes.block a) [], occurrences-nil x, c.1))
        ];
        parent_took = λ x p. absurd (omega (arith, p, ap (occurrences x) none-taken, occurrences-nil x));
      }

  -- THE ENTRY'S BLOCK
  pub made-moved : (r : Slotted) (vs : List ℕ) → all_relocated (room_block room) u ≡ planned r vs → MadeMoved m r vs
  unfolding all_relocated
  made-moved r vs e = go room refl
    where
      go : (o : Option ℕ) → room ≡ o → MadeMoved m r vs
      go none is = let (same, nothing) = planned_same u r [] vs (ap (λ (o : Option ℕ). all_relocated (room_block o) u) (sym is) ∙ e) in moved_none is r vs same nothing
      go (some start) is =
          let at : start / 512 ≡ u.anodes.block a = omega (arith, in_block_lem m, ap (λ (o : Option ℕ). entry_start o zs) is) in
          moved-one start is (none_more m start is) r vs (ap (λ (x : ℕ). relocated x u) (sym at) ∙ none-relocated (relocated (start / 512) u) r vs (ap (λ (o : Option ℕ). all_relocated (room_block o) u) (sym is) ∙ e))

-- ---- and then all others

-- the steps of a safe make that was done
pub record MakeLeaves (img : List ℕ) (h : ℕ) (new : NewEntry) (f : ℕ) (room : Option ℕ) (t : Slotted) (ws : List ℕ) : Type 0 where
  pub u : Slotted
  pub ys : List ℕ
  pub zs : List ℕ
  pub making : Making img h new f room ys u zs
  pub r : Slotted
  pub vs : List ℕ
  pub moved : MadeMoved making r vs
  pub us : List ℕ
  pub are : ws ≡ ys ++ (zs ++ vs) ++ us
  pub left : LeftTable img r moved.hd' t

module _ {img : List ℕ} {h : ℕ} (r : ReachedDir img h) (new : NewEntry) (named : good_name new.name ≡ true) (commented : good_comment new.comment ≡ true) where
  abbrev f₁ : ℕ
  f₁ = lowest_free limit (exists_by (slot_of img)) (anodes_of img)

  abbrev room₁ : Option ℕ
  room₁ = room_for img (anodes_of img) h new

  module _ (q : Slotted) (xs : List ℕ) (first : (make_change img (table_of img) h new).steps and_then all_relocated (make_change img (table_of img) h new).changing ≡ planned q xs) where
    -- the own steps are those of a make
    own_taken : MakeTaken img h new f₁ room₁ q xs
    unfolding make_change make_in
    own_taken = make_taken r new named commented q xs first

    -- then the block of the room has a new place
    own_moved : MadeMoved own_taken.making q own_taken.vs
    own_moved = made-moved own_taken.making own_taken.slots q own_taken.vs own_taken.moves

  -- WHAT THEY LEAVE
  pub made_leaves : LeavesGood img (make_change img (table_of img) h new)
  unfolding make_change make_in
  made_leaves q xs first = let moved = own_moved q xs first in record { hd' = moved.hd'; sd' = moved.sd'; good = moved.good; inside = moved.inside }

  module _ (t : Slotted) (ws : List ℕ) (plan : safe_steps img (make_change img (table_of img) h new) ≡ planned t ws) where
    -- its steps
    d : DoneSteps img (make_change img (table_of img) h new) t ws
    d = done_steps r.image (make_own r new) t ws plan

    -- the first of them are those of a make
    abbrev taken : MakeTaken img h new f₁ room₁ d.r d.xs
    taken = own_taken d.r d.xs d.first

    -- then the block of the room has a new place
    abbrev moved : MadeMoved (own_taken d.r d.xs d.first).making d.r (own_taken d.r d.xs d.first).vs
    moved = own_moved d.r d.xs d.first

    -- and what all leave
    left : LeftTable img d.r moved.hd' t
    unfolding made_leaves
    left = left-table r.image (make_own r new) t ws plan d (made_leaves d.r d.xs d.first)

    -- THE TABLE THAT IS LEFT
    pub make_leaves : MakeLeaves img h new (lowest_free limit (exists_by (slot_of img)) (anodes_of img)) (room_for img (anodes_of img) h new) t ws
    make_leaves = record {
      u = taken.u;
      ys = taken.ys;
      zs = taken.zs;
      making = taken.making;
      r = d.r;
      vs = taken.vs;
      moved = moved;
      us = d.us;
      are = d.are ∙ ap (λ (l : List ℕ). l ++ d.us) taken.are;
      left = left;
    }
