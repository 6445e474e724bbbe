-- Make: the image that it leaves of an accepted one is accepted.
use Rattle.std.specs.Prelude.{ℕ, ◌+◌, ◌*◌, ◌<◌, ◌≡◌, ◌≢◌, ◌⊎◌, Bool, List, [], ◌∷◌}
use Rattle.std.proofs.Math.Path.{refl, ap}
use Rattle.std.proofs.Common.{sym, subst, ◌∙◌, arith}
use Rattle.std.proofs.Math.Logic.{inl, inr}
use Rattle.std.proofs.Math.Bool.{true, false, cond}
use Rattle.std.proofs.Math.Option.{Option, none}
use Rattle.disk.specs.Blocks.{block_of}
use Rattle.disk.specs.Root.{slot_of}
use Rattle.directory.specs.declared.Kind.TheVariants.{File, Directory}
use Rattle.directory.specs.Entries.{good_name, good_comment, is_dir}
use Rattle.rules.specs.Counting.{sum_list, occurrences, gather}
use Rattle.rules.specs.Folding.{folded}
use Rattle.rules.specs.Anodes.{Anodes, limit, exists_by, anodes_of}
use Rattle.rules.specs.Chains.{chain_of, block_count}
use Rattle.rules.specs.Walk.{Dir, Item, entries_in, is_block_of, blocks_for, items_by, reached_dirs, dir_made}
use Rattle.rules.specs.Accepted.{disk_size, last_reserved}
use Rattle.rules.specs.Lookup.{entries_of, first_named, entry_named}
use Rattle.rules.specs.Plans.{Slotted, table_of, Plan, refused, planned, Growth}
use Rattle.rules.specs.Space.{lowest_free, with_spare}
use Rattle.rules.specs.Format.{new_directory_block}
use Rattle.rules.specs.Changes.{no_room, room_for, head_made, needed_block, NewEntry, entry_of, made_image, Left, left, left_by, made}
use Rattle.laws.specs.Tests.{same?}
use Rattle.laws.specs.Sums.{one_at_cases, one_at-same}
use Rattle.laws.specs.Bags.{list_cons, list_append, list_one, first_in}
use Rattle.laws.specs.Plans.{planned≢refused}
use Rattle.laws.specs.Moves.{Grows}
use Rattle.laws.specs.Spare.{spare-moved}
use Rattle.laws.specs.FixedSlots.{start_owned}
use Rattle.laws.specs.RefusedSteps.{spare_refused, take_refused}
use Rattle.laws.specs.Each.{Each, each_map, each_zero}
use Rattle.laws.specs.Items.{faults}
use Rattle.laws.specs.Apart.{name_count}
use Rattle.laws.specs.Entries.{weigh_entry}
use Rattle.laws.specs.Make.{SameMarks, EntryMore, enter_file, enter_directory}
use Rattle.laws.specs.NewDirectory.{none-new}
use Rattle.laws.specs.NamesApart.{NamesApart, unnamed-count, accepted-names_apart}
use Rattle.change_laws.specs.Answers.{StepsAnswer}
use Rattle.change_laws.specs.Image.{WholeOn, StillAccepted, accepted_whole, disk_at, disk_right, whole_accepted, reached-sum, ReachedDir}
use Rattle.change_laws.specs.Reached.{reached-not-1, reached_head}
use Rattle.change_laws.specs.KeptChains.{entries_along}
use Rattle.change_laws.specs.MadeImage.{Making, spare, parent, once, ready_whole, ready_chain, plan, not_fresh, table, before, own_new, orphan, spot, entered, made-disk, entries_made, marks_made, entry_other, its_head, other_entries}

module _ {img : List ℕ} {h : ℕ} {new : NewEntry} {f : ℕ} {room : Option ℕ} {ys : List ℕ} {u : Slotted} {zs : List ℕ} (m : Making img h new f room ys u zs) where
  abbrev t : Anodes
  t = u.anodes

  abbrev s : Anodes
  s = anodes_of img

  abbrev dirs : List Dir
  dirs = reached_dirs img s

  -- the image that a make leaves
  abbrev j : List ℕ
  j = made_image img s h new f room ys u zs

  -- the directory that it makes, where it makes one
  abbrev new_dir : Dir
  new_dir = dir_made f h

  -- the block of one anode has gained the entry
  gained : EntryMore t (plan m).hd' (entered m) (spot m).anode (entries_in (before m)) (entries_in j)
  gained a one q v = elim (one_at_cases a (spot m).anode) [
    | inl i ↦ rw i.0 (ap (sum_list (weigh_entry v)) (entries_made m) ∙ list_append (weigh_entry v) (entries_in (before m) (t.block (spot m).anode)) (entered m ∷ [])
        ∙ omega (arith, list_one (weigh_entry v) (entered m), ap (λ (k : ℕ). k * weigh_entry v (entered m)) (one_at-same (spot m).anode (spot m).anode refl)))
    | inr i ↦ ap (sum_list (weigh_entry v)) (other_entries m a one i.0) ∙ omega (arith, ap (λ (k : ℕ). k * weigh_entry v (entered m)) i.1)
  ]

  -- and all have the marks that they had
  same_marks : SameMarks t (plan m).hd' (is_block_of (before m)) (is_block_of j)
  unfolding is_block_of
  same_marks a one q d = elim (same? a (spot m).anode) [
    | inl i ↦ rw i (marks_made m d)
    | inr i ↦ rw (entry_other m a one i)
  ]

  -- the block that gains it is not the new chain's
  pub not_spot : f ≢ (spot m).anode
  not_spot e = not_fresh m h (reached_head (parent m)) (reached-not-1 (parent m)) (sym (its_head m) ∙ ap (plan m).hd' (sym e) ∙ (orphan m).good.heads.at_head f (orphan m).head)

  -- the new directory has one block
  pub own_one : new.dir ≡ true → u.anodes.count f ≡ 1
  own_one d = (plan m).own_count ∙ ap (λ (b : Bool). cond {A = ℕ} b 1 0) d

  -- which is new
  pub own_stored : new.dir ≡ true → block_of (made_image img (anodes_of img) h new f room ys u zs) (u.anodes.block f) ≡ new_directory_block f h
  own_stored d =
      let p : 0 < occurrences (t.block f) ys = first_in (t.block f) ys ((plan m).own_blocks ∙ ap (λ (b : Bool). cond b (t.block f ∷ []) []) d) in
      entry_other m f (own_one d) not_spot ∙ own_new m (t.block f) p

  -- the new directory has no entry
  own_empty : new.dir ≡ true → items_by (entries_in j) (is_block_of j) t new_dir ≡ []
  own_empty d = none-new j t new_dir (plan m).own_chain (own_one d) (own_stored d)

  -- a new file has no block
  none_yet : new.dir ≡ false → block_count t f ≡ blocks_for 0
  unfolding block_count blocks_for
  none_yet d = ap (sum_list t.count) (plan m).own_chain ∙ list_one t.count f ∙ (plan m).own_count ∙ ap (λ (b : Bool). cond {A = ℕ} b 1 0) d

  -- the directories that are reached then
  abbrev grown : Bool → List Dir
  grown b = cond b (new_dir ∷ dirs) dirs

  is_dir_lem : (b : Bool) → is_dir (cond b Directory File) ≡ b
  is_dir_lem true = refl
  is_dir_lem false = refl

-- where the directory has no entry of that name
module _ {img : List ℕ} {h : ℕ} {new : NewEntry} {f : ℕ} {room : Option ℕ} {ys : List ℕ} {u : Slotted} {zs : List ℕ} (m : Making img h new f room ys u zs)
    (unused : entry_named img (anodes_of img) h new.name ≡ none) where
  abbrev items : Dir → List Item
  items = items_by (entries_in img) (is_block_of img) m.ready.anodes

  -- no item of it has the name
  free_name : Each (λ d. d.head ≡ h → name_count (folded new.name) (items d) ≡ 0) (dirs m)
  unfolding entry_named entries_of
  free_name = each_map (λ d. faults items d ≡ 0) (λ d. d.head ≡ h → name_count (folded new.name) (items d) ≡ 0) (dirs m)
      (λ d z i. unnamed-count (entries_in img) (is_block_of img) m.ready.anodes d z new.name
      (ap (λ (k : ℕ). first_named new.name (gather (λ a. entries_in img (m.ready.anodes.block a)) (chain_of m.ready.anodes.next limit k))) i ∙ ap (first_named new.name) (entries_along (ready_chain m) img) ∙ unused))
      (each_zero (faults items) (dirs m) (ready_whole m).tree.faultless)

  -- the state that a make leaves is whole
  pub made_whole : WholeOn (disk_at img u) (made_image img (anodes_of img) h new f room ys u zs) u.anodes (plan m).hd' (plan m).sd' (cond new.dir (dir_made f h ∷ reached_dirs img (anodes_of img)) (reached_dirs img (anodes_of img)))
  unfolding entry_of
  made_whole = go new.dir refl
    where
      go : (b : Bool) → new.dir ≡ b → WholeOn (disk_at img u) (j m) (t m) (plan m).hd' (plan m).sd' (grown m b)
      go true d = enter_directory (entered m) (orphan m) (spare m).from_6 refl (inl (is_dir_lem m new.dir ∙ d)) (spot m).anode h (once m) (its_head m) (entries_in (j m)) (is_block_of (j m))
          (gained m) (same_marks m) (ready_whole m).apart free_name (is_dir_lem m new.dir ∙ d) (own_empty m d)
      go false d = enter_file (entered m) (orphan m) (spare m).from_6 refl (inr (none_yet m d)) (spot m).anode h (once m) (its_head m) (entries_in (j m)) (is_block_of (j m))
          (gained m) (same_marks m) (ready_whole m).apart free_name (is_dir_lem m new.dir ∙ d)

  image-accepted : StillAccepted (parent m).image (j m)
  image-accepted = whole_accepted (made-disk m) made_whole (disk_right (parent m).image (table m))

  -- the directories that were reached are reached, and the new one
  pub made-dirs : (weight : Dir → ℕ) → sum_list weight (reached_dirs (made_image img (anodes_of img) h new f room ys u zs) (anodes_of (made_image img (anodes_of img) h new f room ys u zs)))
      ≡ sum_list weight (reached_dirs img (anodes_of img)) + cond new.dir (weight (dir_made f h)) 0
  made-dirs weight = reached-sum (made-disk m) made_whole weight ∙ go new.dir
    where
      go : (b : Bool) → sum_list weight (grown m b) ≡ sum_list weight (dirs m) + cond b (weight (new_dir m)) 0
      go true = omega (arith, list_cons weight (new_dir m) (dirs m))
      go false = omega arith

-- ---- every way that a make can end

-- the step for a directory block is refused with 27 or 28
pub needed_refused : (growth : Growth) (needed : Bool) (h n : ℕ) (s : Slotted) → needed_block growth needed h s ≡ refused n → (n ≡ 27) ⊎ (n ≡ 28)
unfolding needed_block
needed_refused growth true h n s e = take_refused limit growth true h n s e
needed_refused growth false h n s e = absurd (planned≢refused s [] n e)

module _ (growth : Growth) (img : List ℕ) (s : Slotted) (h : ℕ) (new : NewEntry) where
  abbrev space : Option ℕ
  space = room_for img s.anodes h new

  -- the head that is taken in the state r
  abbrev first : Slotted → ℕ
  first r = lowest_free limit (exists_by r.slots) r.anodes

  -- refused with 27 or 28, or done by steps that are
  module _ (P : Left → Type 0) (full : P (left 27 img)) (no_anode : P (left 28 img))
      (done : (q : Slotted) (xs : List ℕ) → with_spare limit growth s ≡ planned q xs → (r : Slotted) (ys : List ℕ) → needed_block growth new.dir (first q) (head_made q (first q)) ≡ planned r ys → (t : Slotted) (zs : List ℕ) →
      needed_block growth (no_room space) h r ≡ planned t zs → P (left 0 (made_image img s.anodes h new (first q) space ys t zs))) where
    refused_with : (n : ℕ) → (n ≡ 27) ⊎ (n ≡ 28) → P (left n img)
    refused_with n (inl e) = rw e full
    refused_with n (inr e) = rw e no_anode

    made_cases : P (made growth img s h new)
    unfolding made
    made_cases = sparing (with_spare limit growth s) refl
      where
        sparing : (p : Plan Slotted) → with_spare limit growth s ≡ p → P (left_by p img (λ q xs. left_by (needed_block growth new.dir (first q) (head_made q (first q))) img (λ r ys. left_by (needed_block growth (no_room space) h r) img (λ t zs. left 0 (made_image img s.anodes h new (first q) space ys t zs)))))
        sparing (refused n) e = refused_with n (inr (spare_refused limit growth s n e))
        sparing (planned q xs) e = owning (needed_block growth new.dir (first q) (head_made q (first q))) refl
          where
            owning : (p : Plan Slotted) → needed_block growth new.dir (first q) (head_made q (first q)) ≡ p → P (left_by p img (λ r ys. left_by (needed_block growth (no_room space) h r) img (λ t zs. left 0 (made_image img s.anodes h new (first q) space ys t zs))))
            owning (refused n) f = refused_with n (needed_refused growth new.dir (first q) n (head_made q (first q)) f)
            owning (planned r ys) f = taking (needed_block growth (no_room space) h r) refl
              where
                taking : (p : Plan Slotted) → needed_block growth (no_room space) h r ≡ p → P (left_by p img (λ t zs. left 0 (made_image img s.anodes h new (first q) space ys t zs)))
                taking (refused n) i = refused_with n (needed_refused growth (no_room space) h n r i)
                taking (planned t zs) i = done q xs e r ys f t zs i

  -- it answers 0, 27 or 28
  pub made-answer : StepsAnswer (made growth img s h new).answer
  made-answer = made_cases (λ o. StepsAnswer o.answer) (inr (inl refl)) (inr (inr refl)) (λ q xs e r ys f t zs i. inl refl)

-- growth: how slots grow
module _ {img : List ℕ} {growth : Growth} (grows : Grows limit (disk_size img) (last_reserved img) growth) {h : ℕ} (r : ReachedDir img h) (new : NewEntry) (named : good_name new.name ≡ true) (commented : good_comment new.comment ≡ true) where
  -- of an accepted image it is refused with 27 or 28, or planned
  pub planned_cases : (P : Left → Type 0) → P (left 27 img) → P (left 28 img) →
      ((f : ℕ) (room : Option ℕ) (ys : List ℕ) (t : Slotted) (zs : List ℕ) (m : Making img h new f room ys t zs) → m.fresh.parent ≡ r → P (left 0 (made_image img (anodes_of img) h new f room ys t zs))) → P (made growth img (table_of img) h new)
  unfolding room_for
  planned_cases P full no_anode done = made_cases growth img (table_of img) h new P full no_anode (λ q xs e between ys f t zs i.
      let (gs, v, free, empty) = spare-moved grows (start_owned (slot_of img)) (accepted_whole r.image).good q xs e in
      done (lowest_free limit (exists_by q.slots) q.anodes) (room_for img (anodes_of img) h new) ys t zs (record {
        growth = growth;
        grows = grows;
        ready = q;
        fresh = record { parent = r; spares = e ∙ ap (planned q) empty; lowest = refl };
        steps = record { between = between; own = f; roomy = refl; parent = i };
        named = named;
        commented = commented;
      }) refl)

  module _ (unused : entry_named img (anodes_of img) h new.name ≡ none) where
    -- what a make leaves of an accepted image is accepted, where the directory has no entry of that name
    pub make_accepted : StillAccepted r.image (made growth img (table_of img) h new).image
    make_accepted = planned_cases (λ o. StillAccepted r.image o.image) r.image.accepted r.image.accepted (λ f room ys t zs m is. subst (λ (d : ReachedDir img h). StillAccepted d.image (made_image img (anodes_of img) h new f room ys t zs)) is (image-accepted m unused))

    -- and so its names are apart: a make keeps them so
    pub make_names_apart : NamesApart (made growth img (table_of img) h new).image
    make_names_apart = accepted-names_apart _ r.image.blocks r.image.anodes make_accepted
