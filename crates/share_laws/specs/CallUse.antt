-- What a done call makes of the blocks that are used: those that it needs come to its directory, those that it gives back go; without growth the anode blocks stay.
use Rattle.std.specs.Prelude.{ℕ, ◌-◌, ◌≡◌, ◌≢◌, ◌⊎◌, Bool, List, [], eqb, length}
use Rattle.std.proofs.Math.Path.{refl, sym, ap, fun_ext}
use Rattle.std.proofs.Common.{◌∙◌, inl, inr, arith, le-leb}
use Rattle.std.proofs.Math.Bool.{true, false}
use Rattle.std.proofs.Math.Option.{Option, some}
use Rattle.std.proofs.lemmas.Bool.{lt-leb}
use Rattle.disk.specs.Root.{slot_of}
use Rattle.rules.specs.Anodes.{limit, exists_by, anodes_of}
use Rattle.rules.specs.Chains.{block_count}
use Rattle.rules.specs.Walk.{Entered, blocks_for}
use Rattle.rules.specs.Accepted.{disk_size, last_reserved}
use Rattle.rules.specs.Lookup.{no_directory, entry_named, of_entry}
use Rattle.rules.specs.Totals.{anode_blocks}
use Rattle.rules.specs.Plans.{Slotted, table_of, Plan, refused, planned, Growth, no_growth}
use Rattle.rules.specs.Space.{lowest_free, with_spare}
use Rattle.rules.specs.Changes.{Left, left, left_by, NewEntry, new_entry, no_room, room_for, head_made, needed_block, made_in, made_image, made, resize_plan, resized_image, resized, written, remove_plan, removed_image, removed}
use Rattle.laws.specs.Tests.{less?}
use Rattle.laws.specs.Moves.{Grows, none_grows}
use Rattle.laws.specs.FixedSlots.{start_owned, spare_slots, needed_slots, takes_slots, runs_slots, all_slots}
use Rattle.laws.specs.Spare.{spare-moved}
use Rattle.laws.specs.RefusedSteps.{spare_refused}
use Rattle.frames.specs.Kept.{slot_of-kept}
use Rattle.change_laws.specs.Image.{AcceptedImage, accepted_whole, DiskWith, disk_at, TableFor, disk_slots, ReachedDir}
use Rattle.change_laws.specs.Reached.{EntryIn, entry-facts, entry-not-1, reached_head, reached-not-1, not-file}
use Rattle.change_laws.specs.PlannedChange.{left_cases, image}
use Rattle.change_laws.specs.Write.{written-disk, written-dirs}
use Rattle.change_laws.specs.ResizePlan.{plan_refused}
use Rattle.change_laws.specs.Make.{needed_refused}
use Rattle.change_laws.specs.Remove.{remove_refused}
use Rattle.change_laws.specs.ResizeStores.{PlannedResize, resized-disk}
use Rattle.change_laws.specs.ResizeStores as ResizeStores
use Rattle.change_laws.specs.ResizeEntries.{resized-reached}
use Rattle.change_laws.specs.MadeImage.{Making, parent, made-disk, not_fresh}
use Rattle.change_laws.specs.MadeImage as MadeImage
use Rattle.change_laws.specs.MakeEffects.{reached-kept}
use Rattle.change_laws.specs.RemoveStores.{PlannedRemove, removed-disk}
use Rattle.change_laws.specs.RemoveStores as RemoveStores
use Rattle.share_rules.specs.SharedCalls.{SharedCall, shared_read, shared_list, shared_make, shared_resize, shared_write, shared_remove, named_directory, unshared_refusal, unshared_left, make_needs, resize_needs, blocks_needed}
use Rattle.share_laws.specs.PassedCalls.{MakePassed, passed_parent, passed_entry, make_passed, resize_passed, span_passed, remove_passed}
use Rattle.share_laws.specs.KeptWays.{IsReached}
use Rattle.share_laws.specs.ChangedUse.{ChangedUse, same_anode_blocks, write_use}
use Rattle.share_laws.specs.ResizeUse.{resize_use}
use Rattle.share_laws.specs.MakeUse.{make_use}
use Rattle.share_laws.specs.RemoveUse.{remove_use, removed_keeps}

-- the blocks that a call gives back: what a resize cuts off, all that a removed chain has
abbrev pub blocks_given : List ℕ → SharedCall → ℕ
blocks_given img (shared_read h name offset out) = 0
blocks_given img (shared_list h place) = 0
blocks_given img (shared_make h type name comment day minute tick protection) = 0
blocks_given img (shared_resize h name new) = of_entry (entry_named img (anodes_of img) h name) (λ e. block_count (anodes_of img) e.anode - blocks_for new) 0
blocks_given img (shared_write h name offset bytes) = 0
blocks_given img (shared_remove h name) = of_entry (entry_named img (anodes_of img) h name) (λ e. block_count (anodes_of img) e.anode) 0

-- the call removes the directory x
abbrev pub RemovesDir : List ℕ → SharedCall → ℕ → Type 0
RemovesDir img (shared_read h name offset out) x = ⊥
RemovesDir img (shared_list h place) x = ⊥
RemovesDir img (shared_make h type name comment day minute tick protection) x = ⊥
RemovesDir img (shared_resize h name new) x = ⊥
RemovesDir img (shared_write h name offset bytes) x = ⊥
RemovesDir img (shared_remove h name) x = (e : Entered) × (entry_named img (anodes_of img) h name ≡ some e) × (e.dir ≡ true) × (e.anode ≡ x)

-- ---- the ways that a make can end

module _ (growth : Growth) (img : List ℕ) (s : Slotted) (h : ℕ) (new : NewEntry) where
  abbrev first : Slotted → ℕ
  first q = lowest_free limit (exists_by q.slots) q.anodes

  abbrev room : Option ℕ
  room = room_for img s.anodes h new

  module _ (P : Left → Type 0) (stopped : (k : ℕ) → (k ≡ 27) ⊎ (k ≡ 28) → P (left k img))
      (done : (q : Slotted) (xs : List ℕ) → with_spare limit growth s ≡ planned q xs → (r : Slotted) (ys : List ℕ) → needed_block growth new.dir (first q) (head_made q (first q)) ≡ planned r ys → (t : Slotted) (zs : List ℕ) →
      needed_block growth (no_room room) h r ≡ planned t zs → P (left 0 (made_image img s.anodes h new (first q) room ys t zs))) where
    make_ends : P (made growth img s h new)
    unfolding made
    make_ends = sparing (with_spare limit growth s) refl
      where
        sparing : (p : Plan Slotted) → with_spare limit growth s ≡ p → P (left_by p img (λ q xs. made_in growth img s.anodes h new room q (first q)))
        sparing (refused k) e = stopped k (inr (spare_refused limit growth s k e))
        sparing (planned q xs) e = owning (needed_block growth new.dir (first q) (head_made q (first q))) refl
          where
            owning : (p : Plan Slotted) → needed_block growth new.dir (first q) (head_made q (first q)) ≡ p → P (left_by p img (λ r ys. left_by (needed_block growth (no_room room) h r) img (λ t zs. left 0 (made_image img s.anodes h new (first q) room ys t zs))))
            owning (refused k) f = stopped k (needed_refused growth new.dir (first q) k (head_made q (first q)) f)
            owning (planned r ys) f = taking (needed_block growth (no_room room) h r) refl
              where
                taking : (p : Plan Slotted) → needed_block growth (no_room room) h r ≡ p → P (left_by p img (λ t zs. left 0 (made_image img s.anodes h new (first q) room ys t zs)))
                taking (refused k) i = stopped k (needed_refused growth (no_room room) h k r i)
                taking (planned t zs) i = done q xs e r ys f t zs i

-- a make of an accepted image that is done, with its growth
module _ {img : List ℕ} {growth : Growth} (grows : Grows limit (disk_size img) (last_reserved img) growth) {h : ℕ} (r : ReachedDir img h) (new : NewEntry) where
  module _ {name comment : List ℕ} (passed : MakePassed img h name comment) (is_name : new.name ≡ name) (is_comment : new.comment ≡ comment) where
    pub made_ways : (P : Left → Type 0) → ((k : ℕ) → (k ≡ 27) ⊎ (k ≡ 28) → P (left k img)) →
        ((f : ℕ) (ys : List ℕ) (t : Slotted) (zs : List ℕ) (m : Making img h new f (room_for img (anodes_of img) h new) ys t zs) → m.growth ≡ growth → m.fresh.parent ≡ r → P (left 0 (made_image img (anodes_of img) h new f (room_for img (anodes_of img) h new) ys t zs))) →
        P (made growth img (table_of img) h new)
    unfolding room_for
    made_ways P stopped done = make_ends growth img (table_of img) h new P stopped (λ q xs e between ys f t zs i.
        let (gs, v, free, nothing) = spare-moved grows (start_owned (slot_of img)) (accepted_whole r.image).good q xs e in
        done (lowest_free limit (exists_by q.slots) q.anodes) ys t zs (record {
          growth = growth;
          grows = grows;
          ready = q;
          fresh = record { parent = r; spares = e ∙ ap (planned q) nothing; lowest = refl };
          steps = record { between = between; own = f; roomy = refl; parent = i };
          named = rw is_name passed.named;
          commented = rw is_comment passed.commented;
        }) refl refl)

-- ---- done calls

-- the steps' refusals are not 0
not_done : (k : ℕ) → (k ≡ 27) ⊎ (k ≡ 28) → k ≡ 0 → ⊥
not_done k (inl q) d = omega (arith, q, d)
not_done k (inr q) d = omega (arith, q, d)

-- a call that leaves the image
same_use : {img : List ℕ} → AcceptedImage img → (h : ℕ) → ChangedUse img img h 0 0
same_use image h = record { image' = image; same_size = refl; parents = λ x a b. refl; used = λ top a b. refl; paid = refl }

module _ {img : List ℕ} (image : AcceptedImage img) {growth : Growth} (grows : Grows limit (disk_size img) (last_reserved img) growth) where
  -- THE USE AFTER A DONE CALL: what it needs has come, what it gives back has gone
  pub call_use : (call : SharedCall) → unshared_refusal img call ≡ 0 → (unshared_left growth img call).answer ≡ 0 →
      ChangedUse img (unshared_left growth img call).image (named_directory call) (blocks_needed img call) (blocks_given img call)
  unfolding resize_needs resized removed
  call_use (shared_read h name offset out) z = λ d. same_use image h
  call_use (shared_list h place) z = λ d. same_use image h
  call_use (shared_make h type name comment day minute tick protection) z =
      let p = make_passed img h type name comment z in
      let new = new_entry (eqb type 2) name comment day minute tick protection in
      made_ways grows (passed_parent image p) new p refl refl (λ l. l.answer ≡ 0 → ChangedUse img l.image h (make_needs img h new) 0) (λ k q d. absurd (not_done k q d)) (λ f ys t zs m g r d. make_use m p.unused)
  call_use (shared_resize h name new) z =
      let (p, file) = resize_passed img h name z in
      let e = p.entered in
      let m = passed_entry image p in
      let f = entry-facts m in
      rw p.is (left_cases (λ l. l.answer ≡ 0 → ChangedUse img l.image h (blocks_for new - block_count (anodes_of img) e.anode) (block_count (anodes_of img) e.anode - blocks_for new)) img (resized_image img (anodes_of img) e new)
      (resize_plan growth (last_reserved img) (table_of img) e.anode (blocks_for new))
      (λ k q d. absurd (not_done k (plan_refused img grows (accepted_whole image).good e.anode f.head (entry-not-1 f) (blocks_for new) k q) d))
      (λ t ys q d. resize_use (record { home = h; entry = m; plan = record { file = file; growth = growth; grows = grows; steps = q } })))
  call_use (shared_write h name offset bytes) z = let (p, file, fits) = span_passed img h name offset (length bytes) z in rw p.is (λ d. write_use (passed_entry image p) file offset bytes)
  call_use (shared_remove h name) z =
      let (p, empty) = remove_passed img h name z in
      let e = p.entered in
      let m = passed_entry image p in
      rw p.is (left_cases (λ l. l.answer ≡ 0 → ChangedUse img l.image h 0 (block_count (anodes_of img) e.anode)) img (λ t ys. removed_image img e t) (remove_plan growth (last_reserved img) (table_of img) e.anode)
      (λ k q d. absurd (not_done k (inr (remove_refused grows m k q)) d))
      (λ t ys q d. remove_use (record { home = h; entry = m; plan = record { growth = growth; grows = grows; steps = q } }) empty))

  -- every directory that it does not remove is still reached
  pub call_keeps : (call : SharedCall) → unshared_refusal img call ≡ 0 → (x : ℕ) → (RemovesDir img call x → ⊥) → IsReached img x → IsReached (unshared_left growth img call).image x
  unfolding resized removed
  call_keeps (shared_read h name offset out) z x off r = r
  call_keeps (shared_list h place) z x off r = r
  call_keeps (shared_make h type name comment day minute tick protection) z x off r =
      let p = make_passed img h type name comment z in
      let there : ReachedDir img x = record { image = image; reached = r } in
      made_ways grows (passed_parent image p) (new_entry (eqb type 2) name comment day minute tick protection) p refl refl (λ l. IsReached l.image x) (λ k q. r)
      (λ f ys t zs m g i. reached-kept m p.unused x (not_fresh m x (reached_head there) (reached-not-1 there)) ∙ r)
  call_keeps (shared_resize h name new) z x off r =
      let (p, file) = resize_passed img h name z in
      let e = p.entered in
      rw p.is (left_cases (λ l. IsReached l.image x) img (resized_image img (anodes_of img) e new) (resize_plan growth (last_reserved img) (table_of img) e.anode (blocks_for new)) (λ k q. r)
      (λ t ys q.
      let plan : PlannedResize img e new t ys = record { home = h; entry = passed_entry image p; plan = record { file = file; growth = growth; grows = grows; steps = q } } in
      rw (resized-disk plan).anodes (resized-reached plan x ∙ r)))
  call_keeps (shared_write h name offset bytes) z x off r = let (p, file, fits) = span_passed img h name offset (length bytes) z in rw p.is (written-reached (passed_entry image p) file)
    where
      written-reached : {e : Entered} → EntryIn img h e → e.dir ≡ false → IsReached (written img (anodes_of img) e offset bytes) x
      written-reached m file = unfold no_directory in rw ((written-disk m file offset bytes).anodes, written-dirs m file offset bytes) r
  call_keeps (shared_remove h name) z x off r =
      let (p, empty) = remove_passed img h name z in
      let e = p.entered in
      let m = passed_entry image p in
      let there : ReachedDir img x = record { image = image; reached = r } in
      let other : x ≢ e.anode = λ i. is_dir_lem e.dir refl (λ d. off (e, p.is, d, sym i)) (λ d. not-file there (entry-facts m) d i) in
      rw p.is (left_cases (λ l. IsReached l.image x) img (λ t ys. removed_image img e t) (remove_plan growth (last_reserved img) (table_of img) e.anode) (λ k q. r)
      (λ t ys q. removed_keeps (record { home = h; entry = m; plan = record { growth = growth; grows = grows; steps = q } }) empty x other r))
    where
      is_dir_lem : {A : Type 0} (b : Bool) {c : Bool} → c ≡ b → (c ≡ true → A) → (c ≡ false → A) → A
      is_dir_lem true q f g = f q
      is_dir_lem false q f g = g q

-- ---- without growth

-- slots that stay, and with them the anode blocks
fixed_blocks : {img : List ℕ} (image : AcceptedImage img) {u : Slotted} {hd sd : ℕ → ℕ} → TableFor img u hd sd → {j : List ℕ} → DiskWith (disk_at img u) u.anodes j → u.slots ≡ slot_of img → anode_blocks j ≡ anode_blocks img
fixed_blocks {img} image {u} p {j} d e = same_anode_blocks img j (fun_ext (λ k. slot_of-kept d.same.kept refl k ∙ ap (λ (f : ℕ → ℕ). f k) (disk_slots image p ∙ e)))

-- WITHOUT GROWTH the anode blocks stay
pub pool_fixed : {img : List ℕ} → AcceptedImage img → (call : SharedCall) → unshared_refusal img call ≡ 0 → anode_blocks (unshared_left no_growth img call).image ≡ anode_blocks img
unfolding resized removed resize_plan
pool_fixed image (shared_read h name offset out) z = refl
pool_fixed image (shared_list h place) z = refl
pool_fixed {img} image (shared_make h type name comment day minute tick protection) z =
    let p = make_passed img h type name comment z in
    made_ways (none_grows limit (disk_size img) (last_reserved img)) (passed_parent image p) (new_entry (eqb type 2) name comment day minute tick protection) p refl refl (λ l. anode_blocks l.image ≡ anode_blocks img) (λ k q. refl)
    (λ f ys t zs m g r. fixed_blocks (parent m).image (MadeImage.table m) (made-disk m) (slots f ys t zs m g))
  where
    slots : {h : ℕ} {new : NewEntry} {room : Option ℕ} (f : ℕ) (ys : List ℕ) (t : Slotted) (zs : List ℕ) (m : Making img h new f room ys t zs) → m.growth ≡ no_growth → t.slots ≡ slot_of img
    slots {h} {new} {room} f ys t zs m g =
        needed_slots (no_room room) h m.steps.between t zs (rw g at m.steps.parent)
        ∙ needed_slots new.dir f (head_made m.ready f) m.steps.between ys (rw g at m.steps.own)
        ∙ spare_slots limit (table_of img) m.ready [] (rw g at m.fresh.spares)
pool_fixed {img} image (shared_resize h name new) z =
    let (p, file) = resize_passed img h name z in
    let e = p.entered in
    let s = anodes_of img in
    rw p.is (left_cases (λ l. anode_blocks l.image ≡ anode_blocks img) img (resized_image img s e new) (resize_plan no_growth (last_reserved img) (table_of img) e.anode (blocks_for new)) (λ k q. refl)
    (λ t ys q.
    let plan : PlannedResize img e new t ys = record { home = h; entry = passed_entry image p; plan = record { file = file; growth = no_growth; grows = none_grows limit (disk_size img) (last_reserved img); steps = q } } in
    fixed_blocks image (ResizeStores.table plan) (resized-disk plan) (elim (less? (blocks_for new) (block_count s e.anode)) [
      | inl l ↦ runs_slots limit (last_reserved img) (block_count s e.anode - blocks_for new) e.anode (table_of img) t ys (rw (lt-leb (block_count s e.anode) (blocks_for new) l) at q)
      | inr l ↦ takes_slots limit false (blocks_for new - block_count s e.anode) e.anode (table_of img) t ys (rw (le-leb (block_count s e.anode) (blocks_for new) l) at q)
    ])))
pool_fixed {img} image (shared_write h name offset bytes) z =
    let (p, file, fits) = span_passed img h name offset (length bytes) z in
    rw p.is (same_anode_blocks img (written img (anodes_of img) p.entered offset bytes) (fun_ext (λ k. slot_of-kept (written-disk (passed_entry image p) file offset bytes).same.kept refl k)))
pool_fixed {img} image (shared_remove h name) z =
    let (p, empty) = remove_passed img h name z in
    let e = p.entered in
    rw p.is (left_cases (λ l. anode_blocks l.image ≡ anode_blocks img) img (λ t ys. removed_image img e t) (remove_plan no_growth (last_reserved img) (table_of img) e.anode) (λ k q. refl)
    (λ t ys q.
    let plan : PlannedRemove img e t ys = record { home = h; entry = passed_entry image p; plan = record { growth = no_growth; grows = none_grows limit (disk_size img) (last_reserved img); steps = q } } in
    fixed_blocks image (RemoveStores.table plan) (removed-disk plan) (all_slots limit (last_reserved img) e.anode (table_of img) t ys q)))
