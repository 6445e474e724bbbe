-- What the planning of a make finds in the tables, and what a make leaves of the image and of its tables.
use Prim.Native.Nat.{ℕ, ◌+◌, ◌/◌, ◌%◌}
use mathlib.Core.Path.{◌≡◌, refl, sym, ap, ◌∙◌}
use mathlib.Core.Bool.{Bool, true, false}
use mathlib.Core.List.{List, [], ◌∷◌, ◌++◌, nil≢cons}
use mathlib.Core.Option.{Option, none, some}
use native.Mathlib.Omega.{arith}
use Rattle.std.specs.Prelude.{Some, Err}
use lib.ListN.{length, get_or, set, drop}
use Rattle.disk.specs.declared.AnodeNo.{AnodeNo}
use Rattle.disk.specs.declared.Refusal.{Refusal}
use Rattle.disk.specs.declared.Refusal.TheVariants.{NoFreeAnode}
use Rattle.disk.specs.Refusals.{number_of}
use Rattle.disk.specs.Root.{slot_of}
use Rattle.directory.specs.Entries.{good_name, good_comment, entry_length, put_entry}
use Rattle.rules.specs.Counting.{occurrences}
use Rattle.rules.specs.Anodes.{Anodes, limit, anodes_of, with_anodes}
use Rattle.rules.specs.Chains.{chain_of, system_owns, blocks_of}
use Rattle.rules.specs.Walk.{reached_dirs}
use Rattle.rules.specs.Accepted.{disk_size, last_reserved}
use Rattle.rules.specs.Lookup.{no_directory}
use Rattle.rules.specs.Plans.{Slotted, slotted, table_of, refused, Growth}
use Rattle.rules.specs.Space.{with_spare}
use Rattle.rules.specs.Tables.{owner_head, anode_table}
use Rattle.rules.specs.Format.{new_directory_block}
use Rattle.rules.specs.Table.{in_block, with_slot_table, with_table}
use Rattle.rules.specs.Changes.{left, with_blocks, first_room, no_room, parent_of, entry_start, NewEntry, entry_of, made_image, room_for, made}
use Rattle.laws.specs.Bags.{occurrences-member}
use Rattle.laws.specs.Links.{Linked}
use Rattle.laws.specs.Moves.{Grows, SlotsGrew}
use Rattle.laws.specs.GotSlots.{slots_got, got_placed, got_all}
use Rattle.laws.specs.OwnerTable.{set_all, block_owners, handed_to, owners-handed, owners_got}
use Rattle.anodes.specs.Loaded.{anodes_from, slots_from, table_from, Loaded}
use Rattle.edits.specs.Entries.{OneBlockEach}
use Rattle.change_laws.specs.Image.{AcceptedImage, disk_at, disk_size_lem, disk_slots, ReachedDir}
use Rattle.change_laws.specs.Reached.{dir_block}
use Rattle.change_laws.specs.MadeImage.{Making, plan, grown, table, good, made-disk}
use Rattle.change_tables.specs.Leaves.{Leaves}
use Rattle.change_tables.specs.Laws.{Shows, leaves_refused, leaves_done}
use Rattle.change_tables.specs.Chains.{loaded_image, loaded_size, image-good, slots_loaded, good_state}
use Rattle.placing.specs.States.{GoodState}
use Rattle.placing.proofs.Tables.{rewritten_tables}
use Rattle.growing.specs.Grown.{SpareOf}
use Rattle.making.specs.declared.MakePlan.{MakePlan}
use Rattle.making.specs.Steps.{some_block, Begun, Plans, PlanOf}
use Rattle.making.proofs.Steps.{no_block, one_block, own_data, parent_data, owners, made_is}

-- tables of anodes and of slots that are the image's
module _ {img counts firsts nexts : List ℕ} (l : Loaded img counts firsts nexts) (slots : List ℕ) (held : slots_from slots ≡ slot_of img) where
  table_is : table_from counts firsts nexts slots ≡ table_of img
  table_is = rw (held, l.is_loaded)

  -- what spare_anode asks of them
  pub loaded_state : GoodState (last_reserved img) (table_from counts firsts nexts slots)
  loaded_state = rw table_is (good_state img (loaded_size l) (image-good l))

  -- with no anode to be had the make is refused
  pub no_anode : (growth : Growth) → with_spare limit growth (table_from counts firsts nexts slots) ≡ refused 28 → (dir : Bool) (len h : ℕ) → PlanOf (Err NoFreeAnode) img growth dir len h (table_of img)
  unfolding made
  no_anode growth spare dir len h = (omega arith, λ new d n. rw (rw table_is at spare))

  -- else f is a fresh head, and with it the tables hold the state that the steps start from
  pub begun_is : (growth : Growth) (f : AnodeNo) (c b n slots' : List ℕ) → SpareOf (Some f) growth (table_from counts firsts nexts slots) (table_from c b n slots') →
      (h : ℕ) → no_directory img (anodes_of img) h ≡ false → length c ≡ limit → length b ≡ limit → Begun img growth h f.0 (table_from (set c f.0 0) (set b f.0 65535) n slots')
  begun_is growth f c b n slots' spare h reached counted first = record {
    spared = table_from c b n slots';
    fresh = record { parent = record { image = loaded_image l; reached = reached }; spares = rw table_is at spare.1; lowest = spare.2 };
    state = ap (λ (s : Anodes). slotted s (slots_from slots')) (rewritten_tables c b n f.0 0 65535 (omega (arith, spare.0, counted)) (omega (arith, spare.0, first)));
  }

module _ {img counts firsts nexts : List ℕ} (l : Loaded img counts firsts nexts) (h : ℕ) (reached : no_directory img (anodes_of img) h ≡ false) where
  abbrev home : ReachedDir img h
  home = record { image = loaded_image l; reached = reached }

  -- each anode of the directory has one block
  ones : OneBlockEach counts nexts h
  unfolding anodes_from
  ones a p =
      let next : (λ x. get_or nexts x 0) ≡ (anodes_of img).next = ap (λ (s : Anodes). s.next) l.is_loaded in
      ap (λ (s : Anodes). s.count a) l.is_loaded
      ∙ (dir_block home a (occurrences-member a (chain_of (anodes_of img).next limit h) (rw next at p))).one

  -- the room found by the tables is the directory's
  pub room_is : (room : Option ℕ) (len : ℕ) →
      ((c : List ℕ) → OneBlockEach c nexts h → room ≡ first_room img len (blocks_of (anodes_from c firsts nexts) h)) →
      room ≡ first_room img len (blocks_of (anodes_of img) h)
  room_is room len found = rw l.is_loaded at (found counts ones)

-- ---- the ends of a make

-- refused in its planning it leaves everything
pub stopped : (img : List ℕ) (growth : Growth) (h : ℕ) (new : NewEntry) (k : Refusal) → PlanOf (Err k) img growth new.dir (entry_length (length new.name) (length new.comment)) h (table_of img) → (b a : List ℕ) →
    Leaves (number_of k) img b a img b a (made growth img (table_of img) h new)
stopped img growth h new k p b a = rw (p.1 new refl refl) (leaves_refused (number_of k) p.0 img b a)

module _ (img : List ℕ) (growth : Growth) (h : ℕ) (new : NewEntry) (m : MakePlan) (t : Slotted) (p : Plans img growth new.dir (entry_length (length new.name) (length new.comment)) h m t) where
  -- by its plan it is done
  pub planned_made : made growth img (table_of img) h new ≡ left 0 (made_image img (anodes_of img) h new m.fresh.0 (room_for img (anodes_of img) h new) (some_block m.own.0) t (some_block m.parents.0))
  unfolding room_for
  planned_made = made_is p.fresh new ∙ rw (p.steps.roomy, p.steps.own, p.steps.parent)

  -- and leaves what commit_make stores
  module _ (grows : Grows limit (disk_size img) (last_reserved img) growth) (named : good_name new.name ≡ true) (commented : good_comment new.comment ≡ true) where
    abbrev f : ℕ
    f = m.fresh.0

    abbrev ys : List ℕ
    ys = some_block m.own.0

    abbrev zs : List ℕ
    zs = some_block m.parents.0

    -- the blocks that slots have got
    abbrev hs : List ℕ
    hs = slots_got (slot_of img) t.slots 42

    making : Making img h new f p.room ys t zs
    making = record { growth = growth; grows = grows; ready = p.spared; fresh = p.fresh; steps = p.steps; named = named; commented = commented }

    image : AcceptedImage img
    image = p.fresh.parent.image

    -- show_heads asks it of the new anodes
    pub new_links : Linked limit t.anodes.next t.anodes.block
    new_links = (good making).linked

    -- store_slots asks it of the new slots
    pub new_slots : SlotsGrew (disk_size img) (slot_of img) t.slots
    new_slots = (plan making).slots_grew

    -- the anodes in the tables are those with which store_anodes compares
    pub new_anodes : {counts firsts nexts : List ℕ} → Loaded img counts firsts nexts → anodes_from counts firsts nexts ≡ anodes_of (with_slot_table img t.slots)
    new_anodes l = slots_loaded l (table making)

    -- the system has the blocks that slots got
    system_is : (x : ℕ) → system_owns (disk_at img t) x ≡ system_owns img x + occurrences x hs
    system_is x = rw (disk_slots image (table making)) (omega (arith, (plan making).system_got x, got_all new_slots (plan making).gs (plan making).system_got x))

    -- a block that they did not get has the owner that it had, or the head that took it
    owners_are : (x : ℕ) → occurrences x hs ≡ 0 → owner_head t.anodes x ≡ handed_to h zs (handed_to f ys (owner_head (anodes_of img))) x
    owners_are x z = owners grows p.fresh new.dir ys p.steps.between p.steps.own (no_room p.room) zs t p.steps.parent x
        (omega (arith, z, (plan making).system_got x, got_all new_slots (plan making).gs (plan making).system_got x))

    -- the block table shows both blocks, and the anode blocks that are new
    shown : (b r : List ℕ) → Shows img (anodes_of img) b r → Shows (disk_at img t) t.anodes (set_all (set_all (set_all b ys f) zs h) hs 65534) r
    shown b r q =
        let own = owner_head (anodes_of img) in
        let d = own_data grows p.fresh new.dir ys p.steps.between p.steps.own (no_room p.room) zs t p.steps.parent in
        let e = parent_data grows p.fresh new.dir ys p.steps.between p.steps.own (no_room p.room) zs t p.steps.parent in
        ap (λ (l : List ℕ). set_all (set_all (set_all l ys f) zs h) hs 65534) (q ∙ rw (block_owners img (anodes_of img)))
        ∙ ap (λ (l : List ℕ). set_all (set_all l zs h) hs 65534) (owners-handed img own f ys d r)
        ∙ ap (λ (l : List ℕ). set_all l hs 65534) (owners-handed img (handed_to f ys own) h zs e r)
        ∙ owners_got img (handed_to h zs (handed_to f ys own)) (disk_at img t) (disk_size_lem image (table making)) hs (λ x i. (got_placed new_slots x 42 i).1) system_is (owner_head t.anodes) owners_are r
        ∙ rw (block_owners (disk_at img t) t.anodes)

    -- with no room the parent has a new block
    placed : m.start ≡ entry_start p.room zs
    placed = p.start ∙ go p.room refl
      where
        go : (o : Option ℕ) → p.room ≡ o → entry_start o (m.parents.0 ∷ []) ≡ entry_start o zs
        go (some start) e = refl
        go none e =
            let q = (grown making).took (ap no_room e) in
            ap (entry_start none) (sym (one_block m.parents.0 (λ z. nil≢cons (sym (no_block m.parents.0 z) ∙ q.1))))

    -- what the stores leave of the image: its slots, then its anodes, the new directory blocks, and the entry
    pub stored-image : (i₁ i₂ i₃ i₄ j : List ℕ) (parent : ℕ) → i₁ ≡ with_slot_table img t.slots → i₂ ≡ with_anodes i₁ t.anodes → i₃ ≡ with_blocks i₂ ys (new_directory_block f h) →
        parent ≡ parent_of (reached_dirs img (anodes_of img)) h → i₄ ≡ with_blocks i₃ zs (new_directory_block h parent) → j ≡ in_block i₄ (m.start / 512) (λ b. put_entry b (m.start % 512) (entry_of new f) new.name new.comment) →
        j ≡ made_image img (anodes_of img) h new f p.room ys t zs
    unfolding made_image with_table
    stored-image i₁ i₂ i₃ i₄ j parent e₁ e₂ e₃ its e₄ e = e ∙ rw (e₄, e₃, e₂, e₁, its, placed)

    -- and of the tables: the owners of the new blocks, those of the new anode blocks, and the heads
    pub done_leaves : (j : List ℕ) → j ≡ made_image img (anodes_of img) h new f p.room ys t zs → (b a b₁ b₂ b' a' : List ℕ) → b₁ ≡ set_all b ys f → b₂ ≡ set_all b₁ zs h → b' ≡ set_all b₂ hs 65534 → a' ≡ anode_table t.anodes ++ drop limit a →
        Leaves 0 img b a j b' a' (left 0 (made_image img (anodes_of img) h new f (room_for img (anodes_of img) h new) ys t zs))
    unfolding room_for
    done_leaves j e b a b₁ b₂ b' a' o₁ o₂ o heads =
        rw (p.steps.roomy, e, o, o₂, o₁)
        (leaves_done img (disk_at img t) (made_image img (anodes_of img) h new f p.room ys t zs) (disk_size_lem image (table making)) (made-disk making) b a (set_all (set_all (set_all b ys f) zs h) hs 65534) a' (shown b) heads)
