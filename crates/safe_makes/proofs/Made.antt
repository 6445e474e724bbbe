-- What a planned safe make stores, block by block, and what it leaves.
use Prim.Native.Nat.{ℕ, ◌+◌, ◌*◌, ◌/◌, ◌%◌, ◌≤◌, ◌<◌}
use mathlib.Core.Path.{◌≡◌, refl, sym, ap, ap₂, ◌∙◌}
use mathlib.Core.Logic.{inl, inr}
use mathlib.Core.Bool.{Bool, true, false, cond}
use mathlib.Core.List.{List, [], ◌∷◌, ◌++◌, append_assoc}
use mathlib.Core.Option.{Option, none, some}
use native.Mathlib.Omega.{arith}
use lib.ListN.{length, take, length-append}
use lib.Seq.{take_at, drop_at, take_all}
use borrow.Author.Tests.{eq-eqb, ne_eqb}
use Rattle.std.specs.Prelude.{Ok, Err}
use Rattle.disk.specs.declared.Refusal.TheVariants.{ShortWriteList}
use Rattle.disk.specs.Blocks.{block_of, with_block}
use Rattle.disk.specs.Root.{slot_of}
use Rattle.disk.proofs.Laws.{length-block_of}
use Rattle.directory.specs.Entries.{put_entry, entry_length}
use Rattle.rules.specs.Counting.{occurrences}
use Rattle.rules.specs.Anodes.{limit, exists_by, anodes_of}
use Rattle.rules.specs.Chains.{blocks_of}
use Rattle.rules.specs.Walk.{reached_dirs}
use Rattle.rules.specs.Totals.{free_blocks}
use Rattle.rules.specs.Plans.{Slotted, planned, table_of}
use Rattle.rules.specs.Space.{lowest_free}
use Rattle.rules.specs.Format.{new_directory_block}
use Rattle.rules.specs.Table.{in_block, with_table}
use Rattle.rules.specs.Changes.{with_blocks, spread, NewEntry, entry_of, no_room, room_for, parent_of}
use Rattle.laws.specs.Tests.{same?}
use Rattle.laws.specs.Bags.{occurrences-append, first_in}
use Rattle.laws.specs.Chains.{Inside}
use Rattle.laws.specs.Plans.{planned_same}
use Rattle.laws.specs.NewDirectory.{length-new}
use Rattle.frames.specs.Kept.{Kept}
use Rattle.frames.specs.StoredBlocks.{with_blocks-kept}
use Rattle.frames.specs.DisjointBlocks.{DataBlock, chain_block}
use Rattle.change_laws.specs.Image.{AcceptedWhole, accepted_whole, ReachedDir}
use Rattle.change_laws.specs.Reached.{reached_head}
use Rattle.change_laws.specs.NewEntry.{room-found}
use Rattle.safe_rules.specs.SafePlans.{SafeChange, slot_blocks, room_block, entry_block, make_in, make_change, new_blocks, safe_steps}
use Rattle.safe_rules.specs.SafeWrites.{new_image}
use Rattle.safe_laws.specs.AllTaken.{steps_28}
use Rattle.safe_laws.specs.LeftImage.{data_block, writes_leave}
use Rattle.safe_laws.specs.OwnMake.{entry_whole, make_own}
use Rattle.write_lists.specs.Puts.{with_writes}
use Rattle.anodes.specs.Loaded.{slots_from}
use Rattle.safe_plans.proofs.Counts.{disk_small, slots_used}
use Rattle.safe_stores.specs.Stored.{TableMoves}
use Rattle.safe_stores.specs.Leaves.{SafeLeaves}
use Rattle.safe_stores.proofs.Leaves.{leaves_short, leaves_done}
use Rattle.safe_stores.proofs.Placed.{root_inside, list_inside, slot_inside, table_moves, chain-old, table-length, table_keeps}
use Rattle.safe_stores.proofs.Staged.{stored-changed, none_inside, one_inside, list_put}
use Rattle.making.specs.declared.MakePlan.{MakePlan}
use Rattle.making.specs.Steps.{some_block}
use Rattle.making.proofs.Steps.{no_block, one_block}
use Rattle.safe_makes.specs.SafePlanned.{start_bytes, SafelyMade}

-- ---- blocks and bytes

-- a new directory's own block and the entry's, with their bytes one behind the other
spread-made : (img : List ℕ) (to : ℕ) (own bytes : List ℕ) → length own ≡ 512 → length bytes ≡ 512 → (ys : List ℕ) (dir : Bool) → length ys ≡ cond dir 1 0 →
    spread img (ys ++ (to ∷ [])) (cond dir own [] ++ bytes) ≡ with_block (with_blocks img ys own) to bytes
unfolding spread with_blocks
spread-made img to own bytes long whole [] false e = ap (with_block img to) (take_all 512 bytes (omega (arith, whole)))
spread-made img to own bytes long whole [] true e = absurd (omega (arith, e))
spread-made img to own bytes long whole (y ∷ []) true e =
    ap₂ (λ (a b : List ℕ). with_block (with_block img y a) to (take 512 b)) (take_at own bytes 512 long) (drop_at own bytes 512 long) ∙ ap (with_block (with_block img y own) to) (take_all 512 bytes (omega (arith, whole)))
spread-made img to own bytes long whole (y ∷ []) false e = absurd (omega (arith, e))
spread-made img to own bytes long whole (y ∷ z ∷ ys) true e = absurd (omega (arith, e))
spread-made img to own bytes long whole (y ∷ z ∷ ys) false e = absurd (omega (arith, e))

-- the blocks of a step that may need none are inside
pub some_inside : (img : List ℕ) (y : ℕ) → y * 512 + 512 ≤ length img → Inside img (some_block y)
some_inside img y inside = elim (same? y 0) [
  | inl z ↦ rw (no_block y z) (none_inside img)
  | inr u ↦ rw (one_block y u) (one_inside img y inside)
]

-- ---- the list

-- the own block, the entry's, and the rest of the list, one behind the other
pub list_made : (img : List ℕ) (own to : ℕ) (rest : List ℕ) → own * 512 + 512 ≤ length img → to * 512 + 512 ≤ length img → (out first second new : List ℕ) (behind end : ℕ) → first ≡ with_writes out 0 img (some_block own) → behind ≡ 0 + length (some_block own) * 514 →
    second ≡ with_writes first behind img (to ∷ []) → end ≡ behind + 514 → new ≡ with_writes second end img (rest ++ (2 ∷ [])) → new ≡ with_writes out 0 img (some_block own ++ (to ∷ []) ++ rest ++ (2 ∷ []))
list_made img own to rest own-there there out first second new behind end is at is₂ at₂ is₃ =
    list_put img (some_block own) to rest (some_inside img own own-there) there out first second new behind end is at is₂ at₂ is₃
    ∙ ap (λ (l : List ℕ). with_writes out 0 img (l ++ (2 ∷ []))) (sym (append_assoc (some_block own) (to ∷ []) rest))

-- ---- the count

-- one block gets the entry
one_entry : (o : Option ℕ) → cond (no_room o) 1 0 + length (room_block o) ≡ 1
one_entry none = refl
one_entry (some start) = refl

-- THE NEW BLOCKS, counted in memory
pub new-counted : (img : List ℕ) (h : ℕ) (new : NewEntry) (slots : List ℕ) → slots_from slots ≡ slot_of img → (n : ℕ) → n ≡ cond new.dir 1 0 + 1 + length (slot_blocks (slots_from slots) 42) → new_blocks img (make_change img (table_of img) h new) ≡ n
unfolding new_blocks make_change make_in
new-counted img h new slots held n e = omega (arith, e, slots_used img slots held, one_entry (room_for img (anodes_of img) h new))

-- ---- what is stored

module _ {img : List ℕ} {h : ℕ} (r : ReachedDir img h) (new : NewEntry) (m : MakePlan) (to : ℕ) (t : Slotted) (p : SafelyMade img h new m to t) where
  -- the change
  abbrev c : SafeChange
  c = make_change img (table_of img) h new

  -- its fresh head
  abbrev f : ℕ
  f = lowest_free limit (exists_by (slot_of img)) (anodes_of img)

  -- the room that was found
  abbrev room : Option ℕ
  room = room_for img (anodes_of img) h new

  -- the blocks taken
  abbrev ws : List ℕ
  ws = p.taken

  -- the old block that changes, where room was found
  abbrev y : ℕ
  y = m.start / 512

  -- the image is whole
  w : AcceptedWhole img
  w = accepted_whole r.image

  -- how often a block is among the new ones
  among : (x : ℕ) → occurrences x ws ≡ occurrences x (some_block m.own.0) + occurrences x (to ∷ []) + occurrences x (slot_blocks t.slots 42)
  among x = ap (occurrences x) p.are ∙ occurrences-append x (some_block m.own.0 ++ (to ∷ [])) (slot_blocks t.slots 42) ∙ ap (λ (n : ℕ). n + occurrences x (slot_blocks t.slots 42)) (occurrences-append x (some_block m.own.0) (to ∷ []))

  -- each new block is a data block of the image
  new_data : (x : ℕ) → 0 < occurrences x ws → DataBlock img x
  new_data = data_block r.image (make_own r new) t p.taken p.steps

  -- all that is stored and listed lies in the image
  pub root_whole : 1536 ≤ length img
  root_whole = root_inside r.image (make_own r new) t p.taken p.steps

  -- the entry's block
  pub to_inside : to * 512 + 512 ≤ length img
  to_inside = (new_data to (omega (arith, among to, first_in to (to ∷ []) refl))).inside

  -- a new directory's own block
  pub own_inside : m.own.0 * 512 + 512 ≤ length img
  own_inside = elim (same? m.own.0 0) [
    | inl z ↦ omega (arith, z, root_whole)
    | inr u ↦ (new_data m.own.0 (omega (arith, among m.own.0, first_in m.own.0 (some_block m.own.0) (one_block m.own.0 u)))).inside
  ]

  -- the anode blocks
  pub slots_whole : (k : ℕ) → t.slots k * 512 + 512 ≤ length img
  slots_whole = slot_inside r.image (make_own r new) t p.taken p.steps

  -- the anode table may be stored
  pub moves_table : TableMoves img t.slots
  moves_table = table_moves r.image (make_own r new) t p.taken p.steps

  -- ---- the block that has room

  module _ (z : m.parents.0 ≡ 0) where
    -- it is one of the directory's
    on_chain_lem : 0 < occurrences y (blocks_of (anodes_of img) h)
    unfolding room_for
    on_chain_lem =
        let (x, on, is, fits) = room-found img (entry_length (length new.name) (length new.comment)) (blocks_of (anodes_of img) h) m.start (p.room z) in
        let same : x ≡ y = omega (arith, is, fits) in
        rw same at on

    -- so it is a data block
    room_data : DataBlock img y
    room_data = chain_block img w.good h (reached_head r) y on_chain_lem

    -- and lies in the image
    pub room_inside : (m.start / 512 ≤ 65535) × (m.start / 512 * 512 + 512 ≤ length img)
    room_inside = (omega (arith, room_data.below, disk_small r.image), room_data.inside)

    -- and none of the new ones
    room-old : occurrences y ws ≡ 0
    room-old = chain-old r.image (make_own r new) t p.taken p.steps r y on_chain_lem

  -- ---- the stores

  -- a new directory's own block, if any
  abbrev own_blocks : List ℕ
  own_blocks = some_block m.own.0

  -- the image with the table and a new directory's block
  abbrev base : List ℕ
  base = with_blocks (with_table img t) (some_block m.own.0) (new_directory_block m.fresh.0 h)

  -- all other blocks are as in the image with the table
  base_kept : Kept (λ x. occurrences x own_blocks ≡ 0) (with_table img t) base
  base_kept = with_blocks-kept (with_table img t) own_blocks (new_directory_block m.fresh.0 h) (omega (arith, length-new m.fresh.0 h))

  -- it is as long as the image
  pub base_long : length (with_blocks (with_table img t) (some_block m.own.0) (new_directory_block m.fresh.0 h)) ≡ length img
  base_long = base_kept.length-kept ∙ table-length r.image (make_own r new) t p.taken p.steps

  -- the block that has room is as it was
  room_stays : m.parents.0 ≡ 0 → block_of base y ≡ block_of img y
  room_stays z = base_kept.block_kept y (omega (arith, among y, room-old z)) ∙ table_keeps r.image (make_own r new) t p.taken p.steps y (λ e. omega (arith, e, (room_data z).above)) (room-old z)

  module _ (parent : ℕ) (its : parent ≡ parent_of (reached_dirs img (anodes_of img)) h) where
    -- what the entry's block starts with
    abbrev bytes : List ℕ
    bytes = start_bytes base m.parents.0 y h parent

    -- a whole block
    start_long : length bytes ≡ 512
    unfolding start_bytes
    start_long = elim (same? m.parents.0 0) [
      | inl z ↦ rw (eq-eqb m.parents.0 0 z) (ap length (room_stays z) ∙ length-block_of img y (room_data z).inside)
      | inr u ↦ rw (ne_eqb m.parents.0 0 u) (length-new h parent)
    ]

    -- with the entry it has the bytes of the rules
    entry-bytes : put_entry bytes (m.start % 512) (entry_of new m.fresh.0) new.name new.comment ≡ entry_block img (anodes_of img) h new f room
    unfolding start_bytes
    entry-bytes = elim (same? m.parents.0 0) [
      | inl z ↦ (
          let same : bytes ≡ block_of img y = ap (λ (b : Bool). cond b (block_of base y) (new_directory_block h parent)) (eq-eqb m.parents.0 0 z) ∙ room_stays z in
          ap₂ (λ (b : List ℕ) (g : ℕ). put_entry b (m.start % 512) (entry_of new g) new.name new.comment) same p.fresh
          ∙ ap (entry_block img (anodes_of img) h new f) (sym (p.room z)))
      | inr u ↦ (
          let (nowhere, at) = p.no_room u in
          let same : bytes ≡ new_directory_block h (parent_of (reached_dirs img (anodes_of img)) h) = ap (λ (b : Bool). cond b (block_of base y) (new_directory_block h parent)) (ne_eqb m.parents.0 0 u) ∙ ap (new_directory_block h) its in
          ap₂ (λ (b : List ℕ) (g : ℕ). put_entry b (m.start % 512) (entry_of new g) new.name new.comment) same p.fresh
          ∙ ap (λ (k : ℕ). put_entry (new_directory_block h (parent_of (reached_dirs img (anodes_of img)) h)) k (entry_of new f) new.name new.comment) at
          ∙ ap (entry_block img (anodes_of img) h new f) (sym nowhere))
    ]

    -- the blocks that get the change's bytes are the first that were taken
    first-blocks : take (c.takes + length c.changing) ws ≡ own_blocks ++ (to ∷ [])
    unfolding make_change make_in
    first-blocks = ap (take (c.takes + length c.changing)) p.are ∙ take_at (own_blocks ++ (to ∷ [])) (slot_blocks t.slots 42) (c.takes + length c.changing)
        (omega (arith, length-append own_blocks (to ∷ []), p.own, one_entry room))

    -- THE IMAGE THAT IS LEFT
    pub image-made : (i₁ i₂ i₃ j : List ℕ) → i₁ ≡ with_table img t → i₂ ≡ with_blocks i₁ (some_block m.own.0) (new_directory_block m.fresh.0 h) → i₃ ≡ with_block i₂ to (start_bytes i₂ m.parents.0 (m.start / 512) h parent) →
        j ≡ in_block i₃ ((to * 512 + m.start % 512) / 512) (λ b. put_entry b ((to * 512 + m.start % 512) % 512) (entry_of new m.fresh.0) new.name new.comment) →
        (taken : List ℕ) → safe_steps img (make_change img (table_of img) h new) ≡ planned t taken → j ≡ new_image img (make_change img (table_of img) h new) t taken
    unfolding new_image make_change make_in
    image-made i₁ i₂ i₃ j e₁ e₂ e₃ e taken done =
        let i₂_is : i₂ ≡ base = e₂ ∙ ap (λ (i : List ℕ). with_blocks i own_blocks (new_directory_block m.fresh.0 h)) e₁ in
        let i₃_is : i₃ ≡ with_block base to bytes = e₃ ∙ ap (λ (i : List ℕ). with_block i to (start_bytes i m.parents.0 y h parent)) i₂_is in
        let same : ws ≡ taken = (planned_same t t taken ws (sym done ∙ p.steps)).1 in
        e ∙ stored-changed base to bytes (omega (arith, to_inside, base_long)) start_long i₃ i₃_is (m.start % 512) (omega arith) (λ b k. put_entry b k (entry_of new m.fresh.0) new.name new.comment)
        ∙ ap (with_block base to) entry-bytes
        ∙ ap (λ (g : ℕ). with_block (with_blocks (with_table img t) own_blocks (new_directory_block g h)) to (entry_block img (anodes_of img) h new f room)) p.fresh
        ∙ sym (spread-made (with_table img t) to (new_directory_block f h) (entry_block img (anodes_of img) h new f room) (length-new f h) (entry_whole r new room refl) own_blocks new.dir p.own)
        ∙ ap (λ (l : List ℕ). spread (with_table img t) l c.bytes) (sym first-blocks ∙ ap (take (c.takes + length c.changing)) same)

  -- ---- what is left

  module _ (enough : new_blocks img (make_change img (table_of img) h new) ≤ free_blocks (anodes_of img)) (out : List ℕ) where
    -- as many blocks are taken as were counted
    counted : length ws ≡ new_blocks img c
    counted = (steps_28 r.image (make_own r new) enough).as_many t ws p.steps

    -- part by part
    pub as_counted : length (some_block m.own.0) + 1 + length (slot_blocks t.slots 42) ≡ new_blocks img (make_change img (table_of img) h new)
    as_counted = omega (arith, counted, ap length p.are, length-append (own_blocks ++ (to ∷ [])) (slot_blocks t.slots 42), length-append own_blocks (to ∷ []))

    -- the buffer is too short
    pub made-short : (n : ℕ) → n ≡ new_blocks img (make_change img (table_of img) h new) + 1 → length out < n * 514 → SafeLeaves img out (make_change img (table_of img) h new) (Err ShortWriteList) img out
    made-short n e short = leaves_short img out c enough t ws p.steps (omega (arith, short, e, counted))

    -- all is done
    pub made-done : (n : ℕ) → n ≡ new_blocks img (make_change img (table_of img) h new) + 1 → n * 514 ≤ length out → (img' out' : List ℕ) → img' ≡ new_image img (make_change img (table_of img) h new) t p.taken →
        out' ≡ with_writes out 0 img' (some_block m.own.0 ++ (to ∷ []) ++ slot_blocks t.slots 42 ++ (2 ∷ [])) → SafeLeaves img out (make_change img (table_of img) h new) (Ok n) img' out'
    made-done n e fits img' out' is put =
        leaves_done img out c enough t ws p.steps (omega (arith, fits, e, counted)) (writes_leave r.image (make_own r new) t ws p.steps) (list_inside r.image (make_own r new) t ws p.steps) out 0 refl refl (omega arith)
        img' out' is (put ∙ ap₂ (λ (i : List ℕ) (k : List ℕ). with_writes out 0 i (k ++ (2 ∷ []))) is (sym p.are)) n (e ∙ ap (λ (k : ℕ). k + 1) (sym counted))
