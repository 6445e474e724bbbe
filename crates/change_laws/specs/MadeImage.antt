-- The image that a make leaves: its anodes, its new directory blocks and the entry, each where the plan has it; all else is the image's.
use Rattle.std.specs.Prelude.{ℕ, ◌+◌, ◌*◌, ◌/◌, ◌%◌, ◌≤◌, ◌<◌, ◌≡◌, ◌≢◌, Bool, true, false, cond, length}
use Rattle.std.proofs.Math.Path.{refl, ap, ap₂, subst}
use Rattle.std.proofs.Common.{sym, ◌∙◌, arith}
use Rattle.std.proofs.Math.Logic.{inl, inr}
use mathlib.Core.List.{List, [], ◌∷◌, ◌++◌}
use Rattle.std.proofs.Math.Option.{Option, none, some}
use Rattle.std.proofs.Math.Dec.{T}
use borrow.Author.Tests.{leb-true, eq-eqb, ne_eqb}
use Rattle.disk.specs.Blocks.{block_of}
use Rattle.disk.proofs.Laws.{length-block_of}
use Rattle.directory.specs.Entries.{good_name, good_comment, entry_length, put_entry}
use Rattle.directory.proofs.Laws.{good_name-length, length-put_entry}
use Rattle.rules.specs.Counting.{one_at, occurrences, any_in}
use Rattle.rules.specs.Anodes.{Anodes, limit, exists_by, anodes_of}
use Rattle.rules.specs.Chains.{chain_of, run, blocks_of, system_owns}
use Rattle.rules.specs.Walk.{Dir, Entered, entries_from, entries_in, is_block_of, items_by, reached_dirs}
use Rattle.rules.specs.Accepted.{disk_size, last_reserved}
use Rattle.rules.specs.Plans.{Slotted, table_of, Growth}
use Rattle.rules.specs.Table.{with_table}
use Rattle.rules.specs.Totals.{free_blocks, anode_blocks}
use Rattle.rules.specs.Format.{new_directory_block}
use Rattle.rules.specs.Changes.{with_blocks, entries_end, no_room, parent_of, entry_start, NewEntry, entry_of, made_image}
use Rattle.laws.specs.Tests.{not_above}
use Rattle.laws.specs.Sums.{one_at_cases}
use Rattle.laws.specs.Bags.{list_cons, occurrences-nil, occurrences-cons, occurrences-append, first_in}
use Rattle.laws.specs.Heads.{Head}
use Rattle.laws.specs.Space.{FreeAnode, on_chain_lem}
use Rattle.laws.specs.Moves.{with_these, Grows, Moved}
use Rattle.laws.specs.Frame.{shift_alike, shift_chain}
use Rattle.laws.specs.Whole.{Whole}
use Rattle.laws.specs.Each.{Each, each_map}
use Rattle.laws.specs.TreeChanges.{none-headed}
use Rattle.laws.specs.DirectoryTakes.{dir_head}
use Rattle.laws.specs.Members.{Member, no_member, member-cons, member-gather, member-occurrences, occurrences-member, occurrences-map}
use Rattle.laws.specs.NewDirectory.{length-new, entries_new, new-marked}
use Rattle.frames.specs.Kept.{Kept}
use Rattle.frames.specs.StoredBlocks.{in_block-kept, block_of-in_block, with_blocks-kept}
use Rattle.frames.specs.StoredBytes.{block_of-with_blocks}
use Rattle.frames.specs.DisjointBlocks.{DataBlock}
use Rattle.laws.specs.Make.{SameContents}
use Rattle.laws.specs.Items.{headed}
use Rattle.laws.specs.Entries.{Unbroken}
use Rattle.change_laws.specs.Image.{GoodOn, AcceptedWhole, head_in, accepted_whole, DiskWith, disk_at, TableFor, table-grown, disk-good, stored-kept, disk-stored, disk_then, not-one, not_among, ReachedDir, reached-headed}
use Rattle.change_laws.specs.FoundEntries.{entered_at, end_bounds}
use Rattle.change_laws.specs.Reached.{DirBlock, reached-not-1, reached_head, dir_block}
use Rattle.change_laws.specs.KeptChains.{SameChain, same-chain_alike}
use Rattle.change_laws.specs.Totals.{anode_blocks-grown}
use Rattle.change_laws.specs.SingleBlocks.{single_used, single_apart, single_data}
use Rattle.change_laws.specs.NewEntry.{entries_put, head_put, end-new, room-found}
use Rattle.change_laws.specs.MakePlan.{OrphanedOn, disk_orphan, Fresh, fresh_moved, fresh_below, fresh_free, fresh_whole, fresh_start, MakeSteps, ParentGrown, MadePlan, plan-before, made-plan, made_orphan}

-- where one directory alone has the head h, its parent is found
parents_right : (h : ℕ) (l : List Dir) → headed h l ≡ 1 → Each (λ d. d.head ≡ h → d.parent ≡ parent_of l h) l
unfolding parent_of
parents_right h [] e = tt
parents_right h (d ∷ l) e = elim (one_at_cases d.head h) [
  | inl c ↦ (
    λ q. rw (eq-eqb d.head h q),
    each_map (λ x. x.head ≢ h) (λ x. x.head ≡ h → x.parent ≡ parent_of (d ∷ l) h) l (λ x n q. absurd (n q))
        (none-headed h l (omega (arith, e, c.1, list_cons {X = Dir} (λ x. one_at x.head h) d l))),
  )
  | inr c ↦ (
    λ q. absurd (c.0 q),
    let later : parent_of (d ∷ l) h ≡ parent_of l h = rw (ne_eqb d.head h c.0) in
        subst (λ (p : ℕ). Each (λ x. x.head ≡ h → x.parent ≡ p) l) (sym later) (parents_right h l (omega (arith, e, c.1, list_cons {X = Dir} (λ x. one_at x.head h) d l))),
  )
]

-- a make that is planned; growth: how slots grow in it
pub record Making (img : List ℕ) (h : ℕ) (new : NewEntry) (f : ℕ) (room : Option ℕ) (ys : List ℕ) (u : Slotted) (zs : List ℕ) : Type 0 where
  pub growth : Growth
  pub grows : Grows limit (disk_size img) (last_reserved img) growth
  -- the state with an anode to be had
  pub ready : Slotted
  pub fresh : Fresh img growth h ready f
  pub steps : MakeSteps img growth ready new.dir (entry_length (length new.name) (length new.comment)) h f room ys u zs
  pub named : good_name new.name ≡ true
  pub commented : good_comment new.comment ≡ true

module _ {img : List ℕ} {h : ℕ} {new : NewEntry} {f : ℕ} {room : Option ℕ} {ys : List ℕ} {u : Slotted} {zs : List ℕ} (m : Making img h new f room ys u zs) where
  abbrev t : Anodes
  t = u.anodes

  abbrev s : Anodes
  s = anodes_of img

  abbrev dirs : List Dir
  dirs = reached_dirs img s

  -- the directory that gets the entry
  abbrev pub parent : ReachedDir img h
  parent = m.fresh.parent

  pub w : AcceptedWhole img
  w = accepted_whole parent.image

  pub once : headed h dirs ≡ 1
  once = reached-headed parent

  -- ---- the plan

  -- the blocks by which slots have grown before that state
  abbrev first_got : List ℕ
  first_got = (fresh_moved m.grows m.fresh).0

  -- from the image to it
  abbrev first-moved : Moved limit (disk_size img) (last_reserved img) (table_of img) (system_owns img) (head_in img) 1 1 1 [] first_got m.ready
  first-moved = (fresh_moved m.grows m.fresh).1

  -- f is free in it
  abbrev pub spare : FreeAnode (exists_by m.ready.slots) m.ready.anodes f
  spare = fresh_free m.grows m.fresh

  -- the free list alone has changed, so it is whole
  abbrev pub ready_whole : Whole (exists_by m.ready.slots) (disk_size img) (last_reserved img) m.ready.anodes (with_these (system_owns img) first_got) first-moved.hd' first-moved.sd' (entries_in img) (is_block_of img) (reached_dirs img (anodes_of img))
  ready_whole = fresh_whole m.grows m.fresh

  -- the directory's chain is the one that it was
  pub ready_chain : SameChain (anodes_of img) m.ready.anodes h
  ready_chain = same-chain_alike (shift_chain w.good first-moved.good first-moved.shift h (reached_head parent) (reached-not-1 parent) (reached-not-1 parent))
      (shift_alike w.good first-moved.good first-moved.shift h (reached_head parent) (reached-not-1 parent) (reached-not-1 parent))

  -- what the steps leave from a state x
  abbrev PlanFrom : Slotted → (ℕ → ℕ) → (ℕ → ℕ) → Type 0
  PlanFrom x system hd = MadePlan (disk_size img) (last_reserved img) x system hd f h new.dir (no_room room) ys zs u

  ready_plan : PlanFrom m.ready (with_these (system_owns img) first_got) first-moved.hd'
  ready_plan = made-plan m.grows m.ready (fresh_start m.grows m.fresh) ready_whole f (fresh_below m.grows m.fresh) spare h once new.dir m.steps.between ys m.steps.own (no_room room) u zs m.steps.parent

  pub plan : MadePlan (disk_size img) (last_reserved img) (table_of img) (system_owns img) (head_in img) f h new.dir (no_room room) ys zs u
  plan = plan-before w.good first-moved (reached_head parent) (reached-not-1 parent) ready_plan

  -- the fresh head headed no chain but 1's
  pub not_fresh : (k : ℕ) → Head s.next s.block k → k ≢ 1 → k ≢ f
  not_fresh k d k1 = plan.was_free k d.in_use (λ i. k1 (sym (w.good.heads.at_head k d) ∙ i))

  abbrev pub grown : ParentGrown s (head_in img) h (no_room room) zs t
  grown = plan.grown

  -- the table that the steps left may be stored
  pub table : TableFor img u plan.hd' plan.sd'
  table = table-grown parent.image plan.gs plan.good plan.system_got plan.slots_grew

  -- the disk with its slots
  abbrev disk : List ℕ
  disk = disk_at img u

  pub good : GoodOn (disk_at img u) t plan.hd' plan.sd'
  good = disk-good parent.image table

  -- ---- the new blocks

  pub own_block : (y : ℕ) → 0 < occurrences y ys → (t.count f ≡ 1) × (y ≡ t.block f)
  own_block y p = go new.dir plan.own_count plan.own_blocks
    where
      go : (d : Bool) → t.count f ≡ cond d 1 0 → ys ≡ cond d (t.block f ∷ []) [] → (t.count f ≡ 1) × (y ≡ t.block f)
      go true c b = elim (one_at_cases (t.block f) y) [
        | inl i ↦ (c, sym i.0)
        | inr i ↦ absurd (omega (arith, p, ap (occurrences y) b, occurrences-cons y (t.block f) [], occurrences-nil y, i.1))
      ]
      go false c b = absurd (omega (arith, p, ap (occurrences y) b, occurrences-nil y))

  -- a block that the parent took, by what the plan says of its new anodes
  taken_by : {x : Slotted} {system hd : ℕ → ℕ} (p : PlanFrom x system hd) (y : ℕ) → 0 < occurrences y zs → (a : ℕ) × (0 < occurrences a p.grown.new) × (y ≡ t.block a)
  taken_by p y i = occurrences-map t.block p.grown.new y (omega (arith, i, ap (occurrences y) p.grown.blocks))

  pub parent_block : (y : ℕ) → 0 < occurrences y zs → (a : ℕ) × (0 < occurrences a grown.new) × (y ≡ t.block a)
  parent_block = taken_by plan

  own_data : (y : ℕ) → 0 < occurrences y ys → DataBlock disk y
  own_data y p = let o = own_block y p in rw o.1 (single_data disk good f o.0)

  parent_data : (y : ℕ) → 0 < occurrences y zs → DataBlock disk y
  parent_data y p = let o = parent_block y p in rw o.2 (single_data disk good o.0 (grown.ones o.0 o.1))

  -- the block of an anode of a chain that was there, but 1's, is a data block still, and none of the new ones
  module _ {x : Slotted} {system hd : ℕ → ℕ} (p : PlanFrom x system hd) (a : ℕ) (used : x.anodes.block a ≢ 0) (one : x.anodes.count a ≡ 1) (not-1 : hd a ≢ 1) where
    stays_there : (t.count a ≡ 1) × (t.block a ≡ x.anodes.block a)
    stays_there = let k = p.grown.kept a used not-1 in (k.0 ∙ one, k.1)

    there_data : DataBlock disk (x.anodes.block a)
    there_data = rw stays_there.1 at (single_data disk good a stays_there.0)

    there_apart : (occurrences (x.anodes.block a) ys ≡ 0) × (occurrences (x.anodes.block a) zs ≡ 0)
    there_apart = (
      not_above (occurrences (x.anodes.block a) ys) (λ i. let o = own_block (x.anodes.block a) i in
          single_apart good a stays_there.0 f o.0 (p.was_free a used not-1) (stays_there.1 ∙ o.1)),
      not_above (occurrences (x.anodes.block a) zs) (λ i. let o = taken_by p (x.anodes.block a) i in
          single_apart good a stays_there.0 o.0 (p.grown.ones o.0 o.1) (λ e. p.grown.apart o.0 o.1 (rw (← e) used) (rw (← e) not-1)) (stays_there.1 ∙ o.2)),
    )

  new_apart : (y : ℕ) → 0 < occurrences y ys → occurrences y zs ≡ 0
  new_apart y p =
      let o = own_block y p in
      not_above (occurrences y zs) (λ q. let b = parent_block y q in
      single_apart good f o.0 b.0 (grown.ones b.0 b.1) (λ i. plan.not_own b.0 b.1 (sym i)) (sym o.1 ∙ b.2))

  -- ---- the image before the entry

  abbrev base : List ℕ
  base = with_table img u

  abbrev headed_own : List ℕ
  headed_own = with_blocks base ys (new_directory_block f h)

  -- with the new directory blocks
  abbrev pub before : List ℕ
  before = with_blocks headed_own zs (new_directory_block h (parent_of dirs h))

  own_kept : Kept (λ d. occurrences d ys ≡ 0) base headed_own
  own_kept = with_blocks-kept base ys (new_directory_block f h) (omega (arith, length-new f h))

  parent-kept : Kept (λ d. occurrences d zs ≡ 0) headed_own before
  parent-kept = with_blocks-kept headed_own zs (new_directory_block h (parent_of dirs h)) (omega (arith, length-new h (parent_of dirs h)))

  base-disk : DiskWith disk t base
  base-disk = disk-stored parent.image table

  own_disk : DiskWith disk t headed_own
  own_disk = disk_then base-disk own_kept (not_among ys own_data)

  before-disk : DiskWith disk t before
  before-disk = disk_then own_disk parent-kept (not_among zs parent_data)

  -- a data block that is not new is the one that was
  pub kept_block : (y : ℕ) → DataBlock (disk_at img u) y → occurrences y ys ≡ 0 → occurrences y zs ≡ 0 → block_of before y ≡ block_of img y
  kept_block y d o p = parent-kept.block_kept y p ∙ own_kept.block_kept y o ∙ (stored-kept parent.image table).block_kept y d

  -- the block of an anode of a chain that was there, but 1's
  there_block : {x : Slotted} {system hd : ℕ → ℕ} → PlanFrom x system hd → (a : ℕ) → x.anodes.block a ≢ 0 → x.anodes.count a ≡ 1 → hd a ≢ 1 → block_of before (x.anodes.block a) ≡ block_of img (x.anodes.block a)
  there_block {x} p a used one not-1 = let o = there_apart p a used one not-1 in kept_block (x.anodes.block a) (there_data p a used one not-1) o.0 o.1

  pub old_block : (a : ℕ) → s.count a ≡ 1 → head_in img a ≢ 1 → block_of before (s.block a) ≡ block_of img (s.block a)
  old_block a one not-1 = there_block plan a (single_used w.good a one) one not-1

  pub inside_before : (y : ℕ) → DataBlock (disk_at img u) y → y * 512 + 512 ≤ length before
  inside_before y d = rw before-disk.same.kept.length-kept d.inside

  pub own_new : (y : ℕ) → 0 < occurrences y ys → block_of before y ≡ new_directory_block f h
  own_new y p = parent-kept.block_kept y (new_apart y p)
      ∙ block_of-with_blocks base ys (new_directory_block f h) y (length-new f h) p (rw base-disk.same.kept.length-kept (own_data y p).inside)

  pub parent-new : (y : ℕ) → 0 < occurrences y zs → block_of before y ≡ new_directory_block h (parent_of dirs h)
  parent-new y p = block_of-with_blocks headed_own zs (new_directory_block h (parent_of dirs h)) y (length-new h (parent_of dirs h)) p
      (rw own_disk.same.kept.length-kept (parent_data y p).inside)

  -- ---- the directories of that image

  pub cont : SameContents s (head_in img) (entries_in img) (is_block_of img) (entries_in before) (is_block_of before)
  unfolding entries_in is_block_of
  cont = record { same_entries = λ a one q. rw (old_block a one q); same_marks = λ a one q d. rw (old_block a one q) }

  -- and of the state with an anode to be had
  ready_cont : SameContents m.ready.anodes first-moved.hd' (entries_in img) (is_block_of img) (entries_in before) (is_block_of before)
  unfolding entries_in is_block_of
  ready_cont = record { same_entries = λ a one i. rw (there_block ready_plan a (single_used ready_whole.good a one) one i); same_marks = λ a one i d. rw (there_block ready_plan a (single_used ready_whole.good a one) one i) }

  pub orphan : OrphanedOn (disk_at img u) f (items_by (entries_in img) (is_block_of img) m.ready.anodes) t plan.hd' plan.sd' (entries_in before) (is_block_of before) dirs
  unfolding entries_in
  orphan = disk_orphan parent.image table
      (made_orphan m.grows m.ready (fresh_start m.grows m.fresh) ready_whole f (fresh_below m.grows m.fresh) spare h once new.dir m.steps.between ys m.steps.own (no_room room) u zs m.steps.parent (entries_in before) (is_block_of before) ready_cont
      (λ y e. rw (parent-new y (first_in y zs e)) (entries_new h (parent_of dirs h) y))
      (λ y e. each_map (λ d. d.head ≡ h → d.parent ≡ parent_of dirs h) (λ d. d.head ≡ h → T (is_block_of before d y)) dirs
      (λ d p q. new-marked before y h (parent_of dirs h) (parent-new y (first_in y zs e)) d q (p q)) (parents_right h dirs once))).3

  -- ---- the place of the entry

  abbrev len : ℕ
  len = entry_length (length new.name) (length new.comment)

  -- at the end mark of a block of the directory, with room for the entry
  pub record Spot : Type 0 where
    pub anode : ℕ
    pub one : t.count anode ≡ 1
    pub on : 0 < occurrences anode (chain_of t.next limit h)
    pub at : entry_start room zs ≡ t.block anode * 512 + entries_end (block_of before (t.block anode))
    pub fits : entries_end (block_of before (t.block anode)) + len ≤ 510
    pub unbroken : Unbroken (entries_in before (t.block anode))

  -- a block of the directory is that of one of its anodes
  block_anode : (y : ℕ) → 0 < occurrences y (blocks_of s h) → (a : ℕ) × Member a (chain_of s.next limit h) × DirBlock img h a × (y ≡ s.block a)
  unfolding blocks_of run
  block_anode y p =
      let q = member-gather (λ a. run (s.block a) (s.count a)) (chain_of s.next limit h) y (occurrences-member y (blocks_of s h) p) in
      let b = dir_block parent q.0 q.1 in
      let only : Member y (s.block q.0 ∷ []) = rw b.one at q.2 in
      (q.0, q.1, b, elim (member-cons y (s.block q.0) [] only) [ inl e ↦ e | inr e ↦ absurd (no_member y e) ])

  in_old : (start : ℕ) → room ≡ some start → Spot
  unfolding entries_in
  in_old start e =
      let found = room-found img len (blocks_of s h) start (m.steps.roomy ∙ e) in
      let b = block_anode found.0 found.1 in
      let a = b.0 in
      let one = b.2.one in
      let q : head_in img a ≢ 1 = λ i. reached-not-1 parent (sym b.2.on_chain_lem ∙ i) in
      let k = grown.kept a b.2.in_use q in
      let same : block_of before (t.block a) ≡ block_of img found.0 = ap (block_of before) k.1 ∙ old_block a one q ∙ ap (block_of img) (sym b.3) in
      record {
        anode = a;
        one = k.0 ∙ one;
        on = omega (arith, ap (occurrences a) grown.chain, occurrences-append a (chain_of s.next limit h) grown.new, member-occurrences a (chain_of s.next limit h) b.1);
        at = omega (arith, ap (λ (o : Option ℕ). entry_start o zs) e, found.2, ap entries_end same, k.1, b.3);
        fits = rw same found.3;
        unbroken = rw (k.1, cont.same_entries a one q) b.2.unbroken;
      }

  in_new : room ≡ none → Spot
  unfolding entries_in entry_length any_in good_comment
  in_new e =
      let took = grown.took (ap no_room e) in
      let p = first_in took.0 zs took.1 in
      let b = parent_block took.0 p in
      let block : block_of before (t.block b.0) ≡ new_directory_block h (parent_of dirs h) = ap (block_of before) (sym b.2) ∙ parent-new took.0 p in
      let end = ap entries_end block ∙ end-new h (parent_of dirs h) in
      record {
        anode = b.0;
        one = grown.ones b.0 b.1;
        on = omega (arith, ap (occurrences b.0) grown.chain, occurrences-append b.0 (chain_of s.next limit h) grown.new, b.1);
        at = omega (arith, ap (λ (o : Option ℕ). entry_start o zs) e, ap (entry_start none) took.1, end, b.2);
        fits = omega (arith, end, good_name-length new.name m.named, leb-true (length new.comment) 79 m.commented);
        unbroken = rw (block, entries_new h (parent_of dirs h) (t.block b.0));
      }

  pub spot : Spot
  spot = go room refl
    where
      go : (o : Option ℕ) → room ≡ o → Spot
      go (some start) e = in_old start e
      go none e = in_new e

  -- ---- the image with the entry

  abbrev start : ℕ
  start = entry_start room zs

  -- the new entry, as it stands in its block
  abbrev pub entered : Entered
  entered = entered_at (entry_of new f) new.name (entry_start room zs)

  -- the image that a make leaves
  abbrev j : List ℕ
  j = made_image img (anodes_of img) h new f room ys u zs

  pub in_block_lem : start / 512 ≡ t.block spot.anode
  in_block_lem = omega (arith, spot.at, spot.fits)

  pub at-end : start % 512 ≡ entries_end (block_of before (t.block spot.anode))
  at-end = omega (arith, spot.at, spot.fits)

  pub spot_data : DataBlock (disk_at img u) (t.block spot.anode)
  spot_data = single_data disk good spot.anode spot.one

  pub entry_kept : Kept (λ d. d ≢ t.block spot.anode) before j
  unfolding made_image
  entry_kept = subst (λ (y : ℕ). Kept (λ d. d ≢ y) before j) in_block_lem
      (in_block-kept before (start / 512) (λ b. put_entry b (start % 512) (entry_of new f) new.name new.comment) (length-put_entry (block_of before (start / 512)) (start % 512) (entry_of new f) new.name new.comment))

  pub entry_block_lem : block_of j (t.block spot.anode) ≡ put_entry (block_of before (t.block spot.anode)) (entries_end (block_of before (t.block spot.anode))) (entry_of new f) new.name new.comment
  unfolding made_image
  entry_block_lem =
      ap (block_of j) (sym in_block_lem)
      ∙ block_of-in_block before (start / 512) (λ b. put_entry b (start % 512) (entry_of new f) new.name new.comment) (length-put_entry (block_of before (start / 512)) (start % 512) (entry_of new f) new.name new.comment)
      ∙ ap₂ (λ (y e : ℕ). put_entry (block_of before y) e (entry_of new f) new.name new.comment) in_block_lem at-end

  pub made-disk : DiskWith (disk_at img u) t j
  made-disk = disk_then before-disk entry_kept (not-one spot_data)

  -- the free blocks and the anode blocks of the image that a make leaves and the blocks that it took, the new directory's own and the parent's, are the free blocks and the anode blocks of the image before
  pub made-sum : free_blocks (anodes_of (made_image img (anodes_of img) h new f room ys u zs)) + anode_blocks (made_image img (anodes_of img) h new f room ys u zs) + (length ys + length zs) ≡ free_blocks (anodes_of img) + anode_blocks img
  made-sum = omega (arith, plan.steps_sum, ap free_blocks made-disk.anodes, anode_blocks-grown parent.image table plan.gs plan.system_got made-disk)

  pub entries_made : entries_in j (t.block spot.anode) ≡ entries_in before (t.block spot.anode) ++ (entered ∷ [])
  unfolding entries_in entry_of good_comment
  entries_made =
      let y = t.block spot.anode in
      ap (λ (b : List ℕ). entries_from 28 b y 16) entry_block_lem
      ∙ entries_put (block_of before y) y (entry_of new f) new.name new.comment (length-block_of before y (inside_before y spot_data)) spot.fits refl refl m.named (leb-true (length new.comment) 79 m.commented) spot.unbroken
      ∙ ap (λ (p : ℕ). entries_from 28 (block_of before y) y 16 ++ (entered_at (entry_of new f) new.name p ∷ [])) (sym spot.at)

  pub marks_made : (d : Dir) → is_block_of j d (t.block spot.anode) ≡ is_block_of before d (t.block spot.anode)
  unfolding is_block_of entries_in entries_end
  marks_made d =
      let b = block_of before (t.block spot.anode) in
      rw (entry_block_lem, head_put b (entries_end b) (entry_of new f) new.name new.comment (end_bounds b (t.block spot.anode) 28 16 spot.unbroken (omega arith) (omega arith)).0)

  -- a block of another anode is the same in both
  pub entry_other : (a : ℕ) → t.count a ≡ 1 → a ≢ spot.anode → block_of j (t.block a) ≡ block_of before (t.block a)
  entry_other a one q = entry_kept.block_kept (t.block a) (single_apart good a one spot.anode spot.one q)

  pub its_head : plan.hd' spot.anode ≡ h
  its_head = (on_chain_lem orphan.good h (dir_head orphan h once) spot.anode spot.on).0

  pub other_entries : (a : ℕ) → t.count a ≡ 1 → a ≢ spot.anode → entries_in j (t.block a) ≡ entries_in before (t.block a)
  unfolding entries_in
  other_entries a one q = rw (entry_other a one q)
