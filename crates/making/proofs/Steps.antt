-- Laws of the steps of a make: what each starts from, what both answer, and whose the blocks then are.
use Prim.Native.Nat.{ℕ, ◌+◌, ◌*◌, ◌<◌}
use mathlib.Core.Path.{◌≡◌, refl, sym, ap, ◌∙◌}
use mathlib.Core.Logic.{◌≢◌}
use mathlib.Core.Bool.{Bool, true, false, cond}
use mathlib.Core.List.{List, [], ◌∷◌}
use mathlib.Core.Option.{Option}
use native.Mathlib.Omega.{arith}
use Rattle.std.specs.Prelude as std
use mathlib.Core.Bool.{not}
use Rattle.std.specs.Prelude.{Some, None, is_some, unwrap_or, Result, Ok, Err}
use lib.ListN.{length}
use lib.Dec.{leb}
use borrow.Author.Tests.{eq-eqb, ne_eqb}
use Rattle.disk.specs.declared.BlockNo.{BlockNo}
use Rattle.disk.specs.declared.Refusal.{Refusal}
use Rattle.disk.specs.Refusals.{number_of}
use Rattle.directory.specs.Entries.{entry_length}
use Rattle.rules.specs.Counting.{occurrences, changed}
use Rattle.rules.specs.Anodes.{limit, exists_by, anodes_of}
use Rattle.rules.specs.Chains.{run, system_by, system_owns, blocks_of}
use Rattle.rules.specs.Walk.{entries_in, is_block_of, items_by, reached_dirs}
use Rattle.rules.specs.Accepted.{disk_size, wrong_size, last_reserved, PastDamage}
use Rattle.rules.specs.Plans.{Slotted, table_of, refused, planned, Growth}
use Rattle.rules.specs.Space.{rewritten, take_block}
use Rattle.rules.specs.Tables.{owner_head}
use Rattle.rules.specs.Changes.{first_room, no_room, needed_block, head_made, entry_start, NewEntry, made_in, room_for, made}
use Rattle.laws.specs.Bags.{first_in, occurrences-nil}
use Rattle.laws.specs.Heads.{Head}
use Rattle.laws.specs.Moves.{with_these, Grows, Passed, Moved}
use Rattle.laws.specs.Take.{StartOwned}
use Rattle.laws.specs.OwnerTable.{moved_data, moved_owner, fresh_owner, handed_to}
use Rattle.laws.specs.DirectoryTakes.{dir_head, dir_not-1}
use Rattle.laws.specs.Orphan.{Orphaned}
use Rattle.laws.specs.Make.{contents_unchanged, fresh_orphan}
use Rattle.laws.specs.Items.{headed}
use Rattle.edits.specs.Entries.{room_of}
use Rattle.change_laws.specs.Answers.{step_late}
use Rattle.change_laws.specs.Image.{head_in, accepted_whole, image-passed, reached-headed}
use Rattle.change_laws.specs.MakePlan.{Fresh, fresh_moved, fresh_below, fresh_free, fresh_whole, fresh_start, needed_moved}
use Rattle.change_laws.specs.Make.{needed_refused}
use Rattle.change_tables.specs.Chains.{disk_state}
use Rattle.placing.specs.Steps.{step_plan}
use Rattle.placing.specs.States.{Ready}
use Rattle.growing.specs.Grown.{growth_if}
use Rattle.growing.proofs.States.{growth-if_grows}
use Rattle.making.specs.Steps.{some_block, needed_plan, PlanOf}

pub no_block : (y : ℕ) → y ≡ 0 → some_block y ≡ []
unfolding some_block
no_block y z = rw (eq-eqb y 0 z)

pub one_block : (y : ℕ) → y ≢ 0 → some_block y ≡ y ∷ []
unfolding some_block
one_block y n = rw (ne_eqb y 0 n)

-- ---- the room that was found

-- whether there is none
pub full_is : (room : std.Option ℕ) (full : Bool) → is_some room ≡ not full → full ≡ no_room (room_of room)
full_is (Some start) false e = refl
full_is (Some start) true e = e
full_is None false e = e
full_is None true e = refl

-- and the entry's place
pub start_is : (room : std.Option ℕ) (parents : ℕ) → unwrap_or room (parents * 512 + 16) ≡ entry_start (room_of room) (parents ∷ [])
start_is (Some start) parents = refl
start_is None parents = refl

-- ---- one step

-- a step that needs no block
pub step_none : (growth : Growth) (s : Slotted) (h : ℕ) → planned s (some_block 0) ≡ needed_block growth false h s
unfolding needed_block
step_none growth s h = ap (planned s) (no_block 0 refl)

-- a step's refusal comes after the damage numbers
late : (growth : Growth) (needed : Bool) (s : Slotted) (h k : ℕ) → needed_block growth needed h s ≡ refused k → PastDamage k
late growth needed s h k e = step_late k (needed_refused growth needed h k s e)

-- in a good state a block that was taken is not 0
pub step_taken : (b : Bool) {last : ℕ} {s : Slotted} {h : ℕ} → Ready last s h → (x : Result BlockNo Refusal) (t : Slotted) → step_plan x 1 t ≡ take_block limit (growth_if b) true h s → needed_plan x t ≡ needed_block (growth_if b) true h s
unfolding needed_block run
step_taken b ready (Err r) t e = e
step_taken b {last} {s} {h} ready (Ok y) t e =
    let g = ready.0.good in
    let m = needed_moved (growth-if_grows b ready.0.n last) ready.0.start g h ready.1.0 ready.1.1 true t (y.0 ∷ []) (sym e) in
    let was = (moved_data g 1 h (y.0 ∷ []) m.0 m.1.good m.1.passed (λ i. ready.1.1 (sym i)) y.0 (first_in y.0 (y.0 ∷ []) refl)).1 in
    ap (planned t) (one_block y.0 (λ z. omega (arith, rw z at was, ready.0.start 0 (omega arith))))
    ∙ e

-- ---- both steps

module _ {img : List ℕ} {growth : Growth} (grows : Grows limit (disk_size img) (last_reserved img) growth) {h : ℕ} {q : Slotted} {f : ℕ} (x : Fresh img growth h q f) where
  once : headed h (reached_dirs img (anodes_of img)) ≡ 1
  once = reached-headed x.parent

  right_size : wrong_size img ≡ false
  right_size = (image-passed x.parent.image).size_right

  -- the blocks by which slots have grown before the steps
  abbrev got₀ : List ℕ
  got₀ = (fresh_moved grows x).0

  abbrev hd₀ : ℕ → ℕ
  hd₀ = (fresh_moved grows x).1.hd'

  abbrev sd₀ : ℕ → ℕ
  sd₀ = (fresh_moved grows x).1.sd'

  -- the state with the fresh head
  begun : Orphaned (exists_by q.slots) (disk_size img) (last_reserved img) f (items_by (entries_in img) (is_block_of img) q.anodes) (rewritten q.anodes f 0 65535) (with_these (system_owns img) got₀) (changed hd₀ f f) (changed sd₀ f f) (entries_in img) (is_block_of img) (reached_dirs img (anodes_of img))
  begun = fresh_orphan (fresh_whole grows x) f (fresh_below grows x) (fresh_free grows x) (entries_in img) (is_block_of img) (contents_unchanged _ _ _ _)

  fresh_not-1 : f ≢ 1
  fresh_not-1 i = omega (arith, (fresh_free grows x).from_6, i)

  -- what the first step asks: a block for the fresh head
  pub first_ready : Ready (last_reserved img) (head_made q f) f
  first_ready = (disk_state img right_size (fresh_start grows x) begun.good, (begun.head, fresh_not-1))

  -- after the first step, a block for the fresh head
  module _ (dir : Bool) (ys : List ℕ) (r : Slotted) (own : needed_block growth dir f (head_made q f) ≡ planned r ys) where
    own_moved : (gs : List ℕ) × Moved limit (disk_size img) (last_reserved img) (head_made q f) (with_these (system_owns img) got₀) (changed hd₀ f f) 1 f f ys gs r
    own_moved = needed_moved grows (fresh_start grows x) begun.good f begun.head fresh_not-1 dir r ys own

    next_start : StartOwned (with_these (with_these (system_owns img) got₀) own_moved.0)
    next_start y l = omega (arith, fresh_start grows x y l)

    next_head : Head r.anodes.next r.anodes.block h × (h ≢ 1)
    next_head = (own_moved.1.shift.stays h (dir_head begun h once), dir_not-1 begun h once)

    -- what the second step asks: a block for the parent
    pub next_ready : Ready (last_reserved img) r h
    next_ready = (disk_state img right_size next_start own_moved.1.good, next_head)

    -- after both
    module _ (needed : Bool) (zs : List ℕ) (t : Slotted) (parent : needed_block growth needed h r ≡ planned t zs) where
      parent-moved : (gs : List ℕ) × Moved limit (disk_size img) (last_reserved img) r (with_these (with_these (system_owns img) got₀) own_moved.0) own_moved.1.hd' 1 h h zs gs t
      parent-moved = needed_moved grows next_start own_moved.1.good h next_head.0 next_head.1 needed t zs parent

      -- the blocks that were taken were on the disk, and not the system's
      pub own_data : (y : ℕ) → 0 < occurrences y ys → (y < disk_size img) × (system_owns img y ≡ 0)
      own_data y p =
          let o = moved_data begun.good 1 f ys own_moved.0 own_moved.1.good own_moved.1.passed (λ i. fresh_not-1 (sym i)) y p in
          (o.0, omega (arith, o.1))

      pub parent_data : (y : ℕ) → 0 < occurrences y zs → (y < disk_size img) × (system_owns img y ≡ 0)
      parent_data y p =
          let o = moved_data own_moved.1.good 1 h zs parent-moved.0 parent-moved.1.good parent-moved.1.passed (λ i. next_head.1 (sym i)) y p in
          (o.0, omega (arith, o.1))

      -- the owners before the steps are the image's
      fresh_passed : Passed limit (anodes_of img) (head_in img) q.anodes hd₀ 1 0 [] got₀
      fresh_passed m y = rw (occurrences-nil y) (omega (arith, rw (occurrences-nil y) at ((fresh_moved grows x).1.passed m y)))

      -- no slot has got a block that did not become the system's
      not_got : (y : ℕ) → system_by t.slots y ≡ system_owns img y → (occurrences y got₀ ≡ 0) × (occurrences y own_moved.0 ≡ 0) × (occurrences y parent-moved.0 ≡ 0)
      not_got y stays =
          let first = (fresh_moved grows x).1.system_got y in
          let next = own_moved.1.system_got y in
          let last = parent-moved.1.system_got y in
          (omega (arith, stays, first, next, last), omega (arith, stays, first, next, last), omega (arith, stays, first, next, last))

      -- it has the owner that it had, or the head that took it
      pub owners : (y : ℕ) → system_by t.slots y ≡ system_owns img y → owner_head t.anodes y ≡ handed_to h zs (handed_to f ys (owner_head (anodes_of img))) y
      owners y stays =
          let none = not_got y stays in
          moved_owner own_moved.1.good 1 h zs parent-moved.0 parent-moved.1.good parent-moved.1.passed (λ i. next_head.1 (sym i)) y none.2
          ∙ ap (cond (leb 1 (occurrences y zs)) h) (moved_owner begun.good 1 f ys own_moved.0 own_moved.1.good own_moved.1.passed (λ i. fresh_not-1 (sym i)) y none.1
          ∙ ap (cond (leb 1 (occurrences y ys)) f) (fresh_owner (fresh_whole grows x).good f (fresh_below grows x) (fresh_free grows x) y
          ∙ moved_owner (accepted_whole x.parent.image).good 1 0 [] got₀ (fresh_moved grows x).1.good fresh_passed (λ i. omega (arith, i)) y none.0
          ∙ rw (occurrences-nil y)))

module _ {img : List ℕ} {growth : Growth} {h : ℕ} {q : Slotted} {f : ℕ} (x : Fresh img growth h q f) where
  -- the make by its two steps
  pub made_is : (new : NewEntry) → made growth img (table_of img) h new ≡ made_in growth img (anodes_of img) h new (room_for img (anodes_of img) h new) q f
  unfolding made
  made_is new = rw (x.spares, x.lowest)

  module _ (dir : Bool) (len : ℕ) (room : Option ℕ) (found : room ≡ first_room img len (blocks_of (anodes_of img) h)) where
    -- with the room that was found
    made-room : (new : NewEntry) → new.dir ≡ dir → entry_length (length new.name) (length new.comment) ≡ len → made growth img (table_of img) h new ≡ made_in growth img (anodes_of img) h new room q f
    unfolding room_for
    made-room new d n = made_is new ∙ rw (n, sym found)

    -- the first step refused
    pub first_stopped : (k : Refusal) → refused (number_of k) ≡ needed_block growth dir f (head_made q f) → PlanOf (Err k) img growth dir len h q
    first_stopped k e = (late growth dir (head_made q f) f (number_of k) (sym e), λ new d n. made-room new d n ∙ rw (d, sym e))

    module _ (y : BlockNo) (r : Slotted) (first : needed_plan (Ok y) r ≡ needed_block growth dir f (head_made q f)) where
      -- the second step refused
      pub next_stopped : (k : Refusal) → refused (number_of k) ≡ needed_block growth (no_room room) h r → PlanOf (Err k) img growth dir len h q
      next_stopped k e = (late growth (no_room room) r h (number_of k) (sym e), λ new d n. made-room new d n ∙ rw (d, sym first, sym e))

      -- both done
      pub both_taken : (z : BlockNo) (t : Slotted) → needed_plan (Ok z) t ≡ needed_block growth (no_room room) h r → (start : ℕ) → start ≡ entry_start room (z.0 ∷ []) →
          PlanOf (Ok (record { fresh = record { 0 = f }; start = start; own = y; parents = z })) img growth dir len h t
      both_taken z t e start at = record {
        spared = q;
        fresh = x;
        room = room;
        steps = record { between = r; own = sym first; roomy = sym found; parent = sym e };
        start = at;
      }
