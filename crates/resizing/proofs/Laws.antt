-- A resize by its plan: how much it asks for, and what it leaves of an accepted image and of its two tables.
use Prim.Native.Nat.{ℕ, ◌+◌, ◌-◌, ◌*◌, ◌<◌, ◌≤◌}
use mathlib.Core.Path.{◌≡◌, sym, ap, ◌∙◌}
use mathlib.Core.Logic.{inl, inr}
use mathlib.Core.Bool.{Bool, false}
use mathlib.Core.List.{List, ◌++◌}
use native.Mathlib.Nat.{add-zero}
use native.Mathlib.Omega.{arith}
use lib.ListN.{length, drop}
use lib.Seq.{drop-append-add}
use borrow.Author.Tests.{le-leb, lt-leb, lt-ltb, le-ltb}
use Rattle.disk.specs.Root.{slot_of}
use Rattle.rules.specs.Anodes.{Anodes, limit, anodes_of}
use Rattle.rules.specs.Counting.{one_at, occurrences}
use Rattle.rules.specs.Chains.{system_by, blocks_of, block_count}
use Rattle.rules.specs.Walk.{Entered, blocks_for}
use Rattle.rules.specs.Tables.{anode_table}
use Rattle.rules.specs.Accepted.{disk_size, last_reserved}
use Rattle.rules.specs.Plans.{Slotted, table_of, Plan, refused, planned, Growth}
use Rattle.rules.specs.Space.{take_many, give_blocks}
use Rattle.rules.specs.Format.{zero_block}
use Rattle.rules.specs.Table.{with_slot_table}
use Rattle.rules.specs.Changes.{left, with_blocks, resize_plan, zero_taken, resized_image, resized}
use Rattle.laws.specs.Tests.{less?}
use Rattle.laws.specs.Sums.{one_at_cases, sum_mono}
use Rattle.laws.specs.Heads.{Head}
use Rattle.laws.specs.Blocks.{blocks}
use Rattle.laws.specs.ChainBlocks.{length-blocks_of}
use Rattle.laws.specs.Links.{Linked}
use Rattle.laws.specs.Whole.{blocks-count}
use Rattle.laws.specs.Ownership.{total}
use Rattle.laws.specs.Moves.{SlotsGrew}
use Rattle.laws.specs.GotSlots.{slots_got}
use Rattle.laws.specs.OwnerTable.{set_all}
use Rattle.laws.specs.Acceptance.{size_bounds}
use Rattle.change_laws.specs.Answers.{step_late}
use Rattle.change_laws.specs.Image.{disk_at, disk_right}
use Rattle.change_laws.specs.Reached.{entry-not-1}
use Rattle.change_laws.specs.PlannedChange.{image, facts, not-1}
use Rattle.change_laws.specs.ResizePlan.{new_owner, moved_blocks, plan_refused, plan-longer, plan_shorter}
use Rattle.change_laws.specs.ResizeStores.{FilePlan, PlannedResize, steps, table, steps_good, resized-disk}
use Rattle.anodes.specs.Loaded.{anodes_from, slots_from, table_from, Loaded}
use Rattle.growing.specs.Grown.{growth_if}
use Rattle.growing.proofs.States.{growth-if_grows}
use Rattle.change_tables.specs.Leaves.{Leaves, ReachedEntry}
use Rattle.change_tables.specs.Laws.{leaves_refused, leaves_moved}
use Rattle.change_tables.specs.Chains.{extents_fit, loaded_size, image-good, slots_loaded, entry_known, loaded_copies, planned_change}

-- behind the first n of a list that starts with n others
behind-first : (xs ys zs : List ℕ) (n : ℕ) → zs ≡ xs ++ ys → length xs ≡ n → drop n zs ≡ ys
behind-first xs ys zs n e long = ap (λ (k : ℕ). drop k zs) (sym long ∙ sym (add-zero (length xs))) ∙ ap (drop (length xs + 0)) e ∙ drop-append-add xs ys 0

module _ {img counts firsts nexts : List ℕ} (l : Loaded img counts firsts nexts) (e : Entered) (r : ReachedEntry img e) (size : ℕ) where
  -- ---- the plan; b: whether slots may grow

  module _ (b : Bool) where
    abbrev plan : Plan Slotted
    plan = resize_plan (growth_if b) (last_reserved img) (table_of img) e.anode (blocks_for size)

    -- on copies of the tables it is that of the image
    pub plan-made : (nc nf nn : List ℕ) → nc ≡ counts → nf ≡ firsts → nn ≡ nexts → (slots : List ℕ) → slots_from slots ≡ slot_of img → (want : ℕ) → want ≡ blocks_for size →
        (last : ℕ) → last ≡ last_reserved img → resize_plan (growth_if b) last (table_from nc nf nn slots) e.anode want ≡ plan
    plan-made nc nf nn c f n slots held want q last is = rw ((loaded_copies l nc nf nn c f n).is_loaded, held, q, is)

    -- refused it leaves everything
    pub refused_leaves : (k : ℕ) → plan ≡ refused k → (blocks heads : List ℕ) → Leaves k img blocks heads img blocks heads (resized (growth_if b) img (table_of img) e size)
    unfolding resized
    refused_leaves k is blocks heads =
        let known = entry_known l e r in
        rw is (leaves_refused k (step_late k (plan_refused img (growth-if_grows b (disk_size img) (last_reserved img)) (image-good l) e.anode known.head (entry-not-1 known) (blocks_for size) k is)) img blocks heads)

    -- else it is one of a resize
    pub file_planned : e.dir ≡ false → {t : Slotted} {ys : List ℕ} → plan ≡ planned t ys → FilePlan img e size t ys
    file_planned file is = record { file = file; growth = growth_if b; grows = growth-if_grows b (disk_size img) (last_reserved img); steps = is }

    -- which leaves that image
    pub resized_is : {t : Slotted} {ys : List ℕ} → plan ≡ planned t ys → resized (growth_if b) img (table_of img) e size ≡ left 0 (resized_image img (anodes_of img) e size t ys)
    unfolding resized
    resized_is is = rw is

  -- ---- the state t that its steps left, and the blocks ys that they moved

  module _ {t : Slotted} {ys : List ℕ} (known : FilePlan img e size t ys) where
    abbrev s : Anodes
    s = anodes_of img

    p : PlannedResize img e size t ys
    p = planned_change l e r known

    -- its slots have grown, or are the image's
    pub resized_slots : SlotsGrew (disk_size img) (slot_of img) t.slots
    resized_slots = (steps p).moves.slots_grew

    -- the anodes in the tables are those of the image with these slots
    pub resized_anodes : anodes_from counts firsts nexts ≡ anodes_of (with_slot_table img t.slots)
    resized_anodes = slots_loaded l (table p)

    -- the links that show_heads asks for
    pub resized_links : Linked limit t.anodes.next t.anodes.block
    resized_links = (table p).good.linked

    -- the end of every new extent fits into two bytes
    pub resized-fit : (a : ℕ) → 0 < t.anodes.count a → t.anodes.block a + t.anodes.count a ≤ 65535
    resized-fit = extents_fit (disk_at img t) (disk_right (image p) (table p)).size_right (steps_good p)

    -- the file's head still heads a chain
    head : Head t.anodes.next t.anodes.block e.anode
    head = (steps p).moves.shift.stays e.anode (facts p).head

    -- the size fits the entry's field
    pub size_fits : size < 4294967296
    unfolding blocks_for blocks
    size_fits = omega (arith, (steps p).has, chain_fits (steps p).moves.hd' e.anode, (size_bounds img (loaded_size l)).1)
      where
        -- a chain has no more blocks than the disk
        chain_fits : (hd : ℕ → ℕ) (m : ℕ) → blocks limit hd t.anodes.count m ≤ disk_size img
        chain_fits hd m = omega (
          arith,
          total limit t.anodes.count t.anodes.block (system_by t.slots) (disk_size img) (table p).good.own,
          sum_mono (λ a. one_at (hd a) m * t.anodes.count a) t.anodes.count limit (λ a l. elim (one_at_cases (hd a) m) [ inl q ↦ rw q.1 (omega arith) | inr q ↦ rw q.1 (omega arith) ]),
        )

    -- where the file does not shrink, the blocks behind those it had are those that it took
    taken-blocks : block_count s e.anode ≤ blocks_for size → drop (block_count s e.anode) (blocks_of t.anodes e.anode) ≡ ys
    taken-blocks m =
        let longer = plan-longer img known.grows (image-good l) e.anode (facts p).head (not-1 p) (blocks_for size) t ys known.steps m in
        behind-first (blocks_of s e.anode) ys (blocks_of t.anodes e.anode) (block_count s e.anode) longer.0 (length-blocks_of s e.anode)

    -- and so where its size grows
    pub grown-blocks : e.size < size → drop (block_count (anodes_of img) e.anode) (blocks_of t.anodes e.anode) ≡ ys
    unfolding blocks_for
    grown-blocks m = taken-blocks (omega (arith, (facts p).sized known.file, m))

    -- the blocks that change hands are those of ys, in some order
    moved_all : (x : ℕ) → occurrences x (moved_blocks s t.anodes e.anode (block_count s e.anode) (blocks_for size)) ≡ occurrences x ys
    moved_all x = elim (less? (blocks_for size) (block_count s e.anode)) [
      | inl m ↦ (let (rest, parts, same) = plan_shorter img known.grows (image-good l) e.anode (facts p).head (not-1 p) (blocks_for size) t ys known.steps (omega (arith, m)) in
          let left : length (blocks_of t.anodes e.anode) ≡ blocks_for size = length-blocks_of t.anodes e.anode ∙ sym (blocks-count (table p).good e.anode head) ∙ (steps p).has in
          rw (lt-leb (block_count s e.anode) (blocks_for size) m, behind-first (blocks_of t.anodes e.anode) rest (blocks_of s e.anode) (blocks_for size) parts left) (same x))
      | inr m ↦ rw (le-leb (block_count s e.anode) (blocks_for size) m, taken-blocks m)
    ]

    -- what it leaves of the image and the tables
    pub done_leaves : (have want : ℕ) → have ≡ block_count (anodes_of img) e.anode → want ≡ blocks_for size → (blocks heads : List ℕ) →
        Leaves 0 img blocks heads (resized_image img (anodes_of img) e size t ys) (set_all (set_all blocks (moved_blocks (anodes_of img) t.anodes e.anode have want) (new_owner e.anode have want)) (slots_got (slot_of img) t.slots 42) 65534)
        (anode_table t.anodes ++ drop limit heads) (left 0 (resized_image img (anodes_of img) e size t ys))
    done_leaves have want i j blocks heads = rw (i, j, ← (steps p).to_is)
        (leaves_moved (image p) (steps p).gs (steps p).moves.good (steps p).moves.system_got (steps p).moves.slots_grew (steps p).from (steps p).to ys (steps p).moves.passed (steps p).apart
        (resized-disk p) (moved_blocks s t.anodes e.anode (block_count s e.anode) (blocks_for size)) moved_all blocks heads)

-- ---- the plan by its two ways

module _ (growth : Growth) (last : ℕ) (s : Slotted) (h have want : ℕ) (is : have ≡ block_count s.anodes h) where
  pub plan_grows : have ≤ want → take_many limit growth false (want - have) h s ≡ resize_plan growth last s h want
  unfolding resize_plan
  plan_grows l = rw (← is, le-leb have want l)

  pub plan_shrinks : want < have → give_blocks limit growth last (have - want) h s ≡ resize_plan growth last s h want
  unfolding resize_plan
  plan_shrinks l = rw (← is, lt-leb have want l)

-- ---- the blocks that a growing file takes

module _ (img : List ℕ) (e : Entered) (new : ℕ) (ys : List ℕ) where
  pub zeroed_some : e.size < new → with_blocks img ys zero_block ≡ zero_taken img e new ys
  unfolding zero_taken
  zeroed_some l = rw (lt-ltb e.size new l)

  pub zeroed-none : new ≤ e.size → img ≡ zero_taken img e new ys
  unfolding zero_taken
  zeroed-none l = rw (le-ltb e.size new l)

-- ---- the blocks that change hands, in the block table

module _ (s t : Anodes) (h have want : ℕ) (b b' : List ℕ) where
  pub owners-set : (have ≤ want → b' ≡ set_all b (drop have (blocks_of t h)) h → b' ≡ set_all b (moved_blocks s t h have want) (new_owner h have want))
      × (want < have → b' ≡ set_all b (drop want (blocks_of s h)) 1 → b' ≡ set_all b (moved_blocks s t h have want) (new_owner h have want))
  owners-set = (λ l e. rw (le-leb have want l) e, λ l e. rw (lt-leb have want l) e)
