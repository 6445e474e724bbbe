-- A removal by its plan: what it leaves of an accepted image and of its two tables.
use Prim.Native.Nat.{ℕ, ◌/◌}
use mathlib.Core.Path.{◌≡◌}
use mathlib.Core.Bool.{Bool}
use mathlib.Core.List.{List, ◌++◌}
use native.Mathlib.Omega.{arith}
use lib.ListN.{drop}
use Rattle.disk.specs.Root.{slot_of}
use Rattle.rules.specs.Anodes.{limit, anodes_of}
use Rattle.rules.specs.Walk.{Entered}
use Rattle.rules.specs.Tables.{anode_table}
use Rattle.rules.specs.Accepted.{disk_size, last_reserved}
use Rattle.rules.specs.Chains.{blocks_of}
use Rattle.rules.specs.Plans.{Slotted, table_of, Plan, refused, planned}
use Rattle.rules.specs.Space.{give_all}
use Rattle.rules.specs.Table.{with_slot_table, with_table}
use Rattle.rules.specs.Changes.{left, removed_image, removed, remove_plan}
use Rattle.laws.specs.Links.{Linked}
use Rattle.laws.specs.Moves.{SlotsGrew}
use Rattle.laws.specs.GotSlots.{slots_got}
use Rattle.laws.specs.OwnerTable.{set_all}
use Rattle.change_laws.specs.Image.{stored-kept}
use Rattle.change_laws.specs.FoundEntries.{block_standing, end_within}
use Rattle.change_laws.specs.Reached.{block_data}
use Rattle.change_laws.specs.PlannedChange.{image, facts, not-1}
use Rattle.change_laws.specs.Remove.{remove_refused}
use Rattle.change_laws.specs.RemoveStores.{EntryPlan, PlannedRemove, here, gave, goes, given-all, table, end-good, home_data, removed-disk}
use Rattle.anodes.specs.Loaded.{anodes_from, slots_from, table_from, Loaded}
use Rattle.edits.specs.Entries.{EntryStands}
use Rattle.growing.specs.Grown.{growth_if}
use Rattle.growing.proofs.States.{growth-if_grows}
use Rattle.change_tables.specs.Leaves.{Leaves, ReachedEntry}
use Rattle.change_tables.specs.Laws.{leaves_refused, leaves_moved}
use Rattle.change_tables.specs.Chains.{slots_loaded, reached-entry, loaded_copies, planned_change}

module _ {img counts firsts nexts : List ℕ} (l : Loaded img counts firsts nexts) (e : Entered) (r : ReachedEntry img e) where
  -- ---- the plan; b: whether slots may grow

  module _ (b : Bool) where
    abbrev plan : Plan Slotted
    plan = remove_plan (growth_if b) (last_reserved img) (table_of img) e.anode

    -- on copies of the tables it is that of the image
    pub gives_made : (nc nf nn : List ℕ) → nc ≡ counts → nf ≡ firsts → nn ≡ nexts → (slots : List ℕ) → slots_from slots ≡ slot_of img → (last : ℕ) → last ≡ last_reserved img →
        give_all limit (growth_if b) last e.anode (table_from nc nf nn slots) ≡ plan
    gives_made nc nf nn c f n slots held last is = rw ((loaded_copies l nc nf nn c f n).is_loaded, held, is)

    -- refused it leaves everything
    pub refused_leaves : (k : ℕ) → plan ≡ refused k → (blocks heads : List ℕ) → Leaves k img blocks heads img blocks heads (removed (growth_if b) img (table_of img) e)
    unfolding removed
    refused_leaves k gives blocks heads =
        rw gives (leaves_refused k (omega (arith, remove_refused (growth-if_grows b (disk_size img) (last_reserved img)) (reached-entry l e r) k gives)) img blocks heads)

    -- else it is one of a removal
    pub entry_planned : {t : Slotted} {ys : List ℕ} → plan ≡ planned t ys → EntryPlan img e t ys
    entry_planned gives = record { growth = growth_if b; grows = growth-if_grows b (disk_size img) (last_reserved img); steps = gives }

    -- which leaves that image
    pub removed_is : {t : Slotted} {ys : List ℕ} → plan ≡ planned t ys → removed (growth_if b) img (table_of img) e ≡ left 0 (removed_image img e t)
    unfolding removed
    removed_is gives = rw gives

  -- ---- the state t that its steps left

  module _ {t : Slotted} {ys : List ℕ} (steps : EntryPlan img e t ys) where
    p : PlannedRemove img e t ys
    p = planned_change l e r steps

    -- its slots have grown, or are the image's
    pub removed_slots : SlotsGrew (disk_size img) (slot_of img) t.slots
    removed_slots = (goes p).slots_grew

    -- the anodes in the tables are those of the image with these slots
    pub removed_anodes : anodes_from counts firsts nexts ≡ anodes_of (with_slot_table img t.slots)
    removed_anodes = slots_loaded l (table p)

    -- the links that show_heads asks for
    pub removed_links : Linked limit t.anodes.next t.anodes.block
    removed_links = (end-good p).linked

    -- the entry stands where it did, after slots and anodes are stored
    pub stands : EntryStands (with_table img t) e.start
    stands =
        let kept = stored-kept (image p) (table p) in
        let same = kept.block_kept (e.start / 512) (rw (facts p).in_block_lem (home_data p (facts p).a₀ (facts p).member-chain)) in
        rw (kept.length-kept, same) ((block_data (facts p)).inside, (block_standing (here p)).before, end_within (here p))

    -- what it leaves of the image and the tables
    pub done_leaves : (blocks heads : List ℕ) →
        Leaves 0 img blocks heads (removed_image img e t) (set_all (set_all blocks (blocks_of (anodes_of img) e.anode) 1) (slots_got (slot_of img) t.slots 42) 65534) (anode_table t.anodes ++ drop limit heads) (left 0 (removed_image img e t))
    done_leaves blocks heads = leaves_moved (image p) (gave p).0 (goes p).good (goes p).system_got (goes p).slots_grew e.anode 1 ys (goes p).passed (not-1 p) (removed-disk p) (blocks_of (anodes_of img) e.anode) (given-all p) blocks heads
