-- The chains of a loaded image, and the state in which steps on them start.
use Rattle.std.specs.Prelude.{ℕ, ◌+◌, ◌≤◌, ◌<◌, ◌≡◌, false, List}
use Rattle.std.proofs.Common.{sym, ◌∙◌, arith}
use Rattle.disk.specs.Root.{slot_of}
use Rattle.rules.specs.Anodes.{Anodes, limit, exists_by, anodes_of}
use Rattle.rules.specs.Chains.{block_count}
use Rattle.rules.specs.Walk.{Entered}
use Rattle.rules.specs.Accepted.{disk_size, wrong_size, last_reserved}
use Rattle.rules.specs.Plans.{Slotted, slotted}
use Rattle.rules.specs.Table.{with_slot_table}
use Rattle.laws.specs.Space.{Good}
use Rattle.laws.specs.Take.{StartOwned}
use Rattle.laws.specs.FixedSlots.{start_owned}
use Rattle.laws.specs.Owners.{full_inside}
use Rattle.laws.specs.Acceptance.{size_bounds}
use Rattle.frames.specs.StoredSlots.{slots_anodes}
use Rattle.anodes.specs.Loaded.{anodes_from, slots_from, table_from, Loaded}
use Rattle.walk_steps.specs.Steps.{sum_from}
use Rattle.walk_steps.proofs.Rules.{sum_from-count}
use Rattle.placing.specs.States.{GoodState, Ready}
use Rattle.change_laws.specs.Image.{GoodOn, head_in, side_in, AcceptedImage, accepted_own, image-passed, accepted_whole, accepted_right, TableFor}
use Rattle.change_laws.specs.Reached.{EntryIn, EntryFacts, entry-not-1, entry-facts}
use Rattle.change_laws.specs.PlannedChange.{PlannedChange}
use Rattle.change_tables.specs.Leaves.{ReachedEntry}

-- good anodes on a disk of that size, whatever its slots
pub disk_state : (img : List ℕ) → wrong_size img ≡ false → {t : Slotted} {system hd sd : ℕ → ℕ} → StartOwned system → Good limit (exists_by t.slots) (disk_size img) (last_reserved img) t.anodes system hd sd → GoodState (last_reserved img) t
disk_state img right {system = system} {hd} {sd} start g = record { n = disk_size img; system = system; hd = hd; sd = sd; small = (size_bounds img right).1; start = start; good = g }

-- with the slots of the image
pub good_state : (img : List ℕ) → wrong_size img ≡ false → {s : Anodes} {hd sd : ℕ → ℕ} → GoodOn img s hd sd → GoodState (last_reserved img) (slotted s (slot_of img))
good_state img right g = disk_state img right (start_owned (slot_of img)) g

-- or those of a table that may be stored in it
pub table_state : (img : List ℕ) → wrong_size img ≡ false → {t : Slotted} {hd sd : ℕ → ℕ} → TableFor img t hd sd → GoodState (last_reserved img) t
table_state img right {t} p = disk_state img right (start_owned t.slots) p.good

-- the end of every extent fits into two bytes
pub extents_fit : (img : List ℕ) → wrong_size img ≡ false → {t : Anodes} {hd sd : ℕ → ℕ} → GoodOn img t hd sd → (a : ℕ) → 0 < t.count a → t.block a + t.count a ≤ 65535
extents_fit img right g a p = omega (arith, full_inside g a p, (size_bounds img right).1)

module _ {img counts firsts nexts : List ℕ} (l : Loaded img counts firsts nexts) where
  abbrev pub loaded_image : AcceptedImage img
  loaded_image = accepted_own img l.accepted

  pub loaded_size : wrong_size img ≡ false
  loaded_size = (image-passed loaded_image).size_right

  pub image-good : GoodOn img (anodes_of img) (head_in img) (side_in img)
  image-good = (accepted_whole loaded_image).good

  pub loaded_good : GoodOn img (anodes_from counts firsts nexts) (head_in img) (side_in img)
  loaded_good = rw l.is_loaded image-good

  -- the anodes in the tables are those of the image with other slots, too
  pub slots_loaded : {t : Slotted} {hd sd : ℕ → ℕ} → TableFor img t hd sd → anodes_from counts firsts nexts ≡ anodes_of (with_slot_table img t.slots)
  slots_loaded {t} p = l.is_loaded ∙ sym (slots_anodes img (accepted_right loaded_image) t.slots p.slots_for)

  -- the steps may be planned on copies of the tables
  pub loaded_copies : (nc nf nn : List ℕ) → nc ≡ counts → nf ≡ firsts → nn ≡ nexts → Loaded img nc nf nn
  loaded_copies nc nf nn c f n = rw (c, f, n) l

  -- the blocks of a chain, as they are counted in the tables
  pub chain-counted : (h have : ℕ) → have ≡ sum_from counts nexts limit h → have ≡ block_count (anodes_of img) h
  chain-counted h have all = all ∙ rw (← l.is_loaded) (sum_from-count counts firsts nexts h)

  -- the chain that a reached entry names
  module _ (e : Entered) (r : ReachedEntry img e) where
    abbrev pub reached-entry : EntryIn img r.0 e
    reached-entry = record { directory = record { image = loaded_image; reached = r.1 }; member = r.2 }

    pub entry_known : EntryFacts img r.0 e
    entry_known = entry-facts reached-entry

    -- a change of the entry with its plan
    pub planned_change : {Plans : Type 0} → Plans → PlannedChange img e Plans
    planned_change plan = record { home = r.0; entry = reached-entry; plan = plan }

    -- what the steps on it ask of copies of the tables and of the slots, and the count that was read off the tables
    pub plan_ready : (nc nf nn : List ℕ) → nc ≡ counts → nf ≡ firsts → nn ≡ nexts → (slots : List ℕ) → slots_from slots ≡ slot_of img → (have : ℕ) → have ≡ sum_from counts nexts limit e.anode →
        Ready (last_reserved img) (table_from nc nf nn slots) e.anode × (have ≡ block_count (anodes_from nc nf nn) e.anode)
    plan_ready nc nf nn c f n slots held have all =
        rw ((loaded_copies nc nf nn c f n).is_loaded, held) ((good_state img loaded_size image-good, (entry_known.head, entry-not-1 entry_known)), chain-counted e.anode have all)
