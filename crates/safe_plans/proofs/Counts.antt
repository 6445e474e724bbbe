-- How many blocks there are: those of the disk, those that the slots hold, and the free ones, enough for a safe change or not.
use Prim.Native.Nat.{ℕ, zero, suc, ◌+◌, ◌≤◌, ◌<◌}
use mathlib.Core.Path.{◌≡◌, refl, sym, ap, ◌∙◌}
use mathlib.Core.Bool.{cond}
use mathlib.Core.List.{List}
use native.Mathlib.Omega.{arith}
use lib.Dec.{eqb}
use lib.ListN.{length}
use Rattle.disk.specs.Root.{slot_of}
use Rattle.rules.specs.Counting.{sum_below}
use Rattle.rules.specs.Anodes.{anodes_of}
use Rattle.rules.specs.Chains.{block_count}
use Rattle.rules.specs.Accepted.{disk_size}
use Rattle.rules.specs.Totals.{free_blocks, anode_blocks, total_in, total}
use Rattle.rules.specs.Plans.{Slotted}
use Rattle.laws.specs.Owners.{full_inside}
use Rattle.laws.specs.Acceptance.{size_bounds}
use Rattle.change_laws.specs.Image.{AcceptedImage, image-passed, TableFor}
use Rattle.change_laws.specs.Totals.{accepted-total}
use Rattle.anodes.specs.Loaded.{slots_from}
use Rattle.safe_rules.specs.SafePlans.{SafeChange, slot_blocks, new_blocks}
use Rattle.safe_steps.proofs.Steps.{more_used}

module _ {img : List ℕ} (image : AcceptedImage img) where
  -- the disk has at most 65,535 blocks
  pub disk_small : disk_size img ≤ 65535
  disk_small = (size_bounds img (image-passed image).size_right).1

  -- so the extents of a table that may be stored end there
  pub extents_small : {t : Slotted} {hd sd : ℕ → ℕ} → TableFor img t hd sd → (a : ℕ) → 0 < t.anodes.count a → t.anodes.block a + t.anodes.count a ≤ 65535
  extents_small p a full = omega (arith, full_inside p.good a full, disk_small)

  -- and no more than that are free
  pub free_few : free_blocks (anodes_of img) ≤ 65535
  unfolding total total_in
  free_few = let all : total img ≡ disk_size img = accepted-total image in omega (arith, all, disk_small)

-- the slots hold as many blocks as slots are in use
slots_counted : (slots : ℕ → ℕ) (k : ℕ) → length (slot_blocks slots k) ≡ sum_below (λ i. cond (eqb (slots i) 0) 0 1) k
unfolding slot_blocks sum_below
slots_counted slots zero = refl
slots_counted slots (suc k) =
    let i : suc k ≡ k + 1 = omega arith in
    ap (λ (j : ℕ). length (slot_blocks slots j)) i ∙ sym (more_used slots k (sum_below (λ i. cond (eqb (slots i) 0) 0 1) k) (sym (slots_counted slots k)))

-- those that the image's slots hold are its anode blocks
pub slots_used : (img slots : List ℕ) → slots_from slots ≡ slot_of img → length (slot_blocks (slots_from slots) 42) ≡ anode_blocks img
unfolding anode_blocks
slots_used img slots held = ap (λ (f : ℕ → ℕ). length (slot_blocks f 42)) held ∙ slots_counted (slot_of img) 42

-- the free blocks, and those that a safe change needs, as they are counted in memory
module _ (img : List ℕ) (c : SafeChange) (free need : ℕ) (all : free ≡ block_count (anodes_of img) 1) (is : new_blocks img c ≡ need) where
  -- there are too few
  pub too_few : free < need → free_blocks (anodes_of img) < new_blocks img c
  unfolding free_blocks
  too_few p = omega (arith, p, all, is)

  -- there are enough
  pub enough_free : need ≤ free → new_blocks img c ≤ free_blocks (anodes_of img)
  unfolding free_blocks
  enough_free p = omega (arith, p, all, is)
