-- Laws of an anode table stored in new blocks, and of a file's bytes stored whole.
use Prim.Native.Nat.{ℕ, zero, suc, ◌*◌, ◌+◌, ◌≤◌, ◌<◌}
use mathlib.Core.Path.{◌≡◌, sym, ap, ◌∙◌}
use mathlib.Core.Logic.{inl, inr}
use mathlib.Core.Bool.{Bool, true, false, cond}
use mathlib.Core.List.{List, [], ◌∷◌}
use native.Mathlib.Omega.{arith}
use lib.Dec.{eqb}
use lib.ListN.{length, get_or}
use Rattle.disk.specs.Blocks.{block_of}
use Rattle.rules.specs.Counting.{occurrences, gather}
use Rattle.rules.specs.Anodes.{Anodes, anodes_of, with_anodes}
use Rattle.rules.specs.Chains.{blocks_of}
use Rattle.rules.specs.Walk.{Entered}
use Rattle.rules.specs.Accepted.{wrong_size}
use Rattle.rules.specs.Lookup.{bytes_of}
use Rattle.rules.specs.Plans.{slotted}
use Rattle.rules.specs.Table.{with_slot_table, with_table}
use Rattle.rules.specs.Changes.{spread, written}
use Rattle.laws.specs.Tests.{less?}
use Rattle.laws.specs.Sums.{one_at_cases}
use Rattle.laws.specs.Bags.{occurrences-nil, occurrences-cons, occurrences-append}
use Rattle.laws.specs.Chains.{Inside}
use Rattle.safe_rules.specs.SafePlans.{slot_blocks}
use Rattle.frames.specs.StoredBytes.{length-gather}
use Rattle.frames.specs.StoredSlots.{SlotsFor, slots_anodes}
use Rattle.change_laws.specs.Image.{AcceptedImage, accepted_own, image-passed, accepted_right}
use Rattle.anodes.specs.Loaded.{anodes_from, slots_from, Loaded}
use Rattle.block_copies.proofs.Laws.{stored_whole}

module _ {img c f n : List ℕ} (loaded : Loaded img c f n) where
  -- the image is accepted with tables as long as 2 asks
  pub loaded_image : AcceptedImage img
  loaded_image = accepted_own img loaded.accepted

  pub loaded_size : wrong_size img ≡ false
  loaded_size = (image-passed loaded_image).size_right

  -- the slots stored, the image has the anodes that it had
  pub anodes_kept : (slots : ℕ → ℕ) → SlotsFor img slots → (j : List ℕ) → j ≡ with_slot_table img slots → anodes_from c f n ≡ anodes_of j
  anodes_kept slots p j e = loaded.is_loaded ∙ sym (ap anodes_of e ∙ slots_anodes img (accepted_right loaded_image) slots p)

-- the slots, then the anodes
pub table-stored : (img : List ℕ) (slots : ℕ → ℕ) (a : Anodes) (j new : List ℕ) → j ≡ with_slot_table img slots → new ≡ with_anodes j a → new ≡ with_table img (slotted a slots)
unfolding with_table
table-stored img slots a j new e is = is ∙ ap (λ (i : List ℕ). with_anodes i a) e

-- an entry that names the chain of h
abbrev pub entry_naming : ℕ → Entered
entry_naming h = record { broken = false; dir = false; anode = h; size = 0; name = []; start = 0 }

-- all of a file's bytes
pub file-stored : (img : List ℕ) (s : Anodes) (e : Entered) (bytes : List ℕ) → Inside img (blocks_of s e.anode) → length bytes ≡ length (blocks_of s e.anode) * 512 → written img s e 0 bytes ≡ spread img (blocks_of s e.anode) bytes
unfolding written bytes_of
file-stored img s e bytes inside long = ap (spread img (blocks_of s e.anode)) (stored_whole (gather (block_of img) (blocks_of s e.anode)) bytes (long ∙ sym (length-gather img (blocks_of s e.anode) inside)))

-- the blocks that slots hold are inside the image
pub slots_inside : (img : List ℕ) (slots : ℕ → ℕ) → ((k : ℕ) → slots k * 512 + 512 ≤ length img) → (k : ℕ) → Inside img (slot_blocks slots k)
unfolding slot_blocks
slots_inside img slots all zero y p = absurd (omega (arith, p, occurrences-nil y))
slots_inside img slots all (suc k) y p = elim (less? 0 (occurrences y (slot_blocks slots k))) [
  | inl q ↦ slots_inside img slots all k y q
  | inr q ↦ here (eqb (slots k) 0) (omega (arith, p, q, occurrences-append y (slot_blocks slots k) (cond (eqb (slots k) 0) [] (slots k ∷ []))))
]
  where
    here : (b : Bool) → 0 < occurrences y (cond b [] (slots k ∷ [])) → y * 512 + 512 ≤ length img
    here true o = absurd (omega (arith, o, occurrences-nil y))
    here false o = elim (one_at_cases (slots k) y) [
      | inl i ↦ (let w = all k in omega (arith, w, i.0))
      | inr i ↦ absurd (omega (arith, o, occurrences-cons y (slots k) [], occurrences-nil y, i.1))
    ]

-- those of a table of slots
pub all_inside : (img slots : List ℕ) → ((k : ℕ) → get_or slots k 0 * 512 + 512 ≤ length img) → Inside img (slot_blocks (slots_from slots) 42)
all_inside img slots all = slots_inside img (slots_from slots) (λ k. unfold slots_from in all k) 42
