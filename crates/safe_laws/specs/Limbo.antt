-- What the own steps of a safe change leave, and then the state in which every anode block has a new place: all its old blocks are in nobody's chain.
use Rattle.std.specs.Prelude.{ℕ, ◌+◌, ◌<◌, ◌≡◌, ◌≢◌, List, ◌++◌}
use Rattle.std.proofs.Math.Path.{refl}
use Rattle.std.proofs.Common.{sym, ◌∙◌, inl, inr, arith}
use Rattle.disk.specs.Root.{slot_of}
use Rattle.rules.specs.Counting.{sum_below, occurrences}
use Rattle.rules.specs.Anodes.{limit, exists_by}
use Rattle.rules.specs.Chains.{one_if_holds, system_by, system_owns}
use Rattle.rules.specs.Accepted.{disk_size, last_reserved}
use Rattle.rules.specs.Plans.{Slotted, after, planned, ◌and_then◌}
use Rattle.laws.specs.Tests.{less?}
use Rattle.laws.specs.Bags.{occurrences-append}
use Rattle.laws.specs.Space.{Good, good-same, head_1}
use Rattle.laws.specs.Moves.{with_these, Shift}
use Rattle.frames.specs.DisjointBlocks.{DataBlock, chain_block}
use Rattle.change_laws.specs.Image.{AcceptedWhole, AcceptedImage, accepted_whole, accepted_slots}
use Rattle.safe_rules.specs.SafePlans.{SafeChange, all_relocated, reslotted_from, old_blocks, taking_steps}
use Rattle.safe_laws.specs.AllTaken.{OwnSteps, taken_free}
use Rattle.safe_laws.specs.OldBlocks.{system_low, system_high, slots_none, old_are, old_inside}
use Rattle.safe_laws.specs.NewSlots.{NewSlots, new_slots}
use Rattle.safe_laws.specs.LeftImage.{holds_all}

-- what the change's own steps leave, with the directory block's: a good state, the change's old blocks in nobody's chain
pub record OwnLeft (img : List ℕ) (c : SafeChange) (r : Slotted) : Type 0 where
  pub hd' : ℕ → ℕ
  pub sd' : ℕ → ℕ
  pub good : Good limit (exists_by r.slots) (disk_size img) (last_reserved img) r.anodes (with_these (system_owns img) (c.old ++ c.changing)) hd' sd'
  pub inside : (x : ℕ) → 0 < occurrences x (c.old ++ c.changing) → x < disk_size img

-- what a change's own steps leave, whenever they are done
abbrev pub LeavesGood : List ℕ → SafeChange → Type 0
LeavesGood img c = (r : Slotted) (xs : List ℕ) → c.steps and_then all_relocated c.changing ≡ planned r xs → OwnLeft img c r

-- what is left once every anode block has a new place: a good state, all old blocks in nobody's chain
pub record LimboLeft (img : List ℕ) (c : SafeChange) (s : Slotted) : Type 0 where
  pub hd' : ℕ → ℕ
  pub sd' : ℕ → ℕ
  pub good : Good limit (exists_by s.slots) (disk_size img) (last_reserved img) s.anodes (with_these (system_by s.slots) (old_blocks img c)) hd' sd'

-- the old blocks lie on the disk, and none is block 0
pub old-placed : {img : List ℕ} (image : AcceptedImage img) {c : SafeChange} {r : Slotted} (o : OwnLeft img c r) (x : ℕ) → 0 < occurrences x (old_blocks img c) → (x ≢ 0) × (x < disk_size img)
old-placed {img} image {c} o x p = let (from, to) = old_inside img (accepted_slots image) c o.good o.inside x p in (λ e. omega (arith, e, from), to)

module _ {img : List ℕ} (image : AcceptedImage img) {left : ℕ → Type 0} {c : SafeChange} (own : OwnSteps img left c) (r s : Slotted) (xs us : List ℕ)
    (first : c.steps and_then all_relocated c.changing ≡ planned r xs) (slots : reslotted_from 42 0 r ≡ planned s us) (o : OwnLeft img c r) where
  w : AcceptedWhole img
  w = accepted_whole image

  -- all steps that take are done
  all-taken : taking_steps c ≡ planned s (xs ++ us)
  unfolding taking_steps ◌and_then◌ after
  all-taken = rw (first, slots) refl

  -- so a block taken for a slot is a block of the disk that was not the system's
  slot_data : (y : ℕ) → 0 < occurrences y us → DataBlock img y
  slot_data y p = chain_block img w.good 1 (head_1 w.good) y (omega (arith, p, taken_free image own s (xs ++ us) all-taken y, occurrences-append y xs us))

  -- the anode blocks have moved
  moved : NewSlots (disk_size img) (last_reserved img) 42 0 r (with_these (system_owns img) (c.old ++ c.changing)) o.hd' us s
  moved = new_slots 42 0 r s us (with_these (system_owns img) (c.old ++ c.changing)) o.hd' o.sd' o.good slots

  -- the slots hold the blocks taken for them
  holds_new : (x : ℕ) → sum_below (one_if_holds s.slots x) 42 ≡ occurrences x us
  holds_new x = sym (holds_all s.slots x 42) ∙ moved.holds x

  -- so the system has them for the old ones
  system_new : (x : ℕ) → system_by s.slots x + sum_below (one_if_holds (slot_of img) x) 42 ≡ system_owns img x + occurrences x us
  system_new x = elim (less? x 3) [
    | inl l ↦ (let none : occurrences x us ≡ 0 = elim (less? 0 (occurrences x us)) [ inl p ↦ absurd (omega (arith, l, (slot_data x p).above)) | inr p ↦ omega (arith, p) ] in
        omega (arith, none, system_low s.slots x l, system_low (slot_of img) x l, slots_none img (accepted_slots image) x (inl l)))
    | inr l ↦ omega (arith, system_high s.slots x l, system_high (slot_of img) x l, holds_new x)
  ]

  -- THE OLD BLOCKS ARE IN NOBODY'S CHAIN
  pub limbo-left : LimboLeft img c s
  limbo-left = record {
    hd' = moved.hd';
    sd' = moved.sd';
    good = good-same {hd = moved.hd'} {sd = moved.sd'} moved.good (λ x. omega (arith, system_new x, old_are img (accepted_slots image) c o.good o.inside x));
  }

  -- and since the own steps only the free list is touched
  pub limbo_shift : Shift r.anodes o.hd' s.anodes limbo-left.hd' 1 1
  unfolding limbo-left
  limbo_shift = moved.shift
