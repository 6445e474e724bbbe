-- The anodes and slots that the plan of a safe change leaves: they may be stored, and from its own steps on only the free list is touched.
use Rattle.std.specs.Prelude.{ℕ, ◌≡◌, List, ◌++◌}
use Rattle.std.proofs.Common.{ap}
use Rattle.rules.specs.Chains.{system_by}
use Rattle.rules.specs.Accepted.{disk_size, last_reserved}
use Rattle.rules.specs.Plans.{Slotted, planned, ◌and_then◌}
use Rattle.laws.specs.Space.{good-same}
use Rattle.laws.specs.Plans.{then_planned}
use Rattle.laws.specs.Moves.{Shift, shift_trans}
use Rattle.laws.specs.FixedSlots.{start_owned}
use Rattle.change_laws.specs.Image.{AcceptedImage, TableFor}
use Rattle.safe_rules.specs.SafePlans.{SafeChange, all_relocated, reslotted_from, given_back, old_blocks, taking_steps, safe_steps}
use Rattle.safe_laws.specs.AllTaken.{OwnSteps, safe_taken}
use Rattle.safe_laws.specs.GivenBack.{GaveBack, given_back_lem}
use Rattle.safe_laws.specs.LeftImage.{back_slots, slots_for}
use Rattle.safe_laws.specs.Limbo.{OwnLeft, LimboLeft, old-placed, limbo-left, limbo_shift}

-- the steps of a plan that was done: the change's own with the directory block's, then the anode blocks', then the give-backs
pub record DoneSteps (img : List ℕ) (c : SafeChange) (t : Slotted) (ys : List ℕ) : Type 0 where
  pub r : Slotted
  pub s : Slotted
  pub xs : List ℕ
  pub us : List ℕ
  pub gs : List ℕ
  pub first : c.steps and_then all_relocated c.changing ≡ planned r xs
  pub slots : reslotted_from 42 0 r ≡ planned s us
  pub back : given_back (last_reserved img) (old_blocks img c) s ≡ planned t gs
  pub are : ys ≡ xs ++ us

-- what all leave: a table that may be stored, and since r only the free list is touched
pub record LeftTable (img : List ℕ) (r : Slotted) (hd : ℕ → ℕ) (t : Slotted) : Type 0 where
  pub hd' : ℕ → ℕ
  pub sd' : ℕ → ℕ
  pub table : TableFor img t hd' sd'
  pub shift : Shift r.anodes hd t.anodes hd' 1 1

module _ {img : List ℕ} (image : AcceptedImage img) {left : ℕ → Type 0} {c : SafeChange} (own : OwnSteps img left c) (t : Slotted) (ys : List ℕ) (plan : safe_steps img c ≡ planned t ys) where
  pub done_steps : DoneSteps img c t ys
  unfolding taking_steps
  done_steps =
      let (s, gs, p, q) = safe_taken image own t ys plan in
      let (r, xs, us, f, k, i) = then_planned (c.steps and_then all_relocated c.changing) (reslotted_from 42 0) s ys p in
      record { r = r; s = s; xs = xs; us = us; gs = gs; first = f; slots = k; back = q; are = i }

  module _ (d : DoneSteps img c t ys) (o : OwnLeft img c d.r) where
    -- first every anode block has a new place
    abbrev limbo : LimboLeft img c d.s
    limbo = limbo-left image own d.r d.s d.xs d.us d.first d.slots o

    -- then the old blocks go back
    gave : GaveBack (disk_size img) (last_reserved img) d.s (system_by d.s.slots) limbo.hd' t
    gave = given_back_lem (old_blocks img c) d.s t d.gs (system_by d.s.slots) limbo.hd' limbo.sd' (start_owned d.s.slots) limbo.good (old-placed image o) d.back

    -- and leave the slots
    same_slots : t.slots ≡ d.s.slots
    same_slots = back_slots (last_reserved img) (old_blocks img c) d.s t d.gs d.back

    -- THE TABLE THAT IS LEFT
    pub left-table : LeftTable img d.r o.hd' t
    left-table = record {
      hd' = gave.hd';
      sd' = gave.sd';
      table = record { slots_for = slots_for image own t ys plan; good = good-same gave.good (λ x. ap (λ (f : ℕ → ℕ). system_by f x) same_slots) };
      shift = shift_trans {hd'' = gave.hd'} (limbo_shift image own d.r d.s d.xs d.us d.first d.slots o) gave.shift;
    }
