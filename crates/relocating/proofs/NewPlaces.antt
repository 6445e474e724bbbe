-- The tables with a block in a new place, and the slots one after the other.
use Prim.Native.Nat.{ℕ, suc, ◌+◌, ◌-◌, ◌≤◌, ◌<◌}
use mathlib.Core.Path.{◌≡◌, refl, sym, ap, ◌∙◌}
use mathlib.Core.Logic.{◌≢◌}
use mathlib.Core.Bool.{true}
use mathlib.Core.List.{List, [], ◌∷◌, ◌++◌}
use native.Mathlib.Omega.{arith}
use lib.ListN.{length, get_or, set}
use borrow.Author.Tests.{eq-eqb, ne_eqb}
use Rattle.std.specs.Prelude.{Ok, Err}
use Rattle.disk.specs.declared.Refusal.{Refusal}
use Rattle.disk.specs.Refusals.{number_of}
use Rattle.rules.specs.Anodes.{Anodes, limit}
use Rattle.rules.specs.Chains.{run}
use Rattle.rules.specs.Plans.{Slotted, slotted, Plan, refused, planned, after, ◌and_then◌}
use Rattle.rules.specs.Space.{Found, nowhere, found, free_extent, without_first, rewritten}
use Rattle.rules.specs.Growth.{slot_from}
use Rattle.laws.specs.Plans.{after_none, after_both, then_stop}
use Rattle.laws.specs.Moves.{with_these}
use Rattle.laws.specs.Take.{StartOwned}
use Rattle.anodes.specs.Loaded.{anodes_from, slots_from, table_from}
use Rattle.safe_rules.specs.SafePlans.{owner_of, block_from, relocated, reslotted, reslotted_from}
use Rattle.safe_laws.specs.NewSlots.{new_slots}
use Rattle.disk.specs.declared.BlockNo.{BlockNo}
use Rattle.placing.specs.States.{GoodState}
use Rattle.placing.specs.Steps.{EndsIn}
use Rattle.placing.proofs.Tables.{set-changed}
use Rattle.relocating.specs.Places.{PlaceTaken, slot_plan}

-- ---- one block

module _ (s : Anodes) (slots : ℕ → ℕ) where
  -- a block of an owner in the place that a search found
  relocated_to : ℕ → Found → Plan Slotted
  relocated_to a c = elim c [ nowhere ↦ refused 27 | found p x ↦ planned (block_from (slotted s slots) a p x) (s.block x ∷ []) ]

  relocated_is : (y : ℕ) → relocated y (slotted s slots) ≡ relocated_to (owner_of s y) (free_extent limit true s)
  unfolding relocated relocated_to
  relocated_is y = refl

  -- no block is free
  pub nowhere_relocated : (y : ℕ) → free_extent limit true s ≡ nowhere → refused 27 ≡ relocated y (slotted s slots)
  unfolding relocated_to
  nowhere_relocated y e = sym (relocated_is y ∙ ap (relocated_to (owner_of s y)) e)

  -- the anode a that owns block y has the first free block
  pub found-relocated : (y a p x z : ℕ) (t : Anodes) → free_extent limit true s ≡ found p x → z ≡ s.block x → t ≡ without_first s p x → owner_of s y ≡ a → planned (slotted (rewritten t a 1 z) slots) (run z 1) ≡ relocated y (slotted s slots)
  unfolding relocated_to block_from run
  found-relocated y a p x z t e is out own = rw (is, out) (sym (relocated_is y ∙ ap (relocated_to (owner_of s y)) e ∙ ap (λ (b : ℕ). relocated_to b (found p x)) own))

module _ (s t : Anodes) where
  -- no place is free: so the block's move is refused
  pub relocate_stops : (why : Refusal) → PlaceTaken (Err why) s t → (y : ℕ) (slots : ℕ → ℕ) → refused (number_of why) ≡ relocated y (slotted s slots)
  relocate_stops why taken y slots = ap (λ (n : ℕ). refused n) taken.1 ∙ nowhere_relocated s slots y taken.0

  -- a place is taken: the owner of block y has it
  pub relocate_done : (z : BlockNo) → PlaceTaken (Ok z) s t → (a : ℕ) (u : Anodes) → u ≡ rewritten t a 1 z.0 → (y : ℕ) (slots : ℕ → ℕ) → owner_of s y ≡ a → planned (slotted u slots) (run z.0 1) ≡ relocated y (slotted s slots)
  relocate_done z taken a u is y slots own =
      let (p, x, at, block, out) = taken in
      ap (λ (v : Anodes). planned (slotted v slots) (run z.0 1)) is ∙ found-relocated s slots y a p x z.0 t at block out own

-- the slot k in the place that a search found
slot_to : ℕ → Slotted → Found → Plan Slotted
slot_to k s c = elim c [ nowhere ↦ refused 27 | found p x ↦ planned (slot_from s k p x) (s.anodes.block x ∷ []) ]

-- a slot that is not in use
pub slot_empty : (k : ℕ) (s : Slotted) → s.slots k ≡ 0 → slot_plan k s ≡ planned s []
unfolding slot_plan
slot_empty k s e = rw (eq-eqb (s.slots k) 0 e)

slot_used : (k : ℕ) (s : Slotted) → s.slots k ≢ 0 → slot_plan k s ≡ slot_to k s (free_extent limit true s.anodes)
unfolding slot_plan reslotted slot_to
slot_used k s u = rw (ne_eqb (s.slots k) 0 u) refl

-- one in use, where no block is free
pub slot_nowhere : (k : ℕ) (s : Slotted) → s.slots k ≢ 0 → free_extent limit true s.anodes ≡ nowhere → slot_plan k s ≡ refused 27
unfolding slot_to
slot_nowhere k s u e = slot_used k s u ∙ ap (slot_to k s) e

-- and where one is
pub slot_found : (c f n slots : List ℕ) (k p x z : ℕ) (t : Anodes) → k < length slots → get_or slots k 0 ≢ 0 → free_extent limit true (anodes_from c f n) ≡ found p x → z ≡ (anodes_from c f n).block x → t ≡ without_first (anodes_from c f n) p x →
    slot_plan k (table_from c f n slots) ≡ planned (slotted t (slots_from (set slots k z))) ((anodes_from c f n).block x ∷ [])
unfolding slot_to slot_from slots_from
slot_found c f n slots k p x z t low u e is out = slot_used k (table_from c f n slots) u ∙ ap (slot_to k (table_from c f n slots)) e ∙ rw (out, is, set-changed slots k ((anodes_from c f n).block x) low)

-- a slot in use, by the place that is taken for it
module _ (c f n slots : List ℕ) (k : ℕ) (used : get_or slots k 0 ≢ 0) (t : Anodes) where
  pub slot_stops : (why : Refusal) → PlaceTaken (Err why) (anodes_from c f n) t → slot_plan k (table_from c f n slots) ≡ refused (number_of why)
  unfolding slots_from
  slot_stops why taken = slot_nowhere k (table_from c f n slots) used taken.0 ∙ ap (λ (m : ℕ). refused m) (sym taken.1)

  pub slot_done : (z : BlockNo) → PlaceTaken (Ok z) (anodes_from c f n) t → k < length slots → EndsIn (Ok tt) (slotted t (slots_from (set slots k z.0))) (slot_plan k (table_from c f n slots))
  slot_done z taken low =
      let (p, x, at, block, out) = taken in
      ((anodes_from c f n).block x ∷ [], slot_found c f n slots k p x z.0 t low used at block out)

-- ---- the slots one after the other

-- from start on, the slots below k have had their turn, and s is left
pub record Reslots (start : Slotted) (k : ℕ) (s : Slotted) : Type 0 where
  pub last : ℕ
  pub state : GoodState last s
  pub taken : List ℕ
  pub rest : reslotted_from 42 0 start ≡ after taken (reslotted_from (42 - k) k s)

pub reslots_first : (start : Slotted) (last : ℕ) → GoodState last start → Reslots start 0 start
reslots_first start last state = record { last = last; state = state; taken = []; rest = sym (after_none (reslotted_from 42 0 start)) }

-- one slot's turn, then the others'
next_slot : (k m : ℕ) (s : Slotted) → reslotted_from (suc m) k s ≡ slot_plan k s and_then reslotted_from m (suc k)
unfolding reslotted_from slot_plan
next_slot k m s = refl

one_slot : (k : ℕ) (s t : Slotted) (ys : List ℕ) → slot_plan k s ≡ planned t ys → reslotted_from 1 k s ≡ planned t (ys ++ [])
unfolding reslotted_from ◌and_then◌ after
one_slot k s t ys e = next_slot k 0 s ∙ rw e refl

-- the state stays good
slot_state : (k last : ℕ) (s t : Slotted) (ys : List ℕ) → GoodState last s → slot_plan k s ≡ planned t ys → GoodState last t
slot_state k last s t ys state e =
    let w = new_slots 1 k s t (ys ++ []) state.system state.hd state.sd state.good (one_slot k s t ys e) in
    let start : StartOwned (λ x. state.system x) = state.start in
    record { n = state.n; system = with_these state.system (ys ++ []); hd = w.hd'; sd = w.sd'; small = state.small; start = λ x l. omega (arith, start x l); good = w.good }

module _ {start : Slotted} {k : ℕ} {s : Slotted} (r : Reslots start k s) (low : k < 42) (t : Slotted) where
  open_slot : reslotted_from (42 - k) k s ≡ slot_plan k s and_then reslotted_from (42 - (k + 1)) (k + 1)
  open_slot =
      let n : 42 - k ≡ suc (42 - (k + 1)) = omega arith in
      let i : suc k ≡ k + 1 = omega arith in
      ap (λ (m : ℕ). reslotted_from m k s) n ∙ next_slot k (42 - (k + 1)) s ∙ ap (λ (j : ℕ). slot_plan k s and_then reslotted_from (42 - (k + 1)) j) i

  -- done
  pub reslots_next : EndsIn (Ok tt) t (slot_plan k s) → Reslots start (k + 1) t
  unfolding ◌and_then◌
  reslots_next ends =
      let (ys, e) = ends in
      record {
        last = r.last;
        state = slot_state k r.last s t ys r.state e;
        taken = r.taken ++ ys;
        rest = r.rest ∙ ap (after r.taken) (open_slot ∙ ap (λ (p : Plan Slotted). p and_then reslotted_from (42 - (k + 1)) (k + 1)) e) ∙ after_both r.taken ys (reslotted_from (42 - (k + 1)) (k + 1) t);
      }

  -- refused, and so is all
  pub reslots_stop : (why : Refusal) → EndsIn (Err why) t (slot_plan k s) → reslotted_from 42 0 start ≡ refused (number_of why)
  unfolding after
  reslots_stop why e =
      r.rest ∙ ap (after r.taken) (open_slot ∙ then_stop (slot_plan k s) (reslotted_from (42 - (k + 1)) (k + 1)) (number_of why) e)

-- all have had theirs
pub reslots_all : {start : Slotted} {k : ℕ} {s : Slotted} → Reslots start k s → 42 ≤ k → EndsIn (Ok tt) s (reslotted_from 42 0 start)
unfolding reslotted_from after
reslots_all {start} {k} {s} r l =
    let e : 42 - k ≡ 0 = omega arith in
    (r.taken ++ [], r.rest ∙ ap (λ (m : ℕ). after r.taken (reslotted_from m k s)) e)
