-- The anode that a search finds in good anodes, its first block out of it, and what a step answers.
use Prim.Native.Nat.{ℕ, ◌+◌, ◌<◌}
use mathlib.Core.Path.{◌≡◌, refl, sym, ap, ◌∙◌}
use mathlib.Core.Logic.{◌≢◌, inl, inr}
use mathlib.Core.Bool.{Bool}
use mathlib.Core.List.{List}
use native.Mathlib.Omega.{arith}
use Rattle.std.specs.Result.{IsErrAnd}
use Rattle.std.proofs.lemmas.Result.{err_from_is_err_and}
use Rattle.std.specs.Prelude.{Option, Some, None, Result, Ok, Err, ok_or}
use Rattle.disk.specs.declared.BlockNo.{BlockNo}
use Rattle.disk.specs.declared.Refusal.{Refusal}
use Rattle.rules.specs.Anodes.{Anodes}
use Rattle.rules.specs.Chains.{cut}
use Rattle.rules.specs.Plans.{Slotted, slotted, at_slots}
use Rattle.rules.specs.Space.{nowhere, found, free_extent, without_run, without_first}
use Rattle.laws.specs.Links.{next_below}
use Rattle.laws.specs.Cut.{cut_cases}
use Rattle.laws.specs.Space.{Good}
use Rattle.laws.specs.Searches.{FoundIn}
use Rattle.laws.specs.Owners.{full_used, full_inside, full-0}
use Rattle.laws.specs.FreeExtent.{extent-found}
use Rattle.searches.specs.declared.Extent.{Extent}
use Rattle.searches.specs.Found.{found_of}
use Rattle.placing.specs.Steps.{step_plan, UnlessMoved}
use Rattle.placing.specs.States.{GoodState}

-- the anode x that a search finds, and the one before it
pub found_at : {ex : ℕ → Bool} {n last : ℕ} {s : Anodes} {system hd sd : ℕ → ℕ} → Good 3444 ex n last s system hd sd → (next : ℕ → ℕ) → ((a : ℕ) → next a ≢ 0 → next a ≡ s.next a) →
    {m : ℕ} {l : List ℕ} (p x : ℕ) → FoundIn s.count next m l 0 p x → (p < 3444) × (x < 3444) × (0 < s.count x)
found_at g next goes p x w = (
  elim w.before [ inl c ↦ omega (arith, c.1) | inr c ↦ next_below g.linked.view p (λ z. full-0 g x w.full (sym c ∙ goes p (λ q. full-0 g x w.full (sym c ∙ q)) ∙ z)) ],
  g.linked.view.below x (full_used g x w.full),
  w.full,
)

-- along a side the next anode is the chain's
cut-goes : (next : ℕ → ℕ) (a : ℕ) → cut next a ≢ 0 → cut next a ≡ next a
cut-goes next a q = elim (cut_cases next a) [ inl d ↦ absurd (q d.1) | inr d ↦ d.1 ]

-- a free extent that is found: where its anode is, and the one before it; its first block has another behind it on the disk, or ends it
pub extent-at : {last : ℕ} {s : Slotted} → GoodState last s → (dir : Bool) (p x : ℕ) → free_extent 3444 dir s.anodes ≡ found p x → (p < 3444) × (x < 3444) × (0 < s.anodes.count x) × (s.anodes.block x < 65535)
extent-at {s = s} state dir p x e =
    let (m, o, f) = extent-found 3444 dir s.anodes state.good p x e in
    let w = found_at state.good (cut s.anodes.next) (cut-goes s.anodes.next) p x f in
    (w.0, w.1, w.2, omega (arith, full_inside state.good x w.2, w.2, state.small))

-- its first block out, where b is the one behind it
pub first_out : (s : Anodes) (p x b : ℕ) → b ≡ s.block x + 1 → without_run s 2 p x 1 b ≡ without_first s p x
unfolding without_first
first_out s p x b e = rw e

-- a step at fixed slots answers a plan of the anodes and slots
pub step_slots : (slots : ℕ → ℕ) (r : Result BlockNo Refusal) (c : ℕ) (t : Anodes) → at_slots slots (step_plan r c t) ≡ step_plan r c (slotted t slots)
unfolding at_slots
step_slots slots (Ok y) c t = refl
step_slots slots (Err x) c t = refl

-- a refused step has left what it was lent
pub left_so : (r : Result BlockNo Refusal) (s t : Anodes) → UnlessMoved r s t → (why : Refusal) → r ≡ Err why → t ≡ s
left_so r s t u why e = let h : UnlessMoved (Err why) s t = rw e at u in h

-- an extent that is found, where none is a refusal
module _ (o : Option Extent) (r : Result Extent Refusal) (why : Refusal) (e : r ≡ ok_or o why) where
  pub some_found : (x : Extent) → r ≡ Ok x → found_of o ≡ found x.before.0 x.anode.0
  some_found x q = go o (sym e ∙ q)
    where
      go : (o : Option Extent) → ok_or o why ≡ Ok x → found_of o ≡ found x.before.0 x.anode.0
      go None k = cc
      go (Some y) k = let h : y ≡ x = cc in rw h

  pub none_found : (w : Refusal) → r ≡ Err w → (found_of o ≡ nowhere) × (w ≡ why)
  none_found w q = go o (sym e ∙ q)
    where
      go : (o : Option Extent) → ok_or o why ≡ Err w → (found_of o ≡ nowhere) × (w ≡ why)
      go None k = (refl, cc)
      go (Some y) k = cc

-- a refusal that is passed on as it is
pub passed_on : {X : Type 0} (r : Result X Refusal) (w : Refusal) → IsErrAnd r (λ y. y ≡ w) → r ≡ Err w
passed_on r w e = let p = err_from_is_err_and r e in p.1 ∙ ap Err p.2
