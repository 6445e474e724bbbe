-- Without growth, steps leave the slots, and no block becomes the system's.
use Rattle.std.specs.Prelude.{ℕ, ◌+◌, ◌≡◌, ◌≢◌, Bool, true, false, length}
use Rattle.std.proofs.Math.Path.{refl, ap}
use Rattle.std.proofs.Common.{sym, ◌∙◌, arith, lt-ltb}
use Rattle.std.proofs.Math.Logic.{inl, inr}
use mathlib.Core.List.{List, []}
use Rattle.rules.specs.Counting.{occurrences}
use Rattle.rules.specs.Anodes.{Anodes, limit}
use Rattle.rules.specs.Chains.{system_by}
use Rattle.rules.specs.Plans.{Slotted, slotted, Plan, planned, no_growth, afresh}
use Rattle.rules.specs.Space.{need_anode, side_end, join_with, move_back, with_spare, put_to, take_from, take_block, take_many, release, give_run, give_blocks, give_all, head_back, before_head, dropped}
use Rattle.rules.specs.Changes.{needed_block}
use Rattle.laws.specs.Plans.{refused≢planned, planned_same, then_planned, repeated-kept, slots_planned, afresh_planned}
use Rattle.laws.specs.Tests.{eqb_cases}
use Rattle.laws.specs.Sums.{one_at-same, one_at_other}
use Rattle.laws.specs.Bags.{pigeonhole}
use Rattle.laws.specs.Blocks.{blocks}
use Rattle.laws.specs.FreeExtent.{take_cases}
use Rattle.laws.specs.Moves.{Moved}
use Rattle.laws.specs.Take.{StartOwned}
use Rattle.laws.specs.GiveRuns.{give_cases, Meets, now, later, runs_meet}

-- the system owns blocks 0 to 2
pub start_owned : (slots : ℕ → ℕ) → StartOwned (system_by slots)
unfolding system_by
start_owned slots x l = rw (lt-ltb x 3 l) (omega arith)

-- slots that stay give the system no block
pub none_got : (slots slots' : ℕ → ℕ) (gs : List ℕ) → ((x : ℕ) → system_by slots' x ≡ system_by slots x + occurrences x gs) → slots' ≡ slots → (x : ℕ) → occurrences x gs ≡ 0
none_got slots slots' gs got e x = let r : system_by slots x ≡ system_by slots x + occurrences x gs = rw e at (got x) in omega arith

-- and so steps that leave them
pub none-grown : {A n last : ℕ} {s t : Slotted} {system hd : ℕ → ℕ} {from to h : ℕ} {ys gs : List ℕ} → Moved A n last s system hd from to h ys gs t → t.slots ≡ s.slots → (x : ℕ) → occurrences x gs ≡ 0
none-grown {s = s} {t} {gs = gs} w e x = none_got s.slots t.slots gs w.system_got e x

-- where blocks have gone from the free list to the chain of h and the slots stay, the free blocks and those that have gone are the free ones of before
pub taken-sum : {A n last : ℕ} {s t : Slotted} {system hd : ℕ → ℕ} {h : ℕ} {ys gs : List ℕ} → (w : Moved A n last s system hd 1 h h ys gs t) → h ≢ 1 → t.slots ≡ s.slots →
    blocks A w.hd' t.anodes.count 1 + length ys ≡ blocks A hd s.anodes.count 1
taken-sum {gs = gs} w h1 e =
    let none = none-grown w e in
    omega (arith, rw (one_at-same 1 1 refl, one_at_other _ 1 h1) at (w.moved 1), pigeonhole gs 0 (λ x l. none x) (λ x. omega (arith, none x)))

fixed_afresh : (step : (ℕ → Bool) → Anodes → Plan Anodes) (s t : Slotted) (ys : List ℕ) → afresh no_growth step s ≡ planned t ys → t.slots ≡ s.slots
fixed_afresh step s t ys e = elim (afresh_planned no_growth step s t ys e) [
  | inl p ↦ p.1
  | inr (r, q, f, i) ↦ absurd (let z : ◌≡◌ {A = ℕ} 0 1 = cc in omega arith)
]

module _ (A : ℕ) where
  pub spare_slots : (s t : Slotted) (ys : List ℕ) → with_spare A no_growth s ≡ planned t ys → t.slots ≡ s.slots
  unfolding with_spare
  spare_slots s t ys e = fixed_afresh (need_anode A) s t ys e

  pub take_slots : (dir : Bool) (h : ℕ) (s t : Slotted) (ys : List ℕ) → take_block A no_growth dir h s ≡ planned t ys → t.slots ≡ s.slots
  unfolding take_from put_to
  take_slots dir h s t ys e = elim (take_cases A no_growth dir h s) [
    | inl c ↦ absurd (refused≢planned 27 t ys (sym c.1 ∙ e))
    | inr (p, x, q, i) ↦ fixed_afresh _ _ t ys (sym i ∙ e)
  ]

  pub takes_slots : (dir : Bool) (k h : ℕ) (s t : Slotted) (ys : List ℕ) → take_many A no_growth dir k h s ≡ planned t ys → t.slots ≡ s.slots
  unfolding take_many
  takes_slots dir k h s t ys e = repeated-kept (take_block A no_growth dir h) (λ r. r.slots ≡ s.slots) (λ r q zs p f. take_slots dir h r q zs f ∙ p) k s t ys refl e

  module _ (last : ℕ) where
    pub release_slots : (c b : ℕ) (s t : Slotted) (ys : List ℕ) → release A no_growth last c b s ≡ planned t ys → t.slots ≡ s.slots
    unfolding release
    release_slots c b s t ys e = fixed_afresh _ s t ys e

    -- a run that goes back with an anode leaves the slots
    pub back_slots : (x c b : ℕ) (s t : Slotted) (ys : List ℕ) → move_back A last x c b s ≡ planned t ys → t.slots ≡ s.slots
    unfolding move_back
    back_slots x c b s t ys e = (slots_planned s.slots (join_with x (side_end A last s.anodes b) c b s.anodes) t ys e).1

    run_slots : (h p x d : ℕ) (s t : Slotted) (ys : List ℕ) → give_run A no_growth last h p x d s ≡ planned t ys → t.slots ≡ s.slots
    run_slots h p x d s t ys e = elim (give_cases A no_growth last h p x d s) [
      | inl c ↦ back_slots x d _ _ t ys (sym c.2 ∙ e)
      | inr c ↦ release_slots d _ _ t ys (sym c.1 ∙ e)
    ]

    -- and so do runs one after the other
    pub meets_slots : (h : ℕ) {k j : ℕ} {s r : Slotted} {zs : List ℕ} → Meets A no_growth last h k s j r zs → r.slots ≡ s.slots
    meets_slots h now = refl
    meets_slots h (later {s = s} {t = t} p x d ys next gives m) = meets_slots h m ∙ run_slots h p x d s t ys gives

    -- and blocks of a chain that go back
    pub runs_slots : (k h : ℕ) (s t : Slotted) (ys : List ℕ) → give_blocks A no_growth last k h s ≡ planned t ys → t.slots ≡ s.slots
    unfolding give_blocks
    runs_slots k h s t ys e = meets_slots h (runs_meet A no_growth last k k h (omega arith) s t ys e).1

    -- and a whole chain that goes back
    pub all_slots : (h : ℕ) (s t : Slotted) (ys : List ℕ) → give_all A no_growth last h s ≡ planned t ys → t.slots ≡ s.slots
    unfolding give_all head_back
    all_slots h s t ys e =
        let (r, zs, xs, p, q, i) = then_planned (give_blocks A no_growth last (before_head A last s.anodes h) h s) (head_back A last h) t ys e in
        let end = slotted (dropped A r.anodes h) r.slots in
        elim (eqb_cases (r.anodes.count h) 0 (planned end []) (move_back A last h (r.anodes.count h) (r.anodes.block h) end)) [
          | inl c ↦ ap (λ (u : Slotted). u.slots) (sym (planned_same end t [] xs (sym c.1 ∙ q)).0) ∙ runs_slots (before_head A last s.anodes h) h s r zs p
          | inr c ↦ back_slots h (r.anodes.count h) (r.anodes.block h) end t xs (sym c.1 ∙ q) ∙ runs_slots (before_head A last s.anodes h) h s r zs p
        ]

-- and so does a block that a make takes where it needs one
pub needed_slots : (needed : Bool) (h : ℕ) (s t : Slotted) (ys : List ℕ) → needed_block no_growth needed h s ≡ planned t ys → t.slots ≡ s.slots
unfolding needed_block
needed_slots true h s t ys e = take_slots limit true h s t ys e
needed_slots false h s t ys e = ap (λ (q : Slotted). q.slots) (sym (planned_same s t [] ys e).0)
