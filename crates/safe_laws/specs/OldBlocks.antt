-- The old blocks of a safe change, in rising order: those of the chain, the directory block and the anode blocks, each once.
use Prim.Native.Nat.{ℕ, zero, suc, ◌+◌, ◌*◌, ◌≤◌, ◌<◌}
use Rattle.std.specs.Prelude.{◌≡◌, refl, ◌≢◌, ◌⊎◌, Bool, false, cond, List, [], ◌∷◌, ◌++◌, eqb, leb}
use Rattle.std.proofs.Math.Path.{sym, ap}
use Rattle.std.proofs.Common.{◌∙◌, arith, eq-eqb, ne_eqb, lt-ltb, le-ltb}
use Rattle.std.proofs.Math.Logic.{inl, inr}
use Rattle.disk.specs.Root.{slot_of}
use Rattle.rules.specs.Counting.{one_at, sum_below, occurrences}
use Rattle.rules.specs.Anodes.{Anodes, limit}
use Rattle.rules.specs.Chains.{one_if_holds, system_by, system_owns, owners}
use Rattle.rules.specs.Accepted.{disk_size, wrong_slots}
use Rattle.laws.specs.Tests.{same?, less?}
use Rattle.laws.specs.Sums.{one_at-same, one_at_other, sum-zero}
use Rattle.laws.specs.Bags.{occurrences-nil, occurrences-cons, occurrences-append}
use Rattle.laws.specs.Space.{Good}
use Rattle.laws.specs.Moves.{with_these}
use Rattle.laws.specs.TestsPassed.{right_slot}
use Rattle.safe_rules.specs.SafePlans.{SafeChange, rising, slot_blocks, old_blocks}

-- ---- a list in rising order

-- one number, if it stands there
one_number : (l : List ℕ) (y x : ℕ) → occurrences y l ≤ 1 → occurrences x (cond (leb 1 (occurrences y l)) (y ∷ []) []) ≡ one_at y x * occurrences y l
one_number l y x few = elim (less? 0 (occurrences y l)) [
  | inl p ↦ (let e : occurrences y l ≡ 1 = omega arith in rw e (omega (arith, occurrences-cons x y [], occurrences-nil x)))
  | inr p ↦ (let e : occurrences y l ≡ 0 = omega arith in rw e (omega (arith, occurrences-nil x)))
]

module _ (l : List ℕ) (few : (z : ℕ) → occurrences z l ≤ 1) where
  -- what lies outside the n numbers from y upward does not stand there
  rising-out : (n y x : ℕ) → (x < y) ⊎ (y + n ≤ x) → occurrences x (rising l n y) ≡ 0
  unfolding rising
  rising-out zero y x o = occurrences-nil x
  rising-out (suc n) y x o =
      let off : y ≢ x = λ e. elim o [ inl i ↦ omega (arith, i, e) | inr i ↦ omega (arith, i, e) ] in
      let on : (x < suc y) ⊎ (suc y + n ≤ x) = elim o [ inl i ↦ inl (omega (arith, i)) | inr i ↦ inr (omega (arith, i)) ] in
      omega (arith, occurrences-append x (cond (leb 1 (occurrences y l)) (y ∷ []) []) (rising l n (suc y)), rw (one_at_other y x off) at (one_number l y x (few y)), rising-out n (suc y) x on)

  -- what lies in stands there as in the list
  rising_in : (n y x : ℕ) → y ≤ x → x < y + n → occurrences x (rising l n y) ≡ occurrences x l
  unfolding rising
  rising_in zero y x from to = absurd (omega (arith, from, to))
  rising_in (suc n) y x from to = occurrences-append x (cond (leb 1 (occurrences y l)) (y ∷ []) []) (rising l n (suc y)) ∙ elim (same? y x) [
    | inl e ↦ omega (arith, rw (one_at-same y x e) at (one_number l y x (few y)), ap (λ (z : ℕ). occurrences z l) e, rising-out n (suc y) x (inl (omega (arith, e))))
    | inr e ↦ omega (arith, rw (one_at_other y x e) at (one_number l y x (few y)), rising_in n (suc y) x (omega (arith, from, e)) (omega (arith, to)))
  ]

-- ---- the anode blocks

pub slot_occurrences : (img : List ℕ) (x k : ℕ) → occurrences x (slot_blocks (slot_of img) k) ≡ sum_below (one_if_holds (slot_of img) x) k
unfolding slot_blocks sum_below one_if_holds
slot_occurrences img x zero = occurrences-nil x
slot_occurrences img x (suc k) = occurrences-append x (slot_blocks (slot_of img) k) (cond (eqb (slot_of img k) 0) [] (slot_of img k ∷ [])) ∙ elim (same? (slot_of img k) 0) [
  | inl z ↦ rw (eq-eqb (slot_of img k) 0 z) (omega (arith, slot_occurrences img x k, occurrences-nil x))
  | inr u ↦ rw (ne_eqb (slot_of img k) 0 u) (omega (arith, slot_occurrences img x k, occurrences-cons x (slot_of img k) [], occurrences-nil x))
]

-- the system's blocks
pub system_low : (slots : ℕ → ℕ) (x : ℕ) → x < 3 → system_by slots x ≡ 1
unfolding system_by
system_low slots x l = rw (lt-ltb x 3 l) refl

pub system_high : (slots : ℕ → ℕ) (x : ℕ) → 3 ≤ x → system_by slots x ≡ sum_below (one_if_holds slots x) 42
unfolding system_by
system_high slots x l = rw (le-ltb x 3 l) refl

-- no slot holds one of the first three, nor one past the disk
pub slots_none : (img : List ℕ) → wrong_slots img ≡ false → (x : ℕ) → (x < 3) ⊎ (disk_size img ≤ x) → sum_below (one_if_holds (slot_of img) x) 42 ≡ 0
unfolding one_if_holds
slots_none img right x o = sum-zero (one_if_holds (slot_of img) x) 42 (λ i l. elim (same? (slot_of img i) 0) [
  | inl z ↦ rw (eq-eqb (slot_of img i) 0 z) refl
  | inr u ↦ (let s = right_slot img right i u in
      rw (ne_eqb (slot_of img i) 0 u) (one_at_other (slot_of img i) x (λ e. elim o [ inl k ↦ omega (arith, k, e, s.above) | inr k ↦ omega (arith, k, e, s.below) ])))
])

-- ---- all of them, on a good state whose blocks in nobody's chain are the change's

module _ (img : List ℕ) (right : wrong_slots img ≡ false) (c : SafeChange) {ex : ℕ → Bool} {last : ℕ} {s : Anodes} {hd sd : ℕ → ℕ}
    (g : Good limit ex (disk_size img) last s (with_these (system_owns img) (c.old ++ c.changing)) hd sd) (inside : (x : ℕ) → 0 < occurrences x (c.old ++ c.changing) → x < disk_size img) where
  -- all that goes back
  abbrev all : List ℕ
  all = c.old ++ (c.changing ++ slot_blocks (slot_of img) 42)

  all-occurrences : (x : ℕ) → occurrences x (c.old ++ (c.changing ++ slot_blocks (slot_of img) 42)) ≡ occurrences x (c.old ++ c.changing) + sum_below (one_if_holds (slot_of img) x) 42
  all-occurrences x = omega (arith, occurrences-append x c.old (c.changing ++ slot_blocks (slot_of img) 42), occurrences-append x c.changing (slot_blocks (slot_of img) 42), occurrences-append x c.old c.changing, slot_occurrences img x 42)

  owned : (x : ℕ) → x < disk_size img → system_owns img x + occurrences x (c.old ++ c.changing) ≤ 1
  unfolding owners
  owned x l = omega (arith, g.own.not-two x l)

  -- none of the first three is among them, nor one past the disk
  all_none : (x : ℕ) → (x < 3) ⊎ (disk_size img ≤ x) → occurrences x (c.old ++ (c.changing ++ slot_blocks (slot_of img) 42)) ≡ 0
  all_none x o = elim (less? x (disk_size img)) [
    | inl l ↦ (let low : x < 3 = elim o [ inl i ↦ i | inr i ↦ absurd (omega (arith, i, l)) ] in omega (arith, all-occurrences x, owned x l, system_low (slot_of img) x low, slots_none img right x o))
    | inr l ↦ elim (less? 0 (occurrences x (c.old ++ c.changing))) [
      | inl p ↦ absurd (omega (arith, l, inside x p))
      | inr p ↦ omega (arith, p, all-occurrences x, slots_none img right x o)
    ]
  ]

  all_once : (x : ℕ) → occurrences x (c.old ++ (c.changing ++ slot_blocks (slot_of img) 42)) ≤ 1
  all_once x = elim (less? x (disk_size img)) [
    | inr l ↦ omega (arith, all_none x (inr l))
    | inl l ↦ elim (less? x 3) [
      | inl k ↦ omega (arith, all_none x (inl k))
      | inr k ↦ omega (arith, all-occurrences x, owned x l, system_high (slot_of img) x k)
    ]
  ]

  -- the old blocks are the change's and the anode blocks
  pub old_are : (x : ℕ) → occurrences x (old_blocks img c) ≡ occurrences x (c.old ++ c.changing) + sum_below (one_if_holds (slot_of img) x) 42
  unfolding old_blocks
  old_are x = elim (less? x (disk_size img)) [
    | inl l ↦ rising_in all all_once (disk_size img) 0 x (omega arith) (omega (arith, l)) ∙ all-occurrences x
    | inr l ↦ rising-out all all_once (disk_size img) 0 x (inr (omega (arith, l))) ∙ sym (all_none x (inr l)) ∙ all-occurrences x
  ]

  -- and lie on the disk behind its first three
  pub old_inside : (x : ℕ) → 0 < occurrences x (old_blocks img c) → (3 ≤ x) × (x < disk_size img)
  old_inside x p = (
    elim (less? x 3) [ inl l ↦ absurd (omega (arith, p, old_are x, all-occurrences x, all_none x (inl l))) | inr l ↦ l ],
    elim (less? x (disk_size img)) [ inl l ↦ l | inr l ↦ absurd (omega (arith, p, old_are x, all-occurrences x, all_none x (inr l))) ],
  )
