-- The search for a free anode slot by slot hands back what the plain one does: the same anode, and the same number read.
use Prim.Native.Nat.{ℕ, zero, suc, ◌+◌, ◌*◌, ◌-◌, ◌/◌, ◌≤◌, ◌<◌}
use Rattle.std.specs.Prelude.{◌≡◌, ◌≢◌, ◌⊎◌, Bool, true, false, cond, ◌&&◌, eqb, leb}
use Rattle.std.proofs.Math.Path.{refl, sym}
use Rattle.std.proofs.Common.{ap, ◌∙◌}
use Rattle.std.proofs.Math.Logic.{inl, inr}
use Rattle.std.proofs.Math.Bool.{and-false}
use native.Mathlib.Omega.{arith}
use borrow.Author.Tests.{le-leb, lt-leb, lt-ltb, le-ltb, eq-eqb, ne_eqb}
use Rattle.rules.specs.Counting.{sum_below, least}
use Rattle.rules.specs.Anodes.{Anodes, limit, exists_by}
use Rattle.rules.specs.Space.{free, lowest_free}
use Rattle.rules.specs.Searched.{Searched, searched_to, anodes_read, searched, after_read, slot_start, slot_end, through_used, through_slots, searched_by_slots}
use Rattle.laws.specs.Tests.{same?, less?, eqb_cases}
use Rattle.laws.specs.Sums.{least_cases}

-- ---- one slot

-- where slot k starts: from 6 up, and only anodes below 6 are left out
pub start_in : (k : ℕ) → (6 ≤ slot_start k) × (82 * k ≤ slot_start k) × (slot_start k ≤ slot_end k) × ((j : ℕ) → 82 * k ≤ j → j < slot_start k → j < 6)
unfolding slot_start
start_in zero = (omega arith, omega arith, omega arith, λ j l m. m)
start_in (suc k) = (omega arith, omega arith, omega arith, λ j l m. absurd (omega arith))

module _ (slots : ℕ → ℕ) (s : Anodes) (n k : ℕ) where
  -- an empty slot is passed
  pub empty_passed : slots k ≡ 0 → through_slots slots s (suc n) k ≡ through_slots slots s n (suc k)
  unfolding through_slots
  empty_passed e = rw (e, through_slots)

  used_by : (b : ℕ) → slots k ≡ b → b ≢ 0 → through_slots slots s (suc n) k ≡ through_used s (slot_end k - slot_start k) (slot_start k) (through_slots slots s n (suc k))
  unfolding through_slots
  used_by zero e h = absurd (h refl)
  used_by (suc b) e h = rw (e, through_slots)

  -- a used one is looked through
  pub used_looked : slots k ≢ 0 → through_slots slots s (suc n) k ≡ through_used s (slot_end k - slot_start k) (slot_start k) (through_slots slots s n (suc k))
  used_looked h = used_by (slots k) refl h

-- the anodes of an empty slot are missing, those of a used one exist
pub none-exists : (slots : ℕ → ℕ) (j : ℕ) → slots (j / 82) ≡ 0 → exists_by slots j ≡ false
unfolding exists_by
none-exists slots j e = rw (eq-eqb (slots (j / 82)) 0 e)

pub one-exists : (slots : ℕ → ℕ) (j : ℕ) → slots (j / 82) ≢ 0 → exists_by slots j ≡ true
unfolding exists_by
one-exists slots j e = rw (ne_eqb (slots (j / 82)) 0 e)

-- ---- what a search of some anodes hands back

-- both fields say all
both_same : (r : Searched) (a n : ℕ) → r.anode ≡ a → r.read ≡ n → r ≡ searched_to a n
both_same r a n e f = rw (← e, ← f)

-- a sum whose last terms are 0
sum_gap : (f : ℕ → ℕ) (a b : ℕ) → a ≤ b → ((j : ℕ) → a ≤ j → j < b → f j ≡ 0) → sum_below f b ≡ sum_below f a
unfolding sum_below
sum_gap f a zero l h = let e : a ≡ 0 = omega arith in rw e
sum_gap f a (suc b) l h = elim (same? a (suc b)) [
  | inl e ↦ rw e
  | inr e ↦ omega (arith, sum_gap f a b (omega arith) (λ j p q. h j p (omega arith)), h b (omega arith) (omega arith))
]

module _ (ex : ℕ → Bool) (s : Anodes) where
  -- 1 for an anode that a search has to read
  abbrev one : ℕ → ℕ
  one a = cond (leb 6 a && ex a) 1 0

  -- the search of the anodes from `from` up to `end` hands back r
  record SearchedIn (from end : ℕ) (r : Searched) : Type 0 where
    up : from ≤ r.anode
    none_before : (j : ℕ) → from ≤ j → j < r.anode → free ex s j ≡ false
    stops : ((r.anode < end) × (free ex s r.anode ≡ true) × (sum_below one from + r.read ≡ sum_below one (suc r.anode))) ⊎ ((r.anode ≡ end) × (sum_below one from + r.read ≡ sum_below one end))

  sum-nil : sum_below one 0 ≡ 0
  unfolding sum_below
  sum-nil = refl

  sum-suc : (a : ℕ) → sum_below one (suc a) ≡ sum_below one a + one a
  unfolding sum_below
  sum-suc a = refl

  -- an anode that is used, free or not
  module _ (a : ℕ) (from_6 : 6 ≤ a) (there : ex a ≡ true) where
    one_is : one a ≡ 1
    one_is = rw (le-leb 6 a from_6, there)

    is_free : s.block a ≡ 0 → free ex s a ≡ true
    unfolding free
    is_free e = rw (le-leb 6 a from_6, eq-eqb (s.block a) 0 e, there)

    not_free : s.block a ≢ 0 → free ex s a ≡ false
    unfolding free
    not_free e = rw (le-leb 6 a from_6, ne_eqb (s.block a) 0 e)

  below-6 : (a : ℕ) → a < 6 → (free ex s a ≡ false) × (one a ≡ 0)
  unfolding free
  below-6 a l = (rw (lt-leb 6 a l), rw (lt-leb 6 a l))

  missing : (a : ℕ) → ex a ≡ false → (free ex s a ≡ false) × (one a ≡ 0)
  unfolding free
  missing a e = (rw (e, and-false (eqb (s.block a) 0), and-false (leb 6 a)), rw (e, and-false (leb 6 a)))

  -- nothing left to search
  at-end : (end : ℕ) → SearchedIn end end (searched_to end 0)
  at-end end = record { up = omega arith; none_before = λ j l m. absurd (omega arith); stops = inr (refl, omega arith) }

  -- a free one is found
  hit : (a end : ℕ) → a < end → free ex s a ≡ true → one a ≡ 1 → SearchedIn a end (searched_to a 1)
  hit a end l f e = record { up = omega arith; none_before = λ j l m. absurd (omega arith); stops = inl (l, f, omega (arith, sum-suc a, e)) }

  -- another is read, and the search goes on
  read_on : (a end : ℕ) (r : Searched) → free ex s a ≡ false → one a ≡ 1 → SearchedIn (suc a) end r → SearchedIn a end (after_read 1 r)
  unfolding after_read
  read_on a end r f e t = record {
    up = omega (arith, t.up);
    none_before = λ j l m. elim (same? j a) [ inl q ↦ rw q f | inr q ↦ t.none_before j (omega arith) m ];
    stops = elim t.stops [ inl q ↦ inl (q.0, q.1, omega (arith, q.2, sum-suc a, e)) | inr q ↦ inr (q.0, omega (arith, q.1, sum-suc a, e)) ];
  }

  -- anodes that are none are passed
  skip : (a b end : ℕ) (r : Searched) → a ≤ b → ((j : ℕ) → a ≤ j → j < b → (free ex s j ≡ false) × (one j ≡ 0)) → SearchedIn b end r → SearchedIn a end r
  skip a b end r l none t =
      let e = sum_gap one a b l (λ j p q. (none j p q).1) in
      record {
        up = omega (arith, t.up);
        none_before = λ j p m. elim (less? j b) [ inl q ↦ (none j p q).0 | inr q ↦ t.none_before j q m ];
        stops = elim t.stops [ inl q ↦ inl (q.0, q.1, omega (arith, q.2, e)) | inr q ↦ inr (q.0, omega (arith, q.1, e)) ];
      }

  -- the anodes of a used slot
  used_search : (n a b end : ℕ) (rest : Searched) → a + n ≡ b → b ≤ end → 6 ≤ a → ((j : ℕ) → a ≤ j → j < b → ex j ≡ true) → SearchedIn b end rest → SearchedIn a end (through_used s n a rest)
  unfolding through_used
  used_search zero a b end rest p l h there t = let e : b ≡ a = omega arith in rw e at t
  used_search (suc n) a b end rest p l h there t =
      elim (eqb_cases (s.block a) 0 (searched_to a 1) (after_read 1 (through_used s n (suc a) rest))) [
        | inl q ↦ rw q.1 (hit a end (omega arith) (is_free a h (there a (omega arith) (omega arith)) q.0) (one_is a h (there a (omega arith) (omega arith))))
        | inr q ↦ rw q.1 (read_on a end (through_used s n (suc a) rest) (not_free a h (there a (omega arith) (omega arith)) q.0) (one_is a h (there a (omega arith) (omega arith)))
            (used_search n (suc a) b end rest (omega arith) l (omega arith) (λ j x y. there j (omega arith) y) t))
      ]

  -- ---- all of them

  -- the plain search
  module _ (A : ℕ) (r : Searched) (t : SearchedIn 0 A r) where
    found_lowest : r.anode ≡ lowest_free A ex s
    unfolding lowest_free
    found_lowest = elim (least_cases (free ex s) A) [
      | inl d ↦ elim (less? (least (free ex s) A) r.anode) [
        | inl q ↦ absurd (rw (t.none_before (least (free ex s) A) (omega arith) q) at d.1)
        | inr q ↦ elim t.stops [
          | inl w ↦ elim (less? r.anode (least (free ex s) A)) [ inl x ↦ absurd (d.2 r.anode x (rw w.1 tt)) | inr x ↦ omega (arith, x, q) ]
          | inr w ↦ omega (arith, d.0, q, w.0)
        ]
      ]
      | inr d ↦ elim t.stops [ inl w ↦ absurd (d.1 r.anode w.0 (rw w.1 tt)) | inr w ↦ w.0 ∙ sym d.0 ]
    ]

    read_all : r.read ≡ anodes_read A ex s
    unfolding anodes_read
    read_all = rw (← found_lowest) (elim t.stops [
      | inl w ↦ rw (lt-ltb r.anode A w.0) (omega (arith, w.2, sum-nil))
      | inr w ↦ rw (w.0, le-ltb A A (omega arith)) (omega (arith, w.1, sum-nil))
    ])

    search_is : r ≡ searched A ex s
    unfolding searched
    search_is = both_same r (lowest_free A ex s) (anodes_read A ex s) found_lowest read_all

module _ (slots : ℕ → ℕ) (s : Anodes) where
  -- the slots from k up
  slots_search : (n k end : ℕ) → 82 * (n + k) ≡ end → SearchedIn (exists_by slots) s (82 * k) end (through_slots slots s n k)
  unfolding through_slots
  slots_search zero k end e = let q : end ≡ 82 * k = omega arith in rw q (at-end (exists_by slots) s (82 * k))
  slots_search (suc n) k end e = go (slots_search n (suc k) end (omega arith))
    where
      in_slot : (j : ℕ) → 82 * k ≤ j → j < 82 * suc k → j / 82 ≡ k
      in_slot j l m = omega arith

      go : SearchedIn (exists_by slots) s (82 * suc k) end (through_slots slots s n (suc k)) → SearchedIn (exists_by slots) s (82 * k) end (through_slots slots s (suc n) k)
      go t = elim (same? (slots k) 0) [
        | inl z ↦ rw (empty_passed slots s n k z) (skip (exists_by slots) s (82 * k) (82 * suc k) end (through_slots slots s n (suc k)) (omega arith)
            (λ j l m. missing (exists_by slots) s j (none-exists slots j (ap slots (in_slot j l m) ∙ z))) t)
        | inr u ↦ (let p = start_in k in
            rw (used_looked slots s n k u)
            (skip (exists_by slots) s (82 * k) (slot_start k) end (through_used s (slot_end k - slot_start k) (slot_start k) (through_slots slots s n (suc k))) p.1
            (λ j l m. below-6 (exists_by slots) s j (p.3 j l m))
            (used_search (exists_by slots) s (slot_end k - slot_start k) (slot_start k) (82 * suc k) end (through_slots slots s n (suc k)) (omega (arith, p.2)) (omega arith) p.0
            (λ j l m. one-exists slots j (λ z. u (ap slots (sym (in_slot j (omega (arith, p.1)) m)) ∙ z))) t)))
      ]

  -- over all 42 slots, an empty one passed in one step, the search hands back the lowest free anode and how many were read
  pub slot_search : searched_by_slots slots s ≡ searched limit (exists_by slots) s
  unfolding searched_by_slots
  slot_search = search_is (exists_by slots) s limit (through_slots slots s 42 0) (slots_search 42 0 limit refl)
