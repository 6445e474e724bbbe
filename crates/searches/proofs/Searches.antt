-- The searches along a chain and among the free anodes, one anode after the other. Assumes nothing.
use Prim.Native.Nat.{ℕ, zero, suc, ◌+◌, ◌*◌, ◌-◌, ◌≤◌, ◌<◌}
use mathlib.Core.Path.{◌≡◌, refl, sym, ap, subst, ◌∙◌}
use mathlib.Core.Logic.{◌≢◌, ◌⊎◌, inl, inr}
use mathlib.Core.Bool.{Bool, true, false, cond, not}
use Rattle.std.specs.Prelude.{Option, Some, None, is_some}
use mathlib.Core.List.{List, ◌∷◌}
use native.Mathlib.Omega.{arith}
use lib.ListN.{get_or}
use borrow.Author.Tests.{eq-eqb, ne_eqb}
use Rattle.rules.specs.Anodes.{Anodes, exists_by}
use Rattle.rules.specs.Chains.{chain_of, cut, side}
use Rattle.rules.specs.Space.{found, first_found, first_extent, free_extent, lowest_free}
use Rattle.rules.specs.Searched.{Searched, searched_to, searched, after_read, slot_start, slot_end, through_used, through_slots, searched_by_slots}
use Rattle.laws.specs.Tests.{same?}
use Rattle.laws.specs.SlotSearch.{start_in, empty_passed, used_looked, slot_search}
use Rattle.laws.specs.Searches.{full_at, nowhere_at}
use Rattle.anodes.specs.Loaded.{anodes_from}
use Rattle.searches.specs.declared.Extent.{Extent}
use Rattle.searches.specs.Found.{found_of}

-- ---- the search for a free anode

read_none : (r : Searched) → after_read 0 r ≡ r
unfolding after_read
read_none r = let e : 0 + r.read ≡ r.read = omega arith in rw e

read_both : (i j k : ℕ) (r : Searched) → k ≡ i + j → after_read k r ≡ after_read i (after_read j r)
unfolding after_read
read_both i j k r p = let e : k + r.read ≡ i + (j + r.read) = omega arith in rw e

module _ (s : Anodes) (n a : ℕ) where
  used_hit : (rest : Searched) → s.block a ≡ 0 → through_used s (suc n) a rest ≡ searched_to a 1
  unfolding through_used
  used_hit rest e = rw (eq-eqb (s.block a) 0 e)

  used_on : (rest : Searched) → s.block a ≢ 0 → through_used s (suc n) a rest ≡ after_read 1 (through_used s n (suc a) rest)
  unfolding through_used
  used_on rest e = rw (ne_eqb (s.block a) 0 e)

-- the loop over the anodes of a used slot: a - from of them are read, none of them free
module _ (c firsts n : List ℕ) (from end a : ℕ) (low : from ≤ a) where
  -- before the first of them
  pub used_from : from ≡ a → after_read (a - from) (through_used (anodes_from c firsts n) (end - a) a (searched_to end 0)) ≡ through_used (anodes_from c firsts n) (end - from) from (searched_to end 0)
  used_from e = let z : a - from ≡ 0 = omega arith in rw (z, e) (read_none (through_used (anodes_from c firsts n) (end - a) a (searched_to end 0)))

  -- a free one ends it
  pub used_found : a < end → get_or firsts a 0 ≡ 0 → searched_to a (a - from + 1) ≡ after_read (a - from) (through_used (anodes_from c firsts n) (end - a) a (searched_to end 0))
  unfolding after_read anodes_from
  used_found l e =
      let m : end - a ≡ suc (end - (a + 1)) = omega arith in
      rw (m, used_hit (anodes_from c firsts n) (end - (a + 1)) a (searched_to end 0) e)

  -- another is read
  pub used_next : a < end → get_or firsts a 0 ≢ 0 → after_read (a + 1 - from) (through_used (anodes_from c firsts n) (end - (a + 1)) (a + 1) (searched_to end 0)) ≡ after_read (a - from) (through_used (anodes_from c firsts n) (end - a) a (searched_to end 0))
  unfolding anodes_from
  used_next l e =
      let m : end - a ≡ suc (end - (a + 1)) = omega arith in
      let b : suc a ≡ a + 1 = omega arith in
      rw (m, used_on (anodes_from c firsts n) (end - (a + 1)) a (searched_to end 0) e, b) (read_both (a - from) 1 (a + 1 - from) (through_used (anodes_from c firsts n) (end - (a + 1)) (a + 1) (searched_to end 0)) (omega arith))

  -- none was free
  pub used_end : a ≡ end → searched_to end (end - from) ≡ after_read (a - from) (through_used (anodes_from c firsts n) (end - a) a (searched_to end 0))
  unfolding after_read through_used
  used_end e =
      let m : end - a ≡ 0 = omega arith in
      let b : a - from + 0 ≡ end - from = omega arith in
      rw (m, b)

-- how a search of n anodes from a up to b, which alone hands back r, goes on behind them
abbrev Splits : Anodes → ℕ → ℕ → ℕ → Searched → Type 0
Splits s n a b r =
    (r.read ≤ n) × (((r.anode < b) × ((rest : Searched) → through_used s n a rest ≡ r)) ⊎ ((b ≤ r.anode) × ((rest : Searched) → through_used s n a rest ≡ after_read r.read rest)))

module _ (s : Anodes) (n a b : ℕ) where
  split_hit : a < b → s.block a ≡ 0 → Splits s (suc n) a b (searched_to a 1)
  split_hit l z = (omega arith, inl (l, λ rest. used_hit s n a rest z))

  split_on : s.block a ≢ 0 → (r : Searched) → Splits s n (suc a) b r → Splits s (suc n) a b (after_read 1 r)
  unfolding after_read
  split_on u r h = (
    omega (arith, h.0),
    elim h.1 [
      | inl q ↦ inl (q.0, λ rest. used_on s n a rest u ∙ ap (after_read 1) (q.1 rest))
      | inr q ↦ inr (q.0, λ rest. used_on s n a rest u ∙ ap (after_read 1) (q.1 rest) ∙ sym (read_both 1 r.read (1 + r.read) rest refl))
    ],
  )

used_split : (s : Anodes) (n a b : ℕ) → a + n ≡ b → Splits s n a b (through_used s n a (searched_to b 0))
unfolding through_used
used_split s zero a b e = (omega arith, inr (omega arith, λ rest. sym (read_none rest)))
used_split s (suc n) a b e = elim (same? (s.block a) 0) [
  | inl z ↦ subst (Splits s (suc n) a b) (sym (used_hit s n a (searched_to b 0) z)) (split_hit s n a b (omega arith) z)
  | inr u ↦ subst (Splits s (suc n) a b) (sym (used_on s n a (searched_to b 0) u)) (split_on s n a b u (through_used s n (suc a) (searched_to b 0)) (used_split s n (suc a) b (omega arith)))
]

-- ---- slot by slot

-- where slot 0 starts
pub start_first : (k : ℕ) → k ≡ 0 → 6 ≡ slot_start k
unfolding slot_start
start_first zero e = refl
start_first (suc k) e = absurd (omega arith)

-- where any other starts
pub start-later : (k : ℕ) → k ≢ 0 → k * 82 ≡ slot_start k
unfolding slot_start
start-later zero e = absurd (e refl)
start-later (suc k) e = omega arith

-- no slot starts behind its end
pub start-below : (k a : ℕ) → a ≡ slot_start k → a ≤ k * 82 + 82
start-below k a e = omega (arith, (start_in k).2)

-- how the search goes on behind slot k, which alone hands back r
abbrev SlotSplits : (ℕ → ℕ) → Anodes → ℕ → Searched → Type 0
SlotSplits slots s k r =
    (r.read ≤ 82) × (((r.anode < slot_end k) × ((n : ℕ) → through_slots slots s (suc n) k ≡ r)) ⊎ ((slot_end k ≤ r.anode) × ((n : ℕ) → through_slots slots s (suc n) k ≡ after_read r.read (through_slots slots s n (suc k)))))

module _ (slots : ℕ → ℕ) (s : Anodes) (k : ℕ) where
  -- an empty slot alone
  pub empty_alone : slots k ≡ 0 → searched_to (k * 82 + 82) 0 ≡ through_slots slots s 1 k
  unfolding through_slots
  empty_alone z = let e : k * 82 + 82 ≡ slot_end k = omega arith in rw e (sym (empty_passed slots s 0 k z))

  -- a used one
  pub used_alone : (from end : ℕ) → from ≡ slot_start k → end ≡ k * 82 + 82 → slots k ≢ 0 → through_used s (end - from) from (searched_to end 0) ≡ through_slots slots s 1 k
  unfolding through_slots
  used_alone from end p q u = let e : end ≡ slot_end k = omega arith in rw (e, p) (sym (used_looked slots s 0 k u))

  empty_is : searched_to (slot_end k) 0 ≡ searched_to (k * 82 + 82) 0
  empty_is = let e : k * 82 + 82 ≡ slot_end k = omega arith in rw e

  slot_split : SlotSplits slots s k (through_slots slots s 1 k)
  slot_split = elim (same? (slots k) 0) [
    | inl z ↦ subst (SlotSplits slots s k) (empty_is ∙ empty_alone z) (omega arith, inr (omega arith, λ n. empty_passed slots s n k z ∙ sym (read_none (through_slots slots s n (suc k)))))
    | inr u ↦ subst (SlotSplits slots s k) (used_alone (slot_start k) (slot_end k) refl (omega arith) u) (
        let p = start_in k in
        let h = used_split s (slot_end k - slot_start k) (slot_start k) (slot_end k) (omega (arith, p.2)) in (
          omega (arith, h.0, p.1),
          elim h.1 [
            | inl q ↦ inl (q.0, λ n. used_looked slots s n k u ∙ q.1 (through_slots slots s n (suc k)))
            | inr q ↦ inr (q.0, λ n. used_looked slots s n k u ∙ q.1 (through_slots slots s n (suc k)))
          ],
        ))
  ]

  -- the loop over the slots: slot k alone hands back a and m
  module _ (a m : ℕ) (alone : searched_to a m ≡ through_slots slots s 1 k) where
    split_is : SlotSplits slots s k (searched_to a m)
    split_is = subst (SlotSplits slots s k) (sym alone) slot_split

    -- of a slot 82 anodes are read at most
    pub few_read : m ≤ 82
    few_read = split_is.0

    -- an anode in the slot ends the search
    pub slot_found : (n read : ℕ) → 42 - k ≡ suc n → a < k * 82 + 82 → searched_to a (read + m) ≡ after_read read (through_slots slots s (42 - k) k)
    unfolding after_read
    slot_found n read e l = elim split_is.1 [ inl q ↦ rw (e, q.1 n) | inr q ↦ absurd (omega (arith, q.0)) ]

    -- otherwise the next slot is searched
    pub slot_passed : (n read : ℕ) → 42 - k ≡ suc n → 42 - (k + 1) ≡ n → k * 82 + 82 ≤ a → after_read (read + m) (through_slots slots s (42 - (k + 1)) (k + 1)) ≡ after_read read (through_slots slots s (42 - k) k)
    slot_passed n read e f l =
        let b : k + 1 ≡ suc k = omega arith in
        elim split_is.1 [ inl q ↦ absurd (omega (arith, q.0)) | inr q ↦ rw (e, f, b, q.1 n) (read_both read m (read + m) (through_slots slots s n (suc k)) refl) ]

module _ (slots : ℕ → ℕ) (s : Anodes) where
  -- before the first slot
  pub slots_start : after_read 0 (through_slots slots s 42 0) ≡ searched 3444 (exists_by slots) s
  unfolding searched_by_slots
  slots_start = read_none (through_slots slots s 42 0) ∙ slot_search slots s

  -- behind the last
  pub slots_end : (k read : ℕ) → k ≡ 42 → searched_to 3444 read ≡ after_read read (through_slots slots s (42 - k) k)
  unfolding after_read through_slots
  slots_end k read e = let z : read + 0 ≡ read = omega arith in rw (e, z)

-- the anode that a search found
pub anode_found_lem : (A : ℕ) (ex : ℕ → Bool) (s : Anodes) (a m : ℕ) → searched_to a m ≡ searched A ex s → a ≡ lowest_free A ex s
unfolding searched
anode_found_lem A ex s a m e = ap (λ (r : Searched). r.anode) e

-- ---- the first anode with a block

module _ (count : ℕ → ℕ) (p a : ℕ) (l : List ℕ) where
  pub first_hit : count a ≢ 0 → first_extent count p (a ∷ l) ≡ found p a
  unfolding first_extent first_found
  first_hit h = rw (full_at count p a (count a) refl h)

  pub first_step : count a ≡ 0 → first_extent count p (a ∷ l) ≡ first_extent count a l
  unfolding first_extent first_found
  first_step h = rw (nowhere_at count p a h)

-- ---- the extent that a block is taken from

module _ (dir : Bool) (c f n : List ℕ) (m : ℕ) (near : m ≡ cond dir 2 1) where
  -- the near side has one
  pub near-found : (o : Option Extent) → is_some o ≡ true → found_of o ≡ first_extent (λ a. get_or c a 0) 0 (chain_of (cut (λ a. get_or n a 0)) 3444 m) → found_of o ≡ free_extent 3444 dir (anodes_from c f n)
  unfolding free_extent first_found side anodes_from
  near-found None t e = cc
  near-found (Some x) t e = rw (← near, ← e)

  -- it has none: the other side
  pub near_empty : (o : Option Extent) → is_some o ≡ false → (k : ℕ) → k ≡ cond (not dir) 2 1 → found_of o ≡ first_extent (λ a. get_or c a 0) 0 (chain_of (cut (λ a. get_or n a 0)) 3444 m) →
      first_extent (λ a. get_or c a 0) 0 (chain_of (cut (λ a. get_or n a 0)) 3444 k) ≡ free_extent 3444 dir (anodes_from c f n)
  unfolding free_extent first_found side anodes_from
  near_empty (Some x) t k far e = cc
  near_empty None t k far e = rw (← near, ← e, far, other dir)
    where
      other : (dir : Bool) → cond {A = ℕ} (not dir) 2 1 ≡ cond dir 1 2
      other true = refl
      other false = refl
