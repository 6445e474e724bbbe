-- The anode table grows: the lowest empty slot gets the first block of the free extent that a directory would take from, the first anode of that slot is then free, and it fails exactly if no slot is empty or no free block is left.
use Rattle.std.specs.Prelude.{ℕ, ◌+◌, ◌*◌, ◌/◌, ◌≤◌, ◌<◌, ◌≡◌, refl, ◌≢◌, ◌⊎◌, ◌↔◌, true, T, eqb, ltb}
use Rattle.std.proofs.Common.{sym, ap, ◌∙◌, arith, eqb→eq, eq-eqb, ne_eqb, lt-ltb, le-ltb}
use Rattle.std.proofs.Math.Logic.{inl, inr}
use Rattle.std.proofs.Math.Option.{Option, none, some, some-injective, none-ne-some}
use Rattle.rules.specs.Counting.{one_at, least, changed}
use Rattle.rules.specs.Anodes.{Anodes, limit, exists_by}
use Rattle.rules.specs.Chains.{one_if_holds, system_by, owners}
use Rattle.rules.specs.Plans.{Slotted}
use Rattle.rules.specs.Space.{Found, nowhere, found, free_extent, without_first}
use Rattle.rules.specs.Growth.{empty_slot, slot_from, grown}
use Rattle.laws.specs.Tests.{same?, less?, cond_cases, eq→eqb}
use Rattle.laws.specs.Sums.{one_at_other, changed-same, changed_other, least_cases, sum_update}
use Rattle.laws.specs.Ownership.{covers_in, covers_one}
use Rattle.laws.specs.Blocks.{blocks}
use Rattle.laws.specs.Space.{Present, FreeAnode, Good, good_more}
use Rattle.laws.specs.Owners.{full_inside}
use Rattle.laws.specs.SlotSearch.{none-exists, one-exists}
use Rattle.laws.specs.Moves.{RunOut, SlotsGrew, Grew, Grows}
use Rattle.laws.specs.Arriving.{NoneFree}
use Rattle.laws.specs.FreeExtent.{extent-found}
use Rattle.laws.specs.Take.{StartOwned, without_first-out}
use Rattle.laws.specs.RefusedSteps.{NoAnode}
use Rattle.laws.specs.RefusedRuns.{AlwaysSpares}
use Rattle.laws.specs.RefusedTakes.{none_left, nowhere_exactly}

-- ---- a slot gets a block

-- slot k, one of the 42 and empty, gets the block w, behind the first three
module _ (slots : ℕ → ℕ) (k w : ℕ) (low : k < 42) (empty : slots k ≡ 0) (w3 : 3 ≤ w) where
  w0 : w ≢ 0
  w0 z = omega (arith, z, w3)

  -- w is the system's, and what was still is
  system_more : (x : ℕ) → system_by (changed slots k w) x ≡ system_by slots x + one_at w x
  unfolding system_by one_if_holds
  system_more x = elim (less? x 3) [
    | inl l ↦ rw (lt-ltb x 3 l) (omega (arith, one_at_other w x (λ i. omega (arith, i, l, w3))))
    | inr l ↦ rw (le-ltb x 3 l) (omega (arith, sum_update (one_if_holds slots x) (one_if_holds (changed slots k w) x) k 42 low (λ j m o. rw (changed_other slots k w j o)), old, new))
  ]
    where
      old : one_if_holds slots x k ≡ 0
      old = rw (eq-eqb (slots k) 0 empty)

      new : one_if_holds (changed slots k w) x k ≡ one_at w x
      new = rw (changed-same slots k w, ne_eqb w 0 w0)

  -- the anodes of slot k exist
  new-exists : (a : ℕ) → a / 82 ≡ k → exists_by (changed slots k w) a ≡ true
  new-exists a i = one-exists (changed slots k w) a (λ z. w0 (sym (changed-same slots k w) ∙ ap (changed slots k w) (sym i) ∙ z))

  -- and every anode that existed still does
  exists_more : (a : ℕ) → T (exists_by slots a) → T (exists_by (changed slots k w) a)
  unfolding exists_by
  exists_more a t = elim (same? (a / 82) k) [ inl i ↦ rw (new-exists a i) tt | inr i ↦ rw (changed_other slots k w (a / 82) i) t ]

  -- the slots have grown, on a disk that has w
  slots_more : (n : ℕ) → w < n → SlotsGrew n slots (changed slots k w)
  slots_more n wn = record {
    used_kept = λ j u. changed_other slots k w j (λ e. u (ap slots e ∙ empty));
    none_past = λ j l. changed_other slots k w j (omega arith);
    new-placed = λ j u. elim (same? j k) [ inl e ↦ rw (e, changed-same slots k w) (w3, wn) | inr e ↦ absurd (u (changed_other slots k w j e)) ];
  }

  -- and the first anode of the slot, unless that is slot 0, is free where no missing anode is in use
  first-free : (s : Anodes) → Present (exists_by slots) s → k ≢ 0 → FreeAnode (exists_by (changed slots k w)) s (82 * k)
  first-free s p k0 =
      let slot : 82 * k / 82 ≡ k = omega arith in
      record {
        from_6 = omega arith;
        unused = elim (same? (s.block (82 * k)) 0) [ inl z ↦ z | inr u ↦ absurd (rw (none-exists slots (82 * k) (ap slots slot ∙ empty)) at (p.exist (82 * k) u)) ];
        there = rw (new-exists (82 * k) slot) tt;
      }

-- ---- what a growth comes to

-- no slot is empty
abbrev pub NoSlotEmpty : (ℕ → ℕ) → Type 0
NoSlotEmpty slots = (k : ℕ) → k < 42 → slots k ≢ 0

-- the lowest empty slot is one of the 42 and empty, or there is none
pub empty_cases : (slots : ℕ → ℕ) → ((empty_slot slots < 42) × (slots (empty_slot slots) ≡ 0)) ⊎ ((empty_slot slots ≡ 42) × NoSlotEmpty slots)
unfolding empty_slot
empty_cases slots = elim (least_cases (λ k. eqb (slots k) 0) 42) [
  | inl c ↦ inl (c.0, eqb→eq (slots (least (λ k. eqb (slots k) 0) 42)) 0 c.1)
  | inr c ↦ inr (c.0, λ k l z. c.1 k l (eq→eqb (slots k) 0 z))
]

module _ (A : ℕ) (s : Slotted) where
  -- without an empty slot nothing grows
  pub grown-full : empty_slot s.slots ≡ 42 → grown A s ≡ none
  unfolding grown
  grown-full e = rw (le-ltb (empty_slot s.slots) 42 (omega arith))

  -- nor without a free block
  pub grown_nowhere : free_extent A true s.anodes ≡ nowhere → grown A s ≡ none
  unfolding grown
  grown_nowhere e = elim (cond_cases {A = Option Slotted} (ltb (empty_slot s.slots) 42) none none) [ inl c ↦ rw e c.1 | inr c ↦ rw e c.1 ]

  -- with both the slot gets the extent's first block
  pub grown-found : empty_slot s.slots < 42 → (p x : ℕ) → free_extent A true s.anodes ≡ found p x → grown A s ≡ some (slot_from s (empty_slot s.slots) p x)
  unfolding grown
  grown-found l p x e = rw (lt-ltb (empty_slot s.slots) 42 l, e)

  -- which of the two a growth is
  pub grown_cases : ((grown A s ≡ none) × (NoSlotEmpty s.slots ⊎ (free_extent A true s.anodes ≡ nowhere)))
      ⊎ ((p : ℕ) × (x : ℕ) × (empty_slot s.slots < 42) × (s.slots (empty_slot s.slots) ≡ 0) × (free_extent A true s.anodes ≡ found p x) × (grown A s ≡ some (slot_from s (empty_slot s.slots) p x)))
  grown_cases = elim (empty_cases s.slots) [ inl c ↦ go (free_extent A true s.anodes) refl c.0 c.1 | inr c ↦ inl (grown-full c.0, inl c.1) ]
    where
      go : (f : Found) → free_extent A true s.anodes ≡ f → empty_slot s.slots < 42 → s.slots (empty_slot s.slots) ≡ 0 →
          ((grown A s ≡ none) × (NoSlotEmpty s.slots ⊎ (free_extent A true s.anodes ≡ nowhere)))
          ⊎ ((p : ℕ) × (x : ℕ) × (empty_slot s.slots < 42) × (s.slots (empty_slot s.slots) ≡ 0) × (free_extent A true s.anodes ≡ found p x) × (grown A s ≡ some (slot_from s (empty_slot s.slots) p x)))
      go nowhere e l z = inl (grown_nowhere e, inr e)
      go (found p x) e l z = inr (p, x, l, z, e, grown-found l p x e)

-- ---- in a good state

-- slot k is empty and gets the first block of x after p, the first free extent
module _ {A n last : ℕ} (s : Slotted) {system hd sd : ℕ → ℕ} (start : StartOwned system) (g : Good A (exists_by s.slots) n last s.anodes system hd sd) (k p x : ℕ) (low : k < 42) (empty : s.slots k ≡ 0)
    (first : free_extent A true s.anodes ≡ found p x) where
  abbrev w : ℕ
  w = s.anodes.block x

  -- the block is out of the free list
  out : RunOut A (exists_by s.slots) n last s.anodes system hd 1 1 (s.anodes.block x) (without_first s.anodes p x)
  out = let (m, o, f) = extent-found A true s.anodes g p x first in without_first-out g m o p x f

  -- it is on the disk
  inside : w < n
  inside = let (m, o, f) = extent-found A true s.anodes g p x first in omega (arith, full_inside g x f.full, f.full)

  -- behind the first three, which the system owns
  from_3 : 3 ≤ w
  unfolding owners
  from_3 = elim (less? w 3) [ inl l ↦ absurd (omega (arith, start w l, out.good.own.not-two w inside, covers_in 1 w w (omega arith) (omega arith))) | inr l ↦ l ]

  -- the slots have grown by it
  slot_grew : Grew A n last s system hd w (slot_from s k p x)
  unfolding slot_from
  slot_grew = record {
    hd' = out.hd';
    sd' = out.sd';
    good = good_more out.good (exists_more s.slots k w low empty from_3) (λ y. refl);
    shift = out.shift;
    fewer = λ h. omega (arith, out.fewer h);
    lost = λ h y. rw (← covers_one w y) (out.lost h y);
    system_got = system_more s.slots k w low empty from_3;
    slots_grew = slots_more s.slots k w low empty from_3 n inside;
  }

  -- and the first anode of the slot is free: slot 0 was not empty
  slot_spares : FreeAnode (exists_by (slot_from s k p x).slots) (slot_from s k p x).anodes (82 * k)
  unfolding slot_from
  slot_spares = first-free s.slots k w low empty from_3 (without_first s.anodes p x) out.good.present
      (λ z. rw (none-exists s.slots 5 (ap s.slots (sym z) ∙ empty)) at (g.present.exist 5 g.fixed.block_5))

-- what the laws ask of a growth
pub grown_grows : (n last : ℕ) → Grows limit n last (grown limit)
grown_grows n last s r system hd sd start g e = elim (grown_cases limit s) [
  | inl c ↦ absurd (none-ne-some r (sym c.0 ∙ e))
  | inr (p, x, low, empty, first, q) ↦ (s.anodes.block x, rw (← some-injective (slot_from s (empty_slot s.slots) p x) r (sym q ∙ e)) (slot_grew s start g (empty_slot s.slots) p x low empty first))
]

-- where the table grows, an anode is free
pub grown_spares : (n last : ℕ) → AlwaysSpares limit n last (grown limit)
grown_spares n last s system hd sd start g r e = elim (grown_cases limit s) [
  | inl c ↦ absurd (none-ne-some r (sym c.0 ∙ e))
  | inr (p, x, low, empty, first, q) ↦ (let k = empty_slot s.slots in (82 * k, omega (arith, low), rw (← some-injective (slot_from s k p x) r (sym q ∙ e)) (slot_spares s start g k p x low empty first)))
]

module _ {n last : ℕ} {s : Slotted} {system hd sd : ℕ → ℕ} (g : Good limit (exists_by s.slots) n last s.anodes system hd sd) where
  -- it does not grow exactly if no slot is empty or no free block is left
  pub grown_exactly : (grown limit s ≡ none) ↔ (NoSlotEmpty s.slots ⊎ (blocks limit hd s.anodes.count 1 ≡ 0))
  grown_exactly = (
    λ e. elim (grown_cases limit s) [
      | inl (q, inl full) ↦ inl full
      | inl (q, inr f) ↦ inr ((none_left s system hd sd g).1 ((nowhere_exactly s system hd sd g true).0 f))
      | inr (p, x, low, empty, first, q) ↦ absurd (none-ne-some (slot_from s (empty_slot s.slots) p x) (sym e ∙ q))
    ],
    λ c. elim c [
      | inl full ↦ elim (empty_cases s.slots) [ inl z ↦ absurd (full (empty_slot s.slots) z.0 z.1) | inr z ↦ grown-full limit s z.0 ]
      | inr z ↦ grown_nowhere limit s ((nowhere_exactly s system hd sd g true).1 ((none_left s system hd sd g).0 z))
    ],
  )

  -- so no anode can be had exactly if none is free and the table cannot grow
  pub no_anode_exactly : NoAnode limit (grown limit) s ↔ (NoneFree limit (exists_by s.slots) s.anodes × (NoSlotEmpty s.slots ⊎ (blocks limit hd s.anodes.count 1 ≡ 0)))
  no_anode_exactly = (λ c. (c.0, grown_exactly.0 c.1), λ c. (c.0, grown_exactly.1 c.1))
