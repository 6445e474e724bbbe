-- An anode is needed and nothing else, as a make's head is: where none is free slots may grow, and the lowest free anode can then be had.
use Rattle.std.specs.Prelude.{ℕ, ◌<◌, ◌≡◌, List, []}
use Rattle.std.proofs.Common.{sym, ◌∙◌, subst, inl, inr, arith}
use Rattle.rules.specs.Anodes.{exists_by}
use Rattle.rules.specs.Plans.{Slotted, slotted, planned, Growth}
use Rattle.rules.specs.Space.{lowest_free, need_anode, with_spare}
use Rattle.laws.specs.Bags.{occurrences-nil}
use Rattle.laws.specs.Ownership.{covers_none}
use Rattle.laws.specs.Space.{Good, good-same, FreeAnode}
use Rattle.laws.specs.Plans.{refused≢planned, planned_same}
use Rattle.laws.specs.Moves.{Grows, InHand, Moved, hand_none, afresh_hand}
use Rattle.laws.specs.Arriving.{need_cases}
use Rattle.laws.specs.Take.{StartOwned}

-- with nothing in hand, no block has changed hands but those that became the system's
hand_moved : {A n last : ℕ} {s r : Slotted} {system hd : ℕ → ℕ} {gs : List ℕ} → InHand A n last s system hd 1 0 0 gs r → Moved A n last s system hd 1 1 1 [] gs r
hand_moved i = record {
  hd' = i.hd';
  sd' = i.sd';
  good = good-same i.good (λ x. omega (arith, covers_none 0 x));
  shift = i.shift;
  moved = λ m. omega (arith, i.fewer m);
  passed = λ m x. rw (occurrences-nil x) (omega (arith, rw (covers_none 0 x) at (i.lost m x)));
  system_got = i.system_got;
  slots_grew = i.slots_grew;
}

-- the lowest free anode of a state can be had
pub record Spared (A : ℕ) (s : Slotted) : Type 0 where
  pub below : lowest_free A (exists_by s.slots) s.anodes < A
  pub is_free : FreeAnode (exists_by s.slots) s.anodes (lowest_free A (exists_by s.slots) s.anodes)

-- a state with an anode to be had: the free list alone is touched
pub spare-moved : {A n last : ℕ} {growth : Growth} → Grows A n last growth → {s : Slotted} {system hd sd : ℕ → ℕ} → StartOwned system → Good A (exists_by s.slots) n last s.anodes system hd sd → (t : Slotted) (ys : List ℕ) →
    with_spare A growth s ≡ planned t ys → (gs : List ℕ) × Moved A n last s system hd 1 1 1 [] gs t × Spared A t × (ys ≡ [])
unfolding with_spare
spare-moved {A} {n} {last} grows {s} {system} {hd} start g t ys e =
    let (q, gs, i, need, same) = afresh_hand grows start (hand_none g) (need_anode A) t ys e in
    elim (need_cases A (exists_by q.slots) q.anodes) [
      | inr c ↦ absurd (refused≢planned 28 t.anodes ys (sym c.0 ∙ need))
      | inl (below, free, is) ↦ (let p = planned_same q.anodes t.anodes [] ys (sym is ∙ need) in
          let all : q ≡ t = λ k. slotted (p.0 k) (sym same k) in
          (gs, subst (λ (u : Slotted). Moved A n last s system hd 1 1 1 [] gs u) all (hand_moved i), subst (Spared A) all (record { below = below; is_free = free }), p.1))
    ]
