-- A block taken into an anode of its own: a chain with no block fills its head, one with a block in every anode gets one more anode behind its last.
use Rattle.std.specs.Prelude.{ℕ, ◌<◌, ◌≡◌, ◌≢◌, Bool, true}
use Rattle.std.proofs.Common.{sym, ap, ◌∙◌, arith}
use Rattle.std.proofs.Math.Logic.{inl, inr}
use mathlib.Core.List.{List, [], ◌∷◌, ◌++◌}
use Rattle.rules.specs.Counting.{occurrences, last_of}
use Rattle.rules.specs.Anodes.{Anodes, exists_by}
use Rattle.rules.specs.Chains.{chain_of, run}
use Rattle.rules.specs.Plans.{Slotted, slotted, planned}
use Rattle.rules.specs.Space.{rewritten, inserted_after, lowest_free, fill_or, chain_end, append, put}
use Rattle.laws.specs.Sums.{one_at-same, changed-same, changed_other}
use Rattle.laws.specs.Bags.{occurrences-here}
use Rattle.laws.specs.Heads.{Head, occurrences_on_chain}
use Rattle.laws.specs.Space.{Alike, FreeAnode, Good, on_chain_lem}
use Rattle.laws.specs.Bags.{last_on}
use Rattle.laws.specs.Moves.{InHand}
use Rattle.laws.specs.Plans.{refused≢planned, planned_same}
use Rattle.laws.specs.Arriving.{append_cases}
use Rattle.laws.specs.Take.{Takes}
use Rattle.laws.specs.Frame.{shift_alike, shift_chain}
use Rattle.laws.specs.ChainBlocks.{appended_chain}

-- the chain of h is its head alone, with the block y
pub record Filled (A : ℕ) (t : Anodes) (h y : ℕ) : Type 0 where
  pub chain : chain_of t.next A h ≡ h ∷ []
  pub one : t.count h ≡ 1
  pub at : t.block h ≡ y

-- the chain of h gets the anode `anode` behind its last, with the block y alone, and keeps its other blocks
pub record Appended (A : ℕ) (s t : Anodes) (h y : ℕ) : Type 0 where
  pub anode : ℕ
  pub chain : chain_of t.next A h ≡ chain_of s.next A h ++ (anode ∷ [])
  pub one : t.count anode ≡ 1
  pub at : t.block anode ≡ y
  pub kept : (a : ℕ) → 0 < occurrences a (chain_of s.next A h) → (t.count a ≡ s.count a) × (t.block a ≡ s.block a)

module _ {A : ℕ} {ex : ℕ → Bool} {n last : ℕ} {s : Anodes} {system hd sd : ℕ → ℕ} (g : Good A ex n last s system hd sd) (h : ℕ) (d : Head s.next s.block h) (h1 : h ≢ 1) where
  abbrev chain : List ℕ
  chain = chain_of s.next A h

  -- the block y in hand, in the state r, is put behind the last anode of the chain
  module _ {slots : ℕ → ℕ} {y : ℕ} {gs : List ℕ} {r : Slotted} (i : InHand A n last (slotted s slots) system hd 1 1 y gs r) where
    -- the block in hand was of no anode of the chain
    hand_chain : chain_of r.anodes.next A h ≡ chain_of s.next A h
    hand_chain = shift_chain g i.good i.shift h d h1 h1

    on_h : (a : ℕ) → 0 < occurrences a (chain_of s.next A h) → Alike s r.anodes a
    on_h = shift_alike g i.good i.shift h d h1 h1

    -- its last anode stands on it, behind the others
    end_on : 0 < occurrences (last_of h chain) chain
    end_on = elim (last_on h chain) [
      | inr p ↦ p
      | inl e ↦ rw e (omega (arith, occurrences_on_chain g.linked g.heads h d h, one_at-same (hd h) h (g.heads.at_head h d)))
    ]

    put-filled : chain_of s.next A h ≡ h ∷ [] → s.count h ≡ 0 → (t : Anodes) (ys : List ℕ) → put A true (chain_end A r.anodes h) y (exists_by r.slots) r.anodes ≡ planned t ys →
        (ys ≡ y ∷ []) × Filled A t h y
    unfolding put fill_or rewritten chain_end last_of run
    put-filled alone none t ys e =
        let c : chain_of r.anodes.next A h ≡ h ∷ [] = hand_chain ∙ alone in
        let empty : r.anodes.count h ≡ 0 = (on_h h (rw alone (occurrences-here h []))).same_count ∙ none in
        let p : planned (rewritten r.anodes h 1 y) (y ∷ []) ≡ planned t ys = rw (c, empty) at e in
        let q = planned_same (rewritten r.anodes h 1 y) t (y ∷ []) ys p in
        let filled : Filled A (rewritten r.anodes h 1 y) h y = record { chain = c; one = changed-same r.anodes.count h 1; at = changed-same r.anodes.block h y } in
        (q.1, rw q.0 at filled)

    -- an anode f that was free, behind the last
    module _ (f : ℕ) (f_a : f < A) (fresh : FreeAnode (exists_by r.slots) r.anodes f) (y0 : y ≢ 0) where
      not_f : (a : ℕ) → 0 < occurrences a chain → a ≢ f
      not_f a p e = (on_chain_lem g h d a p).1 (sym (on_h a p).same_block ∙ ap r.anodes.block e ∙ fresh.unused)

      put_appended : Appended A s (inserted_after r.anodes (last_of h chain) f 1 y) h y
      unfolding inserted_after
      put_appended = record {
        anode = f;
        chain = rw hand_chain at (appended_chain i.good h (i.shift.stays h d) f 1 y f_a fresh y0);
        one = changed-same r.anodes.count f 1;
        at = changed-same r.anodes.block f y;
        kept = λ a p. (changed_other r.anodes.count f 1 a (not_f a p) ∙ (on_h a p).same_count, changed_other r.anodes.block f y a (not_f a p) ∙ (on_h a p).same_block);
      }

    put-behind : y ≢ 0 → ((a : ℕ) → 0 < occurrences a (chain_of s.next A h) → s.count a ≡ 1) → (t : Anodes) (ys : List ℕ) →
        put A true (chain_end A r.anodes h) y (exists_by r.slots) r.anodes ≡ planned t ys → (ys ≡ y ∷ []) × Appended A s t h y
    unfolding put fill_or chain_end run
    put-behind y0 ones t ys e =
        let z = last_of h chain in
        let full : r.anodes.count z ≡ 1 = (on_h z end_on).same_count ∙ ones z end_on in
        let p : append A (exists_by r.slots) r.anodes z 1 y ≡ planned t ys = rw (hand_chain, full) at e in
        elim (append_cases A (exists_by r.slots) r.anodes z 1 y) [
          | inr c ↦ absurd (refused≢planned 28 t ys (sym c.0 ∙ p))
          | inl c ↦ (let q = planned_same (inserted_after r.anodes z (lowest_free A (exists_by r.slots) r.anodes) 1 y) t (y ∷ []) ys (sym c.2 ∙ p) in
              (q.1, rw q.0 at (put_appended (lowest_free A (exists_by r.slots) r.anodes) c.0 c.1 y0)))
        ]

  module _ {slots : ℕ → ℕ} {t : Slotted} {ys : List ℕ} (w : Takes A n last (slotted s slots) system hd true h t ys) where
    -- a chain with no block, and so of its head alone
    pub own_filled : chain_of s.next A h ≡ h ∷ [] → s.count h ≡ 0 → (y : ℕ) × (ys ≡ y ∷ []) × Filled A t.anodes h y
    own_filled alone none = let f = put-filled w.out alone none t.anodes ys w.puts in (s.block w.x, f.0, f.1)

    -- a chain with a block in each anode
    pub own_appended : ((a : ℕ) → 0 < occurrences a (chain_of s.next A h) → s.count a ≡ 1) → (y : ℕ) × (ys ≡ y ∷ []) × Appended A s t.anodes h y
    own_appended ones = let f = put-behind w.out w.some ones t.anodes ys w.puts in (s.block w.x, f.0, f.1)
