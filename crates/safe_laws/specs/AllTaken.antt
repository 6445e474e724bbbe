-- All steps of a safe change that take: where its own steps are as they should be, the new blocks are as many as were counted and distinct free blocks of the old image, and the only refusal is 28.
use Prim.Native.Nat.{ℕ, zero, suc, ◌+◌, ◌*◌, ◌≤◌}
use Rattle.std.specs.Prelude.{◌≡◌, ◌≢◌, ◌⊎◌, true, cond, eqb, length}
use Rattle.std.proofs.Math.Path.{refl, sym, ap}
use Rattle.std.proofs.Common.{◌∙◌, arith, eq-eqb, ne_eqb}
use Rattle.std.proofs.Math.Logic.{inl, inr}
use mathlib.Core.List.{List, [], ◌∷◌}
use Rattle.disk.specs.Root.{slot_of}
use Rattle.rules.specs.Counting.{sum_below, occurrences}
use Rattle.rules.specs.Anodes.{limit, exists_by, anodes_of}
use Rattle.rules.specs.Chains.{system_owns, blocks_of, block_count}
use Rattle.rules.specs.Accepted.{disk_size, last_reserved}
use Rattle.rules.specs.Totals.{free_blocks, anode_blocks}
use Rattle.rules.specs.Plans.{Slotted, Plan, refused, planned, ◌and_then◌, no_growth, table_of}
use Rattle.rules.specs.Space.{Found, nowhere, found, free_extent, release}
use Rattle.rules.specs.Growth.{slot_from}
use Rattle.laws.specs.Tests.{same?, less?}
use Rattle.laws.specs.Sums.{changed_other}
use Rattle.laws.specs.Held.{held, held_some}
use Rattle.laws.specs.Space.{Good, head_1}
use Rattle.laws.specs.Owners.{full_inside, blocks-chain}
use Rattle.laws.specs.Plans.{refused≢planned, planned≢refused, planned_same, then_planned, then_refused}
use Rattle.laws.specs.RefusedSteps.{release_refused}
use Rattle.frames.specs.DisjointBlocks.{occurrences-held}
use Rattle.change_laws.specs.Image.{AcceptedWhole, head_in, AcceptedImage, accepted_whole}
use Rattle.safe_rules.specs.SafePlans.{owner_of, block_from, relocated, all_relocated, reslotted, reslotted_from, given_back, SafeChange, new_blocks, old_blocks, taking_steps, with_taken, safe_steps}
use Rattle.safe_laws.specs.Claims.{OldFree, CountedSteps}
use Rattle.safe_laws.specs.Taking.{free_count, Took, TakesBlocks, took_none, takes_then, takes_planned, takes_is, takes_relocated, takes_reslotted}

-- ---- the slots in use

-- how many of the n slots from k on are in use
unfoldable pub used_from : (ℕ → ℕ) → ℕ → ℕ → ℕ
used_from slots zero k = 0
used_from slots (suc n) k = cond (eqb (slots k) 0) 0 1 + used_from slots n (suc k)

-- they depend on those slots alone
used_same : (slots slots' : ℕ → ℕ) (n k : ℕ) → ((i : ℕ) → k ≤ i → slots' i ≡ slots i) → used_from slots' n k ≡ used_from slots n k
unfolding used_from
used_same slots slots' zero k e = refl
used_same slots slots' (suc n) k e = rw (e k (omega arith), used_same slots slots' n (suc k) (λ i l. e i (omega (arith, l))))

used_sum : (slots : ℕ → ℕ) (n k : ℕ) → sum_below (λ i. cond (eqb (slots i) 0) 0 1) k + used_from slots n k ≡ sum_below (λ i. cond (eqb (slots i) 0) 0 1) (k + n)
unfolding used_from sum_below
used_sum slots zero k = let e : k + 0 ≡ k = omega arith in rw e (omega arith)
used_sum slots (suc n) k = let e : k + suc n ≡ suc k + n = omega arith in rw e (omega (arith, used_sum slots n (suc k)))

-- of an image they are its anode blocks
used_all : (img : List ℕ) → used_from (slot_of img) 42 0 ≡ anode_blocks img
unfolding anode_blocks sum_below
used_all img = omega (arith, used_sum (slot_of img) 42 0)

-- a slot that is moved leaves the others
pub reslotted_others : (k : ℕ) (s r : Slotted) (ys : List ℕ) → reslotted k s ≡ planned r ys → (i : ℕ) → i ≢ k → r.slots i ≡ s.slots i
unfolding reslotted slot_from
reslotted_others k s r ys e i o = go (free_extent limit true s.anodes) refl e
  where
    go : (c : Found) → free_extent limit true s.anodes ≡ c → elim c [ nowhere ↦ refused 27 | found p x ↦ planned (slot_from s k p x) (s.anodes.block x ∷ []) ] ≡ planned r ys → r.slots i ≡ s.slots i
    go nowhere q e = absurd (refused≢planned 27 r ys e)
    go (found p x) q e = rw (← (planned_same (slot_from s k p x) r (s.anodes.block x ∷ []) ys e).0) (changed_other s.slots k (s.anodes.block x) i o)

-- one slot and those behind it
module _ (m k : ℕ) (s : Slotted) where
  pub reslotted_empty : s.slots k ≡ 0 → (reslotted_from (suc m) k s ≡ planned s [] and_then reslotted_from m (suc k)) × (used_from s.slots (suc m) k ≡ 0 + used_from s.slots m (suc k))
  unfolding reslotted_from used_from
  reslotted_empty z = (rw (eq-eqb (s.slots k) 0 z), rw (eq-eqb (s.slots k) 0 z))

  pub reslotted_used : s.slots k ≢ 0 → (reslotted_from (suc m) k s ≡ reslotted k s and_then reslotted_from m (suc k)) × (used_from s.slots (suc m) k ≡ 1 + used_from s.slots m (suc k))
  unfolding reslotted_from used_from
  reslotted_used u = (rw (ne_eqb (s.slots k) 0 u), rw (ne_eqb (s.slots k) 0 u))

pub reslotted-end : (k : ℕ) (s : Slotted) → (reslotted_from 0 k s ≡ planned s []) × (used_from s.slots 0 k ≡ 0)
unfolding reslotted_from used_from
reslotted-end k s = (refl, refl)

module _ {n last : ℕ} where
  -- every anode block, from slot k on
  takes_slots : (m k : ℕ) (s : Slotted) (system hd sd : ℕ → ℕ) → Good limit (exists_by s.slots) n last s.anodes system hd sd → TakesBlocks n last s system hd (λ a. ⊥) (reslotted_from m k s) (used_from s.slots m k)
  takes_slots zero k s system hd sd g = let (e, z) = reslotted-end k s in takes_is e z (takes_planned (took_none g))
  takes_slots (suc m) k s system hd sd g = elim (same? (s.slots k) 0) [
    | inl q ↦ (let (e, z) = reslotted_empty m k s q in takes_is e z (takes_then (planned s []) (reslotted_from m (suc k)) {k = 0} (λ a l. l) (takes_planned (took_none g)) (λ r ys i w.
        takes_is refl (sym (used_same s.slots r.slots m (suc k) (λ j l. ap (λ (t : Slotted). t.slots j) (sym (planned_same s r [] ys i).0)))) (takes_slots m (suc k) r w.system' w.hd' w.sd' w.good))))
    | inr u ↦ (let (e, z) = reslotted_used m k s u in takes_is e z (takes_then (reslotted k s) (reslotted_from m (suc k)) (λ a l. l) (takes_reslotted s system hd sd g k u) (λ r ys i w.
        takes_is refl (sym (used_same s.slots r.slots m (suc k) (λ j l. reslotted_others k s r ys i j (omega (arith, l))))) (takes_slots m (suc k) r w.system' w.hd' w.sd' w.good))))
  ]

-- ---- the old directory block

relocated_slots : (y : ℕ) (s r : Slotted) (ys : List ℕ) → relocated y s ≡ planned r ys → r.slots ≡ s.slots
unfolding relocated block_from
relocated_slots y s r ys e = go (free_extent limit true s.anodes) refl e
  where
    go : (c : Found) → free_extent limit true s.anodes ≡ c → elim c [ nowhere ↦ refused 27 | found p x ↦ planned (block_from s (owner_of s.anodes y) p x) (s.anodes.block x ∷ []) ] ≡ planned r ys → r.slots ≡ s.slots
    go nowhere q e = absurd (refused≢planned 27 r ys e)
    go (found p x) q e = rw (← (planned_same (block_from s (owner_of s.anodes y) p x) r (s.anodes.block x ∷ []) ys e).0) refl

-- ---- all steps that take

-- the own steps of a change of img take as many blocks as it says and leave the slots; the directory block that changes is that of an anode that they leave alone, with that block alone
pub record OwnSteps (img : List ℕ) (left : ℕ → Type 0) (c : SafeChange) : Type 0 where
  pub takes : TakesBlocks (disk_size img) (last_reserved img) (table_of img) (system_owns img) (head_in img) left c.steps c.takes
  pub slots_stay : (r : Slotted) (ys : List ℕ) → c.steps ≡ planned r ys → r.slots ≡ slot_of img
  -- its bytes fill those blocks and the directory block's
  pub bytes_long : (c.takes + length c.changing) * 512 ≤ length c.bytes
  pub changes : (c.changing ≡ []) ⊎ ((a : ℕ) × (c.changing ≡ (anodes_of img).block a ∷ []) × ((anodes_of img).count a ≡ 1) × (head_in img a ≢ 1) × left a)

module _ {img : List ℕ} (image : AcceptedImage img) {left : ℕ → Type 0} {c : SafeChange} (own : OwnSteps img left c) where
  abbrev n : ℕ
  n = disk_size img

  abbrev last : ℕ
  last = last_reserved img

  abbrev Nobody : ℕ → Type 0
  Nobody a = ⊥

  -- the directory block, on what the own steps leave
  takes_changing : (r : Slotted) (ys : List ℕ) → c.steps ≡ planned r ys → (w : Took n last (table_of img) (system_owns img) (head_in img) left ys r) → TakesBlocks n last r w.system' w.hd' Nobody (all_relocated c.changing r) (length c.changing)
  unfolding all_relocated
  takes_changing r ys e w = elim own.changes [
    | inl z ↦ rw z (takes_planned (took_none w.good))
    | inr (a, z, one, away, l) ↦ (let (alike, same) = w.alone a l in
        rw (z, ← alike.same_block) (takes_then (relocated (r.anodes.block a) r) (all_relocated []) {m = 0} (λ b k. k) (takes_relocated r w.system' w.hd' w.sd' w.good a (alike.same_count ∙ one) (λ q. away (sym same ∙ q)))
        (λ t zs f v. takes_planned (took_none v.good))))
  ]

  changing_slots : (r t : Slotted) (ys : List ℕ) → all_relocated c.changing r ≡ planned t ys → t.slots ≡ r.slots
  unfolding all_relocated
  changing_slots r t ys e = elim own.changes [
    | inl z ↦ (let q = planned_same r t [] ys (rw z at e) in ap (λ (u : Slotted). u.slots) (sym q.0))
    | inr (a, z, one, away, l) ↦ (let (q, xs, us, f, k, i) = then_planned (relocated ((anodes_of img).block a) r) (all_relocated []) t ys (rw z at e) in
        ap (λ (u : Slotted). u.slots) (sym (planned_same q t [] us k).0) ∙ relocated_slots ((anodes_of img).block a) r q xs f)
  ]

  -- the own steps and the directory block leave the slots
  pub both_slots : (r : Slotted) (ys : List ℕ) → c.steps and_then all_relocated c.changing ≡ planned r ys → r.slots ≡ slot_of img
  both_slots r ys e = let (q, xs, us, f, k, i) = then_planned c.steps (all_relocated c.changing) r ys e in changing_slots q r us k ∙ own.slots_stay q xs f

  -- the own steps and the directory block
  pub takes_first : TakesBlocks (disk_size img) (last_reserved img) (table_of img) (system_owns img) (head_in img) (λ a. ⊥) (c.steps and_then all_relocated c.changing) (c.takes + length c.changing)
  takes_first = takes_then c.steps (all_relocated c.changing) (λ a l. absurd l) own.takes takes_changing

  -- ALL STEPS THAT TAKE: as many blocks as are counted
  pub takes_all : TakesBlocks (disk_size img) (last_reserved img) (table_of img) (system_owns img) (head_in img) (λ a. ⊥) (taking_steps c) (new_blocks img c)
  unfolding taking_steps new_blocks
  takes_all = takes_then (c.steps and_then all_relocated c.changing) (reslotted_from 42 0) (λ a l. l) takes_first
      (λ r ys e w. takes_is refl (sym (ap (λ (f : ℕ → ℕ). used_from f 42 0) (both_slots r ys e) ∙ used_all img)) (takes_slots 42 0 r w.system' w.hd' w.sd' w.good))

  -- ---- what follows

  w₀ : AcceptedWhole img
  w₀ = accepted_whole image

  -- the free list holds a block as often as it stands there
  holds_free : (x : ℕ) → held limit (head_in img) (anodes_of img).count (anodes_of img).block 1 x ≤ occurrences x (blocks_of (anodes_of img) 1)
  holds_free x = elim (less? x n) [
    | inl l ↦ omega (arith, occurrences-held w₀.good 1 (head_1 w₀.good) x l)
    | inr l ↦ (let s = anodes_of img in elim (less? 0 (held limit (head_in img) s.count s.block 1 x)) [
      | inl p ↦ (let (a, b, e, from, to) = held_some limit (head_in img) s.count s.block 1 x p in absurd (omega (arith, l, to, full_inside w₀.good a (omega (arith, from, to)))))
      | inr p ↦ omega (arith, p)
    ])
  ]

  -- the blocks taken are distinct free blocks of the old image
  pub taken_free : (t : Slotted) (ys : List ℕ) → taking_steps c ≡ planned t ys → OldFree img ys
  taken_free t ys e x = omega (arith, (takes_all.done t ys e).0.lost x, holds_free x)

  -- a plan that is done has taken them
  pub safe_taken : (t : Slotted) (ys : List ℕ) → safe_steps img c ≡ planned t ys → (s : Slotted) × (zs : List ℕ) × (taking_steps c ≡ planned s ys) × (given_back (last_reserved img) (old_blocks img c) s ≡ planned t zs)
  unfolding safe_steps with_taken
  safe_taken t ys e = go (taking_steps c) refl e
    where
      back : (us : List ℕ) (p : Plan Slotted) → with_taken us p ≡ planned t ys → (zs : List ℕ) × (p ≡ planned t zs) × (us ≡ ys)
      back us (refused k) e = absurd (refused≢planned k t ys e)
      back us (planned r zs) e = let q = planned_same r t us ys e in (zs, rw q.0, sym q.1)

      go : (p : Plan Slotted) → taking_steps c ≡ p → elim p [ refused k ↦ refused k | planned s us ↦ with_taken us (given_back (last_reserved img) (old_blocks img c) s) ] ≡ planned t ys →
          (s : Slotted) × (zs : List ℕ) × (taking_steps c ≡ planned s ys) × (given_back (last_reserved img) (old_blocks img c) s ≡ planned t zs)
      go (refused k) q e = absurd (refused≢planned k t ys e)
      go (planned s us) q e = let (zs, f, i) = back us (given_back (last_reserved img) (old_blocks img c) s) e in (s, zs, q ∙ rw i, f)

-- a give-back of one block after the other is refused with 28 alone
back_refused : (last : ℕ) (ys : List ℕ) (s : Slotted) (j : ℕ) → given_back last ys s ≡ refused j → j ≡ 28
unfolding given_back
back_refused last [] s j e = absurd (planned≢refused s [] j e)
back_refused last (y ∷ ys) s j e = elim (then_refused (release limit no_growth last 1 y s) (given_back last ys) j e) [
  | inl q ↦ release_refused limit no_growth last 1 y s j q
  | inr (r, zs, i, q) ↦ back_refused last ys r j q
]

module _ {img : List ℕ} (image : AcceptedImage img) {left : ℕ → Type 0} {c : SafeChange} (own : OwnSteps img left c) where
  -- IF THERE ARE ENOUGH FREE BLOCKS, no step runs out of them: the only refusal left is 28
  pub steps_28 : new_blocks img c ≤ free_blocks (anodes_of img) → CountedSteps img c
  unfolding safe_steps with_taken free_blocks block_count
  steps_28 enough = record {
    only_28 = λ j e. go (taking_steps c) refl j e;
    as_many = λ t ys e. let (s, zs, q, f) = safe_taken image own t ys e in ((takes_all image own).done s ys q).1;
  }
    where
      free-count : free_count (table_of img) (head_in img) ≡ free_blocks (anodes_of img)
      free-count = let g = (accepted_whole image).good in blocks-chain g 1 (head_1 g)

      back : (us : List ℕ) (p : Plan Slotted) (j : ℕ) → with_taken us p ≡ refused j → p ≡ refused j
      back us (refused k) j e = e
      back us (planned r zs) j e = absurd (planned≢refused r us j e)

      go : (p : Plan Slotted) → taking_steps c ≡ p → (j : ℕ) → ◌≡◌ {A = Plan Slotted} (elim p [ refused k ↦ refused k | planned s us ↦ with_taken us (given_back (last_reserved img) (old_blocks img c) s) ]) (refused j) → j ≡ 28
      go (refused k) q j e = (takes_all image own).stops j (q ∙ e) (omega (arith, enough, free-count))
      go (planned s us) q j e = back_refused (last_reserved img) (old_blocks img c) s j (back us (given_back (last_reserved img) (old_blocks img c) s) j e)
