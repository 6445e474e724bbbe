-- Stores of anodes, where test 5 passes: the image then has those anodes, and keeps its length, the blocks that no slot holds and the heads of its anode blocks.
use Prim.Native.Nat.{ℕ, zero, suc, ◌/◌, ◌≤◌, ◌<◌}
use Rattle.std.specs.Prelude.{◌≡◌, ◌≢◌, Bool, cond, List, eqb}
use Rattle.std.proofs.Math.Path.{refl, fun_ext}
use Rattle.std.proofs.Common.{sym, ap, ◌∙◌, arith, eq-eqb, eqb-true}
use Rattle.std.proofs.Math.Logic.{inl, inr}
use Rattle.std.proofs.Math.Bool.{true, false, and-eq-true_iff}
use Rattle.disk.specs.Blocks.{block_of}
use Rattle.disk.specs.Root.{slot_of}
use Rattle.disk.specs.AnodeBlocks.{anode_made, anode_header_in, anode_of, set_anode}
use Rattle.disk.specs.declared.Anode.{Anode}
use Rattle.disk.proofs.Laws.{slot_of_high, set_anode_missing}
use Rattle.disk.proofs.Store.{anode_header_in-put_anode, length-set_anode, block_of-set_anode-same, block_of-set_anode_other, anode_of-set_anode-same, anode_of-set_anode_other}
use Rattle.rules.specs.Anodes.{Anodes, limit, exists, fields_of, anodes_of, same_anode, store_changed, with_anodes}
use Rattle.rules.specs.Accepted.{wrong_slots}
use Rattle.laws.specs.Tests.{same?, less?}
use Rattle.laws.specs.Space.{Alike, alike_trans}
use Rattle.laws.specs.Passes.{Reading}
use Rattle.laws.specs.ImageAnodes.{slot_missing, read_stored, read_missing}
use Rattle.laws.specs.TestsPassed.{right_slot, one_slot}
use Rattle.frames.specs.Kept.{Unheld, HeadsKept, kept-all, kept_both, slot_of-kept, unheld_kept, wrong_slots-kept}

-- j has the length of img, the blocks that no slot holds, and the heads of the anode blocks
abbrev pub AnodesStored : List ℕ → List ℕ → Type 0
AnodesStored img j = HeadsKept (Unheld img) img j

-- no slot holds the root block
pub root_unheld : (img : List ℕ) → wrong_slots img ≡ false → Unheld img 2
root_unheld img right s u e = omega (arith, (right_slot img right s u).above, e)

-- ---- one anode

module _ (img : List ℕ) (a : ℕ) (x : Anode) where
  set-stored : AnodesStored img (set_anode img a x)
  set-stored = record {
    kept = record { length-kept = length-set_anode img a x; block_kept = block_kept };
    heads_kept = heads_kept;
  }
    where
      block_kept : (d : ℕ) → Unheld img d → block_of (set_anode img a x) d ≡ block_of img d
      block_kept d o = elim (same? (slot_of img (a / 82)) 0) [
        | inl z ↦ rw (set_anode_missing img a x z)
        | inr u ↦ block_of-set_anode_other img a x d (o (a / 82) u)
      ]

      heads_kept : (s : ℕ) → slot_of img s ≢ 0 → anode_header_in (block_of (set_anode img a x) (slot_of img s)) ≡ anode_header_in (block_of img (slot_of img s))
      heads_kept s u = elim (same? (slot_of img (a / 82)) (slot_of img s)) [
        | inl e ↦ rw (block_of-set_anode-same img a x (slot_of img s) e u) (anode_header_in-put_anode (block_of img (slot_of img s)) _ x)
        | inr e ↦ rw (block_of-set_anode_other img a x (slot_of img s) e)
      ]

module _ (img : List ℕ) (right : wrong_slots img ≡ false) where
  module _ {j : List ℕ} (w : AnodesStored img j) where
    stored_right : wrong_slots j ≡ false
    stored_right = wrong_slots-kept w (root_unheld img right) ∙ right

    -- one more anode
    stored_more : (a : ℕ) (x : Anode) → AnodesStored img (set_anode j a x)
    stored_more a x = record {
      kept = kept_both (λ d o. o) (unheld_kept w.kept (root_unheld img right)) w.kept (set-stored j a x).kept;
      heads_kept = λ s u. let same = slot_of-kept w.kept (root_unheld img right) s in rw same at ((set-stored j a x).heads_kept s (λ z. u (sym same ∙ z))) ∙ w.heads_kept s u;
    }

-- ---- what the anodes read then

-- the same anode is read as the same
alike_read : (img j : List ℕ) (a : ℕ) → anode_of j a ≡ anode_of img a → Alike (anodes_of img) (anodes_of j) a
unfolding anodes_of fields_of anode_of
alike_read img j a e = record {
  same_count = ap (λ (x : Anode). x.count) e;
  same_block = ap (λ (x : Anode). x.block.0) e;
  same_next = ap (λ (x : Anode). x.next.0) e;
}

-- anodes that the test finds the same
alike_same : (s t : Anodes) (a : ℕ) → same_anode s t a ≡ true → Alike t s a
unfolding same_anode
alike_same s t a e =
    let c = (and-eq-true_iff (eqb (s.count a) (t.count a)) _).0 e in
    let b = (and-eq-true_iff (eqb (s.block a) (t.block a)) (eqb (s.next a) (t.next a))).0 c.1 in
    record { same_count = eqb-true _ _ c.0; same_block = eqb-true _ _ b.0; same_next = eqb-true _ _ b.1 }

-- anode a of t, as it is stored
abbrev anode_from : Anodes → ℕ → Anode
anode_from t a = anode_made (t.count a) (t.block a) (t.next a)

-- an anode that was stored is read
alike_stored : (t : Anodes) (j : List ℕ) (a : ℕ) → anode_of j a ≡ anode_from t a → Alike t (anodes_of j) a
alike_stored t j a e = let k = read_stored j a (t.count a) (t.block a) (t.next a) e in record { same_count = k.0; same_block = k.1; same_next = k.2 }

module _ (img : List ℕ) (right : wrong_slots img ≡ false) (a : ℕ) (x : Anode) where
  not_root : slot_of img (a / 82) ≢ 2
  not_root e = root_unheld img right (a / 82) (λ z. omega (arith, e, z)) e

  set_same : slot_of img (a / 82) ≢ 0 → anode_of (set_anode img a x) a ≡ x
  set_same u = anode_of-set_anode-same img a x not_root (slot_of img (a / 82)) refl u (right_slot img right (a / 82) u).inside

  set_other : (b : ℕ) → b ≢ a → anode_of (set_anode img a x) b ≡ anode_of img b
  set_other b o = anode_of-set_anode_other img a x not_root b o (λ e u. sym (one_slot img right (a / 82) (b / 82) u (sym e)))

-- ---- the anodes below a bound

module _ (img : List ℕ) (right : wrong_slots img ≡ false) (t : Anodes) where
  abbrev up_to : ℕ → List ℕ
  up_to k = store_changed (anodes_of img) t img k

  -- with anode a too, left alone or stored
  abbrev one_more : Bool → ℕ → List ℕ
  one_more same a = cond same (up_to a) (set_anode (up_to a) a (anode_from t a))

  up_to-stored : (k : ℕ) → AnodesStored img (up_to k)
  unfolding store_changed
  up_to-stored zero = record { kept = kept-all img; heads_kept = λ s u. refl }
  up_to-stored (suc a) = step (same_anode (anodes_of img) t a) (up_to-stored a)
    where
      step : (c : Bool) → AnodesStored img (up_to a) → AnodesStored img (one_more c a)
      step true w = w
      step false w = stored_more img right w a (anode_from t a)

  -- the others are the image's
  up_to-rest : (k b : ℕ) → k ≤ b → anode_of (up_to k) b ≡ anode_of img b
  unfolding store_changed
  up_to-rest zero b l = refl
  up_to-rest (suc a) b l = step (same_anode (anodes_of img) t a) (up_to-rest a b (omega arith))
    where
      step : (c : Bool) → anode_of (up_to a) b ≡ anode_of img b → anode_of (one_more c a) b ≡ anode_of img b
      step true e = e
      step false e = set_other (up_to a) (stored_right img right (up_to-stored a)) a (anode_from t a) b (λ i. omega (arith, l, i)) ∙ e

  module _ (r : Reading limit (exists img) t) where
    missing_free : (a : ℕ) → slot_of img (a / 82) ≡ 0 → t.block a ≡ 0
    missing_free a z = elim (same? (t.block a) 0) [ inl e ↦ e | inr u ↦ absurd (rw (slot_missing img a z) at (r.present.exist a u)) ]

    -- an anode whose slot holds no block in either is free in both
    alike_missing : (j : List ℕ) (a : ℕ) → slot_of j (a / 82) ≡ 0 → slot_of img (a / 82) ≡ 0 → Alike t (anodes_of j) a
    alike_missing j a z y =
        let k = read_missing j a z in
        let q = missing_free a y in
        record { same_count = k.0 ∙ sym (r.present.free-none a q); same_block = k.1 ∙ sym q; same_next = k.2 ∙ sym (r.view.free-end a q) }

    -- those below k are t's
    up_to_anodes : (k b : ℕ) → b < k → Alike t (anodes_of (up_to k)) b
    unfolding store_changed
    up_to_anodes zero b l = absurd (omega arith)
    up_to_anodes (suc a) b l = elim (same? b a) [
      | inl e ↦ rw e (now (same_anode (anodes_of img) t a) refl)
      | inr e ↦ before (same_anode (anodes_of img) t a) (up_to_anodes a b (omega arith)) e
    ]
      where
        still_right : wrong_slots (up_to a) ≡ false
        still_right = stored_right img right (up_to-stored a)

        now : (c : Bool) → same_anode (anodes_of img) t a ≡ c → Alike t (anodes_of (one_more c a)) a
        now true e = alike_trans (alike_same (anodes_of img) t a e) (alike_read img (up_to a) a (up_to-rest a a (omega arith)))
        now false e = elim (same? (slot_of (up_to a) (a / 82)) 0) [
          | inl z ↦ rw (set_anode_missing (up_to a) a (anode_from t a) z) (alike_missing (up_to a) a z (sym (slot_of-kept (up_to-stored a).kept (root_unheld img right) (a / 82)) ∙ z))
          | inr u ↦ alike_stored t (one_more false a) a (set_same (up_to a) still_right a (anode_from t a) u)
        ]

        before : (c : Bool) → Alike t (anodes_of (up_to a)) b → b ≢ a → Alike t (anodes_of (one_more c a)) b
        before true w o = w
        before false w o = alike_trans w (alike_read (up_to a) (one_more false a) b (set_other (up_to a) still_right a (anode_from t a) b o))

    each_anode : (a : ℕ) → Alike t (anodes_of (up_to limit)) a
    each_anode a = elim (less? a limit) [
      | inl l ↦ up_to_anodes limit a l
      | inr l ↦ alike_missing (up_to limit) a (slot_of_high (up_to limit) (a / 82) (omega arith)) (slot_of_high img (a / 82) (omega arith))
    ]

    -- the anodes that were stored are read
    pub anodes_of-with_anodes : anodes_of (with_anodes img t) ≡ t
    unfolding with_anodes
    anodes_of-with_anodes =
        let count = fun_ext (λ a. (each_anode a).same_count) in
        let block = fun_ext (λ a. (each_anode a).same_block) in
        let next = fun_ext (λ a. (each_anode a).same_next) in
        λ i. record { count = count i; block = block i; next = next i }

  -- whatever t is, the other blocks and the heads are kept
  pub with_anodes-stored : AnodesStored img (with_anodes img t)
  unfolding with_anodes
  with_anodes-stored = up_to-stored limit

-- the image's own anodes change nothing
pub with_anodes_own : (img : List ℕ) → with_anodes img (anodes_of img) ≡ img
unfolding with_anodes store_changed same_anode
with_anodes_own img = same limit
  where
    same : (k : ℕ) → store_changed (anodes_of img) (anodes_of img) img k ≡ img
    same zero = refl
    same (suc a) = simp (eq-eqb ((anodes_of img).count a) _ refl, eq-eqb ((anodes_of img).block a) _ refl, eq-eqb ((anodes_of img).next a) _ refl) (same a)
