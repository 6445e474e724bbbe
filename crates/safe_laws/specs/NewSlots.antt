-- Where every anode block has taken a new place: the slots in use hold exactly the blocks taken for them, in the order taken, and no other slot holds one.
use Prim.Native.Nat.{ℕ, zero, suc, ◌+◌, ◌≤◌, ◌<◌}
use Rattle.std.specs.Prelude.{◌≡◌, ◌≢◌, cond, eqb}
use Rattle.std.proofs.Math.Path.{refl, sym, ap}
use Rattle.std.proofs.Common.{subst, ◌∙◌, eq-eqb, ne_eqb}
use Rattle.std.proofs.Math.Logic.{inl, inr}
use Rattle.std.proofs.Math.Bool.{true}
use mathlib.Core.List.{List, [], ◌∷◌, ◌++◌, append-nil, append_assoc}
use native.Mathlib.Omega.{arith}
use Rattle.rules.specs.Counting.{one_at, occurrences}
use Rattle.rules.specs.Anodes.{limit, exists_by}
use Rattle.rules.specs.Chains.{one_if_holds}
use Rattle.rules.specs.Plans.{Slotted, refused, planned}
use Rattle.rules.specs.Space.{Found, nowhere, found, free_extent}
use Rattle.rules.specs.Growth.{slot_from}
use Rattle.laws.specs.Tests.{same?}
use Rattle.laws.specs.Sums.{changed-same}
use Rattle.laws.specs.Bags.{occurrences-nil, occurrences-cons, occurrences-append}
use Rattle.laws.specs.Space.{Good, good-same}
use Rattle.laws.specs.Plans.{refused≢planned, planned_same, then_planned}
use Rattle.laws.specs.Moves.{with_these, Shift, shift_none, shift_trans}
use Rattle.safe_rules.specs.SafePlans.{reslotted, reslotted_from, slot_blocks}
use Rattle.safe_laws.specs.NewPlaces.{place_out, place_some, reslot_good}
use Rattle.safe_laws.specs.AllTaken.{reslotted_empty, reslotted_used, reslotted-end, reslotted_others}

-- how many of the m slots from k on hold block x
unfoldable pub holds_from : (ℕ → ℕ) → ℕ → ℕ → ℕ → ℕ
holds_from slots x zero k = 0
holds_from slots x (suc m) k = one_if_holds slots x k + holds_from slots x m (suc k)

-- slot k has a new block, taken from the free list: it is the system's beside those of before
pub record SlotMoved (n last k : ℕ) (s : Slotted) (system hd : ℕ → ℕ) (ys : List ℕ) (r : Slotted) : Type 0 where
  pub there : r.slots k ≢ 0
  pub are : ys ≡ r.slots k ∷ []
  pub hd' : ℕ → ℕ
  pub sd' : ℕ → ℕ
  pub good : Good limit (exists_by r.slots) n last r.anodes (with_these system ys) hd' sd'
  pub shift : Shift s.anodes hd r.anodes hd' 1 1

-- from s to t the m slots from k on have new places, the blocks of zs, which are the system's beside those of before
pub record NewSlots (n last m k : ℕ) (s : Slotted) (system hd : ℕ → ℕ) (zs : List ℕ) (t : Slotted) : Type 0 where
  pub before : (i : ℕ) → i < k → t.slots i ≡ s.slots i
  pub past : (i : ℕ) → k + m ≤ i → t.slots i ≡ s.slots i
  pub empty : (i : ℕ) → s.slots i ≡ 0 → t.slots i ≡ 0
  pub used : (i : ℕ) → s.slots i ≢ 0 → t.slots i ≢ 0
  pub holds : (x : ℕ) → holds_from t.slots x m k ≡ occurrences x zs
  -- in the order of the slots
  pub order : slot_blocks t.slots k ++ zs ≡ slot_blocks t.slots (k + m)
  pub hd' : ℕ → ℕ
  pub sd' : ℕ → ℕ
  pub good : Good limit (exists_by t.slots) n last t.anodes (with_these system zs) hd' sd'
  pub shift : Shift s.anodes hd t.anodes hd' 1 1

-- one slot that is moved holds the block taken
module _ {n last : ℕ} (k : ℕ) (s r : Slotted) (ys : List ℕ) (system hd sd : ℕ → ℕ) (g : Good limit (exists_by s.slots) n last s.anodes system hd sd) (used : s.slots k ≢ 0) where
  moved_from : (p x : ℕ) → free_extent limit true s.anodes ≡ found p x → slot_from s k p x ≡ r → s.anodes.block x ∷ [] ≡ ys → SlotMoved n last k s system hd ys r
  unfolding slot_from
  moved_from p x q same are =
      let y = s.anodes.block x in
      let at : r.slots k ≡ y = ap (λ (t : Slotted). t.slots k) (sym same) ∙ changed-same s.slots k y in
      let o = place_out s g p x q in
      record {
        there = λ z. place_some s g p x q (sym at ∙ z);
        are = sym are ∙ ap (λ (y : ℕ). y ∷ []) (sym at);
        hd' = o.hd';
        sd' = o.sd';
        good = rw (← same, ← are) (good-same (reslot_good s g p x q k used) (λ z. omega (arith, occurrences-cons z y [], occurrences-nil z)));
        shift = rw (← same) o.shift;
      }

  slot_moved : reslotted k s ≡ planned r ys → SlotMoved n last k s system hd ys r
  unfolding reslotted
  slot_moved e = go (free_extent limit true s.anodes) refl e
    where
      go : (c : Found) → free_extent limit true s.anodes ≡ c → elim c [ nowhere ↦ refused 27 | found p x ↦ planned (slot_from s k p x) (s.anodes.block x ∷ []) ] ≡ planned r ys → SlotMoved n last k s system hd ys r
      go nowhere q e = absurd (refused≢planned 27 r ys e)
      go (found p x) q e = let (same, are) = planned_same (slot_from s k p x) r (s.anodes.block x ∷ []) ys e in moved_from p x q same (sym are)

-- the blocks of the slots below k, of slot k, and of those behind it
slots_next : (slots : ℕ → ℕ) (k m : ℕ) (ys zs us : List ℕ) → zs ≡ ys ++ us → ys ≡ cond (eqb (slots k) 0) [] (slots k ∷ []) → slot_blocks slots (suc k) ++ us ≡ slot_blocks slots (suc k + m) → slot_blocks slots k ++ zs ≡ slot_blocks slots (k + suc m)
unfolding slot_blocks
slots_next slots k m ys zs us all its rest =
    let j : k + suc m ≡ suc k + m = omega arith in
    ap (λ (l : List ℕ). slot_blocks slots k ++ l) all ∙ sym (append_assoc (slot_blocks slots k) ys us) ∙ ap (λ (l : List ℕ). (slot_blocks slots k ++ l) ++ us) its ∙ rest ∙ ap (slot_blocks slots) (sym j)

module _ {n last : ℕ} where
  -- all of them
  pub new_slots : (m k : ℕ) (s t : Slotted) (zs : List ℕ) (system hd sd : ℕ → ℕ) → Good limit (exists_by s.slots) n last s.anodes system hd sd → reslotted_from m k s ≡ planned t zs → NewSlots n last m k s system hd zs t
  unfolding holds_from one_if_holds slot_blocks
  new_slots zero k s t zs system hd sd g e =
      let (same, are) = planned_same s t [] zs (sym (reslotted-end k s).0 ∙ e) in
      let slots : (i : ℕ) → t.slots i ≡ s.slots i = λ i. ap (λ (u : Slotted). u.slots i) (sym same) in
      record {
        before = λ i l. slots i;
        past = λ i l. slots i;
        empty = λ i z. slots i ∙ z;
        used = λ i u z. u (sym (slots i) ∙ z);
        holds = λ x. sym (ap (occurrences x) are ∙ occurrences-nil x);
        order = let j : k + 0 ≡ k = omega arith in rw (are, j) (append-nil (slot_blocks t.slots k));
        hd' = hd;
        sd' = sd;
        good = rw (← same) (good-same g (λ x. omega (arith, ap (occurrences x) are, occurrences-nil x)));
        shift = rw (← same) (shift_none s.anodes hd 1 1);
      }
  new_slots (suc m) k s t zs system hd sd g e = elim (same? (s.slots k) 0) [
    | inl z ↦ (
        let (r, ys, us, p, q, i) = then_planned (planned s []) (reslotted_from m (suc k)) t zs (sym (reslotted_empty m k s z).0 ∙ e) in
        let (same, are) = planned_same s r [] ys p in
        let slots : (i : ℕ) → r.slots i ≡ s.slots i = λ i. ap (λ (u : Slotted). u.slots i) (sym same) in
        let w = new_slots m (suc k) r t us system hd sd (rw same at g) q in
        let all : zs ≡ us = i ∙ ap (λ (l : List ℕ). l ++ us) are in
        let off : t.slots k ≡ 0 = w.before k (omega arith) ∙ slots k ∙ z in
        record {
          before = λ i l. w.before i (omega (arith, l)) ∙ slots i;
          past = λ i l. w.past i (omega (arith, l)) ∙ slots i;
          empty = λ i q. w.empty i (slots i ∙ q);
          used = λ i u. w.used i (λ q. u (sym (slots i) ∙ q));
          holds = λ x. rw (eq-eqb (t.slots k) 0 off) (omega (arith, w.holds x, ap (occurrences x) all));
          order = slots_next t.slots k m [] zs us all (rw (eq-eqb (t.slots k) 0 off)) w.order;
          hd' = w.hd';
          sd' = w.sd';
          good = good-same w.good (λ x. omega (arith, ap (occurrences x) all));
          shift = shift_trans {hd'' = w.hd'} (subst (λ (u : Slotted). Shift s.anodes hd u.anodes hd 1 1) same (shift_none s.anodes hd 1 1)) w.shift;
        })
    | inr u ↦ (
        let (r, ys, us, p, q, i) = then_planned (reslotted k s) (reslotted_from m (suc k)) t zs (sym (reslotted_used m k s u).0 ∙ e) in
        let v = slot_moved k s r ys system hd sd g u p in
        let w = new_slots m (suc k) r t us (with_these system ys) v.hd' v.sd' v.good q in
        let others = reslotted_others k s r ys p in
        let at : t.slots k ≡ r.slots k = w.before k (omega arith) in
        let on : t.slots k ≢ 0 = λ z. v.there (sym at ∙ z) in
        record {
          before = λ i l. w.before i (omega (arith, l)) ∙ others i (omega (arith, l));
          past = λ i l. w.past i (omega (arith, l)) ∙ others i (omega (arith, l));
          empty = λ i z. elim (same? i k) [ inl j ↦ absurd (u (ap s.slots (sym j) ∙ z)) | inr j ↦ w.empty i (others i j ∙ z) ];
          used = λ i h. elim (same? i k) [ inl j ↦ (λ z. on (ap t.slots (sym j) ∙ z)) | inr j ↦ w.used i (λ z. h (sym (others i j) ∙ z)) ];
          holds = λ x. rw (ne_eqb (t.slots k) 0 on) (omega (arith, w.holds x, ap (occurrences x) i, occurrences-append x ys us, ap (occurrences x) v.are, occurrences-cons x (r.slots k) [], occurrences-nil x, ap (λ (y : ℕ). one_at y x) at));
          order = slots_next t.slots k m ys zs us i (rw (ne_eqb (t.slots k) 0 on) (v.are ∙ ap (λ (y : ℕ). y ∷ []) (sym at))) w.order;
          hd' = w.hd';
          sd' = w.sd';
          good = good-same w.good (λ x. omega (arith, ap (occurrences x) i, occurrences-append x ys us));
          shift = shift_trans {hd'' = w.hd'} v.shift w.shift;
        })
  ]

-- the blocks taken for the 42 slots are those that the slots then hold, slot by slot
pub slots_order : {n last : ℕ} {system hd sd : ℕ → ℕ} (r s : Slotted) (us : List ℕ) → Good limit (exists_by r.slots) n last r.anodes system hd sd → reslotted_from 42 0 r ≡ planned s us → us ≡ slot_blocks s.slots 42
unfolding slot_blocks
slots_order {n} {last} {system} {hd} {sd} r s us g e = (new_slots 42 0 r s us system hd sd g e).order
