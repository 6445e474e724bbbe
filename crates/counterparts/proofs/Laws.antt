-- Entries that are put into the index, block by block and one by one. Assumes nothing.
use Prim.Native.Nat.{ℕ, zero, suc, ◌+◌, ◌≤◌, ◌<◌}
use mathlib.Core.Path.{◌≡◌, refl, sym, ap, ◌∙◌}
use mathlib.Core.Logic.{⊎_elim, ◌≢◌}
use mathlib.Core.List.{List, [], ◌∷◌, ◌++◌, append-nil, append_assoc}
use native.Mathlib.Nat.{not-suc-le-zero, add-zero}
use native.Mathlib.Omega.{arith}
use lib.ListN.{length, length-append, length-map, get_or, get_or-append}
use lib.Seq.{get_or_at}
use Rattle.endian.proofs.Laws.{same?}
use Rattle.rules.specs.Walk.{Entered}
use Rattle.laws.specs.Entries.{Unbroken}
use Rattle.names.specs.Index.{Indexed, start_of, InBlock}
use Rattle.counterparts.specs.Spans.{starts_of, starts_in, Added, SpanOf}

-- ---- starts

pub starts_append : (l m : List Entered) → starts_of (l ++ m) ≡ starts_of l ++ starts_of m
unfolding starts_of
starts_append [] m = refl
starts_append (e ∷ l) m = ap (λ (z : List ℕ). e.start ∷ z) (starts_append l m)

pub length_starts : (l : List Entered) → length (starts_of l) ≡ length l
unfolding starts_of
length_starts l = length-map l (λ e. e.start)

length_in : (index : List ℕ) (from k : ℕ) → length (starts_in index from k) ≡ k
unfolding starts_in
length_in index from zero = refl
length_in index from (suc k) = omega (arith, length-append (starts_in index from k) (start_of index (from + k) ∷ []), length_in index from k)

-- the j-th of them
pub starts_at : (index : List ℕ) (from k j : ℕ) → j < k → get_or (starts_in index from k) j 0 ≡ start_of index (from + j)
unfolding starts_in
starts_at index from zero j l = absurd (not-suc-le-zero l)
starts_at index from (suc k) j l = ⊎_elim
    (λ (e : j ≡ k). rw e (get_or_at (starts_in index from k) (start_of index (from + k)) [] 0 k (length_in index from k)))
    (λ (d : j ≢ k). get_or-append (starts_in index from k) (start_of index (from + k) ∷ []) 0 j (rw (length_in index from k) (omega arith)) ∙ starts_at index from k j (omega arith))
    (same? j k)

-- where the index has the same starts
starts_kept : (new old : List ℕ) (from k : ℕ) → ((j : ℕ) → j < from + k → start_of new j ≡ start_of old j) → starts_in new from k ≡ starts_in old from k
unfolding starts_in
starts_kept new old from zero same = refl
starts_kept new old from (suc k) same = rw (starts_kept new old from k (λ j l. same j (omega arith)), same (from + k) (omega arith))

-- those of k entries, then of m behind them
starts_join : (index : List ℕ) (from k m : ℕ) → starts_in index from (k + m) ≡ starts_in index from k ++ starts_in index (from + k) m
unfolding starts_in
starts_join index from k zero = rw (add-zero k) (sym (append-nil (starts_in index from k)))
starts_join index from k (suc m) =
    let p : k + suc m ≡ suc (k + m) = omega arith in
    let q : from + (k + m) ≡ from + k + m = omega arith in
    rw (p, q, starts_join index from k m) (append_assoc (starts_in index from k) (starts_in index (from + k) m) (start_of index (from + k + m) ∷ []))

-- ---- what was put into the index

-- nothing yet
pub added_none : (img index : List ℕ) (i : ℕ) → Indexed img index i → Added img index index i i []
unfolding starts_in starts_of
added_none img index i t = record { indexed = t; grown = sym (add-zero i); starts = refl; kept = λ k l. refl; within = λ k l w. w l }

-- one entry
pub added_one : (img old new : List ℕ) (i : ℕ) (e : Entered) → Indexed img new (i + 1) → start_of new i ≡ e.start → ((k : ℕ) → k < i → start_of new k ≡ start_of old k)
    → ((k : ℕ) → k ≤ i → (k < i → InBlock old k) → InBlock new k) → Added img old new i (i + 1) (e ∷ [])
unfolding starts_in starts_of
added_one img old new i e t is kept within = record { indexed = t; grown = refl; starts = rw (add-zero i, is); kept = kept; within = λ k l w. within k (omega arith) w }

-- entries, then others behind them
pub added_more : {img old new newer : List ℕ} {i n m : ℕ} {l r : List Entered} → Added img old new i n l → Added img new newer n m r → Added img old newer i m (l ++ r)
added_more {img} {old} {new} {newer} {i} {n} {m} {l} {r} a b = record {
  indexed = b.indexed;
  grown = omega (arith, a.grown, b.grown, length-append l r);
  starts = rw (length-append l r, starts_join newer i (length l) (length r), starts_append l r, ← a.grown, b.starts, starts_kept newer new i (length l) (λ j k. b.kept j (omega (arith, a.grown))), a.starts);
  kept = λ k h. b.kept k (omega (arith, a.grown)) ∙ a.kept k h;
  within = λ k h w. b.within k h (λ h'. a.within k h' w);
}

-- ---- entries that are being put into the index: those of rest are left of those of whole

pub record Filling (img old new : List ℕ) (i n : ℕ) (rest whole : List Entered) : Type 0 where
  pub done : List Entered
  pub added : Added img old new i n done
  pub parted : done ++ rest ≡ whole
  pub unbroken : Unbroken rest

pub filling_start : (img index : List ℕ) (i : ℕ) (whole : List Entered) → Indexed img index i → Unbroken whole → Filling img index index i i whole whole
filling_start img index i whole t u = record { done = []; added = added_none img index i t; parted = refl; unbroken = u }

module _ {img old new : List ℕ} {i n : ℕ} {rest whole : List Entered} (f : Filling img old new i n rest whole) where
  -- none is left
  pub filling_done : rest ≡ [] → Added img old new i n whole
  filling_done e =
      let p : f.done ≡ whole = sym (append-nil f.done) ∙ ap (λ (z : List Entered). f.done ++ z) (sym e) ∙ f.parted in
      rw p at f.added

  -- a part of what is left fits where the whole does
  pub filling_room : (part behind : List Entered) → rest ≡ part ++ behind → i + length whole ≤ 3444 → n + length part ≤ 3444
  filling_room part behind e room = omega (
    arith,
    f.added.grown,
    room,
    ap length f.parted,
    length-append f.done rest,
    ap length e,
    length-append part behind,
  )

  -- and is put there
  pub filling_next : {newer : List ℕ} {m : ℕ} (part behind : List Entered) → rest ≡ part ++ behind → Unbroken behind → Added img new newer n m part → Filling img old newer i m behind whole
  filling_next part behind e u b = record {
    done = f.done ++ part;
    added = added_more f.added b;
    parted = append_assoc f.done part behind ∙ ap (λ (z : List Entered). f.done ++ z) (sym e) ∙ f.parted;
    unbroken = u;
  }

  -- so with one entry
  pub filling_one-room : (e : Entered) (behind : List Entered) → rest ≡ e ∷ behind → i + length whole ≤ 3444 → n < 3444
  filling_one-room e behind is room = omega (arith, filling_room (e ∷ []) behind is room)

  pub filling_one : {newer : List ℕ} (e : Entered) (behind : List Entered) → rest ≡ e ∷ behind → Unbroken behind → Indexed img newer (n + 1) → start_of newer n ≡ e.start
      → ((k : ℕ) → k < n → start_of newer k ≡ start_of new k) → ((k : ℕ) → k ≤ n → (k < n → InBlock new k) → InBlock newer k) → Filling img old newer i (n + 1) behind whole
  filling_one {newer} e behind is u t start kept within = filling_next (e ∷ []) behind is u (added_one img new newer n e t start kept within)

-- ---- a span

-- what was put into the index is a span
pub added_span : (img old new : List ℕ) (from upto : ℕ) (l : List Entered) → Added img old new from upto l → SpanOf img new (record { from = from; upto = upto }) l
added_span img old new from upto l a = record {
  indexed = a.indexed;
  ordered = omega (arith, a.grown);
  whole = a.grown;
  starts = a.starts;
  within = λ k low high. a.within k high (λ h. absurd (omega arith));
}
