-- The table of chain heads, one head after the other, and what it is in the end. `m` is that table; `n`, `b`, `t` and `c` are those of nexts, of first blocks, of predecessors and of counts.
use Prim.Native.Nat.{ℕ, zero, suc, ◌+◌, ◌≤◌, ◌<◌}
use mathlib.Core.Path.{◌≡◌, refl, sym, ap, ◌∙◌}
use mathlib.Core.Logic.{◌≢◌, ◌⊎◌, inl, inr}
use mathlib.Core.List.{List, ◌++◌}
use native.Mathlib.Omega.{arith}
use lib.ListN.{length, get_or, set, drop, length-set}
use lib.Seq.{get_or-set_same, get_or-set_other, drop-set-lt}
use Rattle.rules.specs.Chains.{followed, head_of}
use Rattle.rules.specs.Tables.{chain_head, anode_entry, anode_table}
use Rattle.tables.specs.Held.{ZeroBelow}
use Rattle.anodes.specs.Loaded.{anodes_from}
use Rattle.laws.specs.Tests.{same?}
use Rattle.laws.specs.OwnerTable.{listed-front, anode_entry_head}
use Rattle.laws.specs.Links.{Linked, next_below, checked}
use Rattle.laws.specs.Heads.{Head, chain_ind, head_of_heads}
use Rattle.chains.specs.Predecessors.{PredTable}
use Rattle.chains.specs.Storing.{stored_along}
use Rattle.chains.specs.Filling.{HeadsOnly, FilledBelow}
use Rattle.chains.proofs.Predecessors.{no_pred}
use Rattle.chains.proofs.Storing.{stored-length, set-kept, stored-kept, stored_step}
use Rattle.chains.proofs.Endings.{followed-none, followed-one}

-- an anode that is no head
pub fill_skip : (n b m : List ℕ) (a : ℕ) → FilledBelow m n b a → (Head (λ x. get_or n x 0) (λ x. get_or b x 0) a → ⊥) → FilledBelow m n b (a + 1)
fill_skip n b m a w off = record {
  long = w.long;
  right = w.right;
  along = w.along;
  filled = λ h l d. elim (same? h a) [ inl e ↦ absurd (off (rw e at d)) | inr e ↦ w.filled h (omega arith) d ];
}

module _ (n b : List ℕ) (k : Linked 3444 (λ a. get_or n a 0) (λ a. get_or b a 0)) where
  -- ---- a head stored along its chain

  module _ (h : ℕ) where
    -- the walk is at 0, or on the chain of h
    on_chain : ℕ → Type 0
    on_chain a = a ≢ 0 → (get_or b a 0 ≢ 0) × (head_of 3444 (λ x. get_or n x 0) (λ x. get_or b x 0) a ≡ h)

    on_next : (a : ℕ) → a ≢ 0 → on_chain a → on_chain (get_or n a 0)
    unfolding on_chain
    on_next a p on q = (k.closed a q, (head_of_heads k).along a q ∙ (on p).1)

    stored-rest : (f : ℕ) (m : List ℕ) (a : ℕ) → on_chain a → drop 3444 (stored_along f n m h a) ≡ drop 3444 m
    unfolding stored_along on_chain
    stored-rest zero m a on = refl
    stored-rest (suc f) m zero on = refl
    stored-rest (suc f) m (suc a) on =
        stored-rest f (set m (suc a) h) (get_or n (suc a) 0) (on_next (suc a) (λ z. omega arith) on)
        ∙ drop-set-lt 3444 m (suc a) h (k.view.below (suc a) (on (λ z. omega arith)).0)

    stored_right : (f : ℕ) (m : List ℕ) (a : ℕ) → 3444 ≤ length m → on_chain a → HeadsOnly m n b → HeadsOnly (stored_along f n m h a) n b
    unfolding stored_along on_chain
    stored_right zero m a long on r = r
    stored_right (suc f) m zero long on r = r
    stored_right (suc f) m (suc a) long on r =
        stored_right f (set m (suc a) h) (get_or n (suc a) 0) (rw (length-set m (suc a) h) long) (on_next (suc a) (λ z. omega arith) on) new
      where
        here : (get_or b (suc a) 0 ≢ 0) × (head_of 3444 (λ x. get_or n x 0) (λ x. get_or b x 0) (suc a) ≡ h)
        here = on (λ z. omega arith)

        new : HeadsOnly (set m (suc a) h) n b
        new x l g = elim (same? x (suc a)) [
          | inl q ↦ rw (q, get_or-set_same m (suc a) h 0 (omega (arith, k.view.below (suc a) here.0))) (sym here.1)
          | inr q ↦ rw (get_or-set_other m (suc a) x h 0 q) (r x l (rw (get_or-set_other m (suc a) x h 0 q) at g))
        ]

    stored_along_lem : h ≢ 0 → (f : ℕ) (m : List ℕ) (a : ℕ) → 3444 ≤ length m → on_chain a → followed (λ x. get_or n x 0) f a ≡ 0
        → ((x : ℕ) → get_or m x 0 ≢ 0 → get_or n x 0 ≢ 0 → (get_or m (get_or n x 0) 0 ≢ 0) ⊎ (get_or n x 0 ≡ a))
        → (x : ℕ) → get_or (stored_along f n m h a) x 0 ≢ 0 → get_or n x 0 ≢ 0 → get_or (stored_along f n m h a) (get_or n x 0) 0 ≢ 0
    unfolding stored_along on_chain
    stored_along_lem some zero m a long on e r = λ x p q. elim (r x p q) [ inl y ↦ y | inr y ↦ absurd (q (y ∙ sym (followed-none (λ x. get_or n x 0) a) ∙ e)) ]
    stored_along_lem some (suc f) m zero long on e r = λ x p q. elim (r x p q) [ inl y ↦ y | inr y ↦ absurd (q y) ]
    stored_along_lem some (suc f) m (suc a) long on e r =
        stored_along_lem some f (set m (suc a) h) (get_or n (suc a) 0) (rw (length-set m (suc a) h) long) (on_next (suc a) (λ z. omega arith) on) (sym (followed-one (λ x. get_or n x 0) f (suc a)) ∙ e) new
      where
        here : get_or (set m (suc a) h) (suc a) 0 ≡ h
        here = get_or-set_same m (suc a) h 0 (omega (arith, k.view.below (suc a) (on (λ z. omega arith)).0))

        new : (x : ℕ) → get_or (set m (suc a) h) x 0 ≢ 0 → get_or n x 0 ≢ 0 → (get_or (set m (suc a) h) (get_or n x 0) 0 ≢ 0) ⊎ (get_or n x 0 ≡ get_or n (suc a) 0)
        new x p q = elim (same? x (suc a)) [
          | inl y ↦ inr (ap (λ (z : ℕ). get_or n z 0) y)
          | inr y ↦ elim (r x (rw (get_or-set_other m (suc a) x h 0 y) at p) q) [
            | inl z ↦ inl (set-kept h some m (suc a) (get_or n x 0) z)
            | inr z ↦ inl (rw (z, here) some)
          ]
        ]

  -- ---- one anode after the other

  pub head_at : (t : List ℕ) → PredTable t n → (a : ℕ) → a ≢ 0 → get_or b a 0 ≢ 0 → get_or t a 0 ≡ 0 → Head (λ x. get_or n x 0) (λ x. get_or b x 0) a
  head_at t p a h u z = record { pos = h; in_use = u; no_pred = no_pred t n p k.zero-end a h z }

  module _ (m : List ℕ) (a : ℕ) (w : FilledBelow m n b a) (d : Head (λ x. get_or n x 0) (λ x. get_or b x 0) a) where
    on_head : on_chain a a
    unfolding on_chain
    on_head q = (d.in_use, (head_of_heads k).at_head a d)

    pub fill_rest : drop 3444 (stored_along 3444 n m a a) ≡ drop 3444 m
    fill_rest = stored-rest a 3444 m a on_head

    pub fill_more : FilledBelow (stored_along 3444 n m a a) n b (a + 1)
    fill_more = record {
      long = rw (stored-length n a 3444 m a) w.long;
      right = stored_right a 3444 m a w.long on_head w.right;
      along = stored_along_lem a d.pos 3444 m a w.long on_head ((checked k).ends a d.in_use) (λ x p q. inl (w.along x p q));
      filled = λ h l g. elim (same? h a) [
        | inl e ↦ rw (e, stored_step n a 3444 3443 a m refl d.pos)
            (stored-kept n a d.pos 3443 (set m a a) (get_or n a 0) a (rw (get_or-set_same m a a 0 (omega (arith, k.view.below a d.in_use, w.long))) d.pos))
        | inr e ↦ stored-kept n a d.pos 3444 m a h (w.filled h (omega arith) g)
      ];
    }

  -- ---- the whole table

  pub fill_none : (m : List ℕ) → 3444 ≤ length m → ZeroBelow m 3444 → FilledBelow m n b 1
  fill_none m long zeroed = record {
    long = long;
    right = λ x l h. absurd (h (zeroed x l));
    along = λ x h q. absurd (h (zeroed x (next_below k.view x q)));
    filled = λ h l d. absurd (d.pos (omega arith));
  }

  module _ (m : List ℕ) (w : FilledBelow m n b 3444) where
    some_at : (x : ℕ) → x ≢ 0 → get_or b x 0 ≢ 0 → get_or m x 0 ≢ 0
    some_at = chain_ind k (λ x. get_or m x 0 ≢ 0) (λ h d. w.filled h (k.view.below h d.in_use) d) (λ x q p. w.along x p q)

    entry_is : (c : List ℕ) (x : ℕ) → x < 3444 → get_or m x 0 ≡ chain_head (anodes_from c b n) x
    unfolding chain_head anodes_from
    entry_is c x l = elim (same? (get_or m x 0) 0) [
      | inl e ↦ e ∙ sym (none e)
      | inr e ↦ w.right x l e
    ]
      where
        none : get_or m x 0 ≡ 0 → head_of 3444 (λ a. get_or n a 0) (λ a. get_or b a 0) x ≡ 0
        none e = elim (same? x 0) [
          | inl z ↦ rw z (head_of_heads k).off_zero
          | inr z ↦ elim (same? (get_or b x 0) 0) [ inl u ↦ (head_of_heads k).off x u | inr u ↦ absurd (some_at x z u e) ]
        ]

    pub fill_done : (c rest : List ℕ) → drop 3444 m ≡ rest → m ≡ anode_table (anodes_from c b n) ++ rest
    unfolding anode_table anodes_from
    fill_done c rest e = listed-front (anode_entry (anodes_from c b n)) 3444 m w.long (λ x l. entry_is c x l ∙ sym (anode_entry_head (anodes_from c b n) k x)) ∙ rw e
