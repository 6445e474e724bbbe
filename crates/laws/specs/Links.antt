-- The links of the anodes: what refusals 7 and 8 compute, and the form to prove with, from each other.
use Rattle.std.specs.Prelude.{ℕ, zero, suc, ◌≤◌, ◌<◌, ◌≡◌, refl, ◌≢◌, ◌⊎◌, List, [], ◌∷◌, length}
use Rattle.std.proofs.Common.{sym, ap, ◌∙◌, inl, inr, arith}
use Rattle.rules.specs.Counting.{one_at, occurrences}
use Rattle.rules.specs.Chains.{chain_of, followed, preds}
use Rattle.laws.specs.Tests.{same?}
use Rattle.laws.specs.Sums.{one_at_cases, one_at-same, one_at_some, one_at_other, one_at-le, sum-zero, sum-member, sum_members, sum-le-one}
use Rattle.laws.specs.Bags.{occurrences-nil, occurrences-cons, pigeonhole}
use Rattle.laws.specs.Segments.{Seg, Chain, followed-zero, chain_of_is, chain_is, chain_ends, chain-one, seg_avoids}

-- an anode in use is below A, and a free one has no next
pub record View (A : ℕ) (next block : ℕ → ℕ) : Type 0 where
  pub below : (a : ℕ) → block a ≢ 0 → a < A
  pub free-end : (a : ℕ) → block a ≡ 0 → next a ≡ 0

-- every next that is not 0 is in use
abbrev pub Closed : (ℕ → ℕ) → (ℕ → ℕ) → Type 0
Closed next block = (a : ℕ) → next a ≢ 0 → block (next a) ≢ 0

-- refusals 7 (its second half) and 8
pub record Checked (A : ℕ) (next block : ℕ → ℕ) : Type 0 where
  pub closed : Closed next block
  pub one_pred : (x : ℕ) → x ≢ 0 → block x ≢ 0 → preds A next x ≤ 1
  pub ends : (a : ℕ) → block a ≢ 0 → followed next A a ≡ 0

-- what to prove with: anode 0 has no next, and a rank that falls along next says that every chain ends
pub record Linked (A : ℕ) (next block : ℕ → ℕ) : Type 0 where
  pub view : View A next block
  pub zero-end : next 0 ≡ 0
  pub closed : Closed next block
  pub uniq : (p q : ℕ) → next p ≢ 0 → next p ≡ next q → p ≡ q
  pub rank : ℕ → ℕ
  pub falls : (a : ℕ) → a ≢ 0 → block a ≢ 0 → rank (next a) < rank a

-- nobody's next has no predecessor
pub preds-none : (A : ℕ) (next : ℕ → ℕ) (a : ℕ) → ((p : ℕ) → next p ≢ a) → preds A next a ≡ 0
unfolding preds
preds-none A next a h = sum-zero (λ p. one_at (next p) a) A (λ p l. one_at_other (next p) a (h p))

-- and the next of at most one has at most one
pub preds-one : (A : ℕ) (next : ℕ → ℕ) (x : ℕ) → ((p q : ℕ) → next p ≡ x → next q ≡ x → p ≡ q) → preds A next x ≤ 1
unfolding preds
preds-one A next x one =
    sum-le-one (λ p. one_at (next p) x) A (λ p. one_at-le (next p) x) (λ p q i j a b. one p q (one_at_some (next p) x a) (one_at_some (next q) x b))

-- the next of some has one, and the next of two has two
module _ (A : ℕ) (next : ℕ → ℕ) (x p : ℕ) (below : p < A) (leads : next p ≡ x) where
  pub preds_some : 0 < preds A next x
  unfolding preds
  preds_some = omega (arith, sum-member (λ q. one_at (next q) x) p A below, one_at-same (next p) x leads)

  pub preds-two : (q : ℕ) → q < A → p ≢ q → next q ≡ x → 1 < preds A next x
  unfolding preds
  preds-two q l s e = omega (arith, sum_members (λ y. one_at (next y) x) p q A below l s, one_at-same (next p) x leads, one_at-same (next q) x e)

module _ {A : ℕ} {next block : ℕ → ℕ} (v : View A next block) where
  -- only an anode in use has a next
  pub used : (a : ℕ) → next a ≢ 0 → block a ≢ 0
  used a h e = h (v.free-end a e)

  pub next_below : (a : ℕ) → next a ≢ 0 → a < A
  next_below a h = v.below a (used a h)

  pub above_free : (a : ℕ) → A ≤ a → block a ≡ 0
  above_free a h = elim (same? (block a) 0) [ inl e ↦ e | inr e ↦ absurd (omega (arith, v.below a e)) ]

  -- no predecessor, counted and said
  pub no_preds : (a : ℕ) → a ≢ 0 → preds A next a ≡ 0 → (p : ℕ) → next p ≢ a
  no_preds a a0 z p e = omega (arith, z, preds_some A next a p (next_below p (λ y. a0 (sym e ∙ y))) e)

  -- ---- from the check to the form to prove with: the rank is the length of the chain

  shorter : (a : ℕ) (l m : List ℕ) → a ≢ 0 → Chain next a l → Chain next (next a) m → length m < length l
  shorter a [] m h c d = absurd (h c)
  shorter a (b ∷ l) m h c d = omega (arith, ap length (chain-one next (next b) m l (rw c.0 at d) c.2))

  pub linked : next 0 ≡ 0 → Checked A next block → Linked A next block
  linked zero-end k = record {
    view = v;
    zero-end = zero-end;
    closed = k.closed;
    uniq = uniq;
    rank = λ a. length (chain_of next A a);
    falls = λ a h u. shorter a (chain_of next A a) (chain_of next A (next a)) h (chain_of_is next A a (k.ends a u)) (chain_of_is next A (next a) (next_ends a u (same? (next a) 0)));
  }
    where
      uniq : (p q : ℕ) → next p ≢ 0 → next p ≡ next q → p ≡ q
      uniq p q h e = elim (same? p q) [
        | inl s ↦ s
        | inr s ↦ absurd (omega (
          arith,
          k.one_pred (next p) h (k.closed p h),
          preds-two A next (next p) p (next_below p h) refl q (next_below q (λ z. h (e ∙ z))) s (sym e),
        ))
      ]

      next_ends : (a : ℕ) → block a ≢ 0 → (next a ≡ 0) ⊎ (next a ≢ 0) → followed next A (next a) ≡ 0
      next_ends a u (inl e) = rw e (followed-zero next A zero-end)
      next_ends a u (inr e) = k.ends (next a) (k.closed a e)

-- ---- and back

module _ {A : ℕ} {next block : ℕ → ℕ} (k : Linked A next block) where
  pub next_pos : (a : ℕ) → next a ≢ 0 → a ≢ 0
  next_pos a h e = h (rw e k.zero-end)

  -- the chain from an anode in use, found by its rank
  chain-found : (r a : ℕ) → (a ≢ 0 → block a ≢ 0) → k.rank a < r → (l : List ℕ) × Chain next a l
  chain-found zero a u h = absurd (omega arith)
  chain-found (suc r) a u h = go (same? a 0) (chain-found r (next a))
    where
      go : (a ≡ 0) ⊎ (a ≢ 0) → ((next a ≢ 0 → block (next a) ≢ 0) → k.rank (next a) < r → (l : List ℕ) × Chain next (next a) l) → (l : List ℕ) × Chain next a l
      go (inl e) rest = ([], e)
      go (inr e) rest = let t = rest (k.closed a) (omega (arith, k.falls a e (u e))) in (a ∷ t.0, (refl, e, t.1))

  -- in a walk no rank is above the first, and so none stands there twice
  pub seg_rank : (a z : ℕ) (l : List ℕ) (x : ℕ) → (a ≢ 0 → block a ≢ 0) → Seg next a l z → k.rank a < k.rank x → occurrences x l ≡ 0
  seg_rank a z l x u c h = seg_avoids next x (λ b. (b ≢ 0 → block b ≢ 0) × (k.rank b < k.rank x))
      (λ b b0 p. (λ e. omega (arith, p.1, ap k.rank e), (k.closed b, omega (arith, p.1, k.falls b b0 (p.0 b0))))) a z l (u, h) c

  pub seg_once : (a z : ℕ) (l : List ℕ) (x : ℕ) → (a ≢ 0 → block a ≢ 0) → Seg next a l z → occurrences x l ≤ 1
  seg_once a z [] x u c = omega (arith, occurrences-nil x)
  seg_once a z (b ∷ l) x u c =
      let nb : block b ≢ 0 = rw c.0 at u c.1 in
      elim (one_at_cases b x) [
        | inl e ↦ omega (arith, occurrences-cons x b l, seg_rank (next b) z l x (k.closed b) c.2 (omega (arith, k.falls b c.1 nb, ap k.rank e.0)))
        | inr e ↦ omega (arith, occurrences-cons x b l, seg_once (next b) z l x (k.closed b) c.2)
      ]

  -- what stands in a walk is in use
  pub seg_used : (a z : ℕ) (l : List ℕ) (x : ℕ) → (a ≢ 0 → block a ≢ 0) → Seg next a l z → block x ≡ 0 → occurrences x l ≡ 0
  seg_used a z l x u c h = seg_avoids next x (λ b. b ≢ 0 → block b ≢ 0) (λ b b0 p. (λ e. p b0 (ap block e ∙ h), k.closed b)) a z l u c

  pub seg_short : (a z : ℕ) (l : List ℕ) → (a ≢ 0 → block a ≢ 0) → Seg next a l z → length l ≤ A
  seg_short a z l u c = pigeonhole l A (λ x h. seg_used a z l x u c (above_free k.view x h)) (λ x. seg_once a z l x u c)

  -- the chain from an anode in use: `chain_of` with fuel A is it
  pub the_chain : (a : ℕ) → (a ≢ 0 → block a ≢ 0) → Chain next a (chain_of next A a)
  the_chain a u =
      let t = chain-found (suc (k.rank a)) a u (omega arith) in
      rw (chain_is next A a t.0 t.1 (seg_short a 0 t.0 u t.1)) t.1

  -- and any chain from it is that one
  pub chain_the : (a : ℕ) (l : List ℕ) → (a ≢ 0 → block a ≢ 0) → Chain next a l → chain_of next A a ≡ l
  chain_the a l u c = chain_is next A a l c (seg_short a 0 l u c)

  pub checked : Checked A next block
  checked = record {
    closed = k.closed;
    one_pred = λ x h u. preds-one A next x (λ p q a b. k.uniq p q (λ z. h (sym a ∙ z)) (a ∙ sym b));
    ends = ends;
  }
    where
      ends : (a : ℕ) → block a ≢ 0 → followed next A a ≡ 0
      ends a u = let c = the_chain a (λ q. u) in chain_ends next A a (chain_of next A a) k.zero-end c (seg_short a 0 (chain_of next A a) (λ q. u) c)
