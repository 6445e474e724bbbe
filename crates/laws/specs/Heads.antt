-- The head of the chain that an anode is on.
use Prim.Native.Nat.{ℕ, zero, suc, ◌+◌, ◌*◌, ◌<◌}
use Rattle.std.specs.Prelude.{◌≡◌, refl, ◌≢◌, ◌⊎◌, not, ◌&&◌, List, [], ◌∷◌}
use Rattle.std.proofs.Math.Path.{sym, ap}
use Rattle.std.proofs.Common.{◌∙◌, arith, eqb→eq}
use Rattle.std.proofs.Math.Logic.{inl, inr}
use Rattle.std.proofs.Math.Dec.{eqb, T_not, not_T}
use Rattle.rules.specs.Counting.{one_at, sum_below, sum_list, occurrences}
use Rattle.rules.specs.Chains.{chain_of, preds, one_if_head, head_of}
use Rattle.laws.specs.Tests.{same?, less?, cond_cases, eq→eqb, both, and}
use Rattle.laws.specs.Sums.{one_at_cases, one_at-same, one_at_some, one_at_other, sum_congr, sum-zero, sum-member, sum_some, sum_single}
use Rattle.laws.specs.Bags.{occurrences-nil, occurrences-cons, sum_by_occurrences}
use Rattle.laws.specs.Segments.{Seg, Chain, seg_zero}
use Rattle.laws.specs.Links.{Linked, preds-none, used, next_pos, above_free, no_preds, seg_used, the_chain}

-- a is a head: in use, not 0, and nobody's next
pub record Head (next block : ℕ → ℕ) (a : ℕ) : Type 0 where
  pub pos : a ≢ 0
  pub in_use : block a ≢ 0
  pub no_pred : (p : ℕ) → next p ≢ a

-- whatever the other blocks, where its own is still in use
pub head_while : {next block block' : ℕ → ℕ} {a : ℕ} → Head next block a → block' a ≢ 0 → Head next block' a
head_while d u = record { pos = d.pos; in_use = u; no_pred = d.no_pred }

-- a table of heads, by local rules: they settle it (`heads-one`), and `head_of` obeys them
pub record Heads (next block hd : ℕ → ℕ) : Type 0 where
  pub off : (a : ℕ) → block a ≡ 0 → hd a ≡ 0
  pub off_zero : hd 0 ≡ 0
  pub along : (a : ℕ) → next a ≢ 0 → hd (next a) ≡ hd a
  pub at_head : (a : ℕ) → Head next block a → hd a ≡ a

module _ {A : ℕ} {next block : ℕ → ℕ} (k : Linked A next block) where
  -- an anode has a predecessor, or is nobody's next
  pred? : (a : ℕ) → a ≢ 0 → ((p : ℕ) × (next p ≡ a)) ⊎ ((p : ℕ) → next p ≢ a)
  unfolding preds
  pred? a h = elim (less? 0 (preds A next a)) [
    | inl l ↦ (let s = sum_some (λ p. one_at (next p) a) A l in inl (s.0, one_at_some (next s.0) a s.2))
    | inr l ↦ inr (no_preds k.view a h (omega arith))
  ]

  -- induction along chains, from their heads on
  pub chain_ind : (P : ℕ → Type 0) → ((a : ℕ) → Head next block a → P a) → ((a : ℕ) → next a ≢ 0 → P a → P (next a)) → (a : ℕ) → a ≢ 0 → block a ≢ 0 → P a
  chain_ind P base step a h u = go (suc (sum_below k.rank A)) a h u (omega arith)
    where
      go : (r a : ℕ) → a ≢ 0 → block a ≢ 0 → sum_below k.rank A < k.rank a + r → P a
      go zero a h u l = absurd (omega (arith, sum-member k.rank a A (k.view.below a u)))
      go (suc r) a h u l = pick (pred? a h) (go r)
        where
          pick : ((p : ℕ) × (next p ≡ a)) ⊎ ((p : ℕ) → next p ≢ a) → ((b : ℕ) → b ≢ 0 → block b ≢ 0 → sum_below k.rank A < k.rank b + r → P b) → P a
          pick (inr n) rest = base a (record { pos = h; in_use = u; no_pred = n })
          pick (inl s) rest =
              let np : next s.0 ≢ 0 = λ z. h (sym s.1 ∙ z) in
              let below = k.falls s.0 (next_pos k s.0 np) (used k.view s.0 np) in
              rw s.1 at (step s.0 np (rest s.0 (next_pos k s.0 np) (used k.view s.0 np) (omega (arith, below, ap k.rank s.1))))

  -- the chain of a head
  pub head_chain : (h : ℕ) → Head next block h → Chain next h (chain_of next A h)
  head_chain h d = the_chain k h (λ q. d.in_use)

  -- the rules settle the table
  pub heads_one : {hd hd' : ℕ → ℕ} → Heads next block hd → Heads next block hd' → (a : ℕ) → hd a ≡ hd' a
  heads_one {hd} {hd'} s t a = elim (same? a 0) [
    | inl e ↦ rw e (s.off_zero ∙ sym t.off_zero)
    | inr e ↦ elim (same? (block a) 0) [
      | inl d ↦ s.off a d ∙ sym (t.off a d)
      | inr d ↦ chain_ind (λ x. hd x ≡ hd' x) (λ x h. s.at_head x h ∙ sym (t.at_head x h)) (λ x n q. s.along x n ∙ q ∙ sym (t.along x n)) a e d
    ]
  ]

  -- ---- how often an anode stands on a chain

  occurrences_next : (h : ℕ) (l : List ℕ) → Chain next h l → (a : ℕ) → next a ≢ 0 → occurrences (next a) l ≡ one_at h (next a) + occurrences a l
  occurrences_next h [] c a n = omega (arith, occurrences-nil (next a), occurrences-nil a, one_at_other h (next a) (λ e. n (sym e ∙ c)))
  occurrences_next h (b ∷ l) c a n =
      omega (arith, occurrences-cons (next a) b l, occurrences-cons a b l, occurrences_next (next b) l c.2 a n, same, ap (λ (x : ℕ). one_at x (next a)) c.0)
    where
      same : one_at (next b) (next a) ≡ one_at b a
      same = elim (one_at_cases b a) [
        | inl e ↦ one_at-same (next b) (next a) (ap next e.0) ∙ sym e.1
        | inr e ↦ one_at_other (next b) (next a) (λ q. e.0 (sym (k.uniq a b n (sym q)))) ∙ sym e.1
      ]

  occurrences_head : (h : ℕ) (l : List ℕ) → Chain next h l → (a : ℕ) → Head next block a → occurrences a l ≡ one_at h a
  occurrences_head h [] c a d = omega (arith, occurrences-nil a, one_at_other h a (λ e. d.pos (sym e ∙ c)))
  occurrences_head h (b ∷ l) c a d =
      omega (arith, occurrences-cons a b l, occurrences_head (next b) l c.2 a d, one_at_other (next b) a (d.no_pred b), ap (λ (x : ℕ). one_at x a) c.0)

  pub heads_cases : (h : ℕ) → (Head next block h × (one_if_head A next block h ≡ 1)) ⊎ ((Head next block h → ⊥) × (one_if_head A next block h ≡ 0))
  unfolding one_if_head
  heads_cases h = elim (cond_cases {A = ℕ} (not (eqb h 0) && (not (eqb (block h) 0) && eqb (preds A next h) 0)) 1 0) [
    | inl e ↦ (let s = both (not (eqb h 0)) (not (eqb (block h) 0) && eqb (preds A next h) 0) e.0 in
        let t = both (not (eqb (block h) 0)) (eqb (preds A next h) 0) s.1 in
        inl (
          record {
            pos = λ z. T_not (eqb h 0) s.0 (eq→eqb h 0 z);
            in_use = λ z. T_not (eqb (block h) 0) t.0 (eq→eqb (block h) 0 z);
            no_pred = no_preds k.view h (λ z. T_not (eqb h 0) s.0 (eq→eqb h 0 z)) (eqb→eq (preds A next h) 0 t.1);
          },
          e.1,
        ))
    | inr e ↦ inr (
      λ d. e.0 (and (not (eqb h 0)) (not (eqb (block h) 0) && eqb (preds A next h) 0)
          (not_T (eqb h 0) (λ z. d.pos (eqb→eq h 0 z)))
          (and (not (eqb (block h) 0)) (eqb (preds A next h) 0)
          (not_T (eqb (block h) 0) (λ z. d.in_use (eqb→eq (block h) 0 z)))
          (eq→eqb (preds A next h) 0 (preds-none A next h d.no_pred)))),
      e.1,
    )
  ]

  head_below : (h : ℕ) → Head next block h → h < A
  head_below h d = k.view.below h d.in_use

  pub head_of_heads : Heads next block (head_of A next block)
  unfolding head_of
  head_of_heads = record {
    off = λ a z. sum-zero (term a) A (λ h l. elim (heads_cases h) [
      | inl s ↦ vanish a h (seg_used k h 0 (chain_of next A h) a (λ q. s.0.in_use) (head_chain h s.0) z)
      | inr s ↦ none a h s.1
    ]);
    off_zero = sum-zero (term 0) A (λ h l. elim (heads_cases h) [
      | inl s ↦ vanish 0 h (seg_zero next h 0 (chain_of next A h) (head_chain h s.0))
      | inr s ↦ none 0 h s.1
    ]);
    along = λ a n. sum_congr (term (next a)) (term a) A (λ h l. elim (heads_cases h) [
      | inl s ↦ ap (λ (c : ℕ). one_if_head A next block h * (c * h)) (occurrences_next h (chain_of next A h) (head_chain h s.0) a n
          ∙ rw (one_at_other h (next a) (λ e. s.0.no_pred a (sym e))) (omega arith))
      | inr s ↦ none (next a) h s.1 ∙ sym (none a h s.1)
    ]);
    at_head = λ a d. sum_single (term a) a A (head_below a d) (λ h l ne. elim (heads_cases h) [
      | inl s ↦ vanish a h (occurrences_head h (chain_of next A h) (head_chain h s.0) a d ∙ one_at_other h a ne)
      | inr s ↦ none a h s.1
    ]) ∙ own a d;
  }
    where
      term : ℕ → ℕ → ℕ
      term a h = one_if_head A next block h * (occurrences a (chain_of next A h) * h)

      vanish : (a h : ℕ) → occurrences a (chain_of next A h) ≡ 0 → term a h ≡ 0
      vanish a h e = rw e (omega arith)

      none : (a h : ℕ) → one_if_head A next block h ≡ 0 → term a h ≡ 0
      none a h e = rw e (omega arith)

      own : (a : ℕ) → Head next block a → term a a ≡ a
      own a d = elim (heads_cases a) [
        | inl s ↦ rw (s.1, occurrences_head a (chain_of next A a) (head_chain a d) a d, one_at-same a a refl) (omega arith)
        | inr s ↦ absurd (s.0 d)
      ]

  -- ---- a table of heads and the chains

  module _ {hd : ℕ → ℕ} (t : Heads next block hd) where
    pub head_of_is : (a : ℕ) → a ≢ 0 → block a ≢ 0 → Head next block (hd a)
    head_of_is = chain_ind (λ a. Head next block (hd a)) (λ a d. rw (t.at_head a d) d) (λ a n d. rw (t.along a n) d)

    pub on_own : (a : ℕ) → a ≢ 0 → block a ≢ 0 → occurrences a (chain_of next A (hd a)) ≡ 1
    on_own = chain_ind (λ a. occurrences a (chain_of next A (hd a)) ≡ 1)
        (λ a d. rw (t.at_head a d) (occurrences_head a (chain_of next A a) (head_chain a d) a d ∙ one_at-same a a refl))
        (λ a n q. rw (t.along a n) (step a n q))
      where
        step : (a : ℕ) → next a ≢ 0 → occurrences a (chain_of next A (hd a)) ≡ 1 → occurrences (next a) (chain_of next A (hd a)) ≡ 1
        step a n q =
            let d = head_of_is a (next_pos k a n) (used k.view a n) in
            omega (arith, occurrences_next (hd a) (chain_of next A (hd a)) (head_chain (hd a) d) a n, one_at_other (hd a) (next a) (λ e. d.no_pred a (sym e)))

    -- what stands on one walk has one head
    pub seg_head : (h z : ℕ) (l : List ℕ) → Seg next h l z → (x : ℕ) → 0 < occurrences x l → hd x ≡ hd h
    seg_head h z [] c x p = absurd (omega (arith, occurrences-nil x))
    seg_head h z (b ∷ l) c x p = go (one_at_cases b x) (seg_head (next b) z l c.2 x)
      where
        go : ((b ≡ x) × (one_at b x ≡ 1)) ⊎ ((b ≢ x) × (one_at b x ≡ 0)) → (0 < occurrences x l → hd x ≡ hd (next b)) → hd x ≡ hd h
        go (inl e) r = ap hd (sym e.0 ∙ sym c.0)
        go (inr e) r = r m ∙ t.along b (nz l c.2 m) ∙ ap hd (sym c.0)
          where
            m : 0 < occurrences x l
            m = omega (arith, occurrences-cons x b l)

            nz : (l : List ℕ) → Seg next (next b) l z → 0 < occurrences x l → next b ≢ 0
            nz [] s q = absurd (omega (arith, occurrences-nil x))
            nz (y ∷ l) s q = λ w. s.1 (sym s.0 ∙ w)

    -- the chain of a head is what the table gives that head
    pub occurrences_on_chain : (h : ℕ) → Head next block h → (a : ℕ) → occurrences a (chain_of next A h) ≡ one_at (hd a) h
    occurrences_on_chain h d a = elim (one_at_cases (hd a) h) [
      | inl e ↦ rw (e.1, ← e.0) (on_own a (λ z. d.pos (sym e.0 ∙ ap hd z ∙ t.off_zero)) (λ z. d.pos (sym e.0 ∙ t.off a z)))
      | inr e ↦ rw e.1 (elim (less? 0 (occurrences a (chain_of next A h))) [
        | inl p ↦ absurd (e.0 (seg_head h 0 (chain_of next A h) (head_chain h d) a p ∙ t.at_head h d))
        | inr p ↦ omega arith
      ])
    ]

    -- a sum over a chain, and over the anodes that the table gives its head
    pub chain-sum : (c : ℕ → ℕ) (h : ℕ) → Head next block h → sum_list c (chain_of next A h) ≡ sum_below (λ a. one_at (hd a) h * c a) A
    chain-sum c h d =
        sum_by_occurrences c (chain_of next A h) A (λ x l. seg_used k h 0 (chain_of next A h) x (λ q. d.in_use) (head_chain h d) (above_free k.view x l))
        ∙ sum_congr (λ a. occurrences a (chain_of next A h) * c a) (λ a. one_at (hd a) h * c a) A (λ a l. ap (λ (y : ℕ). y * c a) (occurrences_on_chain h d a))
