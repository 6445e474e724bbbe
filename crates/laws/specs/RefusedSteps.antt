-- When steps are refused, and with which number: a take with 27 or 28, a run that is released with 28 alone.
use Rattle.std.specs.Prelude.{ℕ, ◌+◌, ◌*◌, ◌<◌, ◌≡◌, refl, ◌⊎◌, ◌↔◌, Bool, []}
use Rattle.std.proofs.Common.{sym, ◌∙◌, true≢false, arith}
use Rattle.std.proofs.Math.Logic.{inl, inr}
use Rattle.std.proofs.Math.Option.{none, some}
use Rattle.rules.specs.Counting.{one_at}
use Rattle.rules.specs.Anodes.{Anodes, exists_by}
use Rattle.rules.specs.Chains.{run, side}
use Rattle.rules.specs.Plans.{Slotted, slotted, Plan, refused, Growth, afresh}
use Rattle.rules.specs.Space.{rewritten, inserted_after, without_first, nowhere, found, first_extent, free_extent, chain_end, side_end, lowest_free, append, need_anode, put, join, with_spare, put_to, take_from, take_block, take_many, release}
use Rattle.laws.specs.Tests.{not_above}
use Rattle.laws.specs.Sums.{one_at_cases, one_at-same, sum-zero}
use Rattle.laws.specs.LinkChanges.{first, second, third}
use Rattle.laws.specs.Heads.{on_own}
use Rattle.laws.specs.Blocks.{blocks}
use Rattle.laws.specs.Cut.{cut-linked}
use Rattle.laws.specs.Space.{Good, FreeAnode}
use Rattle.laws.specs.Sides.{SideHead, on_side}
use Rattle.laws.specs.Owners.{full_used, full-0}
use Rattle.laws.specs.Searches.{first_extent-none}
use Rattle.laws.specs.FreeExtent.{extent-found, extent_nowhere, take_found, take_cases}
use Rattle.laws.specs.Plans.{refused_same, planned≢refused, repeated_refused, afresh_refused, afresh_stuck}
use Rattle.laws.specs.Arriving.{NeedsAnode, JoinsNone, NoneFree, fills, ends, starts, behind, append_cases, need_cases, put_cases, join_cases}
use Rattle.laws.specs.Take.{without_first-out}

-- ---- at fixed slots

module _ (A : ℕ) (ex : ℕ → Bool) (s : Anodes) where
  -- an append is refused with 28, exactly if no anode is free
  append-28 : (z c b k : ℕ) → (append A ex s z c b ≡ refused k) ↔ ((k ≡ 28) × NoneFree A ex s)
  append-28 z c b k = elim (append_cases A ex s z c b) [
    | inl q ↦ (λ e. absurd (planned≢refused (inserted_after s z (lowest_free A ex s) c b) (run b c) k (sym q.2 ∙ e)), λ n. absurd (n.1 (lowest_free A ex s) q.0 q.1))
    | inr q ↦ (λ e. (refused_same k 28 (sym e ∙ q.0), q.1), λ n. q.0 ∙ rw n.0)
  ]

  -- and so a need of an anode
  need-28 : (k : ℕ) → (need_anode A ex s ≡ refused k) ↔ ((k ≡ 28) × Unit {0} × NoneFree A ex s)
  need-28 k = elim (need_cases A ex s) [
    | inl q ↦ (λ e. absurd (planned≢refused s [] k (sym q.2 ∙ e)), λ n. absurd (n.2 (lowest_free A ex s) q.0 q.1))
    | inr q ↦ (λ e. (refused_same k 28 (sym e ∙ q.0), tt, q.1), λ n. q.0 ∙ rw n.0)
  ]

  -- a put, if the taker's last anode cannot have the block besides
  pub put-28 : (dir : Bool) (z y k : ℕ) → (put A dir z y ex s ≡ refused k) ↔ ((k ≡ 28) × NeedsAnode dir s z y × NoneFree A ex s)
  put-28 dir z y k = elim (put_cases A ex dir s z y) [
    | first c ↦ (λ e. absurd (planned≢refused (rewritten s z 1 y) (run y 1) k (sym c.1 ∙ e)), λ n. absurd (n.1.0 c.0))
    | second c ↦ (
      λ e. absurd (planned≢refused (rewritten s z (s.count z + 1) (s.block z)) (run y 1) k (sym c.3 ∙ e)),
      λ n. absurd (elim n.1.1 [ inl i ↦ true≢false (sym i ∙ c.1) | inr i ↦ i c.2 ]),
    )
    | third c ↦ (let q = append-28 z 1 y k in (λ e. (let r = q.0 (sym c.1 ∙ e) in (r.0, c.0, r.1)), λ n. c.1 ∙ q.1 (n.0, n.2)))
  ]

  -- a join, if the run can join the last anode of its side in no way
  pub join-28 : (z c b k : ℕ) → (join A z c b ex s ≡ refused k) ↔ ((k ≡ 28) × JoinsNone s z c b × NoneFree A ex s)
  unfolding join
  join-28 z c b k = elim (join_cases s z c b (append A ex s z c b)) [
    | fills q ↦ (λ e. absurd (planned≢refused (rewritten s z c b) (run b c) k (sym q.2 ∙ e)), λ n. absurd (elim n.1 [ inl i ↦ q.0 i | inr i ↦ i.0 q.1 ]))
    | ends q ↦ (λ e. absurd (planned≢refused (rewritten s z (s.count z + c) (s.block z)) (run b c) k (sym q.3 ∙ e)), λ n. absurd (elim n.1 [ inl i ↦ q.0 i | inr i ↦ i.1 q.2 ]))
    | starts q ↦ (λ e. absurd (planned≢refused (rewritten s z (s.count z + c) b) (run b c) k (sym q.3 ∙ e)), λ n. absurd (elim n.1 [ inl i ↦ q.0 i | inr i ↦ i.2 q.2 ]))
    | behind q ↦ (let r = append-28 z c b k in (λ e. (let i = r.0 (sym q.1 ∙ e) in (i.0, q.0, i.1)), λ n. q.1 ∙ r.1 (n.0, n.2)))
  ]

-- ---- with growth

-- where slots grow, an anode is free
abbrev pub Spares : ℕ → Growth → Slotted → Type 0
Spares A growth s = (r : Slotted) → growth s ≡ some r → (a : ℕ) × (a < A) × FreeAnode (exists_by r.slots) r.anodes a

-- no anode from 6 up is free, and none can be had
abbrev pub NoAnode : ℕ → Growth → Slotted → Type 0
NoAnode A growth s = NoneFree A (exists_by s.slots) s.anodes × (growth s ≡ none)

module _ (A : ℕ) (growth : Growth) (step : (ℕ → Bool) → Anodes → Plan Anodes) (Needs : Anodes → Type 0)
    (exactly : (ex : ℕ → Bool) (t : Anodes) (k : ℕ) → (step ex t ≡ refused k) ↔ ((k ≡ 28) × Needs t × NoneFree A ex t)) (s : Slotted) where
  -- what is made afresh is refused with 28
  afresh-28_only : (k : ℕ) → afresh growth step s ≡ refused k → k ≡ 28
  afresh-28_only k e = elim (afresh_refused growth step s k e) [
    | inl p ↦ ((exactly (exists_by s.slots) s.anodes k).0 p.0).0
    | inr (r, q, f) ↦ ((exactly (exists_by r.slots) r.anodes k).0 f).0
  ]

  -- exactly if it needs an anode and none can be had
  afresh-28 : Spares A growth s → (k : ℕ) → (afresh growth step s ≡ refused k) ↔ ((k ≡ 28) × Needs s.anodes × NoAnode A growth s)
  afresh-28 spares k = (
    λ e. elim (afresh_refused growth step s k e) [
      | inl p ↦ (let q = (exactly (exists_by s.slots) s.anodes k).0 p.0 in (q.0, q.1, (q.2, p.1)))
      | inr (r, q, f) ↦ (let (a, l, u) = spares r q in absurd (((exactly (exists_by r.slots) r.anodes k).0 f).2 a l u))
    ],
    λ n. afresh_stuck growth step s k ((exactly (exists_by s.slots) s.anodes k).1 (n.0, n.1, n.2.0)) n.2.1,
  )

module _ (A : ℕ) (growth : Growth) where
  -- a state with an anode to be had: 28 exactly if none can be had
  pub spare-28_exactly : (s : Slotted) → Spares A growth s → (k : ℕ) → (with_spare A growth s ≡ refused k) ↔ ((k ≡ 28) × NoAnode A growth s)
  unfolding with_spare
  spare-28_exactly s spares k = let e = afresh-28 A growth (need_anode A) (λ t. Unit {0}) (λ ex t k. need-28 A ex t k) s spares k in (λ q. ((e.0 q).0, (e.0 q).2), λ n. e.1 (n.0, tt, n.1))

  pub spare_refused : (s : Slotted) (k : ℕ) → with_spare A growth s ≡ refused k → k ≡ 28
  unfolding with_spare
  spare_refused s = afresh-28_only A growth (need_anode A) (λ t. Unit {0}) (λ ex t k. need-28 A ex t k) s

  -- ---- take

  -- x after p has a free block: 28 alone
  found_refused : (dir : Bool) (h p x k : ℕ) (s : Slotted) → take_from A growth dir h p x s ≡ refused k → k ≡ 28
  unfolding take_from put_to
  found_refused dir h p x k s =
      afresh-28_only A growth (λ ex t. put A dir (chain_end A t h) (s.anodes.block x) ex t) (λ t. NeedsAnode dir t (chain_end A t h) (s.anodes.block x)) (λ ex t k. put-28 A ex t dir (chain_end A t h) (s.anodes.block x) k)
      (slotted (without_first s.anodes p x) s.slots) k

  pub take_refused : (dir : Bool) (h k : ℕ) (s : Slotted) → take_block A growth dir h s ≡ refused k → (k ≡ 27) ⊎ (k ≡ 28)
  take_refused dir h k s e = elim (take_cases A growth dir h s) [
    | inl c ↦ inl (refused_same k 27 (sym e ∙ c.1))
    | inr (p, x, q, i) ↦ inr (found_refused dir h p x k s (sym i ∙ e))
  ]

  pub takes_refused : (dir : Bool) (i h k : ℕ) (s : Slotted) → take_many A growth dir i h s ≡ refused k → (k ≡ 27) ⊎ (k ≡ 28)
  unfolding take_many
  takes_refused dir i h k s e = let (j, r, at, q) = repeated_refused (take_block A growth dir h) (λ i s. Unit {0}) (λ i s t ys at q. tt) i s k tt e in take_refused dir h k r q

  -- with a free block there, x after p the first extent that has one, a take is refused with 28 exactly if an anode is needed and none can be had, the one just emptied counted
  pub take-28_exactly : (dir : Bool) (h p x : ℕ) (s : Slotted) → Spares A growth (slotted (without_first s.anodes p x) s.slots) → free_extent A dir s.anodes ≡ found p x →
      (take_block A growth dir h s ≡ refused 28)
      ↔ (NeedsAnode dir (without_first s.anodes p x) (chain_end A (without_first s.anodes p x) h) (s.anodes.block x) × NoAnode A growth (slotted (without_first s.anodes p x) s.slots))
  unfolding take_from put_to
  take-28_exactly dir h p x s spares e =
      let y = s.anodes.block x in
      let b = afresh-28 A growth (λ ex t. put A dir (chain_end A t h) y ex t) (λ t. NeedsAnode dir t (chain_end A t h) y) (λ ex t k. put-28 A ex t dir (chain_end A t h) y k) (slotted (without_first s.anodes p x) s.slots) spares 28 in
      (λ q. (let r = b.0 (sym (take_found A growth dir h s p x e) ∙ q) in (r.1, r.2)), λ n. take_found A growth dir h s p x e ∙ b.1 (refl, n.0, n.1))

  -- ---- a run that is released

  module _ (last c b : ℕ) (s : Slotted) where
    pub release_refused : (k : ℕ) → release A growth last c b s ≡ refused k → k ≡ 28
    unfolding release
    release_refused = afresh-28_only A growth (λ ex t. join A (side_end A last t b) c b ex t) (λ t. JoinsNone t (side_end A last t b) c b) (λ ex t k. join-28 A ex t (side_end A last t b) c b k) s

    -- exactly if it can join the last anode of its side in no way and none can be had
    pub release-28_exactly : Spares A growth s → (k : ℕ) → (release A growth last c b s ≡ refused k) ↔ ((k ≡ 28) × JoinsNone s.anodes (side_end A last s.anodes b) c b × NoAnode A growth s)
    unfolding release
    release-28_exactly spares = afresh-28 A growth (λ ex t. join A (side_end A last t b) c b ex t) (λ t. JoinsNone t (side_end A last t b) c b) (λ ex t k. join-28 A ex t (side_end A last t b) c b k) s spares

-- ---- no free block

module _ {A : ℕ} {ex : ℕ → Bool} {n last : ℕ} {s : Anodes} {system hd sd : ℕ → ℕ} (g : Good A ex n last s system hd sd) where
  -- no anode of either side has a block: the free chain has none
  no_block : ((m : ℕ) → SideHead m → first_extent s.count 0 (side A s m) ≡ nowhere) → blocks A hd s.count 1 ≡ 0
  unfolding blocks side
  no_block e = sum-zero (λ a. one_at (hd a) 1 * s.count a) A (λ a l. elim (one_at_cases (hd a) 1) [
    | inr c ↦ rw c.1 (omega arith)
    | inl c ↦ rw (empty a c.0) (omega arith)
  ])
    where
      empty : (a : ℕ) → hd a ≡ 1 → s.count a ≡ 0
      empty a q = not_above (s.count a) (λ p.
          let a0 = full-0 g a p in
          let u = full_used g a p in
          omega (arith, p, first_extent-none s.count 0 (side A s (sd a)) (e (sd a) (on_side g a a0 u q)) a (omega (arith, on_own (cut-linked g.linked) g.sides a a0 u))))

  -- a take is refused with 27 exactly if no free block is left
  pub take-27_exactly : (growth : Growth) (slots : ℕ → ℕ) (dir : Bool) (h : ℕ) → (take_block A growth dir h (slotted s slots) ≡ refused 27) ↔ (blocks A hd s.count 1 ≡ 0)
  take-27_exactly growth slots dir h = elim (take_cases A growth dir h (slotted s slots)) [
    | inl c ↦ (λ e. no_block (extent_nowhere A dir s c.0), λ z. c.1)
    | inr (p, x, q, i) ↦ (
      λ e. absurd (omega (arith, found_refused A growth dir h p x 27 (slotted s slots) (sym i ∙ e))),
      λ z. (let (m, o, f) = extent-found A dir s g p x q in absurd (omega (arith, z, (without_first-out g m o p x f).fewer 1, one_at-same 1 1 refl))),
    )
  ]
