-- The sides of the free list and their last anodes, where another chain changes and where a run comes to the end of a side.
use Prim.Native.Nat.{ℕ, ◌+◌, ◌<◌}
use Rattle.std.specs.Prelude.{◌≡◌, ◌≢◌, ◌⊎◌, Bool, List, [], ◌∷◌, ◌++◌}
use Rattle.std.proofs.Math.Path.{refl, sym, ap}
use Rattle.std.proofs.Common.{◌∙◌, append_assoc, arith}
use Rattle.std.proofs.Math.Logic.{inl, inr}
use Rattle.rules.specs.Counting.{occurrences, last_of}
use Rattle.rules.specs.Anodes.{Anodes}
use Rattle.rules.specs.Chains.{chain_of, run, cut, side}
use Rattle.rules.specs.Plans.{planned}
use Rattle.rules.specs.Space.{rewritten, inserted_after, lowest_free, append, join, join_with}
use Rattle.laws.specs.Tests.{not_above}
use Rattle.laws.specs.Sums.{changed-same, changed-pos}
use Rattle.laws.specs.Segments.{seg_keep, seg_last, chain-end}
use Rattle.laws.specs.LinkChanges.{first, second, third, insert_after, insert_after_cases, insert_linked, insert_after_lem}
use Rattle.laws.specs.Links.{Linked, the_chain, chain_the, seg_short, seg_used}
use Rattle.laws.specs.Segments.{Chain, chain_is}
use Rattle.laws.specs.Cut.{cut-linked, cut-insert_after}
use Rattle.laws.specs.Space.{Good, free-pos, head_1}
use Rattle.laws.specs.Sides.{SideHead, side-free, side_sd, side-chain, side-last, side-last_used, side-last-0}
use Rattle.laws.specs.Plans.{refused≢planned, planned_same}
use Rattle.laws.specs.Arriving.{fills, ends, starts, behind, join_cases, append_cases}

-- ---- a chain of linked anodes, by its last one

-- the last of a list with one more
pub last_cons : (h : ℕ) (l : List ℕ) (f : ℕ) → last_of h (l ++ (f ∷ [])) ≡ f
unfolding last_of
last_cons h [] f = refl
last_cons h (a ∷ l) f = last_cons a l f

module _ {A : ℕ} {next block : ℕ → ℕ} (k : Linked A next block) (h : ℕ) (h0 : h ≢ 0) (u : block h ≢ 0) where
  chain : Chain next h (chain_of next A h)
  chain = the_chain k h (λ q. u)

  -- nothing follows it
  last_stops : next (last_of h (chain_of next A h)) ≡ 0
  last_stops = go (chain_of next A h) refl
    where
      go : (l : List ℕ) → chain_of next A h ≡ l → next (last_of h (chain_of next A h)) ≡ 0
      go [] e = absurd (h0 (rw e at chain))
      go (a ∷ l) e = ap (λ (i : List ℕ). next (last_of h i)) e ∙ seg_last next h 0 a l (rw e at chain)

  -- a free anode f behind z
  module _ (z f : ℕ) (z0 : z ≢ 0) (uz : block z ≢ 0) (f0 : f ≢ 0) (fresh : block f ≡ 0) (f_a : f < A) where
    -- the last one
    last_more : z ≡ last_of h (chain_of next A h) → chain_of (insert_after next z f) A h ≡ chain_of next A h ++ (f ∷ [])
    last_more e =
        let s = chain-end next h (chain_of next A h) h0 chain in
        let w : chain_of next A h ≡ s.0 ++ (z ∷ []) = s.1 ∙ ap (λ (i : ℕ). s.0 ++ (i ∷ [])) (sym e) in
        chain_the (insert_linked k z f 1 z0 uz f0 fresh f_a (omega arith)) h (s.0 ++ (z ∷ (f ∷ []))) (λ q. changed-pos block f 1 h (omega arith) u)
        (insert_after_lem k z f 1 z0 uz f0 fresh f_a (omega arith) h s.0 [] (λ q. u) (rw w at chain))
        ∙ sym (ap (λ (l : List ℕ). l ++ (f ∷ [])) w ∙ append_assoc s.0 (z ∷ []) (f ∷ []))

    -- one that is not on the chain
    chain_apart : (occurrences z (chain_of next A h) ≡ 0) → chain_of (insert_after next z f) A h ≡ chain_of next A h
    chain_apart off = chain_is (insert_after next z f) A h (chain_of next A h)
        (seg_keep next (insert_after next z f) h 0 (chain_of next A h) (λ x p. elim (insert_after_cases next z f x) [
          | first c ↦ absurd (omega (arith, p, off, ap (λ (i : ℕ). occurrences i (chain_of next A h)) c.0))
          | second c ↦ absurd (omega (arith, p, seg_used k h 0 (chain_of next A h) f (λ q. u) chain fresh, ap (λ (i : ℕ). occurrences i (chain_of next A h)) c.1))
          | third c ↦ c.2
        ]) chain)
        (seg_short k h 0 (chain_of next A h) (λ q. u) chain)

-- ---- another chain changes

module _ {A : ℕ} {ex : ℕ → Bool} {n last : ℕ} {s : Anodes} {system hd sd : ℕ → ℕ} (g : Good A ex n last s system hd sd) where
  -- the first anode of a side is in use
  side_used : (m : ℕ) → SideHead m → (m ≢ 0) × (s.block m ≢ 0)
  side_used m (inl e) = (omega (arith, e), rw e (head_1 g).in_use)
  side_used m (inr e) = (omega (arith, e), rw e g.fixed.block_2)

  -- what stands on a side is in use, and on the free list
  pub side_on : (m : ℕ) → SideHead m → (a : ℕ) → 0 < occurrences a (side A s m) → (s.block a ≢ 0) × (hd a ≡ 1)
  side_on m o a p =
      let q = side_sd g m o a p in
      let m0 = (side_used m o).0 in
      let u : s.block a ≢ 0 = λ z. m0 (sym q ∙ g.sides.off a z) in
      (u, side-free g m o a (λ z. m0 (sym q ∙ ap sd z ∙ g.sides.off_zero)) u q)

  -- a side is the same where the anodes of the free list keep their next
  pub side-kept : (t : Anodes) → ((a : ℕ) → s.block a ≢ 0 → hd a ≡ 1 → t.next a ≡ s.next a) → (m : ℕ) → SideHead m → side A t m ≡ side A s m
  unfolding side cut
  side-kept t kept m o = chain_is (cut t.next) A m (side A s m)
      (seg_keep (cut s.next) (cut t.next) m 0 (side A s m) (λ x p. let w = side_on m o x p in rw (kept x w.0 w.1)) (side-chain g m o))
      (seg_short (cut-linked g.linked) m 0 (side A s m) (λ q. (side_used m o).1) (side-chain g m o))

-- ---- a run comes to the end of a side

-- an anode that can be linked into a side: not in use, and neither 0 nor 2
pub record Spare (A : ℕ) (s : Anodes) (f : ℕ) : Type 0 where
  pub below : f < A
  pub not-0 : f ≢ 0
  pub not-2 : f ≢ 2
  pub unused : s.block f ≡ 0

-- from s to t a run has come to anode z: the links are the same, or a spare anode is behind z
abbrev pub CameTo : ℕ → Anodes → ℕ → Anodes → Type 0
CameTo A s z t = (t.next ≡ s.next) ⊎ ((f : ℕ) × Spare A s f × (t.next ≡ insert_after s.next z f))

module _ {A : ℕ} (s : Anodes) (z c b : ℕ) (t : Anodes) (ys : List ℕ) where
  same_links : (k y : ℕ) (zs : List ℕ) → planned (rewritten s z k y) zs ≡ planned t ys → CameTo A s z t
  unfolding rewritten
  same_links k y zs e = inl (ap (λ (r : Anodes). r.next) (sym (planned_same (rewritten s z k y) t zs ys e).0))

  one-behind : (f : ℕ) → Spare A s f → planned (inserted_after s z f c b) (run b c) ≡ planned t ys → CameTo A s z t
  unfolding inserted_after insert_after
  one-behind f u e = inr (f, u, ap (λ (r : Anodes). r.next) (sym (planned_same (inserted_after s z f c b) t (run b c) ys e).0))

  -- by a join
  pub came_join : (ex : ℕ → Bool) → join A z c b ex s ≡ planned t ys → CameTo A s z t
  unfolding join
  came_join ex e = elim (join_cases s z c b (append A ex s z c b)) [
    | fills q ↦ same_links c b (run b c) (sym q.2 ∙ e)
    | ends q ↦ same_links (s.count z + c) (s.block z) (run b c) (sym q.3 ∙ e)
    | starts q ↦ same_links (s.count z + c) b (run b c) (sym q.3 ∙ e)
    | behind q ↦ elim (append_cases A ex s z c b) [
      | inl f ↦ one-behind (lowest_free A ex s) (record { below = f.0; not-0 = free-pos f.1; not-2 = λ i. omega (arith, i, f.1.from_6); unused = f.1.unused }) (sym f.2 ∙ sym q.1 ∙ e)
      | inr f ↦ absurd (refused≢planned 28 t ys (sym f.0 ∙ sym q.1 ∙ e))
    ]
  ]

  -- by a join with the spare anode x
  pub came_with : (x : ℕ) → Spare A s x → join_with x z c b s ≡ planned t ys → CameTo A s z t
  unfolding join_with
  came_with x u e = elim (join_cases s z c b (planned (inserted_after s z x c b) (run b c))) [
    | fills q ↦ same_links c b (run b c) (sym q.2 ∙ e)
    | ends q ↦ same_links (s.count z + c) (s.block z) (run b c) (sym q.3 ∙ e)
    | starts q ↦ same_links (s.count z + c) b (run b c) (sym q.3 ∙ e)
    | behind q ↦ one-behind x u (sym q.1 ∙ e)
  ]

module _ {A : ℕ} {ex : ℕ → Bool} {n last : ℕ} {s : Anodes} {system hd sd : ℕ → ℕ} (g : Good A ex n last s system hd sd) (m : ℕ) (o : SideHead m) (t : Anodes) (came : CameTo A s (last_of m (side A s m)) t) where
  abbrev z : ℕ
  z = last_of m (side A s m)

  k : Linked A (cut s.next) s.block
  k = cut-linked g.linked

  -- its side then ends in the anode behind it before 2, if there is one, else in the same
  pub came_end : ((cut t.next (last_of m (side A s m)) ≡ 0) × (last_of m (side A t m) ≡ last_of m (side A s m))) ⊎ ((cut t.next (last_of m (side A s m)) ≢ 0) × (last_of m (side A t m) ≡ cut t.next (last_of m (side A s m))))
  unfolding side
  came_end = elim came [
    | inl e ↦ inl (rw e (last_stops k m (side_used g m o).0 (side_used g m o).1), rw e)
    | inr (f, u, e) ↦ (let c : cut t.next ≡ insert_after (cut s.next) z f = ap cut e ∙ sym (cut-insert_after s.next z f u.not-2) in
        let link : cut t.next z ≡ f = ap (λ (i : ℕ → ℕ). i z) c ∙ unfold insert_after in changed-same _ z f in
        let all : side A t m ≡ side A s m ++ (f ∷ []) = ap (λ (i : ℕ → ℕ). chain_of i A m) c ∙ last_more k m (side_used g m o).0 (side_used g m o).1 z f (side-last-0 g m o) (side-last_used g m o) u.not-0 u.unused u.below refl in
        inr (rw link u.not-0, ap (last_of m) all ∙ last_cons m (side A s m) f ∙ sym link))
  ]

  -- and the other side is the same
  pub came_other : (m' : ℕ) → SideHead m' → m' ≢ m → side A t m' ≡ side A s m'
  unfolding side
  came_other m' o' i = elim came [
    | inl e ↦ rw e
    | inr (f, u, e) ↦ (let c : cut t.next ≡ insert_after (cut s.next) z f = ap cut e ∙ sym (cut-insert_after s.next z f u.not-2) in
        ap (λ (j : ℕ → ℕ). chain_of j A m') c ∙ chain_apart k m' (side_used g m' o').0 (side_used g m' o').1 z f (side-last-0 g m o) (side-last_used g m o) u.not-0 u.unused u.below off)
  ]
    where
      off : occurrences z (side A s m') ≡ 0
      off = not_above (occurrences z (side A s m')) (λ p. i (sym (side_sd g m' o' z p) ∙ side-last g m o))
