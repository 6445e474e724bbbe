-- What a take may carry to the next one: the last anode of the taker's chain, and the extent that the next block comes from.
use Rattle.std.specs.Prelude.{ℕ, ◌+◌, ◌-◌, ◌<◌, ◌≡◌, ◌≢◌, Bool, cond, List, [], ◌∷◌, ◌++◌, eqb}
use Rattle.std.proofs.Math.Path.{refl, ap}
use Rattle.std.proofs.Common.{sym, ◌∙◌, inl, inr, arith}
use borrow.Author.Tests.{eq-eqb, ne_eqb}
use Rattle.rules.specs.Counting.{occurrences, last_of}
use Rattle.rules.specs.Anodes.{Anodes}
use Rattle.rules.specs.Chains.{chain_of, run, side}
use Rattle.rules.specs.Plans.{planned}
use Rattle.rules.specs.Space.{rewritten, inserted_after, without_first, first_extent, extent_at, free_extent, chain_end, lowest_free, put}
use Rattle.laws.specs.Tests.{same?}
use Rattle.laws.specs.Sums.{changed-same, changed_cases}
use Rattle.laws.specs.Bags.{occurrences-here, occurrences-later}
use Rattle.laws.specs.Segments.{seg_last}
use Rattle.laws.specs.LinkChanges.{first, second, third}
use Rattle.laws.specs.Heads.{Head, head_chain}
use Rattle.laws.specs.Space.{Alike, Good, FreeAnode, free-pos}
use Rattle.laws.specs.Sides.{SideHead}
use Rattle.laws.specs.SideEnds.{side_on, side-kept, last_cons}
use Rattle.laws.specs.Searches.{full_at, nowhere_at}
use Rattle.laws.specs.Moves.{Shift}
use Rattle.laws.specs.Leaving.{run_shrunk}
use Rattle.laws.specs.Plans.{refused≢planned, planned_same}
use Rattle.laws.specs.Arriving.{append_cases, put_cases}
use Rattle.laws.specs.ChainBlocks.{appended_chain}

-- ---- the extent that the next block comes from

-- the search along a list looks only at which anodes have no block
first-same : (count count' : ℕ → ℕ) (p : ℕ) (l : List ℕ) → ((a : ℕ) → 0 < occurrences a l → (count a ≡ 0 → count' a ≡ 0) × (count' a ≡ 0 → count a ≡ 0)) → first_extent count' p l ≡ first_extent count p l
unfolding first_extent
first-same count count' p [] same = refl
first-same count count' p (a ∷ l) same =
    let here : extent_at count' p a ≡ extent_at count p a = elim (same? (count a) 0) [
      | inl z ↦ nowhere_at count' p a ((same a (occurrences-here a l)).0 z) ∙ sym (nowhere_at count p a z)
      | inr n ↦ full_at count' p a (count' a) refl (λ z. n ((same a (occurrences-here a l)).1 z)) ∙ sym (full_at count p a (count a) refl n)
    ] in
    rw (here, first-same count count' a l (λ b q. same b (occurrences-later b a l q)))

extents_same : (A : ℕ) (dir : Bool) (s t : Anodes) → ((m : ℕ) → SideHead m → first_extent t.count 0 (side A t m) ≡ first_extent s.count 0 (side A s m)) → free_extent A dir t ≡ free_extent A dir s
unfolding free_extent
extents_same A dir s t same = rw (same (cond dir 2 1) (one dir), same (cond dir 1 2) (other dir))
  where
    one : (b : Bool) → SideHead (cond b 2 1)
    one Bool.true = inr refl
    one Bool.false = inl refl

    other : (b : Bool) → SideHead (cond b 1 2)
    other Bool.true = inl refl
    other Bool.false = inr refl

-- an anode x that loses one of several blocks is found as before
pub shrunk_extent : (A : ℕ) (dir : Bool) (s : Anodes) (p x : ℕ) → 0 < s.count x → s.count x ≢ 1 → free_extent A dir (without_first s p x) ≡ free_extent A dir s
unfolding without_first rewritten side
shrunk_extent A dir s p x full more = rw (run_shrunk s 2 p x 1 (s.block x + 1) more)
    (extents_same A dir s (rewritten s x (s.count x - 1) (s.block x + 1)) (λ m o. first-same s.count (rewritten s x (s.count x - 1) (s.block x + 1)).count 0 (side A s m) (λ a q. kept a)))
  where
    kept : (a : ℕ) → (s.count a ≡ 0 → (rewritten s x (s.count x - 1) (s.block x + 1)).count a ≡ 0) × ((rewritten s x (s.count x - 1) (s.block x + 1)).count a ≡ 0 → s.count a ≡ 0)
    kept a = elim (changed_cases s.count x (s.count x - 1) a) [
      | inl c ↦ (λ z. absurd (omega (arith, full, z, ap s.count c.0)), λ z. absurd (omega (arith, full, more, z, c.1)))
      | inr c ↦ (λ z. c.1 ∙ z, λ z. sym c.1 ∙ z)
    ]

-- a change of the chain of h alone leaves both sides of the free list
module _ {A : ℕ} {ex ex' : ℕ → Bool} {n last : ℕ} {s t : Anodes} {system system' hd sd hd' sd' : ℕ → ℕ} (g : Good A ex n last s system hd sd) (g' : Good A ex' n last t system' hd' sd')
    (h : ℕ) (h1 : h ≢ 1) (shift : Shift s hd t hd' h h) where
  side_alike : (m : ℕ) → SideHead m → (a : ℕ) → 0 < occurrences a (side A s m) → Alike s t a
  side_alike m o a p = let (u, q) = side_on g m o a p in shift.apart a u (λ e. h1 (sym e ∙ q)) (λ e. h1 (sym e ∙ q))

  side_same : (m : ℕ) → SideHead m → side A t m ≡ side A s m
  side_same = side-kept g t (λ a u q. (shift.apart a u (λ e. h1 (sym e ∙ q)) (λ e. h1 (sym e ∙ q))).same_next)

  pub kept-extent : (dir : Bool) → free_extent A dir t ≡ free_extent A dir s
  kept-extent dir = extents_same A dir s t (λ m o. ap (first_extent t.count 0) (side_same m o)
      ∙ first-same s.count t.count 0 (side A s m) (λ a p. let e = (side_alike m o a p).same_count in (λ z. e ∙ z, λ z. sym e ∙ z)))

-- ---- the last anode of the taker's chain

-- the anode behind z, if there is one, else z
unfoldable pub end_after : (ℕ → ℕ) → ℕ → ℕ
end_after next z = cond (eqb (next z) 0) z (next z)

-- nothing follows the last anode of a chain
chain_stops : {A : ℕ} {ex : ℕ → Bool} {n last : ℕ} {s : Anodes} {system hd sd : ℕ → ℕ} → Good A ex n last s system hd sd → (h : ℕ) → Head s.next s.block h → s.next (last_of h (chain_of s.next A h)) ≡ 0
chain_stops {A} {s = s} g h d = go (chain_of s.next A h) refl
  where
    go : (l : List ℕ) → chain_of s.next A h ≡ l → s.next (last_of h (chain_of s.next A h)) ≡ 0
    go [] e = absurd (d.pos (rw e at (head_chain g.linked h d)))
    go (a ∷ l) e = ap (λ (k : List ℕ). s.next (last_of h k)) e ∙ seg_last s.next h 0 a l (rw e at (head_chain g.linked h d))

-- after a put the chain ends in the anode behind its last one, if there is one now, else in the same
pub put-end : {A : ℕ} {ex : ℕ → Bool} {n last : ℕ} {s : Anodes} {system hd sd : ℕ → ℕ} → Good A ex n last s system hd sd → (h : ℕ) → Head s.next s.block h → (dir : Bool) (y : ℕ) → y ≢ 0 → (t : Anodes) (ys : List ℕ) →
    put A dir (chain_end A s h) y ex s ≡ planned t ys → chain_end A t h ≡ end_after t.next (chain_end A s h)
unfolding chain_end end_after
put-end {A} {ex} {s = s} g h d dir y y0 t ys e = elim (put_cases A ex dir s z y) [
  | first c ↦ same (rewritten s z 1 y) (run y 1) (sym c.1 ∙ e) (rewritten_next 1 y)
  | second c ↦ same (rewritten s z (s.count z + 1) (s.block z)) (run y 1) (sym c.3 ∙ e) (rewritten_next (s.count z + 1) (s.block z))
  | third c ↦ elim (append_cases A ex s z 1 y) [
    | inr f ↦ absurd (refused≢planned 28 t ys (sym f.0 ∙ sym c.1 ∙ e))
    | inl f ↦ longer (lowest_free A ex s) f.0 f.1 (sym f.2 ∙ sym c.1 ∙ e)
  ]
]
  where
    z : ℕ
    z = last_of h (chain_of s.next A h)

    rewritten_next : (c b : ℕ) → (rewritten s z c b).next ≡ s.next
    rewritten_next c b = unfold rewritten in refl

    same : (r : Anodes) (zs : List ℕ) → planned r zs ≡ planned t ys → r.next ≡ s.next → last_of h (chain_of t.next A h) ≡ cond (eqb (t.next z) 0) z (t.next z)
    same r zs q k =
        let n : t.next ≡ s.next = ap (λ (x : Anodes). x.next) (sym (planned_same r t zs ys q).0) ∙ k in
        rw (n, eq-eqb (s.next z) 0 (chain_stops g h d))

    longer : (f : ℕ) → f < A → FreeAnode ex s f → planned (inserted_after s z f 1 y) (run y 1) ≡ planned t ys → last_of h (chain_of t.next A h) ≡ cond (eqb (t.next z) 0) z (t.next z)
    longer f f_a u q =
        let k = (planned_same (inserted_after s z f 1 y) t (run y 1) ys q).0 in
        let link : t.next z ≡ f = ap (λ (x : Anodes). x.next z) (sym k) ∙ unfold inserted_after in changed-same _ z f in
        let chain : chain_of t.next A h ≡ chain_of s.next A h ++ (f ∷ []) = ap (λ (x : Anodes). chain_of x.next A h) (sym k) ∙ appended_chain g h d f 1 y f_a u y0 in
        rw (link, ne_eqb f 0 (free-pos u)) (ap (last_of h) chain ∙ last_cons h (chain_of s.next A h) f)
