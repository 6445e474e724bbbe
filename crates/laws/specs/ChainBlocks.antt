-- The blocks of a chain in its order: the extents of its anodes, which changes leave other chains' blocks as they are, and a chain with an anode more or less.
use Rattle.std.specs.Prelude.{ℕ, ◌+◌, ◌-◌, ◌≤◌, ◌<◌, ◌≡◌, ◌≢◌, Bool, List, [], ◌∷◌, ◌++◌, T, length}
use Rattle.std.proofs.Math.Path.{refl}
use Rattle.std.proofs.Common.{sym, ap, ◌∙◌, append_assoc, arith}
use Rattle.rules.specs.Counting.{occurrences, gather, last_of, sum_list, changed}
use Rattle.rules.specs.Anodes.{Anodes, limit}
use Rattle.rules.specs.Chains.{chain_of, run, blocks_of, block_count}
use Rattle.rules.specs.Space.{rewritten, on_chain, dropped, inserted_after, unlinked, tail_start}
use Rattle.laws.specs.Tests.{T_false}
use Rattle.laws.specs.Sums.{one_at-same, changed_other, changed-pos, changed-same}
use Rattle.laws.specs.Bags.{occurrences-cons, occurrences-append, gather-kept, last_split, list_congr, list_length, gather-sum}
use Rattle.laws.specs.LinkChanges.{without, drop_apart, insert_after, insert_linked, insert_after_lem, unlink, unlink-linked, unlink-after}
use Rattle.laws.specs.Segments.{Seg, Chain, seg_split, seg_last, chain-end}
use Rattle.laws.specs.Chains.{run_split, length_run}
use Rattle.laws.specs.Links.{chain_the, seg_once}
use Rattle.laws.specs.Heads.{Head, head_chain}
use Rattle.laws.specs.Space.{Alike, Good, on_chain_lem, dead_head, dead_along, drop-good, FreeAnode, free-pos}
use Rattle.laws.specs.Owners.{last_used, last-0}
use Rattle.laws.specs.Moves.{Shift}
use Rattle.laws.specs.Frame.{kept-count, shift_alike, shift_chain}

-- the blocks of one anode
unfoldable pub extent : Anodes → ℕ → List ℕ
extent s a = run (s.block a) (s.count a)

-- the blocks of at most k anodes from a on, in order
abbrev pub blocks_from : Anodes → ℕ → ℕ → List ℕ
blocks_from s k a = gather (extent s) (chain_of s.next k a)

extent_alike : {s t : Anodes} {a : ℕ} → Alike s t a → extent t a ≡ extent s a
unfolding extent
extent_alike e = rw (e.same_block, e.same_count)

-- where x alone becomes (c, b): its extent, and the others
module _ (s t : Anodes) (x c b : ℕ) (counts : t.count ≡ changed s.count x c) (firsts : t.block ≡ changed s.block x b) where
  pub extent-here : extent t x ≡ run b c
  unfolding extent
  extent-here = rw (counts, firsts, changed-same s.count x c, changed-same s.block x b)

  pub extent_other : (a : ℕ) → a ≢ x → extent t a ≡ extent s a
  unfolding extent
  extent_other a i = rw (counts, firsts, changed_other s.count x c a i, changed_other s.block x b a i)

pub blocks_of_extents : (s : Anodes) (h : ℕ) → blocks_of s h ≡ blocks_from s limit h
unfolding blocks_of extent
blocks_of_extents s h = refl

-- an empty one filled, one with a run more at its end, and without its last blocks
pub extent-filled : (s : Anodes) (a c b : ℕ) → s.count a ≡ 0 → run b c ≡ extent s a ++ run b c
unfolding extent run
extent-filled s a c b e = rw e

pub extent-longer : (s : Anodes) (a c b : ℕ) → s.block a + s.count a ≡ b → run (s.block a) (s.count a + c) ≡ extent s a ++ run b c
unfolding extent
extent-longer s a c b e = rw (← e) (run_split (s.block a) (s.count a) c)

pub extent_shorter : (s : Anodes) (x d : ℕ) → d ≤ s.count x → extent s x ≡ run (s.block x) (s.count x - d) ++ run (tail_start s x d) d
unfolding extent
extent_shorter s x d l = let e : s.count x ≡ s.count x - d + d = omega arith in ap (run (s.block x)) e ∙ run_split (s.block x) (s.count x - d) d

-- a chain has as many blocks as its counts say
pub length-blocks_of : (s : Anodes) (h : ℕ) → length (blocks_of s h) ≡ block_count s h
unfolding blocks_of block_count
length-blocks_of s h =
    let chain = chain_of s.next limit h in
    sym (list_length (gather (λ a. run (s.block a) (s.count a)) chain)) ∙ gather-sum (λ a. run (s.block a) (s.count a)) (λ y. 1) chain
    ∙ list_congr (λ a. sum_list (λ y. 1) (run (s.block a) (s.count a))) s.count chain (λ a. list_length (run (s.block a) (s.count a)) ∙ length_run (s.block a) (s.count a))

-- a chain of the same anodes with the same extents has the same blocks
pub kept-blocks : (s t : Anodes) (m : ℕ) → chain_of t.next limit m ≡ chain_of s.next limit m → ((a : ℕ) → 0 < occurrences a (chain_of s.next limit m) → extent t a ≡ extent s a) → blocks_of t m ≡ blocks_of s m
kept-blocks s t m e h = blocks_of_extents t m ∙ ap (gather (extent t)) e ∙ gather-kept (extent s) (extent t) (chain_of s.next limit m) h ∙ sym (blocks_of_extents s m)

module _ {ex : ℕ → Bool} {n last : ℕ} {s : Anodes} {system hd sd : ℕ → ℕ} (g : Good limit ex n last s system hd sd) where
  -- steps on the chains of k and h leave every other
  module _ {t : Anodes} {ex' : ℕ → Bool} {system' hd' sd' : ℕ → ℕ} (g' : Good limit ex' n last t system' hd' sd') {k h : ℕ} (shift : Shift s hd t hd' k h) (m : ℕ) (d : Head s.next s.block m) (mk : m ≢ k) (mh : m ≢ h) where
    -- how many blocks it has
    pub shift_count : block_count t m ≡ block_count s m
    shift_count = kept-count s t m (shift_chain g g' shift m d mk mh) (λ a p. (shift_alike g g' shift m d mk mh a p).same_count)

    -- and which
    pub shift_blocks : blocks_of t m ≡ blocks_of s m
    shift_blocks = kept-blocks s t m (shift_chain g g' shift m d mk mh) (λ a p. extent_alike (shift_alike g g' shift m d mk mh a p))

  -- a fresh head f
  module _ (f : ℕ) (fresh : s.block f ≡ 0) where
    -- leaves the blocks of every other chain
    pub fresh_others : (m : ℕ) → Head s.next s.block m → blocks_of (rewritten s f 0 65535) m ≡ blocks_of s m
    unfolding rewritten
    fresh_others m d = kept-blocks s (rewritten s f 0 65535) m refl
        (λ a p. extent_other s (rewritten s f 0 65535) f 0 65535 refl refl a (λ e. (on_chain_lem g m d a p).1 (ap s.block e ∙ fresh)))

  -- the chain of h, with no block, dropped
  module _ (h : ℕ) (h6 : 6 ≤ h) (d : Head s.next s.block h) (none : (a : ℕ) → hd a ≡ h → s.count a ≡ 0) (m : ℕ) (c : Head s.next s.block m) (mh : m ≢ h) where
    alive : (a : ℕ) → hd a ≡ m → T (on_chain limit s h a) → ⊥
    alive a e t = mh (sym e ∙ dead_head g h h6 d none a t)

    -- leaves every other chain
    dropped-chain : chain_of (dropped limit s h).next limit m ≡ chain_of s.next limit m
    unfolding dropped without
    dropped-chain = chain_the (drop-good g h h6 d none).linked m (chain_of s.next limit m)
        (λ q. rw (T_false (on_chain limit s h m) (alive m (g.heads.at_head m c))) c.in_use)
        (drop_apart g.linked (on_chain limit s h) (dead_along g h h6 d none) m 0 (chain_of s.next limit m) (head_chain g.linked m c)
        (λ a p. alive a (on_chain_lem g m c a p).0))

    -- and the blocks of it
    pub dropped_others : blocks_of (dropped limit s h) m ≡ blocks_of s m
    unfolding dropped extent
    dropped_others = kept-blocks s (dropped limit s h) m dropped-chain (λ a p. rw (T_false (on_chain limit s h a) (alive a (on_chain_lem g m c a p).0)))

-- ---- an anode x of the chain of m

module _ {A : ℕ} {ex : ℕ → Bool} {n last : ℕ} {s : Anodes} {system hd sd : ℕ → ℕ} (g : Good A ex n last s system hd sd) (m : ℕ) (d : Head s.next s.block m) (x : ℕ) (pre post : List ℕ)
    (split : chain_of s.next A m ≡ pre ++ (x ∷ post)) where
  chain : Chain s.next m (pre ++ (x ∷ post))
  chain = rw split at (head_chain g.linked m d)

  -- x stands in the chain once
  pub stands_once : (occurrences x pre ≡ 0) × (occurrences x post ≡ 0)
  stands_once =
      let alone : occurrences x pre + occurrences x post ≡ 0 =
      omega (arith, seg_once g.linked m 0 (pre ++ (x ∷ post)) x (λ q. d.in_use) chain, occurrences-append x pre (x ∷ post), occurrences-cons x x post, one_at-same x x refl) in
      (omega arith, omega arith)

  -- a fresh anode f after x
  pub inserted_chain : x ≢ 0 → s.block x ≢ 0 → (f c b : ℕ) → f < A → FreeAnode ex s f → b ≢ 0 → chain_of (inserted_after s x f c b).next A m ≡ pre ++ (x ∷ (f ∷ post))
  unfolding inserted_after insert_after
  inserted_chain x0 u f c b f_a is_free b0 =
      chain_the (insert_linked g.linked x f b x0 u (free-pos is_free) is_free.unused f_a b0)
      m (pre ++ (x ∷ (f ∷ post))) (λ q. changed-pos s.block f b m b0 d.in_use)
      (insert_after_lem g.linked x f b x0 u (free-pos is_free) is_free.unused f_a b0 m pre post (λ q. d.in_use) chain)

  -- x, not the head, unlinked after p
  pub unlinked-chain : (p : ℕ) → s.next p ≡ x → x ≢ 0 → x ≢ m → chain_of (unlinked s p x).next A m ≡ pre ++ post
  unfolding unlinked unlink
  unlinked-chain p px x0 xm = go pre refl (rw w.2.0 at w.1)
    where
      w : (y : ℕ) × Seg s.next m pre y × Seg s.next y (x ∷ post) 0
      w = seg_split s.next m 0 pre (x ∷ post) chain

      go : (l : List ℕ) → pre ≡ l → Seg s.next m l x → chain_of (unlink s.next p x) A m ≡ l ++ post
      go [] e c = absurd (xm (sym c))
      go (b ∷ l) e c =
          let t = last_split m b l in
          let end : p ≡ last_of m (b ∷ l) = g.linked.uniq p (last_of m (b ∷ l)) (λ z. x0 (sym px ∙ z)) (px ∙ sym (seg_last s.next m x b l c)) in
          let front : b ∷ l ≡ t.0 ++ (p ∷ []) = t.1 ∙ ap (λ (i : ℕ). t.0 ++ (i ∷ [])) (sym end) in
          let parts : (m : List ℕ) → b ∷ l ++ m ≡ t.0 ++ (p ∷ m) = λ m. ap (λ (i : List ℕ). i ++ m) front ∙ append_assoc t.0 (p ∷ []) m in
          chain_the (unlink-linked g.linked p x x0 px) m (t.0 ++ (p ∷ post))
          (λ z. rw (changed_other s.block x 0 m (λ i. xm (sym i))) d.in_use)
          (unlink-after g.linked p x x0 px m t.0 post (λ z. d.in_use) (rw (ap (λ (i : List ℕ). i ++ (x ∷ post)) e ∙ parts (x ∷ post)) at chain))
          ∙ sym (parts post)

-- a fresh anode f behind the last of the chain of h
pub appended_chain : {A : ℕ} {ex : ℕ → Bool} {n last : ℕ} {s : Anodes} {system hd sd : ℕ → ℕ} → Good A ex n last s system hd sd → (h : ℕ) → Head s.next s.block h → (f c b : ℕ) →
    f < A → FreeAnode ex s f → b ≢ 0 → chain_of (inserted_after s (last_of h (chain_of s.next A h)) f c b).next A h ≡ chain_of s.next A h ++ (f ∷ [])
appended_chain {A} {s = s} g h d f c b f_a is_free b0 =
    let end = last_of h (chain_of s.next A h) in
    let split = chain-end s.next h (chain_of s.next A h) d.pos (head_chain g.linked h d) in
    inserted_chain g h d end split.0 [] split.1 (last-0 g h d) (last_used g h d) f c b f_a is_free b0
    ∙ sym (ap (λ (l : List ℕ). l ++ (f ∷ [])) split.1 ∙ append_assoc split.0 (end ∷ []) (f ∷ []))
