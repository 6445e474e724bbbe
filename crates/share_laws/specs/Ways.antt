-- The way up from a directory of an accepted image: it ends at the root, and no directory lies in two different tops.
use Prim.Native.Nat.{ℕ, zero, suc, ◌+◌, ◌≤◌, ◌<◌}
use Rattle.std.specs.Prelude.{◌≡◌, refl, ◌≢◌, ◌⊎◌, true, false, leb, length}
use Rattle.std.proofs.Common.{sym, ◌∙◌, arith, leb-true, leb-false}
use Rattle.std.proofs.Math.Path.{ap}
use Rattle.std.proofs.Math.Logic.{inl, inr}
use mathlib.Core.List.{List, [], ◌∷◌}
use Rattle.rules.specs.Counting.{one_at, sum_list, occurrences}
use Rattle.rules.specs.Anodes.{limit, anodes_of}
use Rattle.rules.specs.Chains.{chain_of}
use Rattle.rules.specs.Walk.{Dir, Entered, reached_dirs}
use Rattle.rules.specs.Changes.{parent_of}
use Rattle.laws.specs.Tests.{same?, not_above}
use Rattle.laws.specs.Sums.{one_at_cases, one_at_other}
use Rattle.laws.specs.Bags.{occurrences-nil, occurrences-cons, pigeonhole}
use Rattle.laws.specs.Chains.{chain-end}
use Rattle.laws.specs.Segments.{Chain, chain_is}
use Rattle.laws.specs.Members.{member-sum}
use Rattle.change_laws.specs.Image.{AcceptedImage, AcceptedWhole, accepted_whole, ReachedDir}
use Rattle.change_laws.specs.Reached.{EntryIn, entry-facts, reached_dir, reached_head}
use Rattle.paths.specs.Reached.{sub_lower, sub-reached}
use Rattle.share_rules.specs.Shares.{way_up, lies_in}
use Rattle.share_laws.specs.Parents.{root-parent, entry-parent, parent-entry, parent-reached}

-- ---- chains of parents

-- where nexts agree in a set that is closed under them, so do chains
pub chain_same : (next next' : ℕ → ℕ) (C : ℕ → Type 0) → ((a : ℕ) → C a → (next' a ≡ next a) × (next a ≢ 0 → C (next a))) → (k a : ℕ) → (a ≢ 0 → C a) → chain_of next' k a ≡ chain_of next k a
unfolding chain_of
chain_same next next' C agree zero a c = refl
chain_same next next' C agree (suc k) zero c = refl
chain_same next next' C agree (suc k) (suc a) c =
    let p = agree (suc a) (c (λ e. omega (arith, e))) in
    rw p.0 (ap (λ (l : List ℕ). suc a ∷ l) (chain_same next next' C agree k (next (suc a)) p.1))

-- a chain of one
chain-last : (next : ℕ → ℕ) (k a t : ℕ) → next a ≡ 0 → a ≢ t → occurrences t (chain_of next k a) ≡ 0
unfolding chain_of
chain-last next zero a t e d = occurrences-nil t
chain-last next (suc k) zero t e d = occurrences-nil t
chain-last next (suc k) (suc a) t e d = rw (e, chain-end next k 0 refl) (omega (arith, occurrences-cons t (suc a) [], occurrences-nil t, one_at_other (suc a) t d))

-- two whose next is the same last one are never on one chain
module _ (next : ℕ → ℕ) (top f g : ℕ) (ends : next top ≡ 0) (nf : next f ≡ top) (ng : next g ≡ top) (ft : f ≢ top) (gt : g ≢ top) (differ : f ≢ g) where
  pub not_both : (k h : ℕ) → 0 < occurrences f (chain_of next k h) → 0 < occurrences g (chain_of next k h) → ⊥
  unfolding chain_of
  not_both zero h p q = omega (arith, p, occurrences-nil f)
  not_both (suc k) zero p q = omega (arith, p, occurrences-nil f)
  not_both (suc k) (suc a) p q =
      let pf = occurrences-cons f (suc a) (chain_of next k (next (suc a))) in
      let pg = occurrences-cons g (suc a) (chain_of next k (next (suc a))) in
      elim (one_at_cases (suc a) f) [
        | inl e ↦ (let on : next (suc a) ≡ top = ap next e.0 ∙ nf in
            omega (arith, q, pg, one_at_other (suc a) g (λ i. differ (sym e.0 ∙ i)), rw (← on) at (chain-last next k top g ends (λ i. gt (sym i)))))
        | inr e ↦ elim (one_at_cases (suc a) g) [
          | inl i ↦ (let on : next (suc a) ≡ top = ap next i.0 ∙ ng in omega (arith, p, pf, e.1, rw (← on) at (chain-last next k top f ends (λ j. ft (sym j)))))
          | inr i ↦ not_both k (next (suc a)) (omega (arith, p, pf, e.1)) (omega (arith, q, pg, i.1))
        ]
      ]

-- ---- lying in a directory

pub lies_on : (dirs : List Dir) (top h : ℕ) → lies_in dirs top h ≡ true → 0 < occurrences top (way_up dirs h)
unfolding lies_in
lies_on dirs top h e = omega (arith, leb-true 1 (occurrences top (way_up dirs h)) e)

pub lies_off : (dirs : List Dir) (top h : ℕ) → lies_in dirs top h ≡ false → occurrences top (way_up dirs h) ≡ 0
unfolding lies_in
lies_off dirs top h e = omega (arith, leb-false 1 (occurrences top (way_up dirs h)) e)

-- where the way up is the same
pub lies_same : (dirs dirs' : List Dir) (top h : ℕ) → way_up dirs' h ≡ way_up dirs h → lies_in dirs' top h ≡ lies_in dirs top h
unfolding lies_in
lies_same dirs dirs' top h e = ap (λ (l : List ℕ). leb 1 (occurrences top l)) e

-- ---- in an accepted image

module _ {img : List ℕ} (image : AcceptedImage img) where
  abbrev dirs : List Dir
  dirs = reached_dirs img (anodes_of img)

  abbrev up : ℕ → ℕ
  up = parent_of dirs

  w : AcceptedWhole img
  w = accepted_whole image

  abbrev height : ℕ → ℕ
  height = w.tree.height

  -- the way up from h: its directories are reached, none is lower than h, and each is met once
  record Climbed (h : ℕ) : Type 0 where
    way : List ℕ
    chain : Chain up h way
    below : (x : ℕ) → 0 < occurrences x way → x < limit
    higher : (x : ℕ) → 0 < occurrences x way → height h ≤ height x
    once : (x : ℕ) → occurrences x way ≤ 1

  reached-below : {h : ℕ} → ReachedDir img h → h < limit
  reached-below {h} r = w.good.linked.view.below h (reached_head r).in_use

  reached-pos : {h : ℕ} → ReachedDir img h → h ≢ 0
  reached-pos r = (reached_head r).pos

  -- a directory is lower than its parent
  parent_higher : {h : ℕ} → ReachedDir img h → h ≢ 5 → height h < height (up h)
  unfolding w
  parent_higher {h} r off =
      let (e, m, dir, is) = parent-entry image r off in
      let n : EntryIn img (up h) e = record { directory = record { image = image; reached = m.directory.reached }; member = m.member } in
      rw is at (sub_lower n dir)

  climbed_root : Climbed 5
  climbed_root = record {
    way = 5 ∷ [];
    chain = (refl, (λ e. omega (arith, e)), root-parent image);
    below = λ x p. elim (one_at_cases 5 x) [ inl e ↦ omega (arith, e.0) | inr e ↦ absurd (omega (arith, p, one x, e.1)) ];
    higher = λ x p. elim (one_at_cases 5 x) [ inl e ↦ omega (arith, ap height e.0) | inr e ↦ absurd (omega (arith, p, one x, e.1)) ];
    once = λ x. elim (one_at_cases 5 x) [ inl e ↦ omega (arith, one x, e.1) | inr e ↦ omega (arith, one x, e.1) ];
  }
    where
      one : (x : ℕ) → occurrences x (5 ∷ []) ≡ one_at 5 x
      one x = omega (arith, occurrences-cons x 5 [], occurrences-nil x)

  climbed_more : {h : ℕ} → ReachedDir img h → h ≢ 5 → Climbed (up h) → Climbed h
  climbed_more {h} r off c =
      let high = parent_higher r off in
      record {
        way = h ∷ c.way;
        chain = (refl, reached-pos r, c.chain);
        below = λ x p. elim (one_at_cases h x) [ inl e ↦ rw (← e.0) (reached-below r) | inr e ↦ c.below x (omega (arith, p, cons x, e.1)) ];
        higher = λ x p. elim (one_at_cases h x) [ inl e ↦ omega (arith, ap height e.0) | inr e ↦ omega (arith, high, c.higher x (omega (arith, p, cons x, e.1))) ];
        once = λ x. elim (one_at_cases h x) [
          | inl e ↦ omega (arith, cons x, e.1, not_above (occurrences x c.way) (λ p. omega (arith, high, c.higher x p, ap height e.0)))
          | inr e ↦ omega (arith, cons x, e.1, c.once x)
        ];
      }
    where
      cons : (x : ℕ) → occurrences x (h ∷ c.way) ≡ one_at h x + occurrences x c.way
      cons x = occurrences-cons x h c.way

  -- no reached directory is higher than all together
  abbrev most : ℕ
  most = sum_list (λ d. height d.head) dirs

  reached-height : {h : ℕ} → ReachedDir img h → height h ≤ most
  reached-height {h} r = let (d, m, is) = reached_dir r in omega (arith, member-sum {X = Dir} (λ c. height c.head) d dirs m, ap height is)

  climb : (k h : ℕ) → ReachedDir img h → most < height h + k → Climbed h
  climb zero h r l = absurd (omega (arith, l, reached-height r))
  climb (suc k) h r l = go (same? h 5) (climb k (up h))
    where
      go : (h ≡ 5) ⊎ (h ≢ 5) → (ReachedDir img (up h) → most < height (up h) + k → Climbed (up h)) → Climbed h
      go (inl e) rest = rw e climbed_root
      go (inr e) rest = climbed_more r e (rest (parent-reached image r e) (omega (arith, l, parent_higher r e)))

  climbed : {h : ℕ} → ReachedDir img h → Climbed h
  climbed {h} r = climb (suc most) h r (omega arith)

  -- the fuel is enough
  way_short : {h : ℕ} → (c : Climbed h) → length c.way ≤ limit
  way_short c = pigeonhole c.way limit (λ x l. not_above (occurrences x c.way) (λ p. omega (arith, l, c.below x p))) c.once

  pub way_up_lem : {h : ℕ} → ReachedDir img h → h ≢ 5 → way_up (reached_dirs img (anodes_of img)) h ≡ h ∷ way_up (reached_dirs img (anodes_of img)) (parent_of (reached_dirs img (anodes_of img)) h)
  unfolding way_up climbed_more
  way_up_lem {h} r off =
      let c = climbed (parent-reached image r off) in
      let more = climbed_more r off c in
      chain_is up limit h more.way more.chain (way_short more) ∙ ap (λ (l : List ℕ). h ∷ l) (sym (chain_is up limit (up h) c.way c.chain (way_short c)))

  pub way_root : way_up (reached_dirs img (anodes_of img)) 5 ≡ 5 ∷ []
  unfolding way_up climbed_root
  way_root = chain_is up limit 5 (5 ∷ []) climbed_root.chain (omega arith)

  -- a directory that an entry names lies where the entry's does, but for itself
  pub sub_lies : {h : ℕ} {e : Entered} → EntryIn img h e → e.dir ≡ true → (top : ℕ) → e.anode ≢ top → lies_in (reached_dirs img (anodes_of img)) top e.anode ≡ lies_in (reached_dirs img (anodes_of img)) top h
  unfolding lies_in
  sub_lies {h} {e} m dir top off =
      let there : ReachedDir img e.anode = record { image = image; reached = (sub-reached m dir).reached } in
      let way : way_up dirs e.anode ≡ e.anode ∷ way_up dirs h = way_up_lem there (λ i. omega (arith, i, (entry-facts m).from_6)) ∙ ap (λ (k : ℕ). e.anode ∷ way_up dirs k) (entry-parent image m dir) in
      let count : occurrences top (way_up dirs e.anode) ≡ occurrences top (way_up dirs h) = omega (arith, ap (occurrences top) way, occurrences-cons top e.anode (way_up dirs h), one_at_other e.anode top off) in
      rw count
