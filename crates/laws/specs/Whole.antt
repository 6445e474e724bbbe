-- The whole accepted state, refusals 6 to 17, in the form to prove with, and that a change of one file's chain and size keeps it.
use Rattle.std.specs.Prelude.{ℕ, ◌+◌, ◌*◌, ◌≤◌, ◌<◌, ◌≡◌, refl, ◌≢◌, ◌⊎◌, Bool, cond, ◌&&◌, List, map, eqb, leb}
use Rattle.std.proofs.Common.{sym, ap, ◌∙◌, inl, inr, map-id, arith}
use Rattle.rules.specs.Counting.{one_at, sum_below, sum_list, occurrences}
use Rattle.rules.specs.Anodes.{limit, Anodes}
use Rattle.rules.specs.Chains.{chain_of, one_if_head, blocks_of, block_count}
use Rattle.rules.specs.Walk.{Dir, dir_made, root, Entered, Item, blocks_for, item_of, items_by}
use Rattle.laws.specs.Tests.{same?, less?, tested_from}
use Rattle.laws.specs.Sums.{one_at_cases, one_at-same, one_at_other, one_at-le}
use Rattle.laws.specs.Bags.{list_mono}
use Rattle.laws.specs.Heads.{Head, head_while, heads_cases, occurrences_on_chain}
use Rattle.laws.specs.Blocks.{blocks}
use Rattle.laws.specs.Held.{held, chain-blocks}
use Rattle.laws.specs.Space.{Good, head_5}
use Rattle.laws.specs.Owners.{blocks-chain}
use Rattle.laws.specs.Moves.{Shift}
use Rattle.laws.specs.Frame.{kept-count, on_other, shift_alike, shift_chain}
use Rattle.laws.specs.ChainBlocks.{shift_count}
use Rattle.laws.specs.Members.{Member, member_each, each_of}
use Rattle.laws.specs.Each.{Each, each_map, each_both, each_pair, each_zero}
use Rattle.laws.specs.Items.{wrong, names-sum, giving, giving-le, below, named_in, faults, below-items}
use Rattle.laws.specs.Trees.{Tree}
use Rattle.laws.specs.Apart.{Apart}
use Rattle.laws.specs.TreeChanges.{none-headed, AlikeItems, alike_named, alike_apart, alike_tree}
use Rattle.laws.specs.Totals.{named_by_files, named_by_kind, files_of, dirs_of, tree_total}
use Rattle.laws.specs.Entries.{broken_wrong, Sized, item_fine, fine_item, item_anode, items_mono, items-moved, items_alike}

-- 1 for a directory whose head is below 5 or heads no chain
unfoldable odd : Anodes → Dir → ℕ
odd s d = cond (leb 5 d.head && eqb (one_if_head limit s.next s.block d.head) 1) 0 1

odd-none : (s : Anodes) (d : Dir) → 5 ≤ d.head → one_if_head limit s.next s.block d.head ≡ 1 → odd s d ≡ 0
unfolding odd
odd-none s d l e = elim (tested_from 5 d.head (one_if_head limit s.next s.block d.head) 1) [ inl q ↦ q.2 | inr q ↦ absurd (q.0 l e) ]

none-odd : (s : Anodes) (d : Dir) → odd s d ≡ 0 → (5 ≤ d.head) × (one_if_head limit s.next s.block d.head ≡ 1)
unfolding odd
none-odd s d z = elim (tested_from 5 d.head (one_if_head limit s.next s.block d.head) 1) [ inl q ↦ (q.0, q.1) | inr q ↦ absurd (omega (arith, z, q.1)) ]

odd-le : (s : Anodes) (d : Dir) → odd s d ≤ 1
unfolding odd
odd-le s d = elim (tested_from 5 d.head (one_if_head limit s.next s.block d.head) 1) [ inl q ↦ omega (arith, q.2) | inr q ↦ omega (arith, q.1) ]

-- what an entry with nothing wrong names is a head from 6 up
odd_item : (s : Anodes) (h : ℕ) (e : Entered) → giving (odd s) h (item_of s e) ≤ wrong (item_of s e)
odd_item s h e = elim (less? 0 (wrong (item_of s e))) [
  | inl p ↦ omega (arith, giving-le (odd s) h (item_of s e), odd-le s (dir_made (item_of s e).anode h))
  | inr p ↦ (let f = item_fine s e (omega arith) in
      omega (
        arith,
        giving-le (odd s) h (item_of s e),
        odd-none s (dir_made (item_of s e).anode h)
            (rw (item_anode s e) (omega (arith, f.1))) (rw (item_anode s e) f.2),
      ))
]

-- an item with nothing wrong names no anode that is no head from 6 up
named_item : (s : Anodes) (x : ℕ) → (6 ≤ x → one_if_head limit s.next s.block x ≡ 1 → ⊥) → (e : Entered) → one_at (item_of s e).anode x ≤ wrong (item_of s e)
named_item s x k e = elim (one_at_cases (item_of s e).anode x) [
  | inr c ↦ omega (arith, c.1)
  | inl c ↦ elim (less? 0 (wrong (item_of s e))) [
    | inl q ↦ omega (arith, c.1)
    | inr q ↦ (let f = item_fine s e (omega arith) in let i : e.anode ≡ x = sym (item_anode s e) ∙ c.0 in absurd (k (omega (arith, f.1, i)) (rw i at f.2)))
  ]
]

-- and so a directory with nothing wrong in it names heads from 6 up
pub named-le : (entries : ℕ → List Entered) (marked : Dir → ℕ → Bool) (s : Anodes) (x : ℕ) → (6 ≤ x → one_if_head limit s.next s.block x ≡ 1 → ⊥) → (d : Dir) →
    named_in (items_by entries marked s) x d ≤ faults (items_by entries marked s) d
named-le entries marked s x k d = omega (
  arith,
  names-sum x (items_by entries marked s d),
  items_mono entries marked s d (λ i. one_at i.anode x) wrong (named_item s x k) (omega (arith, broken_wrong, one_at-le 0 x)),
)

-- a directory is the chain of a head other than 1
abbrev pub DirHead : Anodes → Dir → Type 0
DirHead s d = Head s.next s.block d.head × (d.head ≢ 1)

-- 16: every head from 6 up is named in these directories
abbrev pub AllNamed : Anodes → (ℕ → List Entered) → (Dir → ℕ → Bool) → List Dir → Type 0
AllNamed s entries marked dirs = (x : ℕ) → 6 ≤ x → Head s.next s.block x → 1 ≤ sum_list (named_in (items_by entries marked s) x) dirs

module _ (ex : ℕ → Bool) (n last : ℕ) where
  pub record Whole (s : Anodes) (system hd sd : ℕ → ℕ) (entries : ℕ → List Entered) (marked : Dir → ℕ → Bool) (dirs : List Dir) : Type 0 where
    pub good : Good limit ex n last s system hd sd
    pub tree : Tree (items_by entries marked s) root dirs
    pub all_named : AllNamed s entries marked dirs
    pub apart : Apart (items_by entries marked s) dirs

-- the same with another account of the anodes that exist and of the system's blocks
pub whole_good : {ex ex' : ℕ → Bool} {n last : ℕ} {s : Anodes} {system system' hd sd hd' sd' : ℕ → ℕ} {entries : ℕ → List Entered} {marked : Dir → ℕ → Bool} {dirs : List Dir} → Good limit ex' n last s system' hd' sd' →
    Whole ex n last s system hd sd entries marked dirs → Whole ex' n last s system' hd' sd' entries marked dirs
whole_good g w = record { good = g; tree = w.tree; all_named = w.all_named; apart = w.apart }

-- φ changes entries in their sizes alone, and only those that name h; the blocks of directories then hold the entries under φ, and are marked as before
pub record SizesChanged (s : Anodes) (hd : ℕ → ℕ) (h : ℕ) (φ : Entered → Entered) (entries entries' : ℕ → List Entered) (marked marked' : Dir → ℕ → Bool) : Type 0 where
  pub keeps : (e : Entered) → ((φ e).broken ≡ e.broken) × ((φ e).dir ≡ e.dir) × ((φ e).anode ≡ e.anode) × ((φ e).name ≡ e.name)
  pub other : (e : Entered) → e.anode ≢ h → (φ e).size ≡ e.size
  pub there : (a : ℕ) → s.count a ≡ 1 → hd a ≢ 1 → hd a ≢ h → (entries' (s.block a) ≡ map φ (entries (s.block a))) × ((d : Dir) → marked' d (s.block a) ≡ marked d (s.block a))

-- a head, counted and said
module _ {ex : ℕ → Bool} {n last : ℕ} {s : Anodes} {system hd sd : ℕ → ℕ} (g : Good limit ex n last s system hd sd) where
  pub head_counts : (m : ℕ) → Head s.next s.block m → one_if_head limit s.next s.block m ≡ 1
  head_counts m d = elim (heads_cases g.linked m) [ inl q ↦ q.1 | inr q ↦ absurd (q.0 d) ]

  pub counts_head : (m : ℕ) → one_if_head limit s.next s.block m ≡ 1 → Head s.next s.block m
  counts_head m e = elim (heads_cases g.linked m) [ inl q ↦ q.0 | inr q ↦ absurd (omega (arith, e, q.1)) ]

  -- x is a head from 6 up, or is not
  pub names_head : (x : ℕ) → ((6 ≤ x) × Head s.next s.block x) ⊎ (6 ≤ x → one_if_head limit s.next s.block x ≡ 1 → ⊥)
  names_head x = elim (less? x 6) [
    | inl l ↦ inr (λ a b. omega (arith, a, l))
    | inr l ↦ elim (heads_cases g.linked x) [ inl q ↦ inl (l, q.0) | inr q ↦ inr (λ a b. q.0 (counts_head x b)) ]
  ]

  -- a head's blocks are those of its chain, how many and which
  pub blocks-count : (h : ℕ) → Head s.next s.block h → blocks limit hd s.count h ≡ block_count s h
  unfolding block_count
  blocks-count h d = blocks-chain g h d

  pub blocks-sum : (f : ℕ → ℕ) (h : ℕ) → Head s.next s.block h → sum_list f (blocks_of s h) ≡ sum_below (λ y. held limit hd s.count s.block h y * f y) n
  unfolding blocks_of
  blocks-sum f h d = chain-blocks g.linked g.heads s.count n g.own.fits f h d

  -- an anode stands once on the chain of its own head, and on no other's
  pub on_dir : (a h : ℕ) → hd a ≡ h → (m : ℕ) → Head s.next s.block m → occurrences a (chain_of s.next limit m) ≡ one_at m h
  on_dir a h e m d = occurrences_on_chain g.linked g.heads m d a ∙ elim (one_at_cases m h) [
    | inl q ↦ one_at-same (hd a) m (e ∙ sym q.0) ∙ sym q.1
    | inr q ↦ one_at_other (hd a) m (λ i. q.0 (sym i ∙ e)) ∙ sym q.1
  ]

-- an entry with nothing wrong stays so in another state, its size aside, where the head that it names stays one and its size is right there
pub fine_still : {ex ex' : ℕ → Bool} {n last : ℕ} {s t : Anodes} {system system' hd sd hd' sd' : ℕ → ℕ} → Good limit ex n last s system hd sd → Good limit ex' n last t system' hd' sd' →
    (e e' : Entered) → e'.broken ≡ e.broken → e'.anode ≡ e.anode → wrong (item_of s e) ≡ 0 →
    (6 ≤ e.anode → Head s.next s.block e.anode → Sized s e → Head t.next t.block e.anode × Sized t e') → wrong (item_of t e') ≡ 0
fine_still {s = s} {t = t} g g' e e' b a z keep =
    let f = item_fine s e z in
    let k = keep f.1 (counts_head g e.anode f.2) f.3 in
    fine_item t e' (b ∙ f.0) (rw a f.1) (rw a (head_counts g' e.anode k.0)) k.1

module _ {ex : ℕ → Bool} {n last : ℕ} {s : Anodes} {system hd sd : ℕ → ℕ} (g : Good limit ex n last s system hd sd)
    (entries : ℕ → List Entered) (marked : Dir → ℕ → Bool) {dirs : List Dir} (t : Tree (items_by entries marked s) root dirs) where
  abbrev given : Dir → List Item
  given = items_by entries marked s

  all_even : sum_list (odd s) dirs ≡ 0
  all_even = omega (
    arith,
    t.exact (odd s),
    odd-none s root (omega arith) (head_counts g 5 (head_5 g)),
    list_mono (below given (odd s)) (faults given) dirs (λ d. under d),
    t.faultless,
  )
    where
      under : (d : Dir) → below given (odd s) d ≤ faults given d
      under d = omega (arith, below-items given (odd s) d, items_mono entries marked s d (giving (odd s) d.head) wrong (odd_item s d.head) (omega arith))

  -- every directory of the tree is the chain of a head other than 1
  pub tree_heads : Each (DirHead s) dirs
  tree_heads = each_map (λ d. odd s d ≡ 0) (DirHead s) dirs
      (λ d z. let e = none-odd s d z in (counts_head g d.head e.1, λ q. omega (arith, e.0, q))) (each_zero (odd s) dirs all_even)

module _ {ex : ℕ → Bool} {n last : ℕ} {s : Anodes} {system hd sd : ℕ → ℕ} {entries : ℕ → List Entered} {marked : Dir → ℕ → Bool} {dirs : List Dir}
    (w : Whole ex n last s system hd sd entries marked dirs) where
  abbrev items : Dir → List Item
  items = items_by entries marked s

  pub dir_heads : Each (DirHead s) dirs
  dir_heads = tree_heads w.good entries marked w.tree

  -- what is named is a head from 6 up
  pub named_heads : (x : ℕ) → 0 < sum_list (named_in (items_by entries marked s) x) dirs → (6 ≤ x) × (x < limit) × Head s.next s.block x
  named_heads x p = elim (names_head w.good x) [
    | inl q ↦ (q.0, w.good.linked.view.below x q.1.in_use, q.1)
    | inr k ↦ absurd (omega (arith, p, w.tree.faultless, list_mono (named_in (items_by entries marked s) x) (faults (items_by entries marked s)) dirs (named-le entries marked s x k)))
  ]

  -- the sum of demand 3 of an accepted state
  pub whole_total : sum_below system n + (blocks limit hd s.count 1 + files_of (items_by entries marked s) (blocks limit hd s.count) dirs + dirs_of (blocks limit hd s.count) dirs
      + blocks limit hd s.count 3 + blocks limit hd s.count 4) ≡ n
  whole_total = tree_total w.good (items_by entries marked s) root dirs w.tree refl named_heads w.all_named

  -- the chain of h, which is no directory's, is changed, by takes or gives, the sizes of the entries that name it with it, and nothing else of the directories
  module _ (h : ℕ) (not_h : Each (λ d. d.head ≢ h) dirs) where
    pub same_sizes : SizesChanged s hd h (λ e. e) entries entries marked marked
    same_sizes = record { keeps = λ e. (refl, refl, refl, refl); other = λ e q. refl; there = λ a i q r. (sym (map-id (entries (s.block a))), λ d. refl) }

    pub change_chain : {t : Anodes} {ex' : ℕ → Bool} {system' hd' sd' : ℕ → ℕ} → Good limit ex' n last t system' hd' sd' → Shift s hd t hd' 1 h →
        (φ : Entered → Entered) (entries' : ℕ → List Entered) (marked' : Dir → ℕ → Bool) → SizesChanged s hd h φ entries entries' marked marked' →
        ((e : Entered) → 6 ≤ e.anode → e.anode ≡ h → block_count s h ≡ blocks_for e.size → block_count t h ≡ blocks_for (φ e).size) → Whole ex' n last t system' hd' sd' entries' marked' dirs
    change_chain {t} {hd' = hd'} {sd' = sd'} g' sh φ entries' marked' c mine = record {
      good = g';
      tree = alike_tree items items' root dirs alikes w.tree;
      all_named = λ x l d. omega (arith, w.all_named x l (sh.no_new x d), alike_named items items' dirs alikes x);
      apart = alike_apart items items' dirs alikes w.apart;
    }
      where
        items' : Dir → List Item
        items' = items_by entries' marked' t

        size : (e : Entered) → 6 ≤ e.anode → Head s.next s.block e.anode → Sized s e → Sized t (φ e)
        size e l d (inl q) = inl ((c.keeps e).1 ∙ q)
        size e l d (inr q) = elim (same? e.anode h) [
          | inl i ↦ inr (ap (block_count t) ((c.keeps e).2 ∙ i) ∙ mine e l i (ap (block_count s) (sym i) ∙ q))
          | inr i ↦ inr (ap (block_count t) (c.keeps e).2 ∙ shift_count w.good g' sh e.anode d (omega arith) i ∙ q ∙ ap blocks_for (sym (c.other e i)))
        ]

        like : (e : Entered) → wrong (item_of s e) ≡ 0 → ((φ e).dir ≡ e.dir) × ((φ e).anode ≡ e.anode) × ((φ e).name ≡ e.name) × (wrong (item_of t (φ e)) ≡ 0)
        like e z = ((c.keeps e).1, (c.keeps e).2, (c.keeps e).3, fine_still w.good g' e (φ e) (c.keeps e).0 (c.keeps e).2 z (λ l d q. (sh.stays e.anode d, size e l d q)))

        one : (d : Dir) → DirHead s d → (d.head ≢ h) × (faults items d ≡ 0) → AlikeItems items items' d
        one d p q = items_alike s t φ wrong (λ z. omega (arith, z, broken_wrong)) like entries entries' marked marked' d
            (shift_chain w.good g' sh d.head p.0 p.1 q.0) (shift_alike w.good g' sh d.head p.0 p.1 q.0)
            (λ a k i. let o = on_other w.good d.head p.0 p.1 q.0 a k in let e = c.there a i o.1 o.2 in (e.0, e.1 d)) q.1

        alikes : Each (AlikeItems items items') dirs
        alikes = each_both (DirHead s) (λ d. (d.head ≢ h) × (faults items d ≡ 0)) (AlikeItems items items') dirs one dir_heads
            (each_pair (λ d. d.head ≢ h) (λ d. faults items d ≡ 0) dirs not_h (each_zero (faults items) dirs w.tree.faultless))

  -- h is a file's: some reached entry of a file names it
  module _ (h : ℕ) (file : 1 ≤ named_by_files (items_by entries marked s) h dirs) where
    pub file_head : (6 ≤ h) × (h < limit) × Head s.next s.block h
    file_head = named_heads h (omega (arith, named_by_kind items h dirs, file))

    pub not_dir : Each (λ d. d.head ≢ h) dirs
    not_dir = none-headed h dirs (omega (arith, w.tree.exact (λ d. one_at d.head h), one_at_other 5 h (λ e. omega (arith, e, file_head.0)), w.tree.once h, file, named_by_kind items h dirs))

    -- a file's chain is changed, by takes or gives, its entry's size with it, and nothing else of the directories
    pub change_file : {t : Anodes} {ex' : ℕ → Bool} {system' hd' sd' : ℕ → ℕ} → Good limit ex' n last t system' hd' sd' → Shift s hd t hd' 1 h →
        (φ : Entered → Entered) (entries' : ℕ → List Entered) (marked' : Dir → ℕ → Bool) → SizesChanged s hd h φ entries entries' marked marked' →
        ((e : Entered) → e.anode ≡ h → block_count t h ≡ blocks_for (φ e).size) → Whole ex' n last t system' hd' sd' entries' marked' dirs
    change_file g' sh φ entries' marked' c mine = change_chain h not_dir g' sh φ entries' marked' c (λ e l i q. mine e i)

    -- a file's chain has other blocks, as many as it had, and nothing of the directories is changed
    pub renew_file : {t : Anodes} {ex' : ℕ → Bool} {system' hd' sd' : ℕ → ℕ} → Good limit ex' n last t system' hd' sd' → Shift s hd t hd' 1 h → block_count t h ≡ block_count s h → Whole ex' n last t system' hd' sd' entries marked dirs
    renew_file g' sh same = change_chain h not_dir g' sh (λ e. e) entries marked (same_sizes h not_dir) (λ e l i q. same ∙ q)

  -- the free list alone is changed
  pub change_free : {t : Anodes} {ex' : ℕ → Bool} {system' hd' sd' : ℕ → ℕ} → Good limit ex' n last t system' hd' sd' → Shift s hd t hd' 1 1 → Whole ex' n last t system' hd' sd' entries marked dirs
  change_free g' sh = let not-1 = each_map (DirHead s) (λ d. d.head ≢ 1) dirs (λ d p. p.1) dir_heads in
      change_chain 1 not-1 g' sh (λ e. e) entries marked (same_sizes 1 not-1) (λ e l i q. absurd (omega (arith, l, i)))

  -- directory blocks have new places: every anode has the extent's length and successor that it had, one in use stays so, and the new block has the entries of the old one, their places apart
  pub blocks-moved : {t : Anodes} {ex' : ℕ → Bool} {system' hd' sd' : ℕ → ℕ} → Good limit ex' n last t system' hd' sd' → t.next ≡ s.next → ((a : ℕ) → t.count a ≡ s.count a) → ((a : ℕ) → s.block a ≢ 0 → t.block a ≢ 0) → ((a : ℕ) → t.block a ≢ 0 → s.block a ≢ 0) →
      (φ : Entered → Entered) → ((e : Entered) → ((φ e).broken ≡ e.broken) × ((φ e).dir ≡ e.dir) × ((φ e).anode ≡ e.anode) × ((φ e).name ≡ e.name) × ((φ e).size ≡ e.size)) →
      (entries' : ℕ → List Entered) (marked' : Dir → ℕ → Bool) → ((d : Dir) → Member d dirs → (a : ℕ) → 0 < occurrences a (chain_of s.next limit d.head) → s.count a ≡ 1 → (entries' (t.block a) ≡ map φ (entries (s.block a))) × (marked' d (t.block a) ≡ marked d (s.block a))) →
      Whole ex' n last t system' hd' sd' entries' marked' dirs
  blocks-moved {t} g' next count used was φ keeps entries' marked' there = record {
    good = g';
    tree = alike_tree items items' root dirs alikes w.tree;
    all_named = λ x l d. omega (arith, w.all_named x l (before x d), alike_named items items' dirs alikes x);
    apart = alike_apart items items' dirs alikes w.apart;
  }
    where
      items' : Dir → List Item
      items' = items_by entries' marked' t

      still : (m : ℕ) → Head s.next s.block m → Head t.next t.block m
      still m d = rw next (head_while d (used m d.in_use))

      before : (m : ℕ) → Head t.next t.block m → Head s.next s.block m
      before m d = rw (← next) (head_while d (was m d.in_use))

      chain : (m : ℕ) → chain_of t.next limit m ≡ chain_of s.next limit m
      chain m = ap (λ (f : ℕ → ℕ). chain_of f limit m) next

      size : (e : Entered) → Sized s e → Sized t (φ e)
      size e (inl q) = inl ((keeps e).1 ∙ q)
      size e (inr q) = inr (ap (block_count t) (keeps e).2 ∙ kept-count s t e.anode (chain e.anode) (λ a p. count a) ∙ q ∙ ap blocks_for (sym (keeps e).4))

      like : (e : Entered) → wrong (item_of s e) ≡ 0 → ((φ e).dir ≡ e.dir) × ((φ e).anode ≡ e.anode) × ((φ e).name ≡ e.name) × (wrong (item_of t (φ e)) ≡ 0)
      like e z = ((keeps e).1, (keeps e).2, (keeps e).3, fine_still w.good g' e (φ e) (keeps e).0 (keeps e).2 z (λ l d q. (still e.anode d, size e q)))

      one : (d : Dir) → Member d dirs → AlikeItems items items' d
      one d m = items-moved s t φ wrong (λ z. omega (arith, z, broken_wrong)) like entries entries' marked marked' d (chain d.head) (λ a k. count a) (there d m)
          (member_each (λ d. faults items d ≡ 0) d dirs m (each_zero (faults items) dirs w.tree.faultless))

      alikes : Each (AlikeItems items items') dirs
      alikes = each_of (AlikeItems items items') dirs one
