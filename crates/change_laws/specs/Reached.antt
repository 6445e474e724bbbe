-- Reached directories of an accepted image: what is known of their blocks and of their entries.
use Rattle.std.specs.Prelude.{ℕ, zero, suc, ◌/◌, ◌%◌, ◌≤◌, ◌<◌, ◌≡◌, ◌≢◌, ◌⊎◌, Bool, true, cond, length}
use Rattle.std.proofs.Math.Path.{refl, sym, ap, subst}
use Rattle.std.proofs.Common.{◌∙◌, true≢false}
use Rattle.std.proofs.Math.Logic.{inl, inr}
use Rattle.std.proofs.Math.Bool.{false}
use mathlib.Core.List.{List, [], ◌∷◌, ◌++◌, map}
use Rattle.std.proofs.Math.Option.{some, none-ne-some}
use native.Mathlib.Omega.{arith}
use Rattle.disk.specs.Blocks.{block_of}
use Rattle.disk.proofs.Laws.{length-block_of}
use Rattle.rules.specs.Counting.{one_at, sum_list, occurrences, gather}
use Rattle.rules.specs.Anodes.{Anodes, limit, anodes_of}
use Rattle.rules.specs.Chains.{chain_of, one_if_head, run, blocks_of, block_count}
use Rattle.rules.specs.Walk.{Dir, dir_made, root, Entered, Item, entries_in, is_block_of, blocks_for, item_of, broken_item, items_at, items_by, sub_dirs, reached_dirs}
use Rattle.rules.specs.Lookup.{no_directory, entries_of, name_at, is_named, first_named, entry_named, nth}
use Rattle.laws.specs.Tests.{T_true}
use Rattle.laws.specs.Sums.{one_at_cases, one_at-same, one_below, one_below_cases}
use Rattle.laws.specs.Bags.{list_one, list_congr, map-sum}
use Rattle.laws.specs.Heads.{Head}
use Rattle.laws.specs.Space.{on_chain_lem}
use Rattle.laws.specs.Each.{Each, each_zero}
use Rattle.laws.specs.Items.{wrong, giving, subs, below, below-items, named_in, faults, headed}
use Rattle.laws.specs.Walks.{Order, walk-found}
use Rattle.laws.specs.Trees.{not_lower, lowering}
use Rattle.laws.specs.TreeChanges.{headed-member}
use Rattle.laws.specs.Totals.{file_size}
use Rattle.laws.specs.Entries.{broken_wrong, item_fine, item_anode, item_dir, items-sum, items_at_cases, Unbroken}
use Rattle.laws.specs.Whole.{Whole, counts_head, not_dir, dir_heads, named_heads}
use Rattle.laws.specs.Members.{Member, no_member, member-first, member-cons, member-left, member_right, member-later, member_each, member-sum, none_pass, member-gather, member-occurrences, gather-part}
use Rattle.frames.specs.DisjointBlocks.{DataBlock, chain_block}
use Rattle.change_laws.specs.Image.{AcceptedWhole, head_in, AcceptedImage, accepted_plain, accepted_whole, headed-named, headed-reached, reached_some, ReachedDir}
use Rattle.change_laws.specs.FoundEntries.{Standing, standing_start, entry-start, BlockEntry}

-- ---- lookups

first_member : (name : List ℕ) (l : List Entered) (e : Entered) → first_named name l ≡ some e → Member e l
unfolding first_named
first_member name [] e is = absurd (none-ne-some e is)
first_member name (x ∷ l) e is = go (is_named name x) is (first_member name l e)
  where
    go : (t : Bool) → elim t [ true ↦ some x | false ↦ first_named name l ] ≡ some e → (first_named name l ≡ some e → Member e l) → Member e (x ∷ l)
    go true is rest = ([], l, cc)
    go false is rest = member-later e x l (rest is)

pub named-member : (img : List ℕ) (s : Anodes) (h : ℕ) (name : List ℕ) (e : Entered) → entry_named img s h name ≡ some e → Member e (entries_of img s h)
unfolding entry_named
named-member img s h name e is = first_member name (entries_of img s h) e is

pub nth-member : (l : List Entered) (n : ℕ) (e : Entered) → nth l n ≡ some e → Member e l
unfolding nth
nth-member [] n e is = absurd (none-ne-some e is)
nth-member (x ∷ l) zero e is = ([], l, cc)
nth-member (x ∷ l) (suc n) e is = member-later e x l (nth-member l n e is)

-- ---- a reached directory

module _ {ex : ℕ → Bool} {n last : ℕ} {s : Anodes} {system hd sd : ℕ → ℕ} {entries : ℕ → List Entered} {marked : Dir → ℕ → Bool} {dirs : List Dir}
    (w : Whole ex n last s system hd sd entries marked dirs) where
  abbrev items : Dir → List Item
  items = items_by entries marked s

  -- its head is the root's or is named
  head_from_5 : (h : ℕ) → 0 < headed h dirs → 5 ≤ h
  head_from_5 h reached = elim (one_at_cases 5 h) [ inl c ↦ omega (arith, c.0) | inr c ↦ omega (arith, (named_heads w h (omega (arith, reached, headed-named w h, c.1))).0) ]

  module _ (d : Dir) (in_tree : Member d dirs) where
    dir_is_head : Head s.next s.block d.head
    dir_is_head = (member_each (λ d. Head s.next s.block d.head × (d.head ≢ 1)) d dirs in_tree (dir_heads w)).0

    -- an anode of its chain
    module _ (a : ℕ) (on : Member a (chain_of s.next limit d.head)) where
      fine_at : sum_list wrong (items_at entries marked s d a) ≡ 0
      fine_at = omega (
        arith,
        member-sum (λ b. sum_list wrong (items_at entries marked s d b)) a (chain_of s.next limit d.head) on,
        items-sum entries marked s d wrong,
        member_each (λ d. faults items d ≡ 0) d dirs in_tree (each_zero (faults items) dirs w.tree.faultless),
      )

      -- it has one block, marked as the directory's, whose entries give its items
      pub its-items : (s.count a ≡ 1) × (marked d (s.block a) ≡ true) × (items_at entries marked s d a ≡ map (item_of s) (entries (s.block a)))
      its-items = elim (items_at_cases entries marked s d a) [
        | inl q ↦ (q.0, T_true (marked d (s.block a)) q.1, q.2)
        | inr q ↦ absurd (omega (arith, rw q at fine_at, list_one wrong broken_item, broken_wrong))
      ]

      -- an entry of its block has nothing wrong
      module _ (e : Entered) (in_block_lem : Member e (entries (s.block a))) where
        fine : (e.broken ≡ false) × (6 ≤ e.anode) × (one_if_head limit s.next s.block e.anode ≡ 1) × ((e.dir ≡ true) ⊎ (block_count s e.anode ≡ blocks_for e.size))
        fine = item_fine s e (omega (
          arith,
          member-sum (λ x. wrong (item_of s x)) e (entries (s.block a)) in_block_lem,
          map-sum (item_of s) wrong (entries (s.block a)),
          rw its-items.2 at fine_at,
        ))

        -- what is summed over the items of the directory has it
        item_in : (f : Item → ℕ) → f (item_of s e) ≤ sum_list f (items d)
        item_in f = omega (
          arith,
          member-sum (λ x. f (item_of s x)) e (entries (s.block a)) in_block_lem,
          map-sum (item_of s) f (entries (s.block a)),
          ap (sum_list f) its-items.2,
          member-sum (λ b. sum_list f (items_at entries marked s d b)) a (chain_of s.next limit d.head) on,
          items-sum entries marked s d f,
        )

        -- and over those of all directories
        item_sum : (f : Item → ℕ) → f (item_of s e) ≤ sum_list (λ d. sum_list f (items d)) dirs
        item_sum f = omega (arith, item_in f, member-sum (λ d. sum_list f (items d)) d dirs in_tree)

        -- a directory that it names is lower in the tree
        named_lower : e.dir ≡ true → d.head ≢ e.anode
        unfolding not_lower
        named_lower isdir q =
            let height = w.tree.height in
            let weight = not_lower height (height d.head) in
            let none : sum_list (giving weight d.head) (items d) ≡ 0 = sym (below-items items weight d) ∙ member_each (λ c. lowering items height c ≡ 0) d dirs in_tree (each_zero (lowering items height) dirs w.tree.lower) in
            let one : giving weight d.head (item_of s e) ≡ one_below (height d.head) (suc (height e.anode)) = rw (item_dir s e ∙ isdir, item_anode s e) in
            elim (one_below_cases (height d.head) (suc (height e.anode))) [
              | inl c ↦ omega (arith, item_in (giving weight d.head), none, one, c.1)
              | inr c ↦ omega (arith, c.0, ap height q)
            ]

-- ---- in an accepted image

pub member-reached : {img : List ℕ} → AcceptedImage img → (d : Dir) → Member d (reached_dirs img (anodes_of img)) → ReachedDir img d.head
member-reached {img} a d m =
    let dirs = reached_dirs img (anodes_of img) in
    record { image = a; reached = headed-reached img (anodes_of img) d.head (omega (arith, member-sum (λ c. one_at c.head d.head) d dirs m, one_at-same d.head d.head refl)) }

-- the block of an anode of a reached directory
pub record DirBlock (img : List ℕ) (h a : ℕ) : Type 0 where
  pub in_use : (anodes_of img).block a ≢ 0
  pub on_chain_lem : head_in img a ≡ h
  pub one : (anodes_of img).count a ≡ 1
  pub is_data : DataBlock img ((anodes_of img).block a)
  pub whole : length (block_of img ((anodes_of img).block a)) ≡ 512
  -- its entries keep the entry rules
  pub unbroken : Unbroken (entries_in img ((anodes_of img).block a))
  -- the directory, as it was reached
  pub dir : Dir
  pub dir_head : dir.head ≡ h
  pub reached : Member dir (reached_dirs img (anodes_of img))
  pub marked : is_block_of img dir ((anodes_of img).block a) ≡ true

-- e is an entry of the reached directory h
pub record EntryIn (img : List ℕ) (h : ℕ) (e : Entered) : Type 0 where
  pub directory : ReachedDir img h
  pub member : Member e (entries_of img (anodes_of img) h)

-- what is known of it
pub record EntryFacts (img : List ℕ) (h : ℕ) (e : Entered) : Type 0 where
  pub unbroken : e.broken ≡ false
  pub from_6 : 6 ≤ e.anode
  pub below : e.anode < limit
  pub head : Head (anodes_of img).next (anodes_of img).block e.anode
  pub sized : e.dir ≡ false → block_count (anodes_of img) e.anode ≡ blocks_for e.size
  -- the directory's anode whose block has it
  pub a₀ : ℕ
  pub member-chain : Member a₀ (chain_of (anodes_of img).next limit h)
  pub block_facts : DirBlock img h a₀
  pub member : Member e (entries_in img ((anodes_of img).block a₀))
  pub in_block_lem : e.start / 512 ≡ (anodes_of img).block a₀
  pub from_16 : 16 ≤ e.start % 512
  pub stands : Standing (block_of img (e.start / 512)) (e.start / 512) (e.start % 512) 510 e
  -- it alone names its chain
  pub named : sum_list (named_in (items_by (entries_in img) (is_block_of img) (anodes_of img)) e.anode) (reached_dirs img (anodes_of img)) ≡ 1
  pub file : e.dir ≡ false →
      1 ≤ sum_list (λ d. sum_list (file_size (λ x. one_at x e.anode)) (items_by (entries_in img) (is_block_of img) (anodes_of img) d)) (reached_dirs img (anodes_of img))

module _ {img : List ℕ} {h : ℕ} {e : Entered} (f : EntryFacts img h e) where
  -- its chain is not the free list
  pub entry-not-1 : e.anode ≢ 1
  entry-not-1 i = omega (arith, i, f.from_6)

  -- the block that has it
  pub block_data : DataBlock img (e.start / 512)
  block_data = rw f.in_block_lem f.block_facts.is_data

  pub block_entry : BlockEntry (block_of img (e.start / 512)) (e.start / 512) (e.start % 512) e
  unfolding entries_in
  block_entry = record { whole = rw f.in_block_lem f.block_facts.whole; unbroken = rw f.in_block_lem f.block_facts.unbroken; parted = rw f.in_block_lem f.member; start = omega arith }

-- the one block of an anode with count 1 is a block of its chain
pub block_on : (s : Anodes) (h a : ℕ) → Member a (chain_of s.next limit h) → s.count a ≡ 1 → 0 < occurrences (s.block a) (blocks_of s h)
unfolding blocks_of occurrences run
block_on s h a on one = omega (
  arith,
  gather-part (λ b. run (s.block b) (s.count b)) (λ y. one_at y (s.block a)) a (chain_of s.next limit h) on,
  here,
)
  where
    here : sum_list (λ y. one_at y (s.block a)) (run (s.block a) (s.count a)) ≡ 1
    here = rw one (list_one (λ y. one_at y (s.block a)) (s.block a) ∙ one_at-same (s.block a) (s.block a) refl)

module _ {img : List ℕ} {h : ℕ} (r : ReachedDir img h) where
  w : AcceptedWhole img
  w = accepted_whole r.image

  some_dir : 0 < headed h (reached_dirs img (anodes_of img))
  some_dir = reached_some img (anodes_of img) h r.reached

  pub reached_dir : (d : Dir) × Member d (reached_dirs img (anodes_of img)) × (d.head ≡ h)
  reached_dir = headed-member h (reached_dirs img (anodes_of img)) some_dir

  reached_from_5 : 5 ≤ h
  reached_from_5 = head_from_5 w h some_dir

  pub reached-not-1 : h ≢ 1
  reached-not-1 q = omega (arith, q, reached_from_5)

  pub reached_head : Head (anodes_of img).next (anodes_of img).block h
  reached_head = rw reached_dir.2 at (dir_is_head w reached_dir.0 reached_dir.1)

  -- the block of an anode of its chain
  pub dir_block : (a : ℕ) → Member a (chain_of (anodes_of img).next limit h) → DirBlock img h a
  dir_block a on =
      let c : Member a (chain_of (anodes_of img).next limit reached_dir.0.head) = rw reached_dir.2 on in
      let t = its-items w reached_dir.0 reached_dir.1 a c in
      let o = on_chain_lem w.good h reached_head a (member-occurrences a (chain_of (anodes_of img).next limit h) on) in
      let y = (anodes_of img).block a in
      let b = chain_block img w.good h reached_head y (block_on (anodes_of img) h a on t.0) in
      record {
        in_use = o.1;
        on_chain_lem = o.0;
        one = t.0;
        is_data = b;
        whole = length-block_of img y b.inside;
        unbroken = none_pass (λ e. e.broken) (entries_in img y) (λ e m. (fine w reached_dir.0 reached_dir.1 a c e m).0);
        dir = reached_dir.0;
        dir_head = reached_dir.2;
        reached = reached_dir.1;
        marked = t.1;
      }

  -- an entry of one of its blocks stands in that block
  pub start_in : (a : ℕ) → Member a (chain_of (anodes_of img).next limit h) → (e : Entered) → Member e (entries_in img ((anodes_of img).block a)) →
      (at : ℕ) × (16 ≤ at) × Standing (block_of img ((anodes_of img).block a)) ((anodes_of img).block a) at 510 e
  unfolding entries_in
  start_in a on e m = entry-start (block_of img ((anodes_of img).block a)) ((anodes_of img).block a) 28 16 e m (dir_block a on).unbroken

  module _ (e : Entered) (member : Member e (entries_of img (anodes_of img) h)) where
    -- an entry of it
    facts_of : EntryFacts img h e
    unfolding entries_of
    facts_of =
        let s = anodes_of img in
        let q = member-gather (λ a. entries_in img (s.block a)) (chain_of s.next limit h) e member in
        let a = q.0 in
        let c : Member a (chain_of s.next limit reached_dir.0.head) = rw reached_dir.2 q.1 in
        let f = fine w reached_dir.0 reached_dir.1 a c e q.2 in
        let d = counts_head w.good e.anode f.2 in
        let p = start_in a q.1 e q.2 in
        let start = standing_start p.2 in
        let y : e.start / 512 ≡ s.block a = omega (arith, p.2.before) in
        let at : e.start % 512 ≡ p.0 = omega (arith, p.2.before) in
        record {
          unbroken = f.0;
          from_6 = f.1;
          below = w.good.linked.view.below e.anode d.in_use;
          head = d;
          sized = λ i. elim f.3 [ inl j ↦ absurd (true≢false (sym j ∙ i)) | inr j ↦ j ];
          a₀ = a;
          member-chain = q.1;
          block_facts = dir_block a q.1;
          member = q.2;
          in_block_lem = y;
          from_16 = omega (arith, at, p.1);
          stands = rw (y, at) p.2;
          named = omega (arith, w.tree.once e.anode, w.all_named e.anode f.1 d);
          file = λ i. omega (arith, item_sum w reached_dir.0 reached_dir.1 a c e q.2 (file_size (λ x. one_at x e.anode)), file-one i);
        }
      where
        file-one : e.dir ≡ false → file_size (λ x. one_at x e.anode) (item_of (anodes_of img) e) ≡ 1
        file-one i = rw (item_dir (anodes_of img) e ∙ i, item_anode (anodes_of img) e) (one_at-same e.anode e.anode refl)

  -- its head is no file's
  pub not-file : {k : ℕ} {e : Entered} → EntryFacts img k e → e.dir ≡ false → h ≢ e.anode
  not-file {e = e} f i q =
      member_each (λ d. d.head ≢ e.anode) reached_dir.0 (reached_dirs img (anodes_of img)) reached_dir.1 (not_dir w e.anode (f.file i)) (reached_dir.2 ∙ q)

  -- an entry of it does not name it
  pub not_itself : {e : Entered} → EntryFacts img h e → h ≢ e.anode
  not_itself {e} f q = go e.dir refl
    where
      go : (b : Bool) → e.dir ≡ b → ⊥
      go true i = named_lower w reached_dir.0 reached_dir.1 f.a₀ (rw reached_dir.2 f.member-chain) e f.member i (reached_dir.2 ∙ q)
      go false i = not-file f i q

  -- no entry of it breaks the entry rules
  pub reached_unbroken : Unbroken (entries_of img (anodes_of img) h)
  reached_unbroken = none_pass (λ e. e.broken) (entries_of img (anodes_of img) h) (λ e m. (facts_of e m).unbroken)

pub entry-facts : {img : List ℕ} {h : ℕ} {e : Entered} → EntryIn img h e → EntryFacts img h e
entry-facts {e = e} m = facts_of m.directory e m.member

-- its name is what stands at its place
pub entry_name : {img : List ℕ} {h : ℕ} {e : Entered} → EntryIn img h e → e.name ≡ name_at img e.start
unfolding name_at
entry_name m = ap (λ (x : Entered). x.name) (entry-facts m).stands.is

-- a block of its chain is a data block
pub entry_data : {img : List ℕ} {h : ℕ} {e : Entered} → EntryIn img h e → (y : ℕ) → 0 < occurrences y (blocks_of (anodes_of img) e.anode) → DataBlock img y
entry_data {img} {e = e} m = chain_block img (accepted_whole m.directory.image).good e.anode (entry-facts m).head

-- ---- reached, said by steps from the root

-- 01: reached entries are those in the root directory and in every directory that a reached one names
pub data Reaches (img : List ℕ) : ℕ → Type 0 where
  top : Reaches img 5
  under : (h : ℕ) (e : Entered) → Reaches img h → Member e (entries_of img (anodes_of img) h) → e.dir ≡ true → Reaches img e.anode

member-map {ℓ κ} : {X : Type ℓ} {Y : Type κ} (f : X → Y) (l : List X) (y : Y) → Member y (map f l) → (x : X) × Member x l × (y ≡ f x)
member-map f [] y m = absurd (no_member y m)
member-map f (x ∷ l) y m = elim (member-cons y (f x) (map f l) m) [
  | inl e ↦ (x, member-first x l, e)
  | inr n ↦ (let r = member-map f l y n in (r.0, member-later r.0 x l r.1, r.2))
]

gathered {ℓ κ} : {X : Type ℓ} {Y : Type κ} (f : X → List Y) (l : List X) (x : X) (y : Y) → Member x l → Member y (f x) → Member y (gather f l)
unfolding gather
gathered f [] x y m n = absurd (no_member x m)
gathered f (z ∷ l) x y m n = elim (member-cons x z l m) [
  | inl e ↦ member-left y (f z) (gather f l) (rw e at n)
  | inr r ↦ member_right y (f z) (gather f l) (gathered f l x y r n)
]

both_each {ℓ} : {X : Type ℓ} (P : X → Type 0) (l m : List X) → Each P l → Each P m → Each P (l ++ m)
both_each P [] m p q = q
both_each P (x ∷ l) m p q = (p.0, both_each P l m p.1 q)

all_each {ℓ} : {X : Type ℓ} (P : X → Type 0) (l : List X) → ((x : X) → Member x l → P x) → Each P l
all_each P [] f = tt
all_each P (x ∷ l) f = (f x (member-first x l), all_each P l (λ y m. f y (member-later y x l m)))

module _ {img : List ℕ} (a : AcceptedImage img) where
  abbrev given : Dir → List Item
  given = items_by (entries_in img) (is_block_of img) (anodes_of img)

  abbrev Good_dir : Dir → Type 0
  Good_dir d = Reaches img d.head

  -- an item that names a directory is an entry's
  of_entry_lem : (d : Dir) (i : Item) → Member i (given d) → i.dir ≡ true → (e : Entered) × Member e (entries_of img (anodes_of img) d.head) × (e.dir ≡ true) × (e.anode ≡ i.anode)
  unfolding items_by entries_of
  of_entry_lem d i m t =
      let s = anodes_of img in
      let (b, on, in_b) = member-gather (items_at (entries_in img) (is_block_of img) s d) (chain_of s.next limit d.head) i m in
      elim (items_at_cases (entries_in img) (is_block_of img) s d b) [
        | inl q ↦ (let r = member-map (item_of s) (entries_in img (s.block b)) i (rw q.2 at in_b) in
            (r.0, gathered (λ c. entries_in img (s.block c)) (chain_of s.next limit d.head) b r.0 on r.1, sym (item_dir s r.0) ∙ ap (λ (j : Item). j.dir) (sym r.2) ∙ t, sym (item_anode s r.0) ∙ ap (λ (j : Item). j.anode) (sym r.2)))
        | inr q ↦ elim (member-cons i broken_item [] (rw q at in_b)) [ inl e ↦ absurd (true≢false (sym t ∙ ap (λ (j : Item). j.dir) e)) | inr n ↦ absurd (no_member i n) ]
      ]

  named_dir : (d : Dir) (i : Item) (b : Bool) → i.dir ≡ b → (c : Dir) → Member c (cond b (dir_made i.anode d.head ∷ []) []) → (i.dir ≡ true) × (c.head ≡ i.anode)
  named_dir d i false e c m = absurd (no_member c m)
  named_dir d i true e c m = elim (member-cons c (dir_made i.anode d.head) [] m) [ inl q ↦ (e, ap (λ (x : Dir). x.head) q) | inr n ↦ absurd (no_member c n) ]

  sub-reached : (d : Dir) → Good_dir d → (c : Dir) → Member c (subs given d) → Good_dir c
  unfolding subs sub_dirs
  sub-reached d r c m =
      let (i, mi, mc) = member-gather (sub_dirs d) (given d) c m in
      let n = named_dir d i i.dir refl c mc in
      let (e, me, te, ae) = of_entry_lem d i mi n.0 in
      subst (λ (x : ℕ). Reaches img x) (ae ∙ sym n.1) (under d.head e r me te)

  in_order : (Q q : List Dir) → Order given q Q → Each Good_dir q → Each Good_dir Q
  in_order [] q o p = tt
  in_order (d ∷ Q) q (q', e, o) p =
      let p' : Each Good_dir (d ∷ q') = subst (λ (l : List Dir). Each Good_dir l) e p in
      (p'.0, in_order Q (q' ++ subs given d) o (both_each Good_dir q' (subs given d) p'.1 (all_each Good_dir (subs given d) (λ c m. sub-reached d p'.0 c m))))

  dirs-reached : Each Good_dir (reached_dirs img (anodes_of img))
  dirs-reached = in_order (reached_dirs img (anodes_of img)) (root ∷ []) (walk-found given limit (root ∷ []) [] (reached_dirs img (anodes_of img)) (accepted_plain a)).order (top, tt)

  -- the walk reaches no other directory
  pub walked_reaches : (h : ℕ) → no_directory img (anodes_of img) h ≡ false → Reaches img h
  walked_reaches h n =
      let (d, m, e) = headed-member h (reached_dirs img (anodes_of img)) (reached_some img (anodes_of img) h n) in
      subst (λ (x : ℕ). Reaches img x) e (member_each Good_dir d (reached_dirs img (anodes_of img)) m dirs-reached)

  reaches_headed : (h : ℕ) → Reaches img h → 0 < headed h (reached_dirs img (anodes_of img))
  unfolding entries_of
  reaches_headed h top = omega (arith, (accepted_whole a).tree.exact (λ d. one_at d.head 5), one_at-same 5 5 refl)
  reaches_headed h (under k e r m t) = step (reaches_headed k r)
    where
      s : Anodes
      s = anodes_of img

      dirs : List Dir
      dirs = reached_dirs img (anodes_of img)

      wt : Dir → ℕ
      wt d = one_at d.head e.anode

      one : giving wt 0 (item_of s e) ≡ 1
      one = rw (item_dir s e ∙ t, item_anode s e) (one_at-same e.anode e.anode refl)

      step : 0 < headed k dirs → 0 < headed e.anode dirs
      step p =
          let (d, md, hd) = headed-member k dirs p in
          let (b, on, in_b) = member-gather (λ c. entries_in img (s.block c)) (chain_of s.next limit k) e m in
          omega (
            arith,
            (accepted_whole a).tree.exact wt,
            list_congr (below given wt) (λ c. sum_list (giving wt 0) (given c)) dirs (λ c. below-items given wt c),
            item_sum (accepted_whole a) d md b (rw hd on) e in_b (giving wt 0),
            one,
          )

  -- and every one that is reached so
  pub reaches_walked : (h : ℕ) → Reaches img h → no_directory img (anodes_of img) h ≡ false
  reaches_walked h r = headed-reached img (anodes_of img) h (reaches_headed h r)
