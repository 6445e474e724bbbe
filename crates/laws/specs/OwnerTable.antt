-- The block table and the anode table of a good state, and what steps do to them.
use Rattle.std.specs.Prelude.{ℕ, ◌+◌, ◌*◌, ◌≤◌, ◌<◌, ◌≡◌, refl, ◌≢◌, Bool, cond, leb, length, get_or, set, take, drop}
use Rattle.std.proofs.Math.Path.{sym, ap}
use Rattle.std.proofs.Common.{◌∙◌, zero-add, length-set, take-append-drop, drop_at, get_or-set_same, get_or-set_other, get_or-take, length-take-le, ext_get_or}
use Rattle.std.proofs.Math.Logic.{inl, inr}
use mathlib.Core.List.{List, [], ◌∷◌, ◌++◌, append-nil}
use native.Mathlib.Omega.{arith}
use borrow.Author.Tests.{le-leb, lt-leb, eq-eqb, ne_eqb, lt-ltb, le-ltb}
use Rattle.std.proofs.Math.ListN.{get_or-append}
use Rattle.std.proofs.lemmas.List.{set-append_left}
use Rattle.disk.specs.AnodeBlocks.{listed}
use Rattle.disk.proofs.Laws.{get_or-listed, length-listed}
use Rattle.rules.specs.Counting.{one_at, sum_below, occurrences}
use Rattle.rules.specs.Anodes.{Anodes, limit}
use Rattle.rules.specs.Chains.{head_of, one_if_covers, owners, system_by, system_owns}
use Rattle.rules.specs.Accepted.{disk_size}
use Rattle.rules.specs.Space.{rewritten}
use Rattle.rules.specs.Tables.{chain_head, anode_entry, anode_table, head_where, owner_head, block_entry, block_table, entry_or}
use Rattle.laws.specs.Tests.{same?, less?}
use Rattle.laws.specs.Sums.{one_at_cases, one_at-same, one_at_other, sum_congr, sum_factor, sum_swap, sum-member, sum_single, sum_pick}
use Rattle.laws.specs.Bags.{occurrences-nil, occurrences-cons, occurrences-here, occurrences-later}
use Rattle.laws.specs.Ownership.{covers_cases, covers_in, covers_none}
use Rattle.laws.specs.Links.{Linked}
use Rattle.laws.specs.Heads.{heads_one, head_of_heads}
use Rattle.laws.specs.Blocks.{blocks}
use Rattle.laws.specs.Held.{held, held_some, held_fresh}
use Rattle.laws.specs.Space.{Good, head_good, FreeAnode}
use Rattle.laws.specs.Owners.{hd_below, holder, owner}
use Rattle.laws.specs.Moves.{with_these, Passed}

-- the list of a function's values below k, by its entries
listed_at : (f : ℕ → ℕ) (k i : ℕ) → i < k → get_or (listed f 0 k) i 0 ≡ f i
listed_at f k i l = get_or-listed f 0 k i 0 l ∙ ap f (zero-add i)

listed_is : (f : ℕ → ℕ) (k : ℕ) (l : List ℕ) → length l ≡ k → ((i : ℕ) → i < k → f i ≡ get_or l i 0) → listed f 0 k ≡ l
listed_is f k l e h =
    ext_get_or 0 (listed f 0 k) l (length-listed f 0 k ∙ sym e) (λ i b. (let c : i < k = rw (length-listed f 0 k) at b in listed_at f k i c ∙ h i c))

-- a table that holds the values in its first k entries is their list and what stands behind it
pub listed-front : (f : ℕ → ℕ) (k : ℕ) (t : List ℕ) → k ≤ length t → ((i : ℕ) → i < k → get_or t i 0 ≡ f i) → t ≡ listed f 0 k ++ drop k t
listed-front f k t room h =
    let front = listed_is f k (take k t) (length-take-le k t room) (λ i l. sym (get_or-take k t i 0 l ∙ h i l)) in
    sym (ap (λ (l : List ℕ). l ++ drop k t) front ∙ take-append-drop k t)

-- before other numbers: its entries, and what stands behind it
pub table-entry : (f : ℕ → ℕ) (k : ℕ) (rest : List ℕ) (i : ℕ) → i < k → get_or (listed f 0 k ++ rest) i 0 ≡ f i
table-entry f k rest i l = get_or-append (listed f 0 k) rest 0 i (rw (length-listed f 0 k) l) ∙ listed_at f k i l

table_past : (f : ℕ → ℕ) (k : ℕ) (rest : List ℕ) → drop k (listed f 0 k ++ rest) ≡ rest
table_past f k rest = drop_at (listed f 0 k) rest k (length-listed f 0 k)

-- a table that shows its range keeps what stands behind it
past_kept : (f : ℕ → ℕ) (n : ℕ) (t t₀ : List ℕ) → t ≡ listed f 0 n ++ drop n t₀ → drop n t ≡ drop n t₀
past_kept f n t t₀ is = ap (drop n) is ∙ table_past f n (drop n t₀)

pub blocks_past : (img : List ℕ) (s : Anodes) (t t₀ : List ℕ) → t ≡ block_table img s ++ drop (disk_size img) t₀ → drop (disk_size img) t ≡ drop (disk_size img) t₀
unfolding block_table
blocks_past img s t t₀ = past_kept (block_entry img s) (disk_size img) t t₀

pub heads_past : (s : Anodes) (t t₀ : List ℕ) → t ≡ anode_table s ++ drop limit t₀ → drop limit t ≡ drop limit t₀
unfolding anode_table
heads_past s t t₀ = past_kept (anode_entry s) limit t t₀

listed_same : (f f' : ℕ → ℕ) (k : ℕ) → ((i : ℕ) → i < k → f i ≡ f' i) → listed f 0 k ≡ listed f' 0 k
listed_same f f' k h = listed_is f k (listed f' 0 k) (length-listed f' 0 k) (λ i l. h i l ∙ sym (listed_at f' k i l))

-- ---- the tables of one state

-- an anode's entry in the anode table is the head of its chain, also where that is 0
pub anode_entry_head : (s : Anodes) → Linked limit s.next s.block → (a : ℕ) → anode_entry s a ≡ chain_head s a
unfolding anode_entry chain_head
anode_entry_head s k a = elim (same? a 0) [
  | inl e ↦ rw (eq-eqb a 0 e) (sym (ap (head_of limit s.next s.block) e ∙ (head_of_heads k).off_zero))
  | inr e ↦ rw (ne_eqb a 0 e) (elim (same? (s.block a) 0) [
    | inl u ↦ rw (eq-eqb (s.block a) 0 u) (sym ((head_of_heads k).off a u))
    | inr u ↦ rw (ne_eqb (s.block a) 0 u)
  ])
]

module _ {ex : ℕ → Bool} {n last : ℕ} {s : Anodes} {system hd sd : ℕ → ℕ} (g : Good limit ex n last s system hd sd) where
  -- the head that the rules compute for an anode is the one that the table of heads gives it
  chain_head_is : (a : ℕ) → chain_head s a ≡ hd a
  unfolding chain_head
  chain_head_is a = heads_one g.linked (head_of_heads g.linked) g.heads a

  -- and so is its entry in the anode table
  pub anode_entry_is : (a : ℕ) → anode_entry s a ≡ hd a
  anode_entry_is a = anode_entry_head s g.linked a ∙ chain_head_is a

  -- the anode table is the table of heads, listed
  pub anode_table_is : anode_table s ≡ listed hd 0 limit
  unfolding anode_table
  anode_table_is = listed_same (anode_entry s) hd limit (λ a l. anode_entry_is a)

  -- what an anode adds to a block's owner: its head, where it covers the block
  head_where_is : (x a : ℕ) → head_where s x a ≡ one_if_covers (s.count a) (s.block a) x * hd a
  unfolding head_where
  head_where_is x a = elim (covers_cases (s.count a) (s.block a) x) [
    | inl c ↦ rw c.2 (chain_head_is a ∙ omega arith)
    | inr c ↦ rw c.1 (omega arith)
  ]

  -- a block's entry, summed over the heads that hold it
  owner_sum : (x : ℕ) → owner_head s x ≡ sum_below (λ m. held limit hd s.count s.block m x * m) limit
  unfolding owner_head held blocks
  owner_sum x =
      sum_congr (head_where s x) (λ a. sum_below (λ m. one_at (hd a) m * (one_if_covers (s.count a) (s.block a) x * m)) limit) limit
      (λ a l. head_where_is x a ∙ sym (sum_pick (λ m. one_if_covers (s.count a) (s.block a) x * m) (hd a) limit (hd_below g a)))
      ∙ sum_swap (λ a m. one_at (hd a) m * (one_if_covers (s.count a) (s.block a) x * m)) limit limit
      ∙ sum_congr (λ m. sum_below (λ a. one_at (hd a) m * (one_if_covers (s.count a) (s.block a) x * m)) limit) (λ m. held limit hd s.count s.block m x * m) limit (λ m l. sum_factor (λ a. one_at (hd a) m) (λ a. one_if_covers (s.count a) (s.block a) x) m limit)

  -- a block that a head holds is on the disk and not the system's
  pub held_data : (m x : ℕ) → 0 < held limit hd s.count s.block m x → (x < n) × (system x ≡ 0)
  unfolding owners
  held_data m x p =
      let (a, l, e, from, to) = held_some limit hd s.count s.block m x p in
      let inside : x < n = omega (arith, to, g.own.fits a l (omega arith)) in
      (inside, omega (arith, g.own.not-two x inside, covers_in (s.count a) (s.block a) x from to, sum-member (λ a. one_if_covers (s.count a) (s.block a) x) a limit l))

  owner_head_is : (m x : ℕ) → 0 < held limit hd s.count s.block m x → owner_head s x ≡ m
  owner_head_is m x p =
      let i = held_data m x p in
      let o = owner g x i.0 i.1 in
      let same : m ≡ o.0 = elim (same? m o.0) [ inl e ↦ e | inr e ↦ absurd (omega (arith, p, o.3 m (g.linked.view.below m (holder g m x p).in_use) e)) ] in
      owner_sum x
      ∙ sum_single (λ j. held limit hd s.count s.block j x * j) o.0 limit o.1 (λ j l e. rw (o.3 j l e) (omega arith))
      ∙ rw o.2 (omega (arith, same))

-- ---- after steps

-- a state in which every head holds what it held
same_owner : {ex ex' : ℕ → Bool} {n last : ℕ} {s t : Anodes} {system system' hd sd hd' sd' : ℕ → ℕ} → Good limit ex n last s system hd sd → Good limit ex' n last t system' hd' sd' → (x : ℕ) →
    ((m : ℕ) → held limit hd' t.count t.block m x ≡ held limit hd s.count s.block m x) → owner_head t x ≡ owner_head s x
same_owner {s = s} {t = t} {hd = hd} {hd' = hd'} g g' x same =
    owner_sum g' x
    ∙ sum_congr (λ m. held limit hd' t.count t.block m x * m) (λ m. held limit hd s.count s.block m x * m) limit (λ m l. ap (λ (k : ℕ). k * m) (same m))
    ∙ sym (owner_sum g x)

module _ {ex : ℕ → Bool} {n last : ℕ} {s : Anodes} {system hd sd : ℕ → ℕ} (g : Good limit ex n last s system hd sd) where
  -- the blocks of ys have gone from one head's chain to another's, and those of gs from the free list to the system
  module _ {ex' : ℕ → Bool} {t : Anodes} {hd' sd' : ℕ → ℕ} (from to : ℕ) (ys gs : List ℕ) (g' : Good limit ex' n last t (with_these system gs) hd' sd') (passed : Passed limit s hd t hd' from to ys gs) (apart : from ≢ to) (x : ℕ) where
    -- a block of ys was on the disk, and not the system's
    pub moved_data : 0 < occurrences x ys → (x < n) × (system x ≡ 0)
    moved_data p = held_data g from x (omega (arith, p, rw (one_at-same from from refl, one_at_other to from (λ e. apart (sym e))) at (passed from x)))

    -- and is held by the other head, unless it became the system's
    arrived : occurrences x gs ≡ 0 → 0 < occurrences x ys → 0 < held limit hd' t.count t.block to x
    arrived none p = omega (arith, rw (one_at_other from to apart, one_at-same to to refl, none) at (passed to x), p)

    -- the owner of a block of ys is now `to`, and that of any other block is as before
    pub moved_owner : occurrences x gs ≡ 0 → owner_head t x ≡ cond (leb 1 (occurrences x ys)) to (owner_head s x)
    moved_owner none = elim (less? 0 (occurrences x ys)) [
      | inl p ↦ rw (le-leb 1 (occurrences x ys) p) (owner_head_is g' to x (arrived none p))
      | inr p ↦ rw (lt-leb 1 (occurrences x ys) (omega arith)) (same_owner g g' x
          (λ m. (let z : occurrences x ys ≡ 0 = omega arith in omega (arith, rw (z, none) at (passed m x)))))
    ]

  -- a fresh head with no block
  pub fresh_owner : (f : ℕ) → f < limit → FreeAnode ex s f → (x : ℕ) → owner_head (rewritten s f 0 65535) x ≡ owner_head s x
  unfolding rewritten
  fresh_owner f f_a u x = same_owner g (head_good g f 65535 f_a u (omega arith)) x
      (λ m. omega (arith, held_fresh limit hd s.count s.block f f 0 65535 f_a (g.present.free-none f u.unused) m x, ap (λ (k : ℕ). one_at f m * k) (covers_none 65535 x)))

-- ---- the block table

-- v stored at each place of ys in turn
unfoldable pub set_all : List ℕ → List ℕ → ℕ → List ℕ
set_all l [] v = l
set_all l (y ∷ ys) v = set_all (set l y v) ys v

length-set_all : (l ys : List ℕ) (v : ℕ) → length (set_all l ys v) ≡ length l
unfolding set_all
length-set_all l [] v = refl
length-set_all l (y ∷ ys) v = length-set_all (set l y v) ys v ∙ length-set l y v

get_or-set_all : (l ys : List ℕ) (v x : ℕ) → x < length l → get_or (set_all l ys v) x 0 ≡ cond (leb 1 (occurrences x ys)) v (get_or l x 0)
unfolding set_all
get_or-set_all l [] v x p = rw (occurrences-nil x)
get_or-set_all l (y ∷ ys) v x p = get_or-set_all (set l y v) ys v x (rw (length-set l y v) p) ∙ elim (less? 0 (occurrences x ys)) [
  | inl q ↦ rw (le-leb 1 (occurrences x ys) q, le-leb 1 (occurrences x (y ∷ ys)) (occurrences-later x y ys q))
  | inr q ↦ rw (lt-leb 1 (occurrences x ys) (omega arith)) (elim (one_at_cases y x) [
    | inl e ↦ rw (e.0, le-leb 1 (occurrences x (x ∷ ys)) (occurrences-here x ys)) (get_or-set_same l x v 0 p)
    | inr e ↦ rw (lt-leb 1 (occurrences x (y ∷ ys)) (omega (arith, occurrences-cons x y ys, e.1))) (get_or-set_other l y x v 0 (λ i. e.0 (sym i)))
  ])
]

-- what stands behind the table is left
set_all-front : (l r ys : List ℕ) (v : ℕ) → ((y : ℕ) → 0 < occurrences y ys → y < length l) → set_all (l ++ r) ys v ≡ set_all l ys v ++ r
unfolding set_all
set_all-front l r [] v below = refl
set_all-front l r (y ∷ ys) v below =
    rw (set-append_left l r y v (below y (occurrences-here y ys)))
    (set_all-front (set l y v) r ys v (λ x p. rw (length-set l y v) (below x (occurrences-later x y ys p))))

-- a table that listed f and has v at each place of ys
set_all-listed : (f f' : ℕ → ℕ) (n v : ℕ) (ys : List ℕ) → ((y : ℕ) → 0 < occurrences y ys → y < n) → ((x : ℕ) → f' x ≡ cond (leb 1 (occurrences x ys)) v (f x)) → (r : List ℕ) → set_all (listed f 0 n ++ r) ys v ≡ listed f' 0 n ++ r
set_all-listed f f' n v ys inside is r =
    let old = listed f 0 n in
    let long : length old ≡ n = length-listed f 0 n in
    set_all-front old r ys v (λ y q. rw long (inside y q))
    ∙ ap (λ (l : List ℕ). l ++ r) (sym (listed_is f' n (set_all old ys v) (length-set_all old ys v ∙ long)
    (λ x l. is x ∙ sym (get_or-set_all old ys v x (rw long l) ∙ ap (cond (leb 1 (occurrences x ys)) v) (listed_at f n x l)))))

-- blocks 0 to 2 are the system's
pub not_system : (img : List ℕ) (x : ℕ) → system_owns img x ≡ 0 → 3 ≤ x
unfolding system_by
not_system img x z = elim (less? x 3) [ inl l ↦ absurd (omega (arith, rw (lt-ltb x 3 l) at z)) | inr l ↦ l ]

module _ (img j : List ℕ) (same_size : disk_size j ≡ disk_size img) (same_system : system_owns j ≡ system_owns img) (s t : Anodes) where
  -- where every block has the owner that it had, the block table is the same
  pub kept_table : ((x : ℕ) → owner_head t x ≡ owner_head s x) → block_table j t ≡ block_table img s
  unfolding block_table block_entry entry_or
  kept_table same = rw same_size (listed_same (block_entry j t) (block_entry img s) (disk_size img) (λ x l. rw (same_system, same x)))

-- the block table where the head `own x` owns block x
abbrev pub owner_table : List ℕ → (ℕ → ℕ) → List ℕ
owner_table img own = listed (λ x. entry_or img (own x) x) 0 (disk_size img)

pub block_owners : (img : List ℕ) (s : Anodes) → block_table img s ≡ owner_table img (owner_head s)
unfolding block_table block_entry
block_owners img s = refl

-- the owners where the blocks of ys have come to a head
abbrev pub handed_to : ℕ → List ℕ → (ℕ → ℕ) → ℕ → ℕ
handed_to to ys own x = cond (leb 1 (occurrences x ys)) to (own x)

module _ (img : List ℕ) (own : ℕ → ℕ) where
  -- blocks of the disk that are not the system's have come to a head
  pub owners-handed : (to : ℕ) (ys : List ℕ) → ((x : ℕ) → 0 < occurrences x ys → (x < disk_size img) × (system_owns img x ≡ 0)) → (r : List ℕ) → set_all (owner_table img own ++ r) ys to ≡ owner_table img (handed_to to ys own) ++ r
  unfolding entry_or
  owners-handed to ys there r = set_all-listed (λ x. entry_or img (own x) x) (λ x. entry_or img (handed_to to ys own x) x) (disk_size img) to ys (λ y p. (there y p).0)
      (λ x. elim (less? 0 (occurrences x ys)) [
        | inl p ↦ (let z = (there x p).1 in rw (le-leb 1 (occurrences x ys) p, le-ltb x 3 (not_system img x z), z))
        | inr p ↦ rw (lt-leb 1 (occurrences x ys) (omega arith))
      ])
      r

  -- blocks of hs have become the system's, in an image j of the same size; every other has the owner that it had
  module _ (j : List ℕ) (same_size : disk_size j ≡ disk_size img) (hs : List ℕ) (inside : (x : ℕ) → 0 < occurrences x hs → x < disk_size img) (got : (x : ℕ) → system_owns j x ≡ system_owns img x + occurrences x hs)
      (own' : ℕ → ℕ) (same : (x : ℕ) → occurrences x hs ≡ 0 → own' x ≡ own x) where
    -- none of them is one of the first three
    got_above : (x : ℕ) → 0 < occurrences x hs → 3 ≤ x
    unfolding system_by
    got_above x p = elim (less? x 3) [ inl l ↦ absurd (omega (arith, p, rw (lt-ltb x 3 l) at (got x))) | inr l ↦ l ]

    pub owners_got : (r : List ℕ) → set_all (owner_table img own ++ r) hs 65534 ≡ owner_table j own' ++ r
    unfolding entry_or
    owners_got r = rw same_size (set_all-listed (λ x. entry_or img (own x) x) (λ x. entry_or j (own' x) x) (disk_size img) 65534 hs inside
        (λ x. elim (less? 0 (occurrences x hs)) [
          | inl p ↦ rw (le-leb 1 (occurrences x hs) p, le-ltb x 3 (got_above x p), ne_eqb (system_owns j x) 0 (λ z. omega (arith, z, p, got x)))
          | inr p ↦ (let none : occurrences x hs ≡ 0 = omega arith in
              let stays : system_owns j x ≡ system_owns img x = omega (arith, got x, none) in
              rw (lt-leb 1 (occurrences x hs) (omega arith), stays, same x none))
        ])
        r)

-- blocks of ys have gone from one head's chain to another's, and those of gs from the free list to the system; j is an image of the same size whose system has those too
module _ (img j : List ℕ) (same_size : disk_size j ≡ disk_size img) (gs : List ℕ) (got : (x : ℕ) → system_owns j x ≡ system_owns img x + occurrences x gs) (s t : Anodes)
    {ex ex' : ℕ → Bool} {last : ℕ} {hd sd hd' sd' : ℕ → ℕ} (g : Good limit ex (disk_size img) last s (system_owns img) hd sd) (from to : ℕ) (ys : List ℕ)
    (g' : Good limit ex' (disk_size img) last t (with_these (system_owns img) gs) hd' sd') (passed : Passed limit s hd t hd' from to ys gs) (apart : from ≢ to) where
  -- a block that became the system's was on the disk
  got_data : (x : ℕ) → 0 < occurrences x gs → x < disk_size img
  got_data x p = elim (less? 0 (occurrences x ys)) [
    | inl q ↦ (moved_data g from to ys gs g' passed apart x q).0
    | inr q ↦ (let none : occurrences x ys ≡ 0 = omega arith in (held_data g 1 x (omega (arith, p, rw (none, one_at-same 1 1 refl) at (passed 1 x)))).0)
  ]

  -- both in whatever order they are listed
  module _ (zs : List ℕ) (listed-all : (x : ℕ) → occurrences x zs ≡ occurrences x ys) (hs : List ℕ) (listed_got : (x : ℕ) → occurrences x hs ≡ occurrences x gs) where
    -- an anode block's owner is 65534, and else that of a block of ys is now `to`; in the front of a longer table that showed it
    pub moved_front : (r : List ℕ) → set_all (set_all (block_table img s ++ r) zs to) hs 65534 ≡ block_table j t ++ r
    unfolding block_table block_entry
    moved_front r =
        ap (λ (l : List ℕ). set_all l hs 65534) (owners-handed img (owner_head s) to zs (λ x p. moved_data g from to ys gs g' passed apart x (rw (listed-all x) at p)) r)
        ∙ owners_got img (handed_to to zs (owner_head s)) j same_size hs (λ x p. got_data x (rw (listed_got x) at p)) (λ x. omega (arith, got x, listed_got x)) (owner_head t)
        (λ x z. rw (listed-all x) (moved_owner g from to ys gs g' passed apart x (omega (arith, z, listed_got x)))) r

    -- so is the block table
    pub moved-table : block_table j t ≡ set_all (set_all (block_table img s) zs to) hs 65534
    moved-table = sym (rw (append-nil (block_table img s), append-nil (block_table j t)) at (moved_front []))
