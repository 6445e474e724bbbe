-- The entries of a directory block, and the items that they give in a state of the anodes.
use Rattle.std.specs.Prelude.{ℕ, zero, suc, ◌+◌, ◌*◌, ◌≤◌, ◌<◌, ◌≡◌, ◌≢◌, ◌⊎◌, Bool, ◌&&◌, List, [], ◌∷◌, map, get_or, T, eqb, Some, None, Ok, Err}
use Rattle.std.proofs.Math.Path.{refl, sym, ap}
use Rattle.std.proofs.Common.{◌∙◌, arith, eqb→eq, eq-eqb}
use Rattle.std.proofs.Math.Logic.{inl, inr}
use Rattle.std.proofs.Math.Bool.{true, false, cond}
use Rattle.std.proofs.Math.Numerals.{add-one}
use Rattle.disk.specs.declared.Refusal.{Refusal}
use Rattle.disk.specs.Refusals.{number_of}
use Rattle.disk.specs.Blocks.{block_of}
use Rattle.directory.specs.declared.Entry.{Entry}
use Rattle.directory.specs.Entries.{is_dir, name_in, walked_at}
use Rattle.directory.proofs.Laws.{found_at, fault_at}
use Rattle.reader.specs.declared.EntryRead.{EntryRead}
use Rattle.reader.specs.declared.PlaceRead.{PlaceRead}
use Rattle.reader.specs.declared.Reader.{Reader}
use Rattle.reader.specs.Reads.{place_after, entry_read, ReadsEntry, Reads}
use Rattle.rules.specs.Counting.{sum_list, occurrences, any_in, gather}
use Rattle.rules.specs.Folding.{folded}
use Rattle.rules.specs.Anodes.{limit, Anodes}
use Rattle.rules.specs.Chains.{chain_of, one_if_head, block_count}
use Rattle.rules.specs.Walk.{Dir, Entered, with_rest, entries_from, Item, blocks_for, wrong_anode, wrong_file_size, item_of, broken_item, items_for, items_at, items_by, entries_in}
use Rattle.laws.specs.Tests.{cond_cases, T_true, both, tested_from}
use Rattle.laws.specs.Bags.{list_one, list_mono, list_congr, list_congr_where, list_zero, gather-sum, map-sum, none-at, kept-sum, kept-sum_where}
use Rattle.laws.specs.Space.{Alike}
use Rattle.laws.specs.Items.{wrong, weigh_item, weigh_named}
use Rattle.laws.specs.Apart.{one_same, name_count}
use Rattle.laws.specs.TreeChanges.{AlikeItems}

-- ---- the entries of a block, from a place on

-- an entry with its name that stands at a place, as the walk has it
abbrev pub entered_at : Entry → List ℕ → ℕ → Entered
entered_at x name start = record { broken = false; dir = is_dir x.kind; anode = x.anode.0; size = x.size; name = name; start = start }

pub entries_more : (b : List ℕ) (y m at : ℕ) (x : Entry) → walked_at b at ≡ Ok (Some x) → entries_from (suc m) b y at ≡ entered_at x (name_in b at) (y * 512 + at) ∷ entries_from m b y (at + get_or b at 0)
unfolding entries_from
entries_more b y m at x e = rw e

pub entries_end_lem : (b : List ℕ) (y k at : ℕ) → walked_at b at ≡ Ok None → entries_from k b y at ≡ []
unfolding entries_from
entries_end_lem b y zero at e = refl
entries_end_lem b y (suc k) at e = rw e

-- no entry is left to be read
pub entries_none : (b : List ℕ) (y k at : ℕ) → k ≡ 0 → entries_from k b y at ≡ []
unfolding entries_from
entries_none b y k at e = rw e

-- those of a block, from its first place on
pub block_whole : (img : List ℕ) (y : ℕ) (b : List ℕ) → b ≡ block_of img y → entries_from 28 b y 16 ≡ entries_in img y
unfolding entries_in
block_whole img y b e = rw e

-- what is read at a place: the step of every walk over a block
module _ (b : List ℕ) (at : ℕ) (r : PlaceRead) (read : r ≡ entry_read b at) where
  here_is : r.walked ≡ walked_at b at
  unfolding entry_read
  here_is = ap (λ x. x.walked) read

  -- the entries from the place on: what is read there, then those from the place behind it on
  pub entries_read : (y k m : ℕ) → k ≡ m + 1 → entries_from k b y at ≡ with_rest r.walked (name_in b at) (y * 512 + at) (entries_from m b y r.after)
  unfolding entries_from entry_read place_after
  entries_read y k m fuel = rw (fuel, add-one m, read)

  -- an entry that is read begins within the block
  pub entry_within : (x : Entry) → r.walked ≡ Ok (Some x) → at < 512
  entry_within x e = omega (arith, (found_at b at x (sym here_is ∙ e)).room)

  -- a fault that is read is 12
  pub fault_number : (x : Refusal) → r.walked ≡ Err x → number_of x ≡ 12
  fault_number x e = ap number_of (fault_at b at x (sym here_is ∙ e))

-- the entries of block y that a reader of it has still to give
abbrev pub entries_left : ℕ → Reader → List Entered
entries_left y r = entries_from r.left r.block.now y r.at

-- the step of every walk over a block: what a reader gives
module _ (y : ℕ) (r r' : Reader) where
  -- an entry, and those behind it are left
  pub reads_more : (x : EntryRead) → ReadsEntry r x r' → entries_left y r ≡ entered_at x.entry (name_in r.block.now x.at) (y * 512 + x.at) ∷ entries_left y r'
  unfolding place_after
  reads_more x w = rw (w.may, add-one r'.left, w.place, w.same_block, w.behind) (entries_more r.block.now y r'.left r.at x.entry w.entry)

  -- nothing, where none is left
  pub reads_none : Reads r None r' → entries_left y r ≡ []
  reads_none (same, inl e) = entries_none r.block.now y r.left r.at e
  reads_none (same, inr e) = entries_end_lem r.block.now y r.left r.at e

  -- or a fault, the last that is left
  pub reads_fault : (f : Refusal) → Reads r (Some (Err f)) r' → entries_left y r ≡ with_rest (Err f) (name_in r.block.now r.at) (y * 512 + r.at) []
  unfolding entries_from
  reads_fault f w = go r.left w.0 w.1
    where
      go : (k : ℕ) → 0 < k → walked_at r.block.now r.at ≡ Err f → entries_from k r.block.now y r.at ≡ with_rest (Err f) (name_in r.block.now r.at) (y * 512 + r.at) []
      go zero l e = absurd (omega (arith, l))
      go (suc k) l e = rw e

  -- an entry that is read begins within the block
  pub read_within : (x : EntryRead) → ReadsEntry r x r' → x.at < 512
  read_within x w = omega (arith, w.place, (found_at r.block.now r.at x.entry w.entry).room)

  -- a fault that is read is 12
  pub read_fault : (f : Refusal) → Reads r (Some (Err f)) r' → number_of f ≡ 12
  read_fault f w = ap number_of (fault_at r.block.now r.at f w.1)

-- no entry breaks the entry rules, as in every accepted image
abbrev pub Unbroken : List Entered → Type 0
Unbroken l = any_in (λ e. e.broken) l ≡ false

-- ---- weights

-- a weight of an entry with its name, its place aside
abbrev pub weigh_entry : (Bool → Bool → ℕ → ℕ → List ℕ → ℕ) → Entered → ℕ
weigh_entry v e = v e.broken e.dir e.anode e.size e.name

pub broken_wrong : wrong broken_item ≡ 12
unfolding wrong
broken_wrong = refl

-- ---- an entry with nothing wrong

-- a file has the blocks of its size
abbrev pub Sized : Anodes → Entered → Type 0
Sized s e = (e.dir ≡ true) ⊎ (block_count s e.anode ≡ blocks_for e.size)

-- and where its chain has as many blocks, it still has
pub sized_still : (s t : Anodes) (e : Entered) → block_count t e.anode ≡ block_count s e.anode → Sized s e → Sized t e
sized_still s t e c (inl q) = inl q
sized_still s t e c (inr q) = inr (c ∙ q)

module _ (s : Anodes) where
  right_anode : (a : ℕ) → wrong_anode s a ≡ 0 → (6 ≤ a) × (one_if_head limit s.next s.block a ≡ 1)
  unfolding wrong_anode
  right_anode a z = elim (tested_from 6 a (one_if_head limit s.next s.block a) 13) [ inl q ↦ (q.0, q.1) | inr q ↦ absurd (omega (arith, z, q.1)) ]

  anode_right : (a : ℕ) → 6 ≤ a → one_if_head limit s.next s.block a ≡ 1 → wrong_anode s a ≡ 0
  unfolding wrong_anode
  anode_right a l e = elim (tested_from 6 a (one_if_head limit s.next s.block a) 13) [ inl q ↦ q.2 | inr q ↦ absurd (q.0 l e) ]

  right_size : (e : Entered) → wrong_file_size s e ≡ 0 → Sized s e
  unfolding wrong_file_size
  right_size e z = go e.dir z
    where
      go : (b : Bool) → cond {A = ℕ} b 0 (cond (eqb (block_count s e.anode) (blocks_for e.size)) 0 15) ≡ 0 → (b ≡ true) ⊎ (block_count s e.anode ≡ blocks_for e.size)
      go true z = inl refl
      go false z = elim (cond_cases {A = ℕ} (eqb (block_count s e.anode) (blocks_for e.size)) 0 15) [
        | inl q ↦ inr (eqb→eq (block_count s e.anode) (blocks_for e.size) q.0)
        | inr q ↦ absurd (omega (arith, z, q.1))
      ]

  size_right : (e : Entered) → Sized s e → wrong_file_size s e ≡ 0
  unfolding wrong_file_size
  size_right e (inl q) = rw q
  size_right e (inr q) = rw (eq-eqb (block_count s e.anode) (blocks_for e.size) q) (go e.dir)
    where
      go : (b : Bool) → cond {A = ℕ} b 0 0 ≡ 0
      go true = refl
      go false = refl

  -- what it is for an entry to have nothing wrong: it keeps the entry rules, names a head from 6 up, and a file has the blocks of its size
  pub item_fine : (e : Entered) → wrong (item_of s e) ≡ 0 →
      (e.broken ≡ false) × (6 ≤ e.anode) × (one_if_head limit s.next s.block e.anode ≡ 1) × Sized s e
  unfolding wrong item_of
  item_fine e z =
      let whole = unbroken e.broken (wrong_anode s e.anode) (omega arith) in
      let named = right_anode e.anode whole.1 in
      (whole.0, named.0, named.1, right_size e (omega arith))
    where
      unbroken : (b : Bool) (n : ℕ) → cond b 12 n ≡ 0 → (b ≡ false) × (n ≡ 0)
      unbroken true n y = absurd (omega arith)
      unbroken false n y = (refl, y)

  pub fine_item : (e : Entered) → e.broken ≡ false → 6 ≤ e.anode → one_if_head limit s.next s.block e.anode ≡ 1 → Sized s e → wrong (item_of s e) ≡ 0
  unfolding wrong item_of
  fine_item e b l h z = omega (arith, ap (λ (q : Bool). cond q 12 (wrong_anode s e.anode)) b, anode_right e.anode l h, size_right e z)

  pub item_anode : (e : Entered) → (item_of s e).anode ≡ e.anode
  unfolding item_of
  item_anode e = refl

  pub item_dir : (e : Entered) → (item_of s e).dir ≡ e.dir
  unfolding item_of
  item_dir e = refl

  -- a weight of an item, as one of its entry
  pub as_entry : (ℕ → Bool → ℕ → List ℕ → ℕ) → Bool → Bool → ℕ → ℕ → List ℕ → ℕ
  as_entry w b d a z v = weigh_item w (item_of s (record { broken = b; dir = d; anode = a; size = z; name = v; start = 0 }))

  pub weigh_item_lem : (w : ℕ → Bool → ℕ → List ℕ → ℕ) (e : Entered) → weigh_item w (item_of s e) ≡ weigh_entry (as_entry w) e
  unfolding as_entry wrong item_of wrong_file_size
  weigh_item_lem w e = refl

  pub entries_sum : (w : ℕ → Bool → ℕ → List ℕ → ℕ) (l : List Entered) → sum_list (weigh_item w) (map (item_of s) l) ≡ sum_list (weigh_entry (as_entry w)) l
  entries_sum w l = map-sum (item_of s) (weigh_item w) l ∙ list_congr (λ e. weigh_item w (item_of s e)) (weigh_entry (as_entry w)) l (weigh_item_lem w)

-- ---- the items of a directory

module _ (entries : ℕ → List Entered) (marked : Dir → ℕ → Bool) (s : Anodes) (d : Dir) where
  pub items-sum : (w : Item → ℕ) → sum_list w (items_by entries marked s d) ≡ sum_list (λ a. sum_list w (items_at entries marked s d a)) (chain_of s.next limit d.head)
  unfolding items_by
  items-sum w = gather-sum (items_at entries marked s d) w (chain_of s.next limit d.head)

  -- an anode of the directory gives the items of its block
  abbrev Gives : ℕ → Type 0
  Gives a = (s.count a ≡ 1) × T (marked d (s.block a)) × (items_at entries marked s d a ≡ map (item_of s) (entries (s.block a)))

  -- or is broken
  pub items_at_cases : (a : ℕ) → Gives a ⊎ (items_at entries marked s d a ≡ broken_item ∷ [])
  unfolding items_for
  items_at_cases a = elim (cond_cases (eqb (s.count a) 1 && marked d (s.block a)) (map (item_of s) (entries (s.block a))) (broken_item ∷ [])) [
    | inl q ↦ (let b = both (eqb (s.count a) 1) (marked d (s.block a)) q.0 in inl (eqb→eq (s.count a) 1 b.0, b.1, q.1))
    | inr q ↦ inr q.1
  ]

  -- where nothing is wrong, or a broken item at least has a weight and there is none, it gives the items of its block
  pub items_at_fine : (guard : Item → ℕ) → guard broken_item ≢ 0 → (a : ℕ) → sum_list guard (items_at entries marked s d a) ≡ 0 → Gives a
  items_at_fine guard some a z = elim (items_at_cases a) [ inl q ↦ q | inr q ↦ absurd (some (sym (list_one guard broken_item) ∙ ap (sum_list guard) (sym q) ∙ z)) ]

  -- and so does each anode of a directory with nothing wrong
  pub anodes_fine : sum_list wrong (items_by entries marked s d) ≡ 0 → (a : ℕ) → 0 < occurrences a (chain_of s.next limit d.head) → Gives a
  anodes_fine z a p = items_at_fine wrong (λ q. omega (arith, q, broken_wrong)) a
      (none-at (λ a. sum_list wrong (items_at entries marked s d a)) (chain_of s.next limit d.head) (sym (items-sum wrong) ∙ z) a p)

  pub items_at_whole : (a : ℕ) → s.count a ≡ 1 → T (marked d (s.block a)) → items_at entries marked s d a ≡ map (item_of s) (entries (s.block a))
  unfolding items_for
  items_at_whole a c m = rw (eq-eqb (s.count a) 1 c, T_true (marked d (s.block a)) m)

  -- where nothing is wrong, a folded name stands as often as entries have it
  pub names-count : sum_list wrong (items_by entries marked s d) ≡ 0 → (v : List ℕ) →
      name_count v (items_by entries marked s d) ≡ sum_list (λ e. one_same (folded e.name) v) (gather (λ a. entries (s.block a)) (chain_of s.next limit d.head))
  unfolding item_of
  names-count z v =
      items-sum (λ i. one_same i.name v)
      ∙ kept-sum (λ a. sum_list (λ e. one_same (folded e.name) v) (entries (s.block a))) (λ a. sum_list (λ i. one_same i.name v) (items_at entries marked s d a)) (chain_of s.next limit d.head)
      (λ a p. ap (sum_list (λ i. one_same i.name v)) (anodes_fine z a p).2 ∙ map-sum (item_of s) (λ i. one_same i.name v) (entries (s.block a)))
      ∙ sym (gather-sum (λ a. entries (s.block a)) (λ e. one_same (folded e.name) v) (chain_of s.next limit d.head))

  -- a weight that is at most another at every entry
  pub items_mono : (w u : Item → ℕ) → ((e : Entered) → w (item_of s e) ≤ u (item_of s e)) → w broken_item ≤ u broken_item → sum_list w (items_by entries marked s d) ≤ sum_list u (items_by entries marked s d)
  items_mono w u h b = omega (
    arith,
    items-sum w,
    items-sum u,
    list_mono (λ a. sum_list w (items_at entries marked s d a)) (λ a. sum_list u (items_at entries marked s d a)) (chain_of s.next limit d.head) at,
  )
    where
      at : (a : ℕ) → sum_list w (items_at entries marked s d a) ≤ sum_list u (items_at entries marked s d a)
      at a = elim (items_at_cases a) [
        | inl q ↦ rw q.2 (omega (arith, map-sum (item_of s) w (entries (s.block a)), map-sum (item_of s) u (entries (s.block a)), list_mono (λ e. w (item_of s e)) (λ e. u (item_of s e)) (entries (s.block a)) h))
        | inr q ↦ rw q (omega (arith, list_one w broken_item, list_one u broken_item, b))
      ]

-- ---- the same entries, their sizes apart

module _ (s t : Anodes) (φ : Entered → Entered) (guard : Item → ℕ) (guard_broken : guard broken_item ≢ 0)
    (like : (e : Entered) → guard (item_of s e) ≡ 0 → ((φ e).dir ≡ e.dir) × ((φ e).anode ≡ e.anode) × ((φ e).name ≡ e.name) × (wrong (item_of t (φ e)) ≡ 0)) where
  entries_alike : (l : List Entered) → sum_list guard (map (item_of s) l) ≡ 0 → (w : Bool → ℕ → List ℕ → ℕ) →
      sum_list (weigh_named w) (map (item_of t) (map φ l)) ≡ sum_list (weigh_named w) (map (item_of s) l)
  unfolding item_of
  entries_alike l z w =
      map-sum (item_of t) (weigh_named w) (map φ l) ∙ map-sum φ (λ e. w e.dir e.anode (folded e.name)) l
      ∙ list_congr_where (λ e. guard (item_of s e)) (λ e. w (φ e).dir (φ e).anode (folded (φ e).name)) (λ e. w e.dir e.anode (folded e.name)) l (sym (map-sum (item_of s) guard l) ∙ z)
      (λ e q. let k = like e q in rw (k.0, k.1, k.2))
      ∙ sym (map-sum (item_of s) (weigh_named w) l)

  entries_fine : (l : List Entered) → sum_list guard (map (item_of s) l) ≡ 0 → sum_list wrong (map (item_of t) (map φ l)) ≡ 0
  entries_fine l z =
      map-sum (item_of t) wrong (map φ l) ∙ map-sum φ (λ e. wrong (item_of t e)) l
      ∙ list_congr_where (λ e. guard (item_of s e)) (λ e. wrong (item_of t (φ e))) (λ e. 0) l (sym (map-sum (item_of s) guard l) ∙ z) (λ e q. (like e q).3)
      ∙ list_zero {X = Entered} (λ e. 0) l (λ e. refl)

  module _ (entries entries' : ℕ → List Entered) (marked marked' : Dir → ℕ → Bool) (d : Dir) where
    -- one anode of the directory, whose block may be another
    at_moved : (a : ℕ) → t.count a ≡ s.count a → (s.count a ≡ 1 → (entries' (t.block a) ≡ map φ (entries (s.block a))) × (marked' d (t.block a) ≡ marked d (s.block a))) →
        sum_list guard (items_at entries marked s d a) ≡ 0 →
        ((w : Bool → ℕ → List ℕ → ℕ) → sum_list (weigh_named w) (items_at entries' marked' t d a) ≡ sum_list (weigh_named w) (items_at entries marked s d a))
        × (sum_list wrong (items_at entries' marked' t d a) ≡ 0)
    at_moved a e cont z =
        let q = items_at_fine entries marked s d guard guard_broken a z in
        let k = cont q.0 in
        let there : items_at entries' marked' t d a ≡ map (item_of t) (map φ (entries (s.block a)))
        = items_at_whole entries' marked' t d a (e ∙ q.0) (rw k.1 q.1) ∙ ap (map (item_of t)) k.0 in
        let fine : sum_list guard (map (item_of s) (entries (s.block a))) ≡ 0 = rw q.2 at z in
        rw (there, q.2) (entries_alike (entries (s.block a)) fine, entries_fine (entries (s.block a)) fine)

    -- or is the same
    pub at_alike : (a : ℕ) → t.count a ≡ s.count a → t.block a ≡ s.block a → (s.count a ≡ 1 → (entries' (s.block a) ≡ map φ (entries (s.block a))) × (marked' d (s.block a) ≡ marked d (s.block a))) →
        sum_list guard (items_at entries marked s d a) ≡ 0 →
        ((w : Bool → ℕ → List ℕ → ℕ) → sum_list (weigh_named w) (items_at entries' marked' t d a) ≡ sum_list (weigh_named w) (items_at entries marked s d a))
        × (sum_list wrong (items_at entries' marked' t d a) ≡ 0)
    at_alike a e b cont = at_moved a e (λ i. rw b (cont i))

    -- the whole directory, its chain kept
    pub items-moved : chain_of t.next limit d.head ≡ chain_of s.next limit d.head → ((a : ℕ) → 0 < occurrences a (chain_of s.next limit d.head) → t.count a ≡ s.count a) →
        ((a : ℕ) → 0 < occurrences a (chain_of s.next limit d.head) → s.count a ≡ 1 → (entries' (t.block a) ≡ map φ (entries (s.block a))) × (marked' d (t.block a) ≡ marked d (s.block a))) →
        sum_list guard (items_by entries marked s d) ≡ 0 → AlikeItems (items_by entries marked s) (items_by entries' marked' t) d
    items-moved same on cont z = (
      λ w. items-sum entries' marked' t d (weigh_named w) ∙ ap (sum_list (λ a. sum_list (weigh_named w) (items_at entries' marked' t d a))) same
          ∙ kept-sum_where (λ a. sum_list guard (items_at entries marked s d a)) (λ a. sum_list (weigh_named w) (items_at entries marked s d a))
          (λ a. sum_list (weigh_named w) (items_at entries' marked' t d a)) (chain_of s.next limit d.head) (sym (items-sum entries marked s d guard) ∙ z)
          (λ a k q. (at_moved a (on a k) (cont a k) q).0 w)
          ∙ sym (items-sum entries marked s d (weigh_named w)),
      items-sum entries' marked' t d wrong ∙ ap (sum_list (λ a. sum_list wrong (items_at entries' marked' t d a))) same
          ∙ kept-sum_where (λ a. sum_list guard (items_at entries marked s d a)) (λ a. 0) (λ a. sum_list wrong (items_at entries' marked' t d a)) (chain_of s.next limit d.head)
          (sym (items-sum entries marked s d guard) ∙ z) (λ a k q. (at_moved a (on a k) (cont a k) q).1)
          ∙ list_zero {X = ℕ} (λ a. 0) (chain_of s.next limit d.head) (λ a. refl),
    )

    -- and its anodes too
    pub items_alike : chain_of t.next limit d.head ≡ chain_of s.next limit d.head → ((a : ℕ) → 0 < occurrences a (chain_of s.next limit d.head) → Alike s t a) →
        ((a : ℕ) → 0 < occurrences a (chain_of s.next limit d.head) → s.count a ≡ 1 → (entries' (s.block a) ≡ map φ (entries (s.block a))) × (marked' d (s.block a) ≡ marked d (s.block a))) →
        sum_list guard (items_by entries marked s d) ≡ 0 → AlikeItems (items_by entries marked s) (items_by entries' marked' t) d
    items_alike same on cont = items-moved same (λ a k. (on a k).same_count) (λ a k i. rw (on a k).same_block (cont a k i))
