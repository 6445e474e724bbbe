-- No. 7: the places of the entries of an accepted image are not 0 and tell them apart, and each entry has one path, which is listed once.
use Rattle.std.specs.Prelude.{ℕ, ◌+◌, ◌*◌, ◌/◌, ◌%◌, ◌≤◌, ◌<◌, ◌≡◌, refl, ◌≢◌}
use Rattle.std.proofs.Math.Path.{sym, ap}
use Rattle.std.proofs.Common.{subst, ◌∙◌, inl, inr, arith}
use mathlib.Core.List.{List, ◌∷◌, map}
use Rattle.std.proofs.Math.Option.{Option, none, some, none-ne-some, some-injective}
use borrow.Author.Tests.{eqb-false}
use Rattle.disk.specs.Blocks.{block_of}
use Rattle.directory.specs.Entries.{name_in}
use Rattle.directory.specs.declared.Entry.{Entry}
use Rattle.rules.specs.Counting.{one_at, sum_list, occurrences}
use Rattle.rules.specs.Anodes.{Anodes, limit, anodes_of}
use Rattle.rules.specs.Chains.{chain_of}
use Rattle.rules.specs.Walk.{Dir, Entered, Item, entries_in, is_block_of, item_of, items_at, items_by, reached_dirs}
use Rattle.rules.specs.Folding.{folded}
use Rattle.rules.specs.Lookup.{no_directory, entries_of}
use Rattle.laws.specs.Tests.{same?}
use Rattle.laws.specs.Sums.{one_at-same, one_at_cases}
use Rattle.laws.specs.Bags.{list_congr, list_scale, gather-sum, map-sum}
use Rattle.laws.specs.Items.{named_in, names-sum}
use Rattle.laws.specs.Entries.{entered_at, items-sum}
use Rattle.laws.specs.Members.{Member, member-cons, member-append, member-sum, member_congr, two_members}
use Rattle.change_laws.specs.Image.{AcceptedImage, accepted_whole}
use Rattle.change_laws.specs.FoundEntries.{Standing}
use Rattle.change_laws.specs.Reached.{EntryIn, its-items, member-reached, entry-facts, block_data}
use Rattle.change_laws.specs.NamedOnce.{only_home}
use Rattle.paths.specs.Paths.{Path, entry_at}
use Rattle.differences.specs.Listed.{entry_path, paths}
use Rattle.difference_laws.specs.NoDifference.{SamePath, entry-folded}
use Rattle.difference_laws.specs.Complete.{path-found}
use Rattle.difference_laws.specs.OwnPaths.{own_path}

-- what stands at a place of a block is one entry
standing_one : {b : List ℕ} {y at end : ℕ} {c e : Entered} → Standing b y at end c → Standing b y at end e → c ≡ e
standing_one {b} {y} {at} p q =
    let one : p.entry ≡ q.entry = cc (p.walked, q.walked) in
    p.is ∙ ap (λ (x : Entry). entered_at x (name_in b at) (y * 512 + at)) one ∙ sym q.is

-- entries at one place are one
same_start : {img : List ℕ} {g h : ℕ} {c e : Entered} → EntryIn img g c → EntryIn img h e → c.start ≡ e.start → c ≡ e
same_start {img} {c = c} n m i = standing_one (subst (λ (k : ℕ). Standing (block_of img (k / 512)) (k / 512) (k % 512) 510 c) i (entry-facts n).stands) (entry-facts m).stands

-- no entry stands in the blocks 0 to 2
start_some : {img : List ℕ} {h : ℕ} {e : Entered} → EntryIn img h e → e.start ≢ 0
start_some m z = omega (arith, z, (block_data (entry-facts m)).above)

module _ {img : List ℕ} (image : AcceptedImage img) where
  abbrev s : Anodes
  s = anodes_of img

  abbrev dirs : List Dir
  dirs = reached_dirs img s

  abbrev items : Dir → List Item
  items = items_by (entries_in img) (is_block_of img) s

  -- ---- one entry names a chain

  module _ (x : ℕ) where
    -- how often the entries of a directory name x
    abbrev names_in : ℕ → ℕ
    names_in h = sum_list (λ c. one_at c.anode x) (entries_of img s h)

    at_names : (d : Dir) → Member d dirs → (a : ℕ) → Member a (chain_of s.next limit d.head) →
        sum_list (λ i. one_at i.anode x) (items_at (entries_in img) (is_block_of img) s d a) ≡ sum_list (λ c. one_at c.anode x) (entries_in img (s.block a))
    unfolding item_of
    at_names d m a on = ap (sum_list (λ i. one_at i.anode x)) (its-items (accepted_whole image) d m a on).2 ∙ map-sum (item_of s) (λ i. one_at i.anode x) (entries_in img (s.block a))

    dir_names : (d : Dir) → Member d dirs → names_in d.head ≡ named_in items x d
    unfolding entries_of
    dir_names d m =
        gather-sum (λ a. entries_in img (s.block a)) (λ c. one_at c.anode x) (chain_of s.next limit d.head)
        ∙ sym (names-sum x (items d) ∙ items-sum (entries_in img) (is_block_of img) s d (λ i. one_at i.anode x)
        ∙ member_congr (λ a. sum_list (λ i. one_at i.anode x) (items_at (entries_in img) (is_block_of img) s d a)) (λ a. sum_list (λ c. one_at c.anode x) (entries_in img (s.block a))) (chain_of s.next limit d.head) (at_names d m))

    all-names : sum_list (λ d. names_in d.head) dirs ≡ sum_list (named_in items x) dirs
    all-names = member_congr (λ d. names_in d.head) (named_in items x) dirs dir_names

  -- a reached directory is among them
  among : {h : ℕ} {e : Entered} → EntryIn img h e → 0 < occurrences h (map (λ d. d.head) dirs)
  unfolding no_directory
  among {h} m = omega (arith, eqb-false (occurrences h (map (λ d. d.head) dirs)) 0 m.directory.reached)

  names_it : {h : ℕ} {e : Entered} → EntryIn img h e → (x : ℕ) → e.anode ≡ x → 1 ≤ names_in x h
  names_it {h} {e} m x i = omega (arith, member-sum (λ c. one_at c.anode x) e (entries_of img s h) m.member, one_at-same e.anode x i)

  module _ {g h : ℕ} {c e : Entered} (n : EntryIn img g c) (m : EntryIn img h e) (i : c.anode ≡ e.anode) where
    -- entries that name one chain are in one directory
    one-home : g ≡ h
    one-home = elim (same? g h) [
      | inl q ↦ q
      | inr apart ↦ absurd (omega (
        arith,
        two_members (names_in e.anode) (map (λ d. d.head) dirs) g h apart (among n) (among m),
        map-sum (λ (d : Dir). d.head) (names_in e.anode) dirs,
        all-names e.anode,
        (entry-facts m).named,
        names_it n e.anode i,
        names_it m e.anode refl,
      ))
    ]

    -- and are one entry
    one_entry : c ≡ e
    one_entry =
        let (before, after, parted) = m.member in
        let alone = only_home image (entry-facts m) before after parted c in
        let here : Member c (entries_of img s h) = rw one-home at n.member in
        elim (member-append c before (e ∷ after) (rw parted at here)) [
          | inl q ↦ absurd (alone (inl q) i)
          | inr q ↦ elim (member-cons c e after q) [ inl j ↦ j | inr r ↦ absurd (alone (inr r) i) ]
        ]

    own_same : entry_path img s g c ≡ entry_path img s h e
    own_same = rw (one-home, one_entry)

  -- ---- paths by places

  -- the place of an entry at a path is not 0
  pub place_some : (path : Path) (e : Entered) → entry_at img path ≡ some e → e.start ≢ 0
  place_some path e is = start_some (path-found image path e is).1

  -- paths to entries at one place are the same
  pub place_path : (p path : Path) (c e : Entered) → entry_at img p ≡ some c → entry_at img path ≡ some e → c.start ≡ e.start → SamePath p path
  place_path p path c e at is i =
      let (g, n, own) = path-found image p c at in
      let (h, m, same) = path-found image path e is in
      sym own ∙ ap (λ (q : Path). map folded q) (own_same n m (ap (λ (x : Entered). x.anode) (same_start n m i))) ∙ same

  -- ---- sums over the listed paths

  -- a sum over the listed paths, entry by entry
  by_entries : (f : Path → ℕ) → sum_list f (paths img) ≡ sum_list (λ d. sum_list (λ c. f (entry_path img s d.head c)) (entries_of img s d.head)) dirs
  unfolding paths
  by_entries f =
      gather-sum (λ d. map (entry_path img s d.head) (entries_of img s d.head)) f dirs
      ∙ list_congr (λ d. sum_list f (map (entry_path img s d.head) (entries_of img s d.head))) (λ d. sum_list (λ c. f (entry_path img s d.head c)) (entries_of img s d.head)) dirs
      (λ d. map-sum (entry_path img s d.head) f (entries_of img s d.head))

  -- by entries that are each as much as v for one that names x
  by_names : (f : Path → ℕ) (x v : ℕ) → ((g : ℕ) (c : Entered) → EntryIn img g c → f (entry_path img s g c) ≡ one_at c.anode x * v) → sum_list f (paths img) ≡ sum_list (named_in items x) dirs * v
  by_names f x v each =
      by_entries f
      ∙ member_congr (λ d. sum_list (λ c. f (entry_path img s d.head c)) (entries_of img s d.head)) (λ d. names_in x d.head * v) dirs (λ d m.
      member_congr (λ c. f (entry_path img s d.head c)) (λ c. one_at c.anode x * v) (entries_of img s d.head) (λ c in_dir. each d.head c (record { directory = member-reached image d m; member = in_dir }))
      ∙ list_scale (λ c. one_at c.anode x) v (entries_of img s d.head))
      ∙ list_scale (λ d. names_in x d.head) v dirs
      ∙ ap (λ (n : ℕ). n * v) (all-names x)

  -- what is 0 at all paths but one sums to what it is there: the path is listed once, or names nothing
  module _ (path : Path) (f : Path → ℕ) (folding : (p : Path) → SamePath p path → f p ≡ f path) (others : (p : Path) → (SamePath p path → ⊥) → f p ≡ 0) where
    -- a path that names no entry is not listed
    at_none : entry_at img path ≡ none → sum_list f (paths img) ≡ 0
    at_none is = by_names f 0 0 (λ g c n. others (entry_path img s g c) (λ same. none-ne-some c (sym is ∙ sym (entry-folded img s (entry_path img s g c) path 5 same) ∙ own_path n)) ∙ omega arith) ∙ omega arith

    -- the path of an entry is listed once
    at_some : (e : Entered) → entry_at img path ≡ some e → sum_list f (paths img) ≡ f path
    at_some e is =
        let (h, m, same) = path-found image path e is in
        by_names f e.anode (f path) (λ g c n. elim (one_at_cases c.anode e.anode) [
          | inl q ↦ folding (entry_path img s g c) (ap (λ (p : Path). map folded p) (own_same n m q.0) ∙ same) ∙ rw q.1 (omega arith)
          | inr q ↦ others (entry_path img s g c) (λ it. q.0 (ap (λ (x : Entered). x.anode)
              (some-injective c e (sym (own_path n) ∙ entry-folded img s (entry_path img s g c) path 5 it ∙ is)))) ∙ rw q.1 (omega arith)
        ])
        ∙ rw (entry-facts m).named (omega arith)

    pub paths-at : (entry_at img path ≡ none → f path ≡ 0) → sum_list f (paths img) ≡ f path
    paths-at outside = go (entry_at img path) refl
      where
        go : (o : Option Entered) → entry_at img path ≡ o → sum_list f (paths img) ≡ f path
        go none is = at_none is ∙ sym (outside is)
        go (some e) is = at_some e is
