-- The directory that had the removed entry: the others stay, in their order, and have the bytes that they had.
use Rattle.std.specs.Prelude.{ℕ, ◌+◌, ◌-◌, ◌*◌, ◌/◌, ◌%◌, ◌≤◌, ◌≡◌, ◌≢◌, cond, eqb, get_or, take, drop}
use Rattle.std.proofs.Common.{sym, ap₂, ◌∙◌, inl, inr, arith, eq-eqb, ne_eqb}
use Rattle.std.proofs.Math.Path.{ap}
use mathlib.Core.List.{List, ◌∷◌, ◌++◌, map, append_assoc, map-append}
use Rattle.disk.specs.Blocks.{block_of}
use Rattle.directory.proofs.Laws.{FoundAt}
use Rattle.rules.specs.Counting.{occurrences, gather}
use Rattle.rules.specs.Anodes.{Anodes, limit, anodes_of}
use Rattle.rules.specs.Chains.{chain_of}
use Rattle.rules.specs.Walk.{Entered, entries_in}
use Rattle.rules.specs.Plans.{Slotted}
use Rattle.rules.specs.Lookup.{entries_of}
use Rattle.rules.specs.Changes.{removed_image}
use Rattle.laws.specs.Bags.{gather_append}
use Rattle.laws.specs.ChainBlocks.{stands_once}
use Rattle.laws.specs.Members.{Member, member-later, member-append, member-left, member_right, member-gather, member-occurrences, gather_congr, map_members, map-kept}
use Rattle.frames.specs.Kept.{entries_in-kept}
use Rattle.frames.specs.DisjointBlocks.{DataBlock}
use Rattle.change_laws.specs.FoundEntries.{standing_found, standing_start}
use Rattle.change_laws.specs.Reached.{reached-not-1, dir_block, start_in, not_itself}
use Rattle.change_laws.specs.Image.{disk_at}
use Rattle.change_laws.specs.Gap.{lowered, bytes-earlier, bytes-later}
use Rattle.change_laws.specs.EntryBytes.{entry_bytes, bytes-at, with-length}
use Rattle.change_laws.specs.PlannedChange.{w, facts, home_head, off_anode}
use Rattle.change_laws.specs.RemoveStores.{PlannedRemove, y, b, len, closed, here, others_same, home_data, block_left, removed-disk, kept_data, entries_left}
use Rattle.change_laws.specs.KeptChains.{entries_along}

-- an entry behind the removed one: in the same block it stands earlier by as many bytes as that had
unfoldable pub moved_down : List ℕ → Entered → Entered → Entered
moved_down img e f = cond (eqb (f.start / 512) (e.start / 512)) (lowered (get_or (block_of img (e.start / 512)) (e.start % 512) 0) f) f

-- the entries of a directory, without e: those behind it may have moved, and all have the bytes that they had
pub record EntryGone (img j : List ℕ) (e : Entered) (old new : List Entered) : Type 0 where
  pub before : List Entered
  pub behind : List Entered
  pub were : old ≡ before ++ (e ∷ behind)
  pub are : new ≡ before ++ map (moved_down img e) behind
  pub bytes-before : (f : Entered) → Member f before → entry_bytes j f.start ≡ entry_bytes img f.start
  pub bytes-behind : (f : Entered) → Member f behind → entry_bytes j (moved_down img e f).start ≡ entry_bytes img f.start

module _ {img : List ℕ} {e : Entered} {u : Slotted} {ys : List ℕ} (p : PlannedRemove img e u ys) where
  abbrev s : Anodes
  s = anodes_of img

  -- the image that a removal leaves
  abbrev j : List ℕ
  j = removed_image img e u

  -- ---- the directory that had the entry

  -- its entries in the block before the entry, and behind it
  abbrev earlier : List Entered
  earlier = (here p).parted.0

  abbrev later : List Entered
  later = (here p).parted.1

  not-moved : (f : Entered) → f.start / 512 ≢ y p → moved_down img e f ≡ f
  unfolding moved_down
  not-moved f o = rw (ne_eqb (f.start / 512) (y p) o)

  is_moved : (f : Entered) → f.start / 512 ≡ y p → moved_down img e f ≡ lowered (len p) f
  unfolding moved_down
  is_moved f q = rw (eq-eqb (f.start / 512) (y p) q)

  -- an entry of the block
  in_block_lem : (f : Entered) → Member f (entries_in img (y p)) → (k : ℕ) × (f.start ≡ y p * 512 + k) × FoundAt (b p) k
  in_block_lem f m =
      let q = rw (← (facts p).in_block_lem) at (start_in p.entry.directory (facts p).a₀ (facts p).member-chain f (rw (facts p).in_block_lem at m)) in
      (q.0, standing_start q.2, standing_found q.2)

  -- an entry whose bytes the closed block has, at its place or an earlier one
  bytes-moved : (start start' k k' : ℕ) → start ≡ y p * 512 + k → start' ≡ y p * 512 + k' → k' ≤ k → FoundAt (b p) k →
      take (get_or (b p) k 0) (drop k' (closed p)) ≡ take (get_or (b p) k 0) (drop k (b p)) → entry_bytes j start' ≡ entry_bytes img start
  bytes-moved start start' k k' is is' l found same =
      bytes-at j start' (y p) k' is' (omega (arith, l, found.room))
      ∙ rw (block_left p) (with-length (closed p) (b p) k' k (omega (arith, found.long)) same)
      ∙ sym (bytes-at img start (y p) k is (omega (arith, found.room)))

  -- an entry before it keeps its bytes and its place
  same-before : (f : Entered) → Member f earlier → entry_bytes j f.start ≡ entry_bytes img f.start
  unfolding entries_in
  same-before f m =
      let k = in_block_lem f (rw (here p).parted.2 (member-left f earlier (e ∷ later) m)) in
      bytes-moved f.start f.start k.0 k.0 k.1 k.1 (omega arith) k.2 (bytes-earlier (here p) f m k.0 k.1)

  -- one behind it keeps its bytes and stands earlier
  same-behind : (f : Entered) → Member f later → (f.start / 512 ≡ y p) × (entry_bytes j (lowered (len p) f).start ≡ entry_bytes img f.start)
  unfolding entries_in
  same-behind f m =
      let k = in_block_lem f (rw (here p).parted.2 (member_right f earlier (e ∷ later) (member-later f e later m))) in
      let r = bytes-later (here p) f m k.0 k.1 in
      (omega (arith, k.1, k.2.room), bytes-moved f.start (f.start - len p) k.0 (k.0 - len p) k.1 (omega (arith, k.1, r.0)) (omega arith) k.2 r.1)

  -- the anodes of its chain before the entry's and behind it
  abbrev front : List ℕ
  front = (facts p).member-chain.0

  abbrev back : List ℕ
  back = (facts p).member-chain.1

  abbrev chain : List ℕ
  chain = chain_of s.next limit p.home

  -- the entry's anode is none of them
  once : (occurrences (facts p).a₀ front ≡ 0) × (occurrences (facts p).a₀ back ≡ 0)
  once = stands_once (w p).good p.home (home_head p) (facts p).a₀ front back (facts p).member-chain.2

  in_front : (a : ℕ) → Member a front → Member a chain × (a ≢ (facts p).a₀)
  in_front a m = (rw (facts p).member-chain.2 (member-left a front ((facts p).a₀ ∷ back) m), λ q. omega (arith, once.0, member-occurrences (facts p).a₀ front (rw q at m)))

  in_back : (a : ℕ) → Member a back → Member a chain × (a ≢ (facts p).a₀)
  in_back a m = (rw (facts p).member-chain.2 (member_right a front ((facts p).a₀ ∷ back) (member-later a (facts p).a₀ back m)), λ q. omega (arith, once.1, member-occurrences (facts p).a₀ back (rw q at m)))

  -- the entries of one of its anodes, before and after the removal
  abbrev old : ℕ → List Entered
  old a = entries_in img (s.block a)

  abbrev new : ℕ → List Entered
  new a = entries_in j (s.block a)

  other_anode : (a : ℕ) → Member a chain × (a ≢ (facts p).a₀) → DataBlock (disk_at img u) (s.block a) × (s.block a ≢ y p)
  other_anode a o = (home_data p a o.0, off_anode p a (dir_block p.entry.directory a o.0).one o.1)

  same_along : (l : List ℕ) → ((a : ℕ) → Member a l → Member a chain × (a ≢ (facts p).a₀)) → gather new l ≡ gather old l
  same_along l o = gather_congr new old l (λ a m. entries_in-kept (kept_data p) (s.block a) (other_anode a (o a m)))

  along : (l : List ℕ) → ((a : ℕ) → Member a l → Member a chain × (a ≢ (facts p).a₀)) → (f : Entered) → Member f (gather old l) →
      (f.start / 512 ≢ y p) × (entry_bytes j f.start ≡ entry_bytes img f.start)
  unfolding entry_bytes
  along l o f m =
      let q = member-gather old l f m in
      let u = o q.0 q.1 in
      let i = start_in p.entry.directory q.0 u.0 f q.2 in
      let in_a : f.start / 512 ≡ s.block q.0 = omega (arith, standing_start i.2, i.2.before) in
      let k = other_anode q.0 u in
      rw in_a (k.1, rw ((kept_data p).block_kept (s.block q.0) k))

  abbrev were : List Entered
  were = gather old front ++ earlier

  abbrev behind : List Entered
  behind = later ++ gather old back

  -- the lists of the anodes put together
  joined : (l m : List Entered) → gather old front ++ (earlier ++ l ++ m) ≡ were ++ (l ++ m)
  joined l m = ap (λ (k : List Entered). gather old front ++ k) (append_assoc earlier l m) ∙ sym (append_assoc (gather old front) earlier (l ++ m))

  old_entries : entries_of img s p.home ≡ were ++ (e ∷ behind)
  unfolding entries_of entries_in gather
  old_entries =
      ap (gather old) (facts p).member-chain.2 ∙ gather_append old front ((facts p).a₀ ∷ back)
      ∙ ap (λ (k : List Entered). gather old front ++ (k ++ gather old back)) (ap (entries_in img) (sym (facts p).in_block_lem) ∙ (here p).parted.2)
      ∙ joined (e ∷ later) (gather old back)

  all_moved : map (moved_down img e) behind ≡ map (lowered (len p)) later ++ gather old back
  all_moved =
      map-append (moved_down img e) later (gather old back)
      ∙ ap₂ ◌++◌ (map_members (moved_down img e) (lowered (len p)) later (λ f m. is_moved f (same-behind f m).0))
      (map-kept (moved_down img e) (gather old back) (λ f m. not-moved f (along back in_back f m).0))

  new_entries : entries_of j (anodes_of j) p.home ≡ were ++ map (moved_down img e) behind
  unfolding gather
  new_entries = rw ((removed-disk p).anodes, all_moved)
      (entries_along (others_same p p.home (home_head p) (reached-not-1 p.entry.directory) (not_itself p.entry.directory (facts p))) j
      ∙ ap (gather new) (facts p).member-chain.2 ∙ gather_append new front ((facts p).a₀ ∷ back)
      ∙ rw (same_along front in_front, same_along back in_back, ← (facts p).in_block_lem, entries_left p j (block_left p)) (joined (map (lowered (len p)) later) (gather old back)))

  -- its own directory has one entry less
  pub entry_gone : EntryGone img j e (entries_of img s p.home) (entries_of j (anodes_of j) p.home)
  entry_gone = record {
    before = were;
    behind = behind;
    were = old_entries;
    are = new_entries;
    bytes-before = λ f m. elim (member-append f (gather old front) earlier m) [ inl q ↦ (along front in_front f q).1 | inr q ↦ same-before f q ];
    bytes-behind = λ f m. elim (member-append f later (gather old back) m) [
      | inl q ↦ (let r = same-behind f q in rw (is_moved f r.0) r.1)
      | inr q ↦ (let r = along back in_back f q in rw (not-moved f r.0) r.1)
    ];
  }
