-- What a make leaves of all else: every directory is reached and has its entries, its own the new one too, and every file has its bytes.
use Rattle.std.specs.Prelude.{ℕ, ◌+◌, ◌*◌, ◌/◌, ◌%◌, ◌≤◌, ◌<◌, ◌≡◌, ◌≢◌, Bool, true, false, cond, get_or, drop, Some, Ok}
use Rattle.std.proofs.Math.Path.{refl, sym, ap, ap₂}
use Rattle.std.proofs.Common.{◌∙◌, arith, leb-true}
use Rattle.std.proofs.Math.Logic.{inl, inr}
use mathlib.Core.List.{List, [], ◌∷◌, ◌++◌, append_assoc, append-nil}
use Rattle.std.proofs.Math.Option.{Option, none}
use Rattle.std.proofs.Math.ListN.{length, take}
use Rattle.endian.proofs.Laws.{part_same}
use Rattle.disk.specs.Blocks.{block_of}
use Rattle.disk.proofs.Laws.{length-block_of}
use Rattle.disk.proofs.Store.{get_or-block_of}
use Rattle.directory.specs.declared.Entry.{Entry}
use Rattle.directory.specs.Entries.{good_comment, entry_length, walked_at, put_entry}
use Rattle.directory.proofs.Laws.{length-put_entry, get_or-put_entry-before, name_in-put_entry, walked_at-put_entry}
use Rattle.rules.specs.Counting.{one_at, occurrences, gather}
use Rattle.rules.specs.Anodes.{Anodes, limit, anodes_of}
use Rattle.rules.specs.Chains.{chain_of, blocks_of}
use Rattle.rules.specs.Walk.{Entered, entries_in, reached_dirs}
use Rattle.rules.specs.Plans.{Slotted}
use Rattle.rules.specs.Lookup.{no_directory, entries_of, name_at, entry_named, contents}
use Rattle.rules.specs.Changes.{entries_end, parent_of, entry_start, NewEntry, entry_of, made_image}
use Rattle.laws.specs.Tests.{same?, less?, not_above}
use Rattle.laws.specs.Sums.{one_at-same, one_at_other}
use Rattle.laws.specs.Bags.{occurrences-cons, occurrences-append, gather_none, gather_append, gather-kept}
use Rattle.laws.specs.Heads.{Head}
use Rattle.laws.specs.Space.{on_chain_lem}
use Rattle.laws.specs.ChainBlocks.{stands_once}
use Rattle.laws.specs.Each.{OneMore}
use Rattle.laws.specs.DirectoryTakes.{dir_head}
use Rattle.laws.specs.Members.{Member, member-first, occurrences-member, gather_congr, occurrences_mapped}
use Rattle.laws.specs.NewDirectory.{entries_new}
use Rattle.laws.specs.Items.{headed}
use Rattle.frames.specs.DisjointBlocks.{chains_apart, chain_block}
use Rattle.frames.specs.StoredBytes.{BlocksKept}
use Rattle.change_laws.specs.Image.{head_in, disk_at, headed-reached, headed-same, ReachedDir}
use Rattle.change_laws.specs.FoundEntries.{standing_found, BlockEntry, block_standing}
use Rattle.change_laws.specs.Reached.{EntryIn, block_on, reached-not-1, dir_block, entry-facts, block_entry, not-file}
use Rattle.change_laws.specs.KeptChains.{SameChain, same_blocks, OthersLeft, contents-left, entries_left}
use Rattle.change_laws.specs.EntryBytes.{entry_bytes, bytes-at, with-length}
use Rattle.change_laws.specs.NewEntry.{comment_put}
use Rattle.change_laws.specs.MadeImage.{Making, parent, w, once, plan, not_fresh, grown, own_block, parent_block, before, kept_block, parent-new, cont, old_block, orphan, spot, entered, inside_before, spot_data, in_block_lem, at-end, entry_kept, entry_block_lem, entry_other, made-disk, entries_made, other_entries}
use Rattle.change_laws.specs.Make.{made-dirs}

-- the first element's list joined to what stands before
gather-first : (g : ℕ → List Entered) (k : List Entered) (a : ℕ) (l : List ℕ) → k ++ gather g (a ∷ l) ≡ k ++ g a ++ gather g l
unfolding gather
gather-first g k a l = sym (append_assoc k (g a) (gather g l))

-- bytes of a block are bytes of the image
block_part : (img : List ℕ) (y k n : ℕ) → y * 512 + 512 ≤ length img → k + n ≤ 512 → take n (drop (y * 512 + k) img) ≡ take n (drop k (block_of img y))
block_part img y k n there fits = part_same img (block_of img y) (y * 512 + k) k n (omega arith) (omega (arith, length-block_of img y there))
    (λ i l. let e : y * 512 + k + i ≡ y * 512 + (k + i) = omega arith in rw e (sym (get_or-block_of img y (k + i) (omega arith))))

-- an entry of a block keeps its bytes when another is put behind the last
bytes-put : {b : List ℕ} {y at : ℕ} {e : Entered} → BlockEntry b y at e → (x : Entry) (name comment : List ℕ) →
    take (get_or (put_entry b (entries_end b) x name comment) at 0) (drop at (put_entry b (entries_end b) x name comment)) ≡ take (get_or b at 0) (drop at b)
bytes-put {b} {y} {at} u x name comment =
    let st = block_standing u in
    let found = standing_found st in
    let b' = put_entry b (entries_end b) x name comment in
    with-length b' b at at (omega (arith, found.long))
    (part_same b' b at at (get_or b at 0) (omega (arith, length-put_entry b (entries_end b) x name comment, u.whole, found.room)) (omega (arith, u.whole, found.room))
    (λ i l. get_or-put_entry-before b (entries_end b) x name comment (at + i) (omega (arith, l, st.before))))

module _ {img : List ℕ} {h : ℕ} {new : NewEntry} {f : ℕ} {room : Option ℕ} {ys : List ℕ} {u : Slotted} {zs : List ℕ} (m : Making img h new f room ys u zs) where
  abbrev t : Anodes
  t = u.anodes

  abbrev s : Anodes
  s = anodes_of img

  -- the image that a make leaves
  abbrev j : List ℕ
  j = made_image img s h new f room ys u zs

  -- an anode of a directory that was reached
  module _ {k : ℕ} (r : ReachedDir img k) (a : ℕ) (on : Member a (chain_of s.next limit k)) where
    one : s.count a ≡ 1
    one = (dir_block r a on).one

    head_not-1 : head_in img a ≢ 1
    head_not-1 q = reached-not-1 r (sym (dir_block r a on).on_chain_lem ∙ q)

    same_place : (t.count a ≡ s.count a) × (t.block a ≡ s.block a)
    same_place = (grown m).kept a (dir_block r a on).in_use head_not-1

    before_same : entries_in (before m) (t.block a) ≡ entries_in img (s.block a)
    before_same = ap (entries_in (before m)) same_place.1 ∙ (cont m).same_entries a one head_not-1

  head_now : Head t.next t.block h
  head_now = dir_head (orphan m) h (once m)

  -- ---- the entries of the directory itself

  abbrev was : ℕ → List Entered
  was a = entries_in (before m) (t.block a)

  abbrev now : ℕ → List Entered
  now a = entries_in j (t.block a)

  -- each anode of it has one block
  ones : (a : ℕ) → 0 < occurrences a (chain_of t.next limit h) → t.count a ≡ 1
  ones a p = elim (less? 0 (occurrences a (chain_of s.next limit h))) [
    | inl q ↦ (let on = occurrences-member a (chain_of s.next limit h) q in (same_place (parent m) a on).0 ∙ one (parent m) a on)
    | inr q ↦ (grown m).ones a (omega (arith, p, q, ap (occurrences a) (grown m).chain, occurrences-append a (chain_of s.next limit h) (grown m).new))
  ]

  -- a new block of it has no entry
  new_none : (a : ℕ) → 0 < occurrences a (grown m).new → was a ≡ []
  unfolding entries_in
  new_none a p =
      let on : 0 < occurrences (t.block a) zs = rw (grown m).blocks (occurrences_mapped t.block (grown m).new a p) in
      rw (parent-new m (t.block a) on) (entries_new h (parent_of (reached_dirs img s) h) (t.block a))

  before-all : gather was (chain_of t.next limit h) ≡ entries_of img s h
  unfolding entries_of
  before-all =
      ap (gather was) (grown m).chain ∙ gather_append was (chain_of s.next limit h) (grown m).new
      ∙ ap₂ (λ (k l : List Entered). k ++ l)
      (gather_congr was (λ a. entries_in img (s.block a)) (chain_of s.next limit h) (before_same (parent m)))
      (gather_none was (grown m).new new_none)
      ∙ append-nil (gather (λ a. entries_in img (s.block a)) (chain_of s.next limit h))

  now-all : entries_of j (anodes_of j) h ≡ gather now (chain_of t.next limit h)
  unfolding entries_of
  now-all = ap (λ (x : Anodes). entries_of j x h) (made-disk m).anodes

  -- along other anodes of it nothing has changed
  now-was : (l : List ℕ) → ((a : ℕ) → occurrences a l ≤ occurrences a (chain_of t.next limit h)) → occurrences (spot m).anode l ≡ 0 → gather now l ≡ gather was l
  now-was l part off = gather-kept was now l (λ a p. other_entries m a (ones a (omega (arith, p, part a))) (λ e. omega (arith, p, off, ap (λ (x : ℕ). occurrences x l) e)))

  -- the directory has its entries and the new one
  pub entry_added : OneMore (entered m) (entries_of img s h) (entries_of j (anodes_of j) h)
  entry_added = go (occurrences-member (spot m).anode (chain_of t.next limit h) (spot m).on)
    where
      go : Member (spot m).anode (chain_of t.next limit h) → OneMore (entered m) (entries_of img s h) (entries_of j (anodes_of j) h)
      go (front, back, parted) =
          let a = (spot m).anode in
          let alone = stands_once (orphan m).good h head_now a front back parted in
          let all : (x : ℕ) → occurrences x (chain_of t.next limit h) ≡ occurrences x front + (one_at a x + occurrences x back) = λ x.
          ap (occurrences x) parted ∙ occurrences-append x front (a ∷ back) ∙ ap (λ (n : ℕ). occurrences x front + n) (occurrences-cons x a back) in (
            gather was front ++ was a,
            gather was back,
            sym before-all ∙ ap (gather was) parted ∙ gather_append was front (a ∷ back) ∙ gather-first was (gather was front) a back,
            now-all ∙ ap (gather now) parted ∙ gather_append now front (a ∷ back) ∙ gather-first now (gather now front) a back
                ∙ ap₂ (λ (k l : List Entered). k ++ now a ++ l) (now-was front (λ x. omega (arith, all x)) alone.0) (now-was back (λ x. omega (arith, all x)) alone.1)
                ∙ ap (λ (k : List Entered). gather was front ++ k ++ gather was back) (entries_made m)
                ∙ ap (λ (k : List Entered). k ++ gather was back) (sym (append_assoc (gather was front) (was a) (entered m ∷ [])))
                ∙ append_assoc (gather was front ++ was a) (entered m ∷ []) (gather was back),
          )

  -- ---- the directories, where the name was not there

  module _ (unused : entry_named img (anodes_of img) h new.name ≡ none) where
    headed-made : (x : ℕ) → headed x (reached_dirs j (anodes_of j)) ≡ headed x (reached_dirs img s) + cond new.dir (one_at f x) 0
    headed-made x = made-dirs m unused (λ d. one_at d.head x)

    -- those that were reached are reached, and but for the new one no other
    pub reached-kept : (x : ℕ) → x ≢ f → no_directory j (anodes_of j) x ≡ no_directory img s x
    reached-kept x o = headed-same img j s (anodes_of j) x (omega (arith, headed-made x, nowhere new.dir))
      where
        nowhere : (b : Bool) → cond b (one_at f x) 0 ≡ 0
        nowhere true = one_at_other f x (λ e. o (sym e))
        nowhere false = refl

    -- a new directory is reached
    pub new-reached : new.dir ≡ true → no_directory j (anodes_of j) f ≡ false
    new-reached d = headed-reached j (anodes_of j) f (omega (arith, headed-made f, ap (λ (b : Bool). cond b (one_at f f) 0) d, one_at-same f f refl))

  -- ---- other chains

  module _ (k : ℕ) (d : Head s.next s.block k) (k1 : k ≢ 1) (kh : k ≢ h) where
    same-chain : SameChain s t k
    same-chain = record {
      same_anodes = (grown m).others k d k1 kh;
      same_extents = λ a p. let c = on_chain_lem (w m).good k d a p in (grown m).kept a c.1 (λ q. k1 (sym c.0 ∙ q));
    }

    now_head : Head t.next t.block k
    now_head = (grown m).stays k d

    not_f : k ≢ f
    not_f = not_fresh m k d k1

    -- its blocks are none of the new ones, and not the one that has the entry
    apart_f : (y : ℕ) → 0 < occurrences y (blocks_of t k) → 0 < occurrences y ys → ⊥
    apart_f y p q =
        let o = own_block m y q in
        omega (
          arith,
          chains_apart (orphan m).good k f now_head (orphan m).head not_f y p,
          rw (← o.1) at (block_on t f f (rw (plan m).own_chain (member-first f [])) o.0),
        )

    apart_h : (a : ℕ) → 0 < occurrences a (chain_of t.next limit h) → 0 < occurrences (t.block a) (blocks_of t k) → ⊥
    apart_h a on p = omega (
      arith,
      chains_apart (orphan m).good k h now_head head_now kh (t.block a) p,
      block_on t h a (occurrences-member a (chain_of t.next limit h) on) (ones a on),
    )

    block_same : (y : ℕ) → 0 < occurrences y (blocks_of t k) → block_of j y ≡ block_of img y
    block_same y p =
        (entry_kept m).block_kept y (λ e. apart_h (spot m).anode (spot m).on (rw (← e) p))
        ∙ kept_block m y (chain_block (disk_at img u) (orphan m).good k now_head y p) (not_above (occurrences y ys) (apart_f y p))
        (not_above (occurrences y zs) (λ q. let b = parent_block m y q in
        apart_h b.0 (omega (arith, b.1, ap (occurrences b.0) (grown m).chain, occurrences-append b.0 (chain_of s.next limit h) (grown m).new)) (rw (← b.2) p)))

    blocks-kept : BlocksKept img j s k
    blocks-kept y p = block_same y (rw (same_blocks same-chain) p)

  pub others_left : OthersLeft img j t h h
  others_left = record { same_chains = same-chain; blocks-kept = λ k d k1 kh again. blocks-kept k d k1 kh }

  -- every file that was there has the bytes that it had
  pub contents-kept : {k : ℕ} {e : Entered} → EntryIn img k e → e.dir ≡ false → contents j (anodes_of j) e ≡ contents img s e
  contents-kept n file = rw (made-disk m).anodes (contents-left others_left (parent m) n file (λ q. not-file (parent m) (entry-facts n) file (sym q)))

  -- every other directory has the entries that it had
  pub entries_kept : {k : ℕ} → ReachedDir img k → k ≢ h → entries_of j (anodes_of j) k ≡ entries_of img s k
  entries_kept r kh = rw (made-disk m).anodes (entries_left others_left r kh kh)

  -- ---- the bytes of entries

  -- the block that has the new entry, if it was the directory's before
  made_block : (a : ℕ) → a ≡ (spot m).anode → t.block a ≡ s.block a → block_of (before m) (s.block a) ≡ block_of img (s.block a) →
      block_of j (s.block a) ≡ put_entry (block_of img (s.block a)) (entries_end (block_of img (s.block a))) (entry_of new f) new.name new.comment
  made_block a q kept old =
      let same : t.block (spot m).anode ≡ s.block a = ap t.block (sym q) ∙ kept in
      ap (block_of j) (sym same) ∙ entry_block_lem m
      ∙ ap (λ (b : List ℕ). put_entry b (entries_end b) (entry_of new f) new.name new.comment) (ap (block_of (before m)) same ∙ old)

  -- those of an entry that was there are the same
  pub bytes-kept : {k : ℕ} {e : Entered} → EntryIn img k e → entry_bytes j e.start ≡ entry_bytes img e.start
  unfolding entries_in
  bytes-kept {e = e} n =
      let g = entry-facts n in
      let a = g.a₀ in
      let kept = same_place n.directory a g.member-chain in
      let old = old_block m a g.block_facts.one (head_not-1 n.directory a g.member-chain) in
      let at = e.start % 512 in
      let start : e.start ≡ s.block a * 512 + at = omega (arith, g.in_block_lem) in
      bytes-at j e.start (s.block a) at start (omega arith) ∙ elim (same? a (spot m).anode) [
        | inl q ↦ rw (made_block a q kept.1 old)
            (bytes-put (rw g.in_block_lem at (block_entry g)) (entry_of new f) new.name new.comment)
        | inr q ↦ rw (ap (block_of j) (sym kept.1) ∙ entry_other m a (kept.0 ∙ g.block_facts.one) q ∙ ap (block_of (before m)) kept.1 ∙ old)
      ] ∙ sym (bytes-at img e.start (s.block a) at start (omega arith))

  -- the block that gets the entry is a whole one
  pub new_whole : length (block_of (before m) (t.block (spot m).anode)) ≡ 512
  new_whole = length-block_of (before m) (t.block (spot m).anode) (inside_before m (t.block (spot m).anode) (spot_data m))

  -- the new one is found there with its fields
  pub new-found : walked_at (block_of j (entry_start room zs / 512)) (entry_start room zs % 512) ≡ Ok (Some (entry_of new f))
  unfolding entry_of good_comment
  new-found = rw (in_block_lem m, at-end m, entry_block_lem m)
      (walked_at-put_entry (block_of (before m) (t.block (spot m).anode)) (entries_end (block_of (before m) (t.block (spot m).anode))) (entry_of new f) new.name new.comment refl refl new_whole (spot m).fits m.named
      (leb-true (length new.comment) 79 m.commented))

  -- with its name
  pub new_name : name_at j (entry_start room zs) ≡ new.name
  unfolding name_at entry_of
  new_name = rw (in_block_lem m, at-end m, entry_block_lem m)
      (name_in-put_entry (block_of (before m) (t.block (spot m).anode)) (entries_end (block_of (before m) (t.block (spot m).anode))) (entry_of new f) new.name new.comment refl refl new_whole (spot m).fits)

  -- and with its comment, behind the name and the comment's length byte
  pub new_comment : take (length new.comment) (drop (entry_start room zs + 17 + length new.name) j) ≡ new.comment
  unfolding entry_of entry_length
  new_comment =
      let y = t.block (spot m).anode in
      let at = entries_end (block_of (before m) y) in
      let start : entry_start room zs + 17 + length new.name ≡ y * 512 + (at + 17 + length new.name) = omega (arith, (spot m).at) in
      ap (λ (k : ℕ). take (length new.comment) (drop k j)) start
      ∙ block_part j y (at + 17 + length new.name) (length new.comment) (rw (entry_kept m).length-kept (inside_before m y (spot_data m))) (omega (arith, (spot m).fits))
      ∙ rw (entry_block_lem m) (comment_put (block_of (before m) y) at (entry_of new f) new.name new.comment refl new_whole (spot m).fits)
