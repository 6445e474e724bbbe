-- The directory blocks of the image that a safe make leaves hold what the make in place leaves in them, each in its own place or the entry's in a new one; and every file has its bytes.
use Rattle.std.specs.Prelude.{ℕ, ◌/◌, ◌%◌, ◌<◌, ◌≡◌, refl, ◌≢◌, ◌⊎◌, Bool, true, false, cond, List, [], ◌∷◌, map}
use Rattle.std.proofs.Common.{sym, ap, ap₂, subst, ◌∙◌, inl, inr, arith}
use Rattle.std.proofs.Math.Option.{Option, none, some}
use Rattle.disk.specs.Blocks.{block_of}
use Rattle.disk.specs.Root.{slot_of}
use Rattle.directory.specs.Entries.{put_entry}
use Rattle.rules.specs.Counting.{occurrences}
use Rattle.rules.specs.Anodes.{Anodes, limit, exists_by, anodes_of}
use Rattle.rules.specs.Chains.{chain_of}
use Rattle.rules.specs.Walk.{Dir, dir_made, Entered, reached_dirs}
use Rattle.rules.specs.Lookup.{entries_of, entry_named, contents}
use Rattle.rules.specs.Plans.{Slotted, planned, table_of}
use Rattle.rules.specs.Space.{lowest_free}
use Rattle.rules.specs.Format.{new_directory_block}
use Rattle.rules.specs.Changes.{NewEntry, entries_end, entry_start, parent_of, no_room, room_for, entry_of, made_image}
use Rattle.laws.specs.Tests.{same?, less?}
use Rattle.laws.specs.Bags.{occurrences-nil, occurrences-append, first_in}
use Rattle.laws.specs.Space.{on_chain_lem}
use Rattle.laws.specs.Members.{Member, no_member, member-first, member-cons, member-later, member_each, member-occurrences, occurrences-member, occurrences_mapped}
use Rattle.laws.specs.Whole.{DirHead, dir_heads}
use Rattle.change_laws.specs.Image.{accepted_whole, head_in, ReachedDir}
use Rattle.change_laws.specs.SingleBlocks.{single_apart}
use Rattle.change_laws.specs.KeptChains.{SameChain, contents-same}
use Rattle.change_laws.specs.NewEntry.{end-new}
use Rattle.change_laws.specs.Reached.{EntryIn, its-items, member-reached, reached_dir, reached_head, reached-not-1, dir_block, block_on, entry-facts, entry-not-1, not-file}
use Rattle.change_laws.specs.MadeImage.{Making, parent, spare, plan, table, grown, before, old_block, parent-new, spot, in_block_lem, at-end, entry_block_lem, entry_other, its_head, entered, orphan}
use Rattle.change_laws.specs.Make.{not_spot, own_stored, made_whole}
use Rattle.safe_rules.specs.SafePlans.{entry_block, make_change, safe_steps}
use Rattle.safe_rules.specs.SafeWrites.{new_image}
use Rattle.safe_laws.specs.OwnMake.{make_own}
use Rattle.safe_laws.specs.KeptBlocks.{chain-kept}
use Rattle.safe_laws.specs.PlacedEntries.{placed_if, if_fields, if_place, Placed, directory_relocated}
use Rattle.safe_laws.specs.SafeMade.{none_more, MakeLeaves}
use Rattle.safe_laws.specs.MadeChains.{now-count, now_other, now-placed, chain_used, now-chain}
use Rattle.safe_laws.specs.MadeStores.{own_now, spot_now, make_disk}
use Rattle.safe_laws.specs.MadeTree.{MadeAt}

-- ---- the make in place, without growth

module _ {img : List ℕ} {h : ℕ} {new : NewEntry} {f : ℕ} {room : Option ℕ} {ys : List ℕ} {u : Slotted} {zs : List ℕ} (m : Making img h new f room ys u zs) where
  abbrev s : Anodes
  s = anodes_of img

  abbrev b : List ℕ
  b = block_of (before m) (u.anodes.block (spot m).anode)

  -- an anode of a directory that was reached was its, or has a block that the parent took
  old-or-taken : (k : ℕ) → ReachedDir img k → (a : ℕ) → 0 < occurrences a (chain_of u.anodes.next limit k) → Member a (chain_of s.next limit k) ⊎ (0 < occurrences (u.anodes.block a) zs)
  old-or-taken k r a p = elim (same? k h) [
    | inr o ↦ inl (occurrences-member a (chain_of s.next limit k) (omega (arith, p, ap (occurrences a) ((grown m).others k (reached_head r) (reached-not-1 r) o))))
    | inl e ↦ elim (less? 0 (occurrences a (chain_of s.next limit k))) [
      | inl q ↦ inl (occurrences-member a (chain_of s.next limit k) q)
      | inr q ↦ inr (
          let here : 0 < occurrences a (grown m).new = omega (
            arith,
            p,
            q,
            ap (λ (x : ℕ). occurrences a (chain_of u.anodes.next limit x)) e,
            ap (λ (x : ℕ). occurrences a (chain_of s.next limit x)) e,
            ap (occurrences a) (grown m).chain,
            occurrences-append a (chain_of s.next limit h) (grown m).new,
          ) in
          rw (grown m).blocks (occurrences_mapped u.anodes.block (grown m).new a here))
    ]
  ]

  -- one that was its is
  old_on : (k : ℕ) → ReachedDir img k → (a : ℕ) → Member a (chain_of s.next limit k) → Member a (chain_of u.anodes.next limit k)
  old_on k r a on = occurrences-member a (chain_of u.anodes.next limit k) (elim (same? k h) [
    | inr o ↦ omega (arith, member-occurrences a (chain_of s.next limit k) on, ap (occurrences a) ((grown m).others k (reached_head r) (reached-not-1 r) o))
    | inl e ↦ omega (
      arith,
      member-occurrences a (chain_of s.next limit k) on,
      ap (λ (x : ℕ). occurrences a (chain_of u.anodes.next limit x)) e,
      ap (λ (x : ℕ). occurrences a (chain_of s.next limit x)) e,
      ap (occurrences a) (grown m).chain,
      occurrences-append a (chain_of s.next limit h) (grown m).new,
    )
  ])

  -- its block is the one that it was
  module _ (k : ℕ) (r : ReachedDir img k) (a : ℕ) (on : Member a (chain_of s.next limit k)) where
    -- it is not the free list's
    head_away : head_in img a ≢ 1
    head_away q = reached-not-1 r (sym (dir_block r a on).on_chain_lem ∙ q)

    -- it has the block that it had
    pub same_block : u.anodes.block a ≡ (anodes_of img).block a
    same_block = ((grown m).kept a (dir_block r a on).in_use head_away).1

    -- with the bytes that were there before the entry
    before_same : block_of (before m) (s.block a) ≡ block_of img (s.block a)
    before_same = old_block m a (dir_block r a on).one head_away

    -- and after it, but for the entry's own
    pub made-same : a ≢ (spot m).anode → block_of (made_image img (anodes_of img) h new f room ys u zs) (u.anodes.block a) ≡ block_of img ((anodes_of img).block a)
    made-same o = entry_other m a (((grown m).kept a (dir_block r a on).in_use head_away).0 ∙ (dir_block r a on).one) o ∙ ap (block_of (before m)) same_block ∙ before_same

  -- the block that has the entry, as it was stored
  spot_bytes : (o : Option ℕ) → room ≡ o → entry_block img s h new f o ≡ put_entry b (entries_end b) (entry_of new f) new.name new.comment
  spot_bytes none full =
      let (y, is) = (grown m).took (ap no_room full) in
      let at : y ≡ u.anodes.block (spot m).anode = omega (arith, in_block_lem m, ap (λ (o : Option ℕ). entry_start o zs) full, ap (entry_start none) is) in
      let p : 0 < occurrences (u.anodes.block (spot m).anode) zs = first_in (u.anodes.block (spot m).anode) zs (is ∙ ap (λ (x : ℕ). x ∷ []) at) in
      let block : b ≡ new_directory_block h (parent_of (reached_dirs img s) h) = parent-new m (u.anodes.block (spot m).anode) p in
      sym (ap (λ (v : List ℕ). put_entry v (entries_end v) (entry_of new f) new.name new.comment) block
      ∙ ap (λ (n : ℕ). put_entry (new_directory_block h (parent_of (reached_dirs img s) h)) n (entry_of new f) new.name new.comment) (end-new h (parent_of (reached_dirs img s) h)))
  spot_bytes (some start) is =
      let a = (spot m).anode in
      let on : Member a (chain_of s.next limit h) = elim (old-or-taken h (parent m) a (spot m).on) [ inl q ↦ q | inr q ↦ absurd (omega (arith, q, ap (occurrences (u.anodes.block a)) (none_more m start is), occurrences-nil (u.anodes.block a))) ] in
      let at : start / 512 ≡ u.anodes.block a = ap (λ (o : Option ℕ). entry_start o zs / 512) (sym is) ∙ in_block_lem m in
      let end : start % 512 ≡ entries_end b = ap (λ (o : Option ℕ). entry_start o zs % 512) (sym is) ∙ at-end m in
      let same : b ≡ block_of img (u.anodes.block a) = ap (block_of (before m)) (same_block h (parent m) a on) ∙ before_same h (parent m) a on ∙ ap (block_of img) (sym (same_block h (parent m) a on)) in
      ap₂ (λ (v : List ℕ) (n : ℕ). put_entry v n (entry_of new f) new.name new.comment) (ap (block_of img) at ∙ sym same) end

  -- which is what the make in place leaves there
  pub spot_same : entry_block img (anodes_of img) h new f room ≡ block_of (made_image img (anodes_of img) h new f room ys u zs) (u.anodes.block (spot m).anode)
  spot_same = spot_bytes room refl ∙ sym (entry_block_lem m)

-- ---- the safe make

module _ {img : List ℕ} {h : ℕ} (p : ReachedDir img h) (new : NewEntry) (unused : entry_named img (anodes_of img) h new.name ≡ none) (t : Slotted) (ws : List ℕ) (steps : safe_steps img (make_change img (table_of img) h new) ≡ planned t ws)
    (l : MakeLeaves img h new (lowest_free limit (exists_by (slot_of img)) (anodes_of img)) (room_for img (anodes_of img) h new) t ws) where
  abbrev f : ℕ
  f = lowest_free limit (exists_by (slot_of img)) (anodes_of img)

  abbrev room : Option ℕ
  room = room_for img (anodes_of img) h new

  abbrev m : Making img h new f room l.ys l.u l.zs
  m = l.making

  abbrev u : Anodes
  u = l.u.anodes

  -- the image that the make in place leaves, and the one that the safe make leaves
  abbrev i : List ℕ
  i = made_image img (anodes_of img) h new f room l.ys l.u l.zs

  abbrev j : List ℕ
  j = new_image img (make_change img (table_of img) h new) t ws

  -- the directories
  abbrev dirs : List Dir
  dirs = cond new.dir (dir_made f h ∷ reached_dirs img (anodes_of img)) (reached_dirs img (anodes_of img))

  -- the chain of one of them
  module _ (d : Dir) (in_tree : Member d dirs) where
    -- it is the chain of a head other than 1
    pub made_head : DirHead l.u.anodes d
    made_head = member_each (DirHead u) d dirs in_tree (dir_heads (made_whole m unused))

    -- each anode of it has one block
    pub made_one : (a : ℕ) → Member a (chain_of l.u.anodes.next limit d.head) → l.u.anodes.count a ≡ 1
    made_one a on = (its-items (made_whole m unused) d in_tree a on).0

    -- and is in use, not the free list's
    made_used : (a : ℕ) → Member a (chain_of u.next limit d.head) → (u.block a ≢ 0) × ((plan m).hd' a ≢ 1)
    made_used a on = let (used, away, own) = chain_used m l.moved l.left d.head made_head.0 made_head.1 a (member-occurrences a (chain_of u.next limit d.head) on) in (used, away)

    -- its block is in its place or its new one
    pub made-placed : (a : ℕ) → Member a (chain_of l.u.anodes.next limit d.head) → Placed l.moved.y l.moved.z (l.u.anodes.block a) (t.anodes.block a)
    made-placed a on = let (used, away) = made_used a on in now-placed m l.moved l.left a used away (made_one a on)

  -- the block that has the entry
  spot_block : block_of j (t.anodes.block (spot m).anode) ≡ block_of i (u.block (spot m).anode)
  spot_block = spot_now p new t ws steps l ∙ spot_same m

  -- a block of a directory that was reached
  old_block_now : (k : ℕ) → ReachedDir img k → (a : ℕ) → Member a (chain_of (anodes_of img).next limit k) → a ≢ (spot m).anode → u.block a ≢ 0 → (plan m).hd' a ≢ 1 → block_of j (t.anodes.block a) ≡ block_of i (u.block a)
  old_block_now k r a on o used away =
      ap (block_of j) (now_other m l.moved l.left a used away o ∙ same_block m k r a on)
      ∙ chain-kept p.image (make_own p new) t ws steps k (reached_head r) (reached-not-1 r) ((anodes_of img).block a) (block_on (anodes_of img) k a on (dir_block r a on).one)
      ∙ sym (made-same m k r a on o)

  -- any of theirs
  reached-now : (k : ℕ) → ReachedDir img k → (a : ℕ) → Member a (chain_of u.next limit k) → u.count a ≡ 1 → u.block a ≢ 0 → (plan m).hd' a ≢ 1 → block_of j (t.anodes.block a) ≡ block_of i (u.block a)
  reached-now k r a on one used away = elim (same? a (spot m).anode) [
    | inl e ↦ rw e spot_block
    | inr o ↦ elim (old-or-taken m k r a (member-occurrences a (chain_of u.next limit k) on)) [
      | inl q ↦ old_block_now k r a q o used away
      | inr q ↦ absurd (single_apart (table m).good a one (spot m).anode (spot m).one o (l.moved.parent_took (u.block a) q))
    ]
  ]

  -- the new directory's block
  new-now : new.dir ≡ true → block_of j (t.anodes.block f) ≡ block_of i (u.block f)
  new-now d =
      let used = (orphan m).head.in_use in
      let away : (plan m).hd' f ≢ 1 = λ q. omega (arith, (spare m).from_6, sym ((table m).good.heads.at_head f (orphan m).head) ∙ q) in
      ap (block_of j) (now_other m l.moved l.left f used away (not_spot m)) ∙ own_now p new t ws steps l d ∙ sym (own_stored m d)

  -- the block of any directory
  pub made_block_now : (d : Dir) → Member d (cond new.dir (dir_made (lowest_free limit (exists_by (slot_of img)) (anodes_of img)) h ∷ reached_dirs img (anodes_of img)) (reached_dirs img (anodes_of img))) → (a : ℕ) → Member a (chain_of l.u.anodes.next limit d.head) →
      block_of (new_image img (make_change img (table_of img) h new) t ws) (t.anodes.block a)
      ≡ block_of (made_image img (anodes_of img) h new (lowest_free limit (exists_by (slot_of img)) (anodes_of img)) (room_for img (anodes_of img) h new) l.ys l.u l.zs) (l.u.anodes.block a)
  made_block_now d in_tree a on = go new.dir refl in_tree
    where
      old : Member d (reached_dirs img (anodes_of img)) → block_of j (t.anodes.block a) ≡ block_of i (u.block a)
      old q = let (used, away) = made_used d in_tree a on in reached-now d.head (member-reached p.image d q) a on (made_one d in_tree a on) used away

      go : (b : Bool) → new.dir ≡ b → Member d (cond b (dir_made f h ∷ reached_dirs img (anodes_of img)) (reached_dirs img (anodes_of img))) → block_of j (t.anodes.block a) ≡ block_of i (u.block a)
      go false e q = old q
      go true e q = elim (member-cons d (dir_made f h) (reached_dirs img (anodes_of img)) q) [
        | inr n ↦ old n
        | inl n ↦ (
            let its : chain_of u.next limit d.head ≡ f ∷ [] = ap (λ (x : Dir). chain_of u.next limit x.head) n ∙ (plan m).own_chain in
            elim (member-cons a f [] (subst (λ (k : List ℕ). Member a k) its on)) [ inl z ↦ rw z (new-now e) | inr z ↦ absurd (no_member a z) ])
      ]

  -- ---- files

  -- the chain of a file that was there
  file-chain : (k : ℕ) (x : Entered) → EntryIn img k x → x.dir ≡ false → SameChain (anodes_of img) t.anodes x.anode
  file-chain k x n file =
      let g = entry-facts n in
      let K = x.anode in
      let K1 = entry-not-1 g in
      let Kh : K ≢ h = λ e. not-file p g file (sym e) in
      let there = (grown m).stays K g.head in
      let chain = (grown m).others K g.head K1 Kh in
      record {
        same_anodes = now-chain m l.moved l.left K there K1 ∙ chain;
        same_extents = λ a on.
            let (home, was) = on_chain_lem (accepted_whole p.image).good K g.head a on in
            let (count, block) = (grown m).kept a was (λ q. K1 (sym home ∙ q)) in
            let (used, away, own) = chain_used m l.moved l.left K there K1 a (omega (arith, on, ap (occurrences a) chain)) in
            (now-count m l.moved l.left a used away ∙ count, now_other m l.moved l.left a used away (λ e. Kh (sym own ∙ ap (plan m).hd' e ∙ its_head m)) ∙ block);
      }

  -- it has the bytes that it had
  file-now : (k : ℕ) (x : Entered) → EntryIn img k x → x.dir ≡ false → contents j t.anodes x ≡ contents img (anodes_of img) x
  file-now k x n file =
      let g = entry-facts n in
      contents-same img j x (file-chain k x n file) (chain-kept p.image (make_own p new) t ws steps x.anode g.head (entry-not-1 g))

  -- ---- all together

  -- a directory that was reached is one of them
  old_dir : (k : ℕ) → ReachedDir img k → (d : Dir) × Member d dirs × (d.head ≡ k)
  old_dir k r = let (d, q, e) = reached_dir r in (d, go new.dir d q, e)
    where
      go : (b : Bool) (d : Dir) → Member d (reached_dirs img (anodes_of img)) → Member d (cond b (dir_made f h ∷ reached_dirs img (anodes_of img)) (reached_dirs img (anodes_of img)))
      go true d q = member-later d (dir_made f h) (reached_dirs img (anodes_of img)) q
      go false d q = q

  -- so is a new one
  own_dir : new.dir ≡ true → Member (dir_made f h) dirs
  own_dir e = rw e (member-first (dir_made f h) (reached_dirs img (anodes_of img)))

  -- the entries of one of them
  dir_now : (d : Dir) → Member d dirs → entries_of j t.anodes d.head ≡ map (placed_if l.moved.y l.moved.z) (entries_of i u d.head)
  dir_now d q = let (head, not-1) = made_head d q in
      directory_relocated i j u t.anodes l.moved.y l.moved.z d.head (now-chain m l.moved l.left d.head head not-1) (λ a on. (made_block_now d q a on, made-placed d q a on))

  -- the place of an entry in one of them
  place_now : (d : Dir) → Member d dirs → (a : ℕ) → Member a (chain_of u.next limit d.head) → (x : Entered) → x.start / 512 ≡ u.block a →
      (block_of j ((placed_if l.moved.y l.moved.z x).start / 512) ≡ block_of i (x.start / 512)) × ((placed_if l.moved.y l.moved.z x).start % 512 ≡ x.start % 512)
  place_now d q a on x at = let (block, place) = if_place l.moved.y l.moved.z (u.block a) (t.anodes.block a) x at (made-placed d q a on) in
      (ap (block_of j) block ∙ made_block_now d q a on ∙ ap (block_of i) (sym at), place)

  -- THE IMAGE THAT A SAFE MAKE LEAVES has what the make in place leaves
  pub made_at : MadeAt l.making (new_image img (make_change img (table_of img) h new) t ws) t.anodes (placed_if l.moved.y l.moved.z)
  made_at = record {
    anodes = (make_disk p new t ws steps l).anodes;
    keeps = λ x. let (broken, dir, anode, name, size) = if_fields l.moved.y l.moved.z x in (dir, anode, name, size);
    entries = λ k r. let (d, q, e) = old_dir k r in subst (λ (y : ℕ). entries_of j t.anodes y ≡ map (placed_if l.moved.y l.moved.z) (entries_of i u y)) e (dir_now d q);
    own_entries = λ e. dir_now (dir_made f h) (own_dir e);
    old_place = λ k x n. let g = entry-facts n in
        let (d, q, e) = old_dir k n.directory in
        let on : Member g.a₀ (chain_of u.next limit d.head) = rw e (old_on m k n.directory g.a₀ g.member-chain) in
        place_now d q g.a₀ on x (g.in_block_lem ∙ sym (same_block m k n.directory g.a₀ g.member-chain));
    new_place =
        let (d, q, e) = old_dir h p in
        let on : Member (spot m).anode (chain_of u.next limit d.head) = rw e (occurrences-member (spot m).anode (chain_of u.next limit h) (spot m).on) in
        place_now d q (spot m).anode on (entered m) (in_block_lem m);
    files = file-now;
  }
