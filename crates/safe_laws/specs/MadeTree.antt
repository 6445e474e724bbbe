-- The tree of an image that has what a make leaves, its directory blocks perhaps in other places: the new entry, and all that was there. The image that the make in place leaves is one of these.
use Rattle.std.specs.Prelude.{ℕ, ◌+◌, ◌/◌, ◌%◌, ◌<◌, ◌≡◌, ◌≢◌, Bool, ◌&&◌, get_or, take, drop}
use Rattle.std.proofs.Math.Path.{refl, sym, ap}
use Rattle.std.proofs.Common.{ap₂, ◌∙◌, inl, inr, true≢false, arith, get_or-take, get_or-drop, leb-true, eq-eqb}
use Rattle.std.proofs.Math.Bool.{true, false, cond}
use mathlib.Core.List.{List, [], ◌∷◌, map, map-id}
use Rattle.std.proofs.Math.Option.{Option, none, some}
use Rattle.std.proofs.Math.ListN.{length}
use Rattle.endian.proofs.Laws.{part_byte}
use Rattle.disk.specs.Blocks.{block_of}
use Rattle.disk.proofs.Laws.{length-block_of}
use Rattle.directory.specs.declared.Kind.TheVariants.{File, Directory}
use Rattle.directory.specs.Entries.{type_of, is_dir, good_comment}
use Rattle.rules.specs.Counting.{same_bytes, gather}
use Rattle.rules.specs.Folding.{folded}
use Rattle.rules.specs.Anodes.{Anodes, anodes_of}
use Rattle.rules.specs.Walk.{Entered, entries_in}
use Rattle.rules.specs.Plans.{Slotted}
use Rattle.rules.specs.Lookup.{entries_of, is_named, first_named, entry_named, of_entry, contents}
use Rattle.rules.specs.Changes.{entries_end, entry_start, NewEntry, entry_of, made_image}
use Rattle.laws.specs.Tests.{same?, less?, T_true}
use Rattle.laws.specs.Apart.{same_name, name_same}
use Rattle.laws.specs.Each.{OneMore}
use Rattle.laws.specs.NewDirectory.{entries_new}
use Rattle.change_laws.specs.Image.{disk_long, ReachedDir}
use Rattle.change_laws.specs.FoundEntries.{standing_found}
use Rattle.change_laws.specs.Reached.{EntryIn, entry-facts, block_entry}
use Rattle.change_laws.specs.EntryBytes.{entry_bytes}
use Rattle.change_laws.specs.MadeImage.{Making, parent, plan, table, before, spot, entered, in_block_lem, at-end, entry_block_lem, made-disk}
use Rattle.change_laws.specs.Make.{own_stored}
use Rattle.change_laws.specs.MakeEffects.{entry_added, entries_kept, contents-kept, bytes-kept, new_whole}
use Rattle.paths.specs.Paths.{Path, site}
use Rattle.paths.specs.Facts.{facts_in, facts_of, facts_at}
use Rattle.safe_laws.specs.Claims.{same_spot, leads_to, new_facts}
use Rattle.safe_laws.specs.MadeEntry.{more_other, more_own, made_tree}
use Rattle.safe_laws.specs.FactsKept.{facts-same}
use Rattle.safe_laws.specs.PutFacts.{facts-put}

-- ---- bytes that say their own number

-- the first of them is their number
first-length : (l : List ℕ) (k : ℕ) → get_or (take (get_or l k 0) (drop k l)) 0 0 ≡ get_or l k 0
first-length l k = elim (less? 0 (get_or l k 0)) [
  | inl p ↦ (let e : k + 0 ≡ k = omega arith in get_or-take (get_or l k 0) (drop k l) 0 0 p ∙ get_or-drop k l 0 0 ∙ ap (λ (i : ℕ). get_or l i 0) e)
  | inr p ↦ (let e : get_or l k 0 ≡ 0 = omega (arith, p) in rw e refl)
]

-- where they are alike, each is
pub bytes_same : (l m : List ℕ) (k j : ℕ) → take (get_or l k 0) (drop k l) ≡ take (get_or m j 0) (drop j m) → (i : ℕ) → i < get_or m j 0 → get_or l (k + i) 0 ≡ get_or m (j + i) 0
bytes_same l m k j e i p =
    let n : get_or l k 0 ≡ get_or m j 0 = sym (first-length l k) ∙ ap (λ (x : List ℕ). get_or x 0 0) e ∙ first-length m j in
    part_byte l m k j (get_or m j 0) (rw n at e) i p

-- ---- names under ψ

-- a name finds under ψ what it found, under ψ
pub named-map : (ψ : Entered → Entered) → ((x : Entered) → (ψ x).name ≡ x.name) → (name : List ℕ) (l : List Entered) → first_named name (map ψ l) ≡ of_entry (first_named name l) (λ x. some (ψ x)) none
unfolding first_named is_named
named-map ψ keeps name [] = refl
named-map ψ keeps name (x ∷ l) =
    ap₂ (λ (n : List ℕ) (o : Option Entered). elim (same_bytes (folded n) (folded name)) [ true ↦ some (ψ x) | false ↦ o ]) (keeps x) (named-map ψ keeps name l)
    ∙ go (same_bytes (folded x.name) (folded name))
  where
    go : (b : Bool) → elim b [ true ↦ some (ψ x) | false ↦ of_entry (first_named name l) (λ y. some (ψ y)) none ] ≡ of_entry (elim b [ true ↦ some x | false ↦ first_named name l ]) (λ y. some (ψ y)) none
    go true = refl
    go false = refl

-- ---- the make in place

module _ {img : List ℕ} {h : ℕ} {new : NewEntry} {f : ℕ} {room : Option ℕ} {ys : List ℕ} {u : Slotted} {zs : List ℕ} (m : Making img h new f room ys u zs) where
  abbrev s : Anodes
  s = anodes_of img

  abbrev i : List ℕ
  i = made_image img (anodes_of img) h new f room ys u zs

  -- its anodes are those that the steps left
  anodes_now : anodes_of i ≡ u.anodes
  anodes_now = (made-disk m).anodes

  -- another directory has the entries that it had
  other_dir : (k : ℕ) → ReachedDir img k → k ≢ h → entries_of i u.anodes k ≡ entries_of img s k
  other_dir k r o = ap (λ (a : Anodes). entries_of i a k) (sym anodes_now) ∙ entries_kept m r o

  -- the parent has the new one beside them
  own_dir : OneMore (entered m) (entries_of img s h) (entries_of i u.anodes h)
  own_dir = rw anodes_now at (entry_added m)

  -- by its own name alone it is found
  not_named : (n : List ℕ) → same_spot (site h n) (site h new.name) ≡ false → is_named n (entered m) ≡ false
  unfolding same_spot is_named
  not_named n apart = go (same_bytes (folded new.name) (folded n)) refl
    where
      go : (b : Bool) → same_bytes (folded new.name) (folded n) ≡ b → same_bytes (folded new.name) (folded n) ≡ false
      go false q = q
      go true q =
          let e : folded new.name ≡ folded n = same_name (folded new.name) (folded n) (rw q tt) in
          let on : same_bytes (folded n) (folded new.name) ≡ true = rw e (T_true (same_bytes (folded n) (folded n)) (name_same (folded n))) in
          absurd (true≢false (sym (ap₂ (λ (a b : Bool). a && b) (eq-eqb h h refl) on) ∙ apart))

  -- another name finds what it found
  made_other : (k : ℕ) → ReachedDir img k → (n : List ℕ) → same_spot (site k n) (site h new.name) ≡ false → first_named n (entries_of i u.anodes k) ≡ first_named n (entries_of img s k)
  made_other k r n apart = elim (same? k h) [
    | inr o ↦ ap (first_named n) (other_dir k r o)
    | inl q ↦ (let (front, back, old, now) = own_dir in
        ap (λ (x : ℕ). first_named n (entries_of i u.anodes x)) q ∙ ap (first_named n) now
        ∙ more_other n (entered m) (not_named n (ap (λ (x : ℕ). same_spot (site x n) (site h new.name)) (sym q) ∙ apart)) front back
        ∙ ap (first_named n) (sym old) ∙ ap (λ (x : ℕ). first_named n (entries_of img s x)) (sym q))
  ]

  -- its own name finds it
  made_found : entry_named img (anodes_of img) h new.name ≡ none → first_named new.name (entries_of i u.anodes h) ≡ some (entered m)
  unfolding entry_named is_named
  made_found unused =
      let (front, back, old, now) = own_dir in
      ap (first_named new.name) now
      ∙ more_own new.name (entered m) (T_true (same_bytes (folded new.name) (folded new.name)) (name_same (folded new.name))) front back (ap (first_named new.name) (sym old) ∙ unused)

  -- a new directory is empty
  made_empty : new.dir ≡ true → entries_of i u.anodes f ≡ []
  unfolding entries_of entries_in gather
  made_empty d = rw ((plan m).own_chain, own_stored m d, entries_new f h (u.anodes.block f)) refl

  -- the facts of an entry that was there
  made-old : (k : ℕ) (x : Entered) → EntryIn img k x → (size : ℕ) (bytes : List ℕ) →
      facts_in (block_of i (x.start / 512)) (x.start % 512) size bytes ≡ facts_in (block_of img (x.start / 512)) (x.start % 512) size bytes
  unfolding entry_bytes
  made-old k x n size bytes =
      let b = block_entry (entry-facts n) in
      let found = standing_found (entry-facts n).stands in
      facts-same (block_of img (x.start / 512)) (block_of i (x.start / 512)) (x.start % 512) (x.start % 512) b.whole
      (length-block_of i (x.start / 512) (omega (arith, made_long, (entry-facts n).block_facts.is_data.inside, (entry-facts n).in_block_lem)))
      found found.room (λ k l q. bytes_same (block_of i (x.start / 512)) (block_of img (x.start / 512)) (x.start % 512) (x.start % 512) (bytes-kept m n) k l) size bytes
    where
      made_long : length i ≡ length img
      made_long = (made-disk m).same.kept.length-kept ∙ disk_long (parent m).image (table m)

  -- the facts of the new one
  made-new : (size : ℕ) (bytes : List ℕ) → facts_in (block_of i (entry_start room zs / 512)) (entry_start room zs % 512) size bytes
      ≡ record { type = type_of (cond new.dir Directory File); name = new.name; comment = new.comment; day = new.day; minute = new.minute; tick = new.tick; protection = new.protection; size = size; bytes = bytes }
  unfolding entry_of good_comment
  made-new size bytes = rw (in_block_lem m, at-end m, entry_block_lem m)
      (facts-put (block_of (before m) (u.anodes.block (spot m).anode)) (entries_end (block_of (before m) (u.anodes.block (spot m).anode))) (entry_of new f) new.name new.comment (new_whole m) (spot m).fits refl refl m.named
      (leb-true (length new.comment) 79 m.commented) size bytes)

-- ---- an image with these directories, perhaps in other places

-- j has the anodes t, in the directories what the make in place leaves there, under ψ, which changes no more than places, and the bytes of the files that were there
pub record MadeAt {img : List ℕ} {h : ℕ} {new : NewEntry} {f : ℕ} {room : Option ℕ} {ys : List ℕ} {u : Slotted} {zs : List ℕ} (m : Making img h new f room ys u zs) (j : List ℕ) (t : Anodes) (ψ : Entered → Entered) : Type 0 where
  pub anodes : anodes_of j ≡ t
  pub keeps : (x : Entered) → ((ψ x).dir ≡ x.dir) × ((ψ x).anode ≡ x.anode) × ((ψ x).name ≡ x.name) × ((ψ x).size ≡ x.size)
  pub entries : (k : ℕ) → ReachedDir img k → entries_of j t k ≡ map ψ (entries_of (made_image img (anodes_of img) h new f room ys u zs) u.anodes k)
  pub own_entries : new.dir ≡ true → entries_of j t f ≡ map ψ (entries_of (made_image img (anodes_of img) h new f room ys u zs) u.anodes f)
  -- an entry stands in a block with the same bytes, as far into it
  pub old_place : (k : ℕ) (x : Entered) → EntryIn img k x → (block_of j ((ψ x).start / 512) ≡ block_of (made_image img (anodes_of img) h new f room ys u zs) (x.start / 512)) × ((ψ x).start % 512 ≡ x.start % 512)
  pub new_place : (block_of j ((ψ (entered m)).start / 512) ≡ block_of (made_image img (anodes_of img) h new f room ys u zs) ((entered m).start / 512)) × ((ψ (entered m)).start % 512 ≡ (entered m).start % 512)
  pub files : (k : ℕ) (x : Entered) → EntryIn img k x → x.dir ≡ false → contents j t x ≡ contents img (anodes_of img) x

module _ {img : List ℕ} {h : ℕ} {new : NewEntry} {f : ℕ} {room : Option ℕ} {ys : List ℕ} {u : Slotted} {zs : List ℕ} (m : Making img h new f room ys u zs) (unused : entry_named img (anodes_of img) h new.name ≡ none)
    (j : List ℕ) (t : Anodes) (ψ : Entered → Entered) (d : MadeAt m j t ψ) where
  -- what is found under a name
  finds : (k : ℕ) → ReachedDir img k → (n : List ℕ) → entry_named j t k n ≡ of_entry (first_named n (entries_of (i m) u.anodes k)) (λ x. some (ψ x)) none
  unfolding entry_named
  finds k r n = ap (first_named n) (d.entries k r) ∙ named-map ψ (λ x. (d.keeps x).2) n (entries_of (i m) u.anodes k)

  -- another name finds what it found, under ψ
  others : (k : ℕ) → ReachedDir img k → (n : List ℕ) → same_spot (site k n) (site h new.name) ≡ false → entry_named j t k n ≡ of_entry (entry_named img (anodes_of img) k n) (λ x. some (ψ x)) none
  unfolding entry_named
  others k r n apart = finds k r n ∙ ap (λ (o : Option Entered). of_entry o (λ x. some (ψ x)) none) (made_other m k r n apart)

  -- the new name finds the new entry
  found : entry_named j t h new.name ≡ some (ψ (entered m))
  found = finds h (parent m) new.name ∙ ap (λ (o : Option Entered). of_entry o (λ x. some (ψ x)) none) (made_found m unused)

  -- its kind
  is_dir_lem : (b : Bool) → is_dir (cond b Directory File) ≡ b
  is_dir_lem true = refl
  is_dir_lem false = refl

  -- it is a directory where one is made
  new_dir : (ψ (entered m)).dir ≡ new.dir
  unfolding entry_of
  new_dir = (d.keeps (entered m)).0 ∙ is_dir_lem new.dir

  -- its anode is the fresh head
  new_anode : (ψ (entered m)).anode ≡ f
  unfolding entry_of
  new_anode = (d.keeps (entered m)).1

  -- nothing is found in it
  empty : (ψ (entered m)).dir ≡ true → (n : List ℕ) → entry_named j t (ψ (entered m)).anode n ≡ none
  unfolding entry_named first_named
  empty q n =
      let dir : new.dir ≡ true = sym new_dir ∙ q in
      rw new_anode (ap (first_named n) (d.own_entries dir ∙ ap (map ψ) (made_empty m dir)))

  -- the size and bytes of an entry under ψ
  same-contents : (x : Entered) → contents j t (ψ x) ≡ contents j t x
  unfolding contents
  same-contents x = rw ((d.keeps x).1, (d.keeps x).3) refl

  -- the facts of an entry that was there
  old-facts : (k : ℕ) (x : Entered) → EntryIn img k x → facts_of j (ψ x) ≡ facts_of img x
  unfolding facts_of
  old-facts k x n =
      let (block, place) = d.old_place k x n in
      rw (d.anodes, same-contents x, block, place, (d.keeps x).0, (d.keeps x).3) (made-old m k x n (cond x.dir 0 x.size) (cond x.dir [] (contents j t x))
      ∙ ap (facts_in (block_of img (x.start / 512)) (x.start % 512) (cond x.dir 0 x.size)) (at_dir x.dir refl))
    where
      at_dir : (b : Bool) → x.dir ≡ b → cond b [] (contents j t x) ≡ cond b [] (contents img (anodes_of img) x)
      at_dir true q = refl
      at_dir false q = d.files k x n q

  -- a new entry has no bytes
  none_yet : (b : Bool) → (◌≡◌ {A = ℕ} (cond b 0 (ψ (entered m)).size) 0) × (◌≡◌ {A = List ℕ} (cond b [] (contents j t (ψ (entered m)))) [])
  unfolding entry_of contents
  none_yet true = (refl, refl)
  none_yet false = ((d.keeps (entered m)).3, rw (d.keeps (entered m)).3 refl)

  -- the facts of the new one
  new-facts : facts_of j (ψ (entered m)) ≡ new_facts (type_of (cond new.dir Directory File)) new.name new.comment new.day new.minute new.tick new.protection
  unfolding facts_of new_facts
  new-facts =
      let (block, place) = d.new_place in
      let (size, bytes) = none_yet (ψ (entered m)).dir in
      rw (d.anodes, block, place, size, bytes) (made-new m 0 [])

  -- THE NEW TREE OF A MAKE
  pub made-at_tree : (path : Path) → facts_at j path
      ≡ cond (leads_to img path (site h new.name)) (some (new_facts (type_of (cond new.dir Directory File)) new.name new.comment new.day new.minute new.tick new.protection)) (facts_at img path)
  made-at_tree = made_tree (parent m).image j d.anodes ψ (λ x. ((d.keeps x).0, (d.keeps x).1)) h new.name (ψ (entered m)) unused others found empty
      (new_facts (type_of (cond new.dir Directory File)) new.name new.comment new.day new.minute new.tick new.protection) old-facts new-facts

-- ---- the make in place is one of these

module _ {img : List ℕ} {h : ℕ} {new : NewEntry} {f : ℕ} {room : Option ℕ} {ys : List ℕ} {u : Slotted} {zs : List ℕ} (m : Making img h new f room ys u zs) where
  -- with every entry in its own place
  pub made_in_place : MadeAt m (made_image img (anodes_of img) h new f room ys u zs) u.anodes (λ x. x)
  made_in_place = record {
    anodes = anodes_now m;
    keeps = λ x. (refl, refl, refl, refl);
    entries = λ k r. sym (map-id (entries_of (i m) u.anodes k));
    own_entries = λ d. sym (map-id (entries_of (i m) u.anodes f));
    old_place = λ k x n. (refl, refl);
    new_place = (refl, refl);
    files = λ k x n file. ap (λ (a : Anodes). contents (i m) a x) (sym (anodes_now m)) ∙ contents-kept m n file;
  }

  -- so it leaves the new tree
  pub in_place_tree : entry_named img (anodes_of img) h new.name ≡ none → (path : Path) → facts_at (made_image img (anodes_of img) h new f room ys u zs) path
      ≡ cond (leads_to img path (site h new.name)) (some (new_facts (type_of (cond new.dir Directory File)) new.name new.comment new.day new.minute new.tick new.protection)) (facts_at img path)
  in_place_tree unused = made-at_tree m unused (made_image img (anodes_of img) h new f room ys u zs) u.anodes (λ x. x) made_in_place
