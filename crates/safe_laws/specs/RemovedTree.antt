-- The tree of an image in which the gap of one entry is closed, in the old place of its directory block or a new one, and nothing else of the other directories and files is changed: the new tree of a removal.
use Rattle.std.specs.Prelude.{ℕ, ◌/◌, ◌%◌, ◌≡◌, ◌≢◌, ◌⊎◌, Bool, cond, get_or}
use Rattle.std.proofs.Math.Path.{refl, sym, ap, ap₂, subst}
use Rattle.std.proofs.Common.{◌∙◌, arith}
use Rattle.std.proofs.Math.Logic.{inl, inr}
use Rattle.std.proofs.Math.Bool.{true, false}
use mathlib.Core.List.{List, [], ◌∷◌, ◌++◌, map, map-append, append_assoc}
use Rattle.std.proofs.Math.Option.{none, some}
use Rattle.disk.specs.Blocks.{block_of}
use Rattle.rules.specs.Counting.{occurrences, gather}
use Rattle.rules.specs.Folding.{folded}
use Rattle.rules.specs.Anodes.{Anodes, limit, anodes_of}
use Rattle.rules.specs.Chains.{chain_of}
use Rattle.rules.specs.Walk.{Entered, entries_in}
use Rattle.rules.specs.Lookup.{entries_of, entry_named, of_entry, contents}
use Rattle.rules.specs.Changes.{entry_closed}
use Rattle.laws.specs.Tests.{same?}
use Rattle.laws.specs.Bags.{gather_append}
use Rattle.laws.specs.ChainBlocks.{stands_once}
use Rattle.laws.specs.Members.{Member, no_member, member-cons, member-append, member-left, member_right, member-later, member-occurrences, gather_congr, map-gather, map-kept}
use Rattle.laws.specs.NamesApart.{accepted-names_apart}
use Rattle.change_laws.specs.FoundEntries.{BlockEntry, standing_start}
use Rattle.change_laws.specs.Image.{AcceptedWhole, AcceptedImage, accepted_whole, head_in, ReachedDir}
use Rattle.change_laws.specs.Reached.{EntryIn, EntryFacts, entry-facts, block_entry, reached_head, dir_block, start_in, not-file, not_itself}
use Rattle.change_laws.specs.SingleBlocks.{single_apart}
use Rattle.change_laws.specs.NamedOnce.{only_home}
use Rattle.paths.specs.Facts.{facts_in, facts_of}
use Rattle.paths.specs.FoundNames.{named_name}
use Rattle.safe_rules.specs.SafeCalls.{safe_remove}
use Rattle.safe_laws.specs.Claims.{NewTree}
use Rattle.safe_laws.specs.ChangedEntry.{same-entry}
use Rattle.safe_laws.specs.RemovedEntry.{kept, under_named, gone-named, removed_tree}
use Rattle.safe_laws.specs.ChangedBlock.{BlockChanged}
use Rattle.safe_laws.specs.ClosedBlock.{closed_at, closed_fields, closed_other, entries_now, facts-now}

-- the gap of e is closed in its block, which is block z
abbrev pub EntryClosed : (img j : List ℕ) (t : Anodes) {h : ℕ} {e : Entered} (m : EntryIn img h e) (z : ℕ) → Type 0
EntryClosed img j t {h} {e} m z = BlockChanged img j t m z (entry_closed (block_of img (e.start / 512)) (e.start % 512))

module _ {img j : List ℕ} {t : Anodes} {h : ℕ} {e : Entered} {m : EntryIn img h e} {z : ℕ} (l : EntryClosed img j t m z) where
  abbrev s : Anodes
  s = anodes_of img

  abbrev image : AcceptedImage img
  image = m.directory.image

  w : AcceptedWhole img
  w = accepted_whole image

  abbrev facts : EntryFacts img h e
  facts = entry-facts m

  -- the block that e stands in
  abbrev y : ℕ
  y = e.start / 512

  -- its bytes
  abbrev b : List ℕ
  b = block_of img y

  -- e in it
  abbrev here : BlockEntry b y (e.start % 512) e
  here = block_entry facts

  -- where an entry is now
  abbrev φ : Entered → Entered
  φ = closed_at e.start (get_or b (e.start % 512) 0) z

  -- the entries of an anode, before and now
  abbrev old : ℕ → List Entered
  old a = entries_in img (s.block a)

  -- and now
  abbrev new : ℕ → List Entered
  new a = entries_in j (t.block a)

  -- ---- the entries of a directory

  module _ (k : ℕ) (r : ReachedDir img k) (o : k ≢ e.anode) where
    -- an anode of it other than that of e
    module _ (a : ℕ) (on : Member a (chain_of s.next limit k)) (n : a ≢ facts.a₀) where
      -- has another block
      off_block : s.block a ≢ y
      off_block i = single_apart w.good a (dir_block r a on).one facts.a₀ facts.block_facts.one n (i ∙ facts.in_block_lem)

      -- so its entries stand elsewhere
      off_entry : (x : Entered) → Member x (entries_in img (s.block a)) → x.start / 512 ≢ y
      off_entry x q i =
          let (p, from, stands) = start_in r a on x q in
          off_block (sym (let in_a : x.start / 512 ≡ s.block a = omega (arith, standing_start stands, stands.before) in in_a) ∙ i)

      -- and are the same
      same_at : new a ≡ map φ (old a)
      unfolding entries_in
      same_at =
          rw ((l.chains k r o).same_blocks a (member-occurrences a (chain_of s.next limit k) on) n, l.blocks-kept k r o a on n)
          (sym (map-kept φ (old a) (λ x q. closed_other e.start (get_or b (e.start % 512) 0) z x (off_entry x q))))

    -- some anodes of it, that of e not among them
    along : (part : List ℕ) → ((a : ℕ) → Member a part → Member a (chain_of s.next limit k) × (a ≢ facts.a₀)) → gather new part ≡ map φ (gather old part)
    along part u = gather_congr new (λ a. map φ (old a)) part (λ a q. same_at a (u a q).0 (u a q).1) ∙ sym (map-gather φ old part)

    -- all of them, in another directory
    other_entries : k ≢ h → entries_of j t k ≡ map φ (entries_of img s k)
    unfolding entries_of
    other_entries kh = ap (gather new) (l.chains k r o).same_anodes ∙ along (chain_of s.next limit k)
        (λ a on. (on, λ i. kh (sym (dir_block r a on).on_chain_lem ∙ ap (head_in img) i ∙ facts.block_facts.on_chain_lem)))

  -- ---- those of its own

  -- the anodes before that of e
  abbrev front : List ℕ
  front = facts.member-chain.0

  -- and behind it
  abbrev back : List ℕ
  back = facts.member-chain.1

  -- the entries before e
  abbrev before : List Entered
  before = gather old front ++ here.parted.0

  -- and behind it
  abbrev behind : List Entered
  behind = here.parted.1 ++ gather old back

  -- lists put together in another way
  joined : (f x y v : List Entered) → f ++ ((x ++ y) ++ v) ≡ (f ++ x) ++ (y ++ v)
  joined f x y v = ap (λ (i : List Entered). f ++ i) (append_assoc x y v) ∙ sym (append_assoc f x (y ++ v))

  -- the entries that the directory had
  home-old : entries_of img (anodes_of img) h ≡ before ++ (e ∷ behind)
  unfolding entries_of entries_in gather
  home-old =
      ap (gather old) facts.member-chain.2 ∙ gather_append old front (facts.a₀ ∷ back)
      ∙ ap (λ (i : List Entered). gather old front ++ (i ++ gather old back)) (ap (entries_in img) (sym facts.in_block_lem) ∙ here.parted.2)
      ∙ joined (gather old front) here.parted.0 (e ∷ here.parted.1) (gather old back)

  -- the directory is not what goes
  home_other : h ≢ e.anode
  home_other = not_itself m.directory facts

  -- the anode of e stands once on its chain
  once : (occurrences facts.a₀ front ≡ 0) × (occurrences facts.a₀ back ≡ 0)
  once = stands_once w.good h (reached_head m.directory) facts.a₀ front back facts.member-chain.2

  -- so it is none of those before it
  in_front : (a : ℕ) → Member a front → Member a (chain_of s.next limit h) × (a ≢ facts.a₀)
  in_front a q = (rw facts.member-chain.2 (member-left a front (facts.a₀ ∷ back) q), λ i. omega (arith, once.0, member-occurrences facts.a₀ front (rw i at q)))

  -- nor of those behind it
  in_back : (a : ℕ) → Member a back → Member a (chain_of s.next limit h) × (a ≢ facts.a₀)
  in_back a q = (rw facts.member-chain.2 (member_right a front (facts.a₀ ∷ back) (member-later a facts.a₀ back q)), λ i. omega (arith, once.1, member-occurrences facts.a₀ back (rw i at q)))

  -- the anode of e has block z
  new_home : new facts.a₀ ≡ map φ (here.parted.0 ++ here.parted.1)
  new_home = ap (entries_in j) ((l.chains h m.directory home_other).own_block (member-occurrences facts.a₀ (chain_of s.next limit h) facts.member-chain)) ∙ entries_now here j z l.block_now

  -- so the directory has all entries but e
  home-now : entries_of j t h ≡ map φ (before ++ behind)
  unfolding entries_of gather
  home-now =
      ap (gather new) ((l.chains h m.directory home_other).same_anodes ∙ facts.member-chain.2) ∙ gather_append new front (facts.a₀ ∷ back)
      ∙ ap₂ ◌++◌ (along h m.directory home_other front in_front)
      (ap₂ ◌++◌ new_home (along h m.directory home_other back in_back) ∙ sym (map-append φ (here.parted.0 ++ here.parted.1) (gather old back)))
      ∙ sym (map-append φ (gather old front) ((here.parted.0 ++ here.parted.1) ++ gather old back))
      ∙ ap (map φ) (joined (gather old front) here.parted.0 here.parted.1 (gather old back))

  -- ---- what a name finds

  -- an entry of another directory does not name the chain of e
  other_anode : (k : ℕ) → ReachedDir img k → k ≢ h → (x : Entered) → Member x (entries_of img s k) → x.anode ≢ e.anode
  other_anode k r kh x q i = kh (same-entry (record { directory = r; member = q }) m i).0

  module _ (name : List ℕ) (found : entry_named img (anodes_of img) h name ≡ some e) where
    -- another of its own neither names that chain nor has its name
    home_apart : (x : Entered) → Member x before ⊎ Member x behind → (x.anode ≢ e.anode) × (folded x.name ≢ folded e.name)
    home_apart x q =
        let other = only_home image facts before behind home-old x q in
        let there : Member x (entries_of img s h) = rw home-old (elim q [ inl n ↦ member-left x before (e ∷ behind) n | inr n ↦ member_right x before (e ∷ behind) (member-later x e behind n) ]) in
        (other, λ i. other (ap (λ (v : Entered). v.anode) ((accepted-names_apart img image.blocks image.anodes image.accepted).only h m.directory.reached name e found x there (i ∙ named_name img s h name e found))))

    -- so a name finds what it found, but for e
    now-named : (k : ℕ) → ReachedDir img k → k ≢ e.anode → (other : List ℕ) → entry_named j t k other ≡ of_entry (entry_named img (anodes_of img) k other) (kept e.anode φ) none
    unfolding entry_named
    now-named k r o other = elim (same? k h) [
      | inl i ↦ rw (i, home-old, home-now) (gone-named e.anode φ (λ x. (closed_fields e.start (get_or b (e.start % 512) 0) z x).2) other e refl behind before home_apart)
      | inr i ↦ rw (other_entries k r o i) (under_named e.anode φ (λ x. (closed_fields e.start (get_or b (e.start % 512) 0) z x).2) other (entries_of img s k) (other_anode k r i))
    ]

  -- ---- the facts of the others

  -- a directory that goes has no entry
  module _ (empty : e.dir ≡ true → entries_of img (anodes_of img) e.anode ≡ []) where
    module _ (k : ℕ) (x : Entered) (n : EntryIn img k x) (o : x.anode ≢ e.anode) where
      -- what is known of it
      abbrev its : EntryFacts img k x
      its = entry-facts n

      -- it does not stand in a directory that goes
      not-gone : k ≢ e.anode
      not-gone q = go e.dir refl
        where
          go : (c : Bool) → e.dir ≡ c → ⊥
          go true i = no_member x (rw (ap (entries_of img s) q ∙ empty i) at n.member)
          go false i = not-file n.directory facts i q

      -- one that stands in the block of e
      beside : its.a₀ ≡ facts.a₀ → (x.start / 512 ≡ y) × (Member x here.parted.0 ⊎ Member x here.parted.1)
      unfolding entries_in
      beside i =
          let same : s.block its.a₀ ≡ y = ap s.block i ∙ sym facts.in_block_lem in
          let there = subst (λ (c : List Entered). Member x c) (ap (entries_in img) same ∙ here.parted.2) its.member in (
            its.in_block_lem ∙ same,
            elim (member-append x here.parted.0 (e ∷ here.parted.1) there) [
              | inl q ↦ inl q
              | inr q ↦ elim (member-cons x e here.parted.1 q) [ inl v ↦ absurd (o (ap (λ (c : Entered). c.anode) v)) | inr v ↦ inr v ]
            ],
          )

      -- what stands at its place
      place_facts : (size : ℕ) (bytes : List ℕ) → facts_in (block_of j ((φ x).start / 512)) ((φ x).start % 512) size bytes ≡ facts_in (block_of img (x.start / 512)) (x.start % 512) size bytes
      place_facts size bytes = elim (same? its.a₀ facts.a₀) [
        | inl i ↦ (let (at_y, member) = beside i in facts-now here j z l.block_now x member size bytes ∙ ap (λ (c : ℕ). facts_in (block_of img c) (x.start % 512) size bytes) (sym at_y))
        | inr i ↦ (let stays = closed_other e.start (get_or b (e.start % 512) 0) z x (off_entry k n.directory not-gone its.a₀ its.member-chain i x its.member) in
            ap (λ (c : Entered). facts_in (block_of j (c.start / 512)) (c.start % 512) size bytes) stays
            ∙ ap (λ (c : List ℕ). facts_in c (x.start % 512) size bytes) (ap (block_of j) its.in_block_lem ∙ l.blocks-kept k n.directory not-gone its.a₀ its.member-chain i ∙ ap (block_of img) (sym its.in_block_lem)))
      ]

      -- its bytes
      same-contents : x.dir ≡ false → contents j (anodes_of j) (φ x) ≡ contents img s x
      unfolding contents closed_at
      same-contents i = ap (λ (c : Anodes). contents j c x) l.anodes ∙ l.files k x n i o

      -- so its facts are the same
      other_facts : facts_of j (φ x) ≡ facts_of img x
      unfolding facts_of closed_at
      other_facts = go x.dir refl
        where
          go : (c : Bool) → x.dir ≡ c → facts_in (block_of j ((φ x).start / 512)) ((φ x).start % 512) (cond c 0 x.size) (cond c [] (contents j (anodes_of j) (φ x)))
              ≡ facts_in (block_of img (x.start / 512)) (x.start % 512) (cond c 0 x.size) (cond c [] (contents img s x))
          go true i = place_facts 0 []
          go false i = rw (same-contents i) (place_facts x.size (contents img s x))

    -- THE NEW TREE OF A REMOVAL
    pub closed_tree : (name : List ℕ) → entry_named img (anodes_of img) h name ≡ some e → NewTree img (safe_remove h name) j
    closed_tree name found = removed_tree image m.directory name found empty j l.anodes φ (λ x. let f = closed_fields e.start (get_or b (e.start % 512) 0) z x in (f.0, f.1)) (now-named name found) other_facts
