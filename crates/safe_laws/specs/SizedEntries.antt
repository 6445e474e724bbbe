-- What the directories hold where one entry has another size in its block, which is in its old place or a new one, and nothing else of them is changed: the entries that they held, the file's with its new size, those of its block where that is.
use Rattle.std.specs.Prelude.{ℕ, ◌+◌, ◌/◌, ◌%◌, ◌<◌, ◌≡◌, ◌≢◌, Bool, true, false, cond, eqb}
use Rattle.std.proofs.Math.Path.{refl, sym, ap, ap₂}
use Rattle.std.proofs.Common.{subst, ◌∙◌, arith}
use Rattle.std.proofs.Math.Logic.{inl, inr}
use mathlib.Core.List.{List, [], ◌∷◌, map}
use Rattle.std.proofs.Math.Option.{none, some}
use Rattle.disk.specs.Blocks.{block_of}
use Rattle.endian.specs.Bytes.{put32}
use Rattle.rules.specs.Counting.{occurrences, gather, same_bytes}
use Rattle.rules.specs.Folding.{folded}
use Rattle.rules.specs.Anodes.{Anodes, limit, anodes_of}
use Rattle.rules.specs.Chains.{chain_of}
use Rattle.rules.specs.Walk.{Dir, Entered, entries_from, entries_in, is_block_of}
use Rattle.rules.specs.Lookup.{entries_of, is_named, first_named, entry_named, of_entry}
use Rattle.laws.specs.Tests.{same?}
use Rattle.laws.specs.Members.{Member, member-occurrences, member-first, member-later, gather_congr, map-gather, map-kept}
use Rattle.change_laws.specs.Image.{AcceptedImage, accepted_whole, ReachedDir}
use Rattle.change_laws.specs.Reached.{EntryIn, EntryFacts, entry-facts, block_entry, reached_dir, dir_block, start_in, not-file}
use Rattle.change_laws.specs.FoundEntries.{standing_start}
use Rattle.change_laws.specs.SingleBlocks.{single_apart}
use Rattle.change_laws.specs.NamedOnce.{only_here, only_this}
use Rattle.change_laws.specs.NewSize.{sized, head_sized, entries_sized}
use Rattle.change_laws.specs.Resize.{resized_entry, resized_fields, others_stay, one-resized}
use Rattle.safe_laws.specs.MovedEntries.{placed_at, entries_placed}
use Rattle.safe_laws.specs.PlacedEntries.{placed_if, if_fields, if_other, if-moved}
use Rattle.safe_laws.specs.ChangedBlock.{BlockChanged}

-- ---- entries of one block

-- another size leaves an entry in its place
pub resized-start : (h new : ℕ) (x : Entered) → (resized_entry h new x).start ≡ x.start
unfolding resized_entry
resized-start h new x = go (eqb x.anode h)
  where
    go : (b : Bool) → (cond b (sized new x) x).start ≡ x.start
    go true = refl
    go false = refl

-- two changes of entries that are the same for what a third leaves
map-after : (f g h : Entered → Entered) (l : List Entered) → ((x : Entered) → Member x l → f (h x) ≡ g (h x)) → map f (map h l) ≡ map g (map h l)
map-after f g h [] same = refl
map-after f g h (x ∷ l) same = ap₂ ◌∷◌ (same x (member-first x l)) (map-after f g h l (λ y m. same y (member-later y x l m)))

-- entries of one name are found alike
named_alike : (name : List ℕ) (x x' : Entered) → x'.name ≡ x.name → is_named name x' ≡ is_named name x
unfolding is_named
named_alike name x x' same = ap (λ (n : List ℕ). same_bytes (folded n) (folded name)) same

-- the entry of a name, where changes leave the names
first_under : (name : List ℕ) (f g : Entered → Entered) → ((x : Entered) → (f (g x)).name ≡ x.name) → (l : List Entered) → first_named name (map f (map g l)) ≡ of_entry (first_named name l) (λ x. some (f (g x))) none
unfolding first_named
first_under name f g keeps [] = refl
first_under name f g keeps (x ∷ l) =
    ap (λ (b : Bool). elim b [ true ↦ some (f (g x)) | false ↦ first_named name (map f (map g l)) ]) (named_alike name x (f (g x)) (keeps x)) ∙ go (is_named name x) (first_under name f g keeps l)
  where
    go : (b : Bool) → first_named name (map f (map g l)) ≡ of_entry (first_named name l) (λ x. some (f (g x))) none →
        elim b [ true ↦ some (f (g x)) | false ↦ first_named name (map f (map g l)) ] ≡ of_entry (elim b [ true ↦ some x | false ↦ first_named name l ]) (λ x. some (f (g x))) none
    go true rest = refl
    go false rest = rest

-- ---- the directories

-- the entry e has the size `new` in its block, which is block z
abbrev pub EntrySized : (img j : List ℕ) (t : Anodes) {h : ℕ} {e : Entered} (m : EntryIn img h e) (new z : ℕ) → Type 0
EntrySized img j t {h} {e} m new z = BlockChanged img j t m z (put32 (block_of img (e.start / 512)) (e.start % 512 + 4) new)

module _ {img j : List ℕ} {t : Anodes} {k : ℕ} {e : Entered} {m : EntryIn img k e} {z : ℕ} (new : ℕ) (l : EntrySized img j t m new z) (file : e.dir ≡ false) where
  -- the old anodes
  abbrev s : Anodes
  s = anodes_of img

  -- the accepted image
  abbrev image : AcceptedImage img
  image = m.directory.image

  -- what is known of the entry
  abbrev facts : EntryFacts img k e
  facts = entry-facts m

  -- its block
  abbrev y : ℕ
  y = e.start / 512

  -- what becomes of an entry: its size
  abbrev ρ : Entered → Entered
  ρ = resized_entry e.anode new

  -- and its place
  abbrev ψ : Entered → Entered
  ψ = placed_if (e.start / 512) z

  module _ {h : ℕ} (r : ReachedDir img h) (a : ℕ) (on : Member a (chain_of (anodes_of img).next limit h)) where
    -- an entry of a directory block stands in it
    stands_in : (x : Entered) → Member x (entries_in img (s.block a)) → x.start / 512 ≡ s.block a
    stands_in x m = let (at, from, st) = start_in r a on x m in omega (arith, standing_start st, st.before)

    -- the anode stands on the directory's chain
    counted : 0 < occurrences a (chain_of s.next limit h)
    counted = member-occurrences a (chain_of s.next limit h) on

    -- which is not the file's
    not_of_file : h ≢ e.anode
    not_of_file = not-file r facts file

    -- a block without the file's entry stays where it is
    other_place : a ≢ facts.a₀ → t.block a ≡ s.block a
    other_place n = (l.chains h r not_of_file).same_blocks a counted n

    -- the block with it is block z
    this_place : a ≡ facts.a₀ → t.block a ≡ z
    this_place i = ap t.block i ∙ (l.chains h r not_of_file).own_block (subst (λ (c : ℕ). 0 < occurrences c (chain_of s.next limit h)) i counted)

    -- which was that of the entry
    this_block : a ≡ facts.a₀ → s.block a ≡ y
    this_block i = ap s.block i ∙ sym facts.in_block_lem

    -- a block without the file's entry has the bytes that it had
    other_bytes : a ≢ facts.a₀ → block_of j (t.block a) ≡ block_of img (s.block a)
    other_bytes n = ap (block_of j) (other_place n) ∙ l.blocks-kept h r not_of_file a on n

    -- and its entries stay
    others_left : a ≢ facts.a₀ → map ψ (map ρ (entries_in img (s.block a))) ≡ entries_in img (s.block a)
    others_left n =
        let (b, in_tree, is) = reached_dir r in
        let off : s.block a ≢ y = λ i. single_apart (accepted_whole image).good a (dir_block r a on).one facts.a₀ facts.block_facts.one n (i ∙ facts.in_block_lem) in
        ap (map ψ) (others_stay e.anode new (entries_in img (s.block a)) (only_here image facts b in_tree a (rw is on) n))
        ∙ map-kept ψ (entries_in img (s.block a)) (λ x m. if_other y z x (λ i. off (sym (stands_in x m) ∙ i)))

    -- so they are the entries now
    other_entries : a ≢ facts.a₀ → entries_in j (t.block a) ≡ map ψ (map ρ (entries_in img (s.block a)))
    unfolding entries_in
    other_entries n = ap₂ (λ (b : List ℕ) (x : ℕ). entries_from 28 b x 16) (other_bytes n) (other_place n) ∙ sym (others_left n)

    -- those of the file's block have its place
    these_moved : a ≡ facts.a₀ → map (placed_at y z) (map ρ (entries_in img (s.block a))) ≡ map ψ (map ρ (entries_in img (s.block a)))
    these_moved i = map-after (placed_at y z) ψ ρ (entries_in img (s.block a)) (λ x m. sym (if-moved y z (ρ x) (ap (λ (n : ℕ). n / 512) (resized-start e.anode new x) ∙ stands_in x m ∙ this_block i)))

    -- with the file's new size
    these_sized : a ≡ facts.a₀ → entries_from 28 (put32 (block_of img y) (e.start % 512 + 4) new) y 16 ≡ map ρ (entries_in img (s.block a))
    unfolding entries_in
    these_sized i =
        let here = block_entry facts in
        let (before, after, parted) = here.parted in
        entries_sized (block_of img y) y (e.start % 512) new here.whole e after here.start before 28 16 parted here.unbroken
        ∙ sym (ap (map ρ) (ap (entries_in img) (this_block i) ∙ parted)
        ∙ one-resized e.anode new before e after refl (only_this image facts before after (ap (entries_in img) (sym facts.in_block_lem) ∙ parted)))

    -- so they are the entries now
    these_entries : a ≡ facts.a₀ → entries_in j (t.block a) ≡ map ψ (map ρ (entries_in img (s.block a)))
    unfolding entries_in
    these_entries i =
        ap (λ (x : ℕ). entries_from 28 (block_of j x) x 16) (this_place i) ∙ ap (λ (b : List ℕ). entries_from 28 b z 16) l.block_now
        ∙ entries_placed (put32 (block_of img y) (e.start % 512 + 4) new) y z 28 16 ∙ ap (map (placed_at y z)) (these_sized i) ∙ these_moved i

    -- the entries of a directory's block now
    pub entries_now : entries_in j (t.block a) ≡ map (placed_if (e.start / 512) z) (map (resized_entry e.anode new) (entries_in img ((anodes_of img).block a)))
    entries_now = elim (same? a facts.a₀) [ inl i ↦ these_entries i | inr n ↦ other_entries n ]

    -- it is marked as it was
    pub marks_now : (b : Dir) → is_block_of j b (t.block a) ≡ is_block_of img b ((anodes_of img).block a)
    unfolding is_block_of
    marks_now b = elim (same? a facts.a₀) [
      | inl i ↦ rw (this_place i, l.block_now, head_sized (block_of img y) (e.start % 512) new facts.from_16, this_block i)
      | inr n ↦ rw (other_bytes n)
    ]

  -- the entries of a reached directory now
  all-now : {h : ℕ} (r : ReachedDir img h) → entries_of j t h ≡ map ψ (map ρ (entries_of img s h))
  unfolding entries_of
  all-now {h} r =
      let chain = chain_of s.next limit h in
      ap (gather (λ a. entries_in j (t.block a))) (l.chains h r (not-file r facts file)).same_anodes
      ∙ gather_congr (λ a. entries_in j (t.block a)) (λ a. map ψ (map ρ (entries_in img (s.block a)))) chain (λ a on. entries_now r a on)
      ∙ sym (ap (map ψ) (map-gather ρ (λ a. entries_in img (s.block a)) chain) ∙ map-gather ψ (λ a. map ρ (entries_in img (s.block a))) chain)

  -- and what a name finds there
  pub named-now : (h : ℕ) → ReachedDir img h → (name : List ℕ) →
      entry_named j t h name ≡ of_entry (entry_named img (anodes_of img) h name) (λ x. some (placed_if (e.start / 512) z (resized_entry e.anode new x))) none
  unfolding entry_named
  named-now h r name = ap (first_named name) (all-now r) ∙ first_under name ψ ρ (λ x. (if_fields y z (ρ x)).3 ∙ (resized_fields e.anode new x).3) (entries_of img s h)
