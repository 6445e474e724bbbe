-- The entry of a name in a span of the index. Assumes nothing.
use Rattle.std.specs.Prelude.{Some, Ok}
use Prim.Native.Nat.{ℕ, zero, suc, ◌+◌, ◌-◌, ◌*◌, ◌/◌, ◌%◌, ◌≤◌, ◌<◌}
use mathlib.Core.Path.{◌≡◌, refl, sym, ap, ◌∙◌}
use mathlib.Core.Logic.{◌≢◌}
use mathlib.Core.Bool.{Bool, true, false, true≢false}
use mathlib.Core.List.{List, [], ◌∷◌}
use mathlib.Core.Option.{Option, none, some}
use native.Mathlib.Nat.{not-suc-le-zero}
use native.Mathlib.Omega.{arith}
use lib.Dec.{leb}
use lib.ListN.{length, length-append, get_or}
use lib.Seq.{get_or_at}
use borrow.Author.Tests.{le-leb, leb-true}
use Rattle.endian.specs.Bytes.{be16, be32}
use Rattle.disk.specs.Blocks.{block_of}
use Rattle.directory.specs.declared.Entry.{Entry}
use Rattle.directory.specs.declared.Kind.{Kind}
use Rattle.directory.specs.Entries.{kind_read, entry_in, walked_at}
use Rattle.directory.proofs.Laws.{found_fields}
use Rattle.rules.specs.Counting.{same_bytes}
use Rattle.rules.specs.Folding.{folded}
use Rattle.rules.specs.Anodes.{anodes_of}
use Rattle.rules.specs.Walk.{Entered}
use Rattle.rules.specs.Lookup.{name_at, is_named, first_named, entries_of, entry_named}
use Rattle.counting.specs.Laws.{any_below_each}
use Rattle.laws.specs.Tests.{T_true, both}
use Rattle.laws.specs.Members.{Member, member-first, member-later, member-sum}
use Rattle.laws.specs.Apart.{same_name, name_same, one_same, one_same-same}
use Rattle.laws.specs.NamesApart.{accepted-names_apart, none-counted}
use Rattle.names.specs.Index.{folded_in, name_of, last_below, is_same, start_of, InBlock}
use Rattle.names.proofs.Laws.{last-le, any_last, last_passes}
use Rattle.lookup.specs.Answers.{placed, entered}
use Rattle.change_laws.specs.Reached.{EntryIn, entry-facts, entry_name}
use Rattle.counterparts.specs.declared.Span.{Span}
use Rattle.counterparts.specs.Spans.{HeadsDirectory, starts_of, SpanOf, StandsAt}
use Rattle.counterparts.proofs.Laws.{starts_append, length_starts, starts_at}
use Rattle.counterparts.proofs.Fits.{headed-entry}

-- ---- what stands where the index has an entry

module _ (img index : List ℕ) (j : ℕ) (e : Entered) (w : InBlock index j) (s : start_of index j ≡ e.start) where
  its_block : get_or index (10984 + j) 0 ≡ e.start / 512
  unfolding start_of
  its_block = omega (arith, w, s)

  its_place : get_or index (14428 + j) 0 ≡ e.start % 512
  unfolding start_of
  its_place = omega (arith, w, s)

  module _ (t : StandsAt img e) where
    pub stands_there : walked_at (block_of img (get_or index (10984 + j) 0)) (get_or index (14428 + j) 0) ≡ Ok (Some t.entry)
    stands_there = rw (its_block, its_place) t.walked

    -- the entry that is read there is e
    pub stands_read : (x : Entry) → walked_at (block_of img (get_or index (10984 + j) 0)) (get_or index (14428 + j) 0) ≡ Ok (Some x)
        → entered img (placed x (get_or index (10984 + j) 0 * 512 + get_or index (14428 + j) 0)) ≡ e
    unfolding start_of name_at
    stands_read x there =
        let both = sym there ∙ stands_there in
        let same : x ≡ t.entry = cc in
        let z : e.start / 512 * 512 + e.start % 512 ≡ e.start = omega arith in
        rw (same, s) (sym (rw z at t.is))

    -- the type byte there says its kind
    pub kind_there : kind_read (get_or (block_of img (get_or index (10984 + j) 0)) (get_or index (14428 + j) 0 + 1) 0) ≡ Ok t.entry.kind
    kind_there = (found_fields _ _ _ stands_there).0

    -- an entry of that kind, with the anode and the size that stand there, is e
    pub fields_there : (k : Kind) → kind_read (get_or (block_of img (get_or index (10984 + j) 0)) (get_or index (14428 + j) 0 + 1) 0) ≡ Ok k
        → entered img (record {
          kind = k;
          anode = record { 0 = be16 (block_of img (get_or index (10984 + j) 0)) (get_or index (14428 + j) 0 + 2) };
          size = be32 (block_of img (get_or index (10984 + j) 0)) (get_or index (14428 + j) 0 + 4);
          start = get_or index (10984 + j) 0 * 512 + get_or index (14428 + j) 0;
        }) ≡ e
    unfolding entry_in
    fields_there k said =
        let f = found_fields _ _ _ stands_there in
        let kind : k ≡ t.entry.kind = let both = sym said ∙ f.0 in cc in
        let anode : t.entry.anode.0 ≡ be16 (block_of img (get_or index (10984 + j) 0)) (get_or index (14428 + j) 0 + 2) = ap (λ (x : Entry). x.anode.0) f.1 in
        let size : t.entry.size ≡ be32 (block_of img (get_or index (10984 + j) 0)) (get_or index (14428 + j) 0 + 4) = ap (λ (x : Entry). x.size) f.1 in
        rw (kind, ← anode, ← size) (stands_read t.entry stands_there)

  -- its folded name
  name_there : {h : ℕ} → EntryIn img h e → name_of img index j ≡ folded e.name
  unfolding name_of folded_in name_at
  name_there m = rw (its_block, its_place) (ap folded (sym (entry_name m)))

-- ---- the entries of a list by their places in it

kth : (l : List Entered) (k : ℕ) → k < length l → (e : Entered) × Member e l × (get_or (starts_of l) k 0 ≡ e.start)
unfolding starts_of
kth [] k h = absurd (not-suc-le-zero h)
kth (e ∷ l) zero h = (e, member-first e l, refl)
kth (e ∷ l) (suc k) h = let (x, m, s) = kth l k (omega arith) in (x, member-later x e l m, s)

place_of : (e : Entered) (l : List Entered) → Member e l → (k : ℕ) × (k < length l) × (get_or (starts_of l) k 0 ≡ e.start)
unfolding starts_of
place_of e l (before, after, parted) = (
  length before,
  omega (arith, ap length parted, length-append before (e ∷ after)),
  rw (parted, starts_append before (e ∷ after)) (get_or_at (starts_of before) e.start (starts_of after) 0 (length before) (length_starts before)),
)

-- a name that none of them has is not found
none_named : (name : List ℕ) (l : List Entered) → ((e : Entered) → Member e l → folded e.name ≢ folded name) → first_named name l ≡ none
unfolding first_named is_named
none_named name [] other = refl
none_named name (e ∷ l) other = go (same_bytes (folded e.name) (folded name)) refl (none_named name l (λ x m. other x (member-later x e l m)))
  where
    go : (t : Bool) → same_bytes (folded e.name) (folded name) ≡ t → first_named name l ≡ none → ◌≡◌ {A = Option Entered} (elim t [ true ↦ some e | false ↦ first_named name l ]) none
    go true same rest = absurd (other e (member-first e l) (same_name (folded e.name) (folded name) (rw same tt)))
    go false same rest = rest

-- ---- a name among the entries of a span

module _ {img index : List ℕ} {span : Span} {h : ℕ} (t : SpanOf img index span (entries_of img (anodes_of img) h)) (d : HeadsDirectory img h) (name : List ℕ) where
  abbrev its : List Entered
  its = entries_of img (anodes_of img) h

  abbrev has : ℕ → Bool
  has = is_same img index span.from (folded name)

  start-at : (k : ℕ) → k < length its → start_of index (span.from + k) ≡ get_or (starts_of its) k 0
  start-at k l = sym (starts_at index span.from (length its) k l) ∙ ap (λ (z : List ℕ). get_or z k 0) t.starts

  -- an entry with that name is met by its number
  has_there : (e : Entered) → Member e its → folded e.name ≡ folded name → (j : ℕ) × (j < span.upto) × (has j ≡ true)
  unfolding is_same
  has_there e m q =
      let (k, l, s) = place_of e its m in
      let j = span.from + k in
      let below : j < span.upto = omega (arith, t.whole, l) in
      let n = name_there img index j e (t.within j (omega arith) below) (start-at k l ∙ s) (record { directory = headed-entry img h d e m; member = m }) in
      (j, below, rw (le-leb span.from j (omega arith), n, q) (T_true (same_bytes (folded name) (folded name)) (name_same (folded name))))

  -- where no number has the name, no entry has
  pub named_missing : last_below has span.upto ≡ 0 → entry_named img (anodes_of img) h name ≡ none
  unfolding entry_named
  named_missing z = none_named name its (λ e m q. let (j, l, s) = has_there e m q in true≢false (sym s ∙ any_below_each has j span.upto l (any_last has span.upto ∙ rw z)))

  -- an entry with that name is the one that a lookup finds
  named_only : (e : Entered) → Member e its → folded e.name ≡ folded name → entry_named img (anodes_of img) h name ≡ some e
  unfolding entry_named
  named_only e m q = go (entry_named img (anodes_of img) h name) refl
    where
      go : (o : Option Entered) → entry_named img (anodes_of img) h name ≡ o → entry_named img (anodes_of img) h name ≡ some e
      go none p = absurd (omega (
        arith,
        none-counted name its p,
        member-sum (λ x. one_same (folded x.name) (folded name)) e its m,
        ap (λ (u : List ℕ). one_same u (folded name)) q,
        one_same-same (folded name),
      ))
      go (some x) p =
          let r = headed-entry img h d e m in
          let apart = accepted-names_apart img r.image.blocks r.image.anodes r.image.accepted in
          p ∙ ap (λ (y : Entered). some y) (sym (apart.only h r.reached name x p e m q))

  -- what is known of the entry whose number is found
  pub record NumberFound (j : ℕ) : Type 0 where
    pub entry : Entered
    pub within : InBlock index j
    pub start : start_of index j ≡ entry.start
    pub stands : StandsAt img entry
    pub named : entry_named img (anodes_of img) h name ≡ some entry

  pub number_found : (last : ℕ) → last ≡ last_below has span.upto → last ≢ 0 → NumberFound (last - 1)
  unfolding is_same
  number_found last is Some-number =
      let j = last - 1 in
      let hit = last_passes has span.upto j (sym is ∙ (omega arith)) in
      let two = both (leb span.from j) (same_bytes (folded name) (name_of img index j)) (rw hit tt) in
      let low : span.from ≤ j = leb-true span.from j (T_true (leb span.from j) two.0) in
      let high : j < span.upto = omega (arith, is, last-le has span.upto) in
      let k = j - span.from in
      let inside : k < length its = omega (arith, t.whole) in
      let (e, m, s) = kth its k inside in
      let there : span.from + k ≡ j = omega arith in
      let start : start_of index j ≡ e.start = sym (ap (start_of index) there) ∙ start-at k inside ∙ s in
      let own : EntryIn img h e = record { directory = headed-entry img h d e m; member = m } in
      let n = name_there img index j e (t.within j low high) start own in
      record {
        entry = e;
        within = t.within j low high;
        start = start;
        stands = (entry-facts own).stands;
        named = named_only e m (sym n ∙ sym (same_name (folded name) (name_of img index j) two.1));
      }
