-- The image in which a file is resized, its entry's block in its old place or a new one, holds the new tree: the file has that size and its bytes, cut off or with zeros behind them; all else is as it was.
use Rattle.std.specs.Prelude.{ℕ, ◌+◌, ◌-◌, ◌*◌, ◌/◌, ◌%◌, ◌≡◌, refl, ◌≢◌, Bool, true, false, List, [], ◌++◌}
use Rattle.std.proofs.Common.{sym, ◌∙◌, inl, inr, arith}
use Rattle.std.proofs.Math.Path.{ap, ap₂}
use Rattle.std.proofs.Math.Option.{some}
use Rattle.std.proofs.Math.ListN.{take, replicate}
use Rattle.endian.specs.Bytes.{put32}
use Rattle.disk.specs.Blocks.{block_of}
use Rattle.directory.proofs.Laws.{FoundAt}
use Rattle.rules.specs.Anodes.{Anodes, anodes_of}
use Rattle.rules.specs.Walk.{Entered, blocks_for}
use Rattle.rules.specs.Lookup.{entry_named, bytes_of, contents}
use Rattle.laws.specs.Tests.{same?}
use Rattle.change_laws.specs.Image.{AcceptedImage, accepted_whole}
use Rattle.change_laws.specs.Reached.{EntryIn, EntryFacts, entry-facts, block_entry, not-file}
use Rattle.change_laws.specs.FoundEntries.{standing_found}
use Rattle.change_laws.specs.SingleBlocks.{single_apart}
use Rattle.change_laws.specs.Read.{bytes_long}
use Rattle.change_laws.specs.Resize.{resized_entry, resized_it, resized_other, resized_fields}
use Rattle.change_laws.specs.ResizeEntries.{block_order}
use Rattle.paths.specs.Facts.{Facts, facts_in, facts_of}
use Rattle.safe_rules.specs.SafePlans.{resized_bytes}
use Rattle.safe_rules.specs.SafeCalls.{safe_resize}
use Rattle.safe_laws.specs.Claims.{with_contents, facts_after, tree_after, NewTree}
use Rattle.safe_laws.specs.ChangedEntry.{changed_tree}
use Rattle.safe_laws.specs.WrittenTree.{file-facts, file-bytes}
use Rattle.safe_laws.specs.MovedEntries.{placed_at}
use Rattle.safe_laws.specs.PlacedEntries.{placed_if, if_fields, if_other, if-moved}
use Rattle.safe_laws.specs.SizedEntries.{resized-start, EntrySized, named-now}
use Rattle.safe_laws.specs.FactsKept.{facts-sized, facts_beside}
use Rattle.safe_laws.specs.ResizedBytes.{take-resized}

-- a directory's facts
dir_facts : (img : List ℕ) (x : Entered) → x.dir ≡ true → facts_of img x ≡ facts_in (block_of img (x.start / 512)) (x.start % 512) 0 []
unfolding facts_of
dir_facts img x dir = rw dir refl

-- a file's facts with another size and other bytes
file-changed : (img : List ℕ) (x : Entered) → x.dir ≡ false → (n : ℕ) (l : List ℕ) → with_contents (facts_of img x) n l ≡ facts_in (block_of img (x.start / 512)) (x.start % 512) n l
unfolding facts_in with_contents
file-changed img x file n l = ap (λ (f : Facts). with_contents f n l) (file-facts img x file)

-- the file e has the size `new` in its entry, whose block is block z, and in its blocks the bytes that a resize leaves there; all else is as it was
pub record FileSized (img j : List ℕ) (t : Anodes) {h : ℕ} {e : Entered} (m : EntryIn img h e) (new z : ℕ) : Type 0 where
  pub entries : EntrySized img j t m new z
  pub bytes-now : bytes_of j t e.anode ≡ resized_bytes (bytes_of img (anodes_of img) e.anode) e.size new

-- the bytes in the blocks of the file
pub bytes-there : {img j : List ℕ} {t : Anodes} {h : ℕ} {e : Entered} {m : EntryIn img h e} {new z : ℕ} → FileSized img j t m new z → bytes_of j (anodes_of j) e.anode ≡ resized_bytes (bytes_of img (anodes_of img) e.anode) e.size new
bytes-there {j = j} {e = e} l = ap (λ (a : Anodes). bytes_of j a e.anode) l.entries.anodes ∙ l.bytes-now

module _ {img j : List ℕ} {t : Anodes} {k : ℕ} {e : Entered} {m : EntryIn img k e} {new z : ℕ} (l : FileSized img j t m new z) (file : e.dir ≡ false) where
  -- the old anodes
  abbrev s : Anodes
  s = anodes_of img

  -- the accepted image
  abbrev image : AcceptedImage img
  image = m.directory.image

  -- what is known of the entry
  abbrev facts : EntryFacts img k e
  facts = entry-facts m

  -- its block
  abbrev y : ℕ
  y = e.start / 512

  -- its place there
  abbrev pos : ℕ
  pos = e.start % 512

  -- the new size
  abbrev ρ : Entered → Entered
  ρ = resized_entry e.anode new

  -- what becomes of an entry
  abbrev φ : Entered → Entered
  φ x = placed_if (e.start / 512) z (resized_entry e.anode new x)

  -- it keeps its kind and its anode
  keeps : (x : Entered) → ((φ x).dir ≡ x.dir) × ((φ x).anode ≡ x.anode)
  keeps x = let m = if_fields y z (ρ x) in let r = resized_fields e.anode new x in (m.1 ∙ r.1, m.2 ∙ r.2)

  -- the contents that an entry has then
  contents_under : (x : Entered) (n : ℕ) → (φ x).size ≡ n → contents j (anodes_of j) (φ x) ≡ take n (bytes_of j t x.anode)
  unfolding contents
  contents_under x n same = ap₂ (λ (m : ℕ) (a : ℕ). take m (bytes_of j (anodes_of j) a)) same (keeps x).1 ∙ ap (λ (a : Anodes). take n (bytes_of j a x.anode)) l.entries.anodes

  -- an entry of the block stands as far into it
  placed-start : (x : Entered) → x.start / 512 ≡ y → (φ x).start ≡ z * 512 + (x.start - y * 512)
  unfolding placed_at
  placed-start x i = ap (λ (c : Entered). c.start) (if-moved y z (ρ x) (ap (λ (n : ℕ). n / 512) (resized-start e.anode new x) ∙ i)) ∙ ap (λ (n : ℕ). z * 512 + (n - y * 512)) (resized-start e.anode new x)

  -- so its facts are those of the block with the new size
  placed-facts : (x : Entered) → x.start / 512 ≡ y → (size : ℕ) (bytes : List ℕ) →
      facts_in (block_of j ((φ x).start / 512)) ((φ x).start % 512) size bytes ≡ facts_in (put32 (block_of img y) (pos + 4) new) (x.start % 512) size bytes
  placed-facts x i size bytes =
      let q = placed-start x i in
      let block : (φ x).start / 512 ≡ z = omega (arith, q, i) in
      let at : (φ x).start % 512 ≡ x.start % 512 = omega (arith, q, i) in
      ap₂ (λ (b : List ℕ) (n : ℕ). facts_in b n size bytes) (ap (block_of j) block ∙ l.entries.block_now) at

  -- ---- another entry

  module _ (h : ℕ) (x : Entered) (n : EntryIn img h x) (o : x.anode ≢ e.anode) where
    -- what is known of it
    abbrev g : EntryFacts img h x
    g = entry-facts n

    -- its size is the same
    size_same : (φ x).size ≡ x.size
    size_same = (if_fields y z (ρ x)).4 ∙ ap (λ (c : Entered). c.size) (resized_other e.anode new x o)

    -- its fields where it stands in the block of the file's entry
    beside : g.a₀ ≡ facts.a₀ → (size : ℕ) (bytes : List ℕ) → facts_in (block_of j ((φ x).start / 512)) ((φ x).start % 512) size bytes ≡ facts_in (block_of img (x.start / 512)) (x.start % 512) size bytes
    beside i size bytes =
        let here : x.start / 512 ≡ y = g.in_block_lem ∙ ap s.block i ∙ sym facts.in_block_lem in
        let found : FoundAt (block_of img y) (x.start % 512) = rw here at (standing_found g.stands) in
        placed-facts x here size bytes ∙ facts_beside (block_of img y) pos new (block_entry facts).whole (x.start % 512) found (block_order facts g o i) size bytes
        ∙ ap (λ (m : ℕ). facts_in (block_of img m) (x.start % 512) size bytes) (sym here)

    -- and where it stands in another one
    away : g.a₀ ≢ facts.a₀ → (size : ℕ) (bytes : List ℕ) → facts_in (block_of j ((φ x).start / 512)) ((φ x).start % 512) size bytes ≡ facts_in (block_of img (x.start / 512)) (x.start % 512) size bytes
    away a size bytes =
        let r = n.directory in
        let off : x.start / 512 ≢ y = λ i. single_apart (accepted_whole image).good g.a₀ g.block_facts.one facts.a₀ facts.block_facts.one a (sym g.in_block_lem ∙ i ∙ facts.in_block_lem) in
        let is : φ x ≡ x = ap (placed_if y z) (resized_other e.anode new x o) ∙ if_other y z x off in
        let block = ap (block_of j) g.in_block_lem ∙ l.entries.blocks-kept h r (not-file r facts file) g.a₀ g.member-chain a ∙ ap (block_of img) (sym g.in_block_lem) in
        ap (λ (c : Entered). facts_in (block_of j (c.start / 512)) (c.start % 512) size bytes) is ∙ ap (λ (b : List ℕ). facts_in b (x.start % 512) size bytes) block

    -- so its fields are the same
    fields_same : (size : ℕ) (bytes : List ℕ) → facts_in (block_of j ((φ x).start / 512)) ((φ x).start % 512) size bytes ≡ facts_in (block_of img (x.start / 512)) (x.start % 512) size bytes
    fields_same = elim (same? g.a₀ facts.a₀) [ inl i ↦ beside i | inr i ↦ away i ]

    -- and a file's contents
    contents_other : x.dir ≡ false → contents j (anodes_of j) (φ x) ≡ contents img s x
    unfolding contents
    contents_other d = contents_under x x.size size_same ∙ l.entries.files h x n d o

    -- its facts are the same
    other_facts : facts_of j (φ x) ≡ facts_of img x
    other_facts = go x.dir refl
      where
        go : (b : Bool) → x.dir ≡ b → facts_of j (φ x) ≡ facts_of img x
        go true d = dir_facts j (φ x) ((keeps x).0 ∙ d) ∙ fields_same 0 [] ∙ sym (dir_facts img x d)
        go false d = file-facts j (φ x) ((keeps x).0 ∙ d) ∙ ap₂ (λ (m : ℕ) (l : List ℕ). facts_in (block_of j ((φ x).start / 512)) ((φ x).start % 512) m l) size_same (contents_other d)
            ∙ fields_same x.size (contents img s x) ∙ sym (file-facts img x d)

  -- ---- the file

  -- it has the new size
  size_now : (φ e).size ≡ new
  size_now = (if_fields y z (ρ e)).4 ∙ ap (λ (c : Entered). c.size) (resized_it e.anode new e refl)

  -- and the new contents
  contents-now : contents j (anodes_of j) (φ e) ≡ take new (contents img s e ++ replicate new 0)
  unfolding contents blocks_for
  contents-now = contents_under e new size_now ∙ ap (take new) l.bytes-now ∙ take-resized (bytes_of img s e.anode) e.size new (omega (arith, bytes_long m file))

  -- so its facts are the new ones
  own_facts : facts_of j (φ e) ≡ with_contents (facts_of img e) new (take new ((facts_of img e).bytes ++ replicate new 0))
  own_facts =
      let c = take new (contents img s e ++ replicate new 0) in
      file-facts j (φ e) ((keeps e).0 ∙ file)
      ∙ ap₂ (λ (m : ℕ) (l : List ℕ). facts_in (block_of j ((φ e).start / 512)) ((φ e).start % 512) m l) size_now contents-now
      ∙ placed-facts e refl new c ∙ facts-sized (block_of img y) pos new (block_entry facts).whole (standing_found facts.stands) new c
      ∙ sym (file-changed img e file new c) ∙ ap (λ (c : List ℕ). with_contents (facts_of img e) new (take new (c ++ replicate new 0))) (sym (file-bytes img e file))

  -- THE NEW TREE OF A RESIZE
  pub sized_tree : (name : List ℕ) → entry_named img (anodes_of img) k name ≡ some e → NewTree img (safe_resize k name new) j
  unfolding tree_after facts_after
  sized_tree name found = changed_tree image j l.entries.anodes φ keeps (named-now new l.entries file) m.directory name found (λ f. with_contents f new (take new (f.bytes ++ replicate new 0))) other_facts own_facts
