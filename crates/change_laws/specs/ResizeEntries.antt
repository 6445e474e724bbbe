-- What the directories hold after a resize: the entry has its new size, and all else is as it was.
use Rattle.std.specs.Prelude.{ℕ, ◌+◌, ◌/◌, ◌%◌, ◌≤◌, ◌≡◌, refl, ◌≢◌, ◌⊎◌, length, take, drop}
use Rattle.std.proofs.Math.Path.{sym, ap}
use Rattle.std.proofs.Common.{◌∙◌}
use Rattle.std.proofs.Math.Logic.{inl, inr}
use mathlib.Core.List.{List, ◌∷◌, ◌++◌, map, append_assoc}
use native.Mathlib.Omega.{arith}
use Rattle.std.proofs.Math.ListN.{get_or}
use Rattle.endian.specs.Bytes.{put32}
use Rattle.endian.proofs.Laws.{length-put32, get_or-put32_other, part_same, part-put32}
use Rattle.disk.specs.Blocks.{block_of}
use Rattle.rules.specs.Counting.{one_at}
use Rattle.rules.specs.Anodes.{Anodes, limit, anodes_of}
use Rattle.rules.specs.Chains.{chain_of}
use Rattle.rules.specs.Walk.{Entered, entries_in}
use Rattle.rules.specs.Plans.{Slotted}
use Rattle.rules.specs.Lookup.{no_directory, entries_of}
use Rattle.rules.specs.Changes.{resized_image}
use Rattle.laws.specs.Tests.{same?}
use Rattle.laws.specs.Members.{Member, member-cons, member-append, gather_congr, map-gather}
use Rattle.change_laws.specs.Image.{reached-sum, headed-same, ReachedDir}
use Rattle.change_laws.specs.FoundEntries.{standing_found, start_order}
use Rattle.change_laws.specs.Reached.{EntryIn, EntryFacts, block_entry, reached_dir, entry-facts}
use Rattle.change_laws.specs.KeptChains.{entries_along, entries_left}
use Rattle.change_laws.specs.NamedOnce.{only_home}
use Rattle.change_laws.specs.EntryBytes.{entry_bytes, with-length}
use Rattle.change_laws.specs.NewSize.{sized}
use Rattle.change_laws.specs.PlannedChange.{image, facts}
use Rattle.change_laws.specs.ResizeStores.{PlannedResize, others_left, head_not-file, dir_same, other_block, this_block, resized-disk}
use Rattle.change_laws.specs.Resize.{resized_entry, one-resized, block_left, still_whole}

-- of two entries of one block the one ends before the other or starts behind its size
module _ {img : List ℕ} {h k : ℕ} {e f : Entered} (of_e : EntryFacts img h e) (of_f : EntryFacts img k f) (apart : f.anode ≢ e.anode) where
  pub block_order : of_f.a₀ ≡ of_e.a₀ → (f.start % 512 + get_or (block_of img (e.start / 512)) (f.start % 512) 0 ≤ e.start % 512) ⊎ (e.start % 512 + 8 ≤ f.start % 512)
  unfolding entries_in
  block_order i =
      let y = e.start / 512 in
      let pos = e.start % 512 in
      let at = f.start % 512 in
      let same : f.start / 512 ≡ y = of_f.in_block_lem ∙ ap (anodes_of img).block i ∙ sym of_e.in_block_lem in
      let its_own : (anodes_of img).block of_f.a₀ ≡ y = sym of_f.in_block_lem ∙ same in
      let here = block_entry of_e in
      let e_in = here.parted in
      let n : Member f (e_in.0 ++ (e ∷ e_in.1)) = rw (its_own, e_in.2) at of_f.member in
      elim (member-append f e_in.0 (e ∷ e_in.1) n) [
        | inl q ↦ inl (omega (
          arith,
          same,
          start_order (block_of img y) y at f e (omega arith) q.1 e_in.1 q.0 28 16
              (e_in.2 ∙ ap (λ (l : List Entered). l ++ (e ∷ e_in.1)) q.2 ∙ append_assoc q.0 (f ∷ q.1) (e ∷ e_in.1)) here.unbroken,
        ))
        | inr q ↦ elim (member-cons f e e_in.1 q) [
          | inl c ↦ absurd (apart (ap (λ (x : Entered). x.anode) c))
          | inr c ↦ inr (omega (
            arith,
            same,
            (standing_found of_e.stands).long,
            start_order (block_of img y) y pos e f (omega arith) c.0 c.1 e_in.0 28 16 (e_in.2 ∙ ap (λ (l : List Entered). e_in.0 ++ (e ∷ l)) c.2) here.unbroken,
          ))
        ]
      ]

module _ {img : List ℕ} {e : Entered} {new : ℕ} {u : Slotted} {ys : List ℕ} (p : PlannedResize img e new u ys) where
  abbrev t : Anodes
  t = u.anodes

  abbrev s : Anodes
  s = anodes_of img

  -- the image that a resize leaves
  abbrev j : List ℕ
  j = resized_image img s e new u ys

  -- the same directories are reached
  pub resized-reached : (k : ℕ) → no_directory j t k ≡ no_directory img s k
  resized-reached k = headed-same img j s t k (rw (resized-disk p).anodes at (reached-sum (resized-disk p) (still_whole p) (λ d. one_at d.head k)))

  -- the directory k
  module _ {k : ℕ} (r : ReachedDir img k) where
    -- every other directory has the entries that it had
    pub entries_resized_other : k ≢ p.home → entries_of j t k ≡ entries_of img s k
    entries_resized_other = entries_left (others_left p) r (head_not-file p r)

    all_entries : entries_of j t k ≡ map (resized_entry e.anode new) (entries_of img s k)
    unfolding entries_of
    all_entries =
        let d = reached_dir r in
        let chain = chain_of s.next limit k in
        entries_along (dir_same p r) j
        ∙ gather_congr (λ a. entries_in j (s.block a)) (λ a. map (resized_entry e.anode new) (entries_in img (s.block a))) chain (λ a on. block_left p d.0 d.1 a (rw d.2 on))
        ∙ sym (map-gather (resized_entry e.anode new) (λ a. entries_in img (s.block a)) chain)

  -- its own has the entry with its new size
  pub entries_resized : (before behind : List Entered) → entries_of img s p.home ≡ before ++ (e ∷ behind) → entries_of j t p.home ≡ before ++ (sized new e ∷ behind)
  entries_resized before behind parted =
      all_entries p.entry.directory ∙ ap (map (resized_entry e.anode new)) parted
      ∙ one-resized e.anode new before e behind refl (only_home (image p) (facts p) before behind parted)

  -- ---- the bytes of the entries

  abbrev y : ℕ
  y = e.start / 512

  abbrev pos : ℕ
  pos = e.start % 512

  -- its block has the new size
  pub home_block : block_of j y ≡ put32 (block_of img y) (pos + 4) new
  home_block = rw (facts p).in_block_lem
      (this_block p p.entry.directory (facts p).a₀ (facts p).member-chain refl)

  long : 18 ≤ get_or (block_of img y) pos 0
  long = (standing_found (facts p).stands).long

  -- of an entry that ends before the size, or starts behind it
  apart_bytes : (b : List ℕ) (at len pos : ℕ) → length b ≡ 512 → at + len ≤ 510 → (at + len ≤ pos) ⊎ (pos + 8 ≤ at) →
      take len (drop at (put32 b (pos + 4) new)) ≡ take len (drop at b)
  apart_bytes b at len pos whole room apart =
      part_same (put32 b (pos + 4) new) b at at len (omega (arith, length-put32 b (pos + 4) new)) (omega arith) (λ i l. get_or-put32_other b (pos + 4) new (at + i) (elim apart [
        | inl q ↦ inl (omega arith)
        | inr q ↦ inr (omega arith)
      ]))

  module _ {k : ℕ} {f : Entered} (m : EntryIn img k f) (apart : f.anode ≢ e.anode) where
    g : EntryFacts img k f
    g = entry-facts m

    -- with the same anode it stands in the entry's block
    in_y : g.a₀ ≡ (facts p).a₀ → f.start / 512 ≡ y
    in_y i = g.in_block_lem ∙ ap s.block i ∙ sym (facts p).in_block_lem

    -- in the same block it ends before the entry or starts behind it
    order : g.a₀ ≡ (facts p).a₀ → (f.start % 512 + get_or (block_of img y) (f.start % 512) 0 ≤ pos) ⊎ (pos + 8 ≤ f.start % 512)
    order = block_order (facts p) g apart

    -- other entries keep all their bytes
    pub bytes-resized_other : entry_bytes j f.start ≡ entry_bytes img f.start
    unfolding entry_bytes
    bytes-resized_other = elim (same? g.a₀ (facts p).a₀) [
      | inr n ↦ rw (g.in_block_lem, other_block p m.directory g.a₀ g.member-chain n)
      | inl i ↦ (let same = in_y i in
          let at = f.start % 512 in
          let its_long : 18 ≤ get_or (block_of img y) at 0 = rw same at (standing_found g.stands).long in
          rw (same, home_block) (with-length (put32 (block_of img y) (pos + 4) new) (block_of img y) at at (omega arith)
          (apart_bytes (block_of img y) at (get_or (block_of img y) at 0) pos (block_entry (facts p)).whole (rw same at g.stands.before) (order i))))
    ]

  -- of the entry only the size changes
  pub bytes-resized : entry_bytes j e.start ≡ put32 (entry_bytes img e.start) 4 new
  unfolding entry_bytes
  bytes-resized = rw (home_block, get_or-put32_other (block_of img y) (pos + 4) new pos (inl (omega arith))) (part-put32 (block_of img y) pos (get_or (block_of img y) pos 0) new (omega (arith, long)))
