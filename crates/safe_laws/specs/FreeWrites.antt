-- Stores in blocks of the free list alone: the image stays accepted, and holds the same tree.
use Rattle.std.specs.Prelude.{ℕ, ◌/◌, ◌≡◌, Bool}
use Rattle.std.proofs.Math.Path.{refl, sym, ap}
use Rattle.std.proofs.Math.Bool.{true, false, cond}
use mathlib.Core.List.{List, [], ◌∷◌}
use Rattle.std.proofs.Math.Option.{Option, none, some}
use Rattle.disk.specs.Blocks.{block_of}
use Rattle.rules.specs.Counting.{occurrences}
use Rattle.rules.specs.Anodes.{Anodes, limit, anodes_of}
use Rattle.rules.specs.Chains.{chain_of, blocks_of}
use Rattle.rules.specs.Walk.{Dir, Entered, entries_in, is_block_of, items_for, items_at, items_by, reached_dirs}
use Rattle.rules.specs.Lookup.{entries_of, entry_named, of_entry, contents}
use Rattle.laws.specs.Space.{head_1}
use Rattle.laws.specs.Members.{Member, gather_congr}
use Rattle.frames.specs.Kept.{Kept}
use Rattle.frames.specs.DisjointBlocks.{chains_apart, chain_block}
use Rattle.frames.specs.StoredBytes.{BlocksKept}
use Rattle.change_laws.specs.Image.{AcceptedWhole, AcceptedImage, StillAccepted, accepted_whole, accepted_right, DiskWith, disk_own, not_among, disk_then, whole_accepted, ReachedDir}
use Rattle.change_laws.specs.SameItems.{whole_same}
use Rattle.change_laws.specs.KeptChains.{same-chain_own, block_same, entries_same, contents-same}
use Rattle.change_laws.specs.Reached.{EntryIn, member-reached, reached_head, reached-not-1, entry-facts, entry-not-1}
use Rattle.paths.specs.Paths.{Path, Site, site_from, of_site, entry_from}
use Rattle.paths.specs.Facts.{Facts, facts_of, facts_at, SameTree}
use Rattle.paths.specs.Reached.{found_in, root-reached, sub-reached, site-reached}

-- j has all blocks of img but some of its free list
module _ {img : List ℕ} (image : AcceptedImage img) {j : List ℕ} (kept : Kept (λ y. occurrences y (blocks_of (anodes_of img) 1) ≡ 0) img j) where
  abbrev s : Anodes
  s = anodes_of img

  w : AcceptedWhole img
  w = accepted_whole image

  free-disk : DiskWith img s j
  free-disk = disk_then (disk_own img) kept (not_among (blocks_of s 1) (chain_block img w.good 1 (head_1 w.good)))

  same_anodes : anodes_of j ≡ s
  same_anodes = free-disk.anodes

  dir_kept : {k : ℕ} → ReachedDir img k → BlocksKept img j s k
  dir_kept {k} r y q = kept.block_kept y (chains_apart w.good k 1 (reached_head r) (head_1 w.good) (reached-not-1 r) y q)

  -- ---- accepted

  same-items : (d : Dir) → Member d (reached_dirs img s) → items_by (entries_in j) (is_block_of j) s d ≡ items_by (entries_in img) (is_block_of img) s d
  unfolding items_by items_for entries_in is_block_of
  same-items d in_tree =
      let r = member-reached image d in_tree in
      gather_congr (items_at (entries_in j) (is_block_of j) s d) (items_at (entries_in img) (is_block_of img) s d) (chain_of s.next limit d.head) (λ a on.
      rw (block_same r j (dir_kept r) a on))

  -- the image stays accepted
  pub free-accepted : StillAccepted image j
  free-accepted = whole_accepted free-disk (whole_same w (entries_in j) (is_block_of j) same-items) (accepted_right image)

  -- ---- the same tree

  -- a reached directory has the entries that it had
  free_entries : {k : ℕ} → ReachedDir img k → entries_of j s k ≡ entries_of img s k
  free_entries {k} r = entries_same r j (dir_kept r) (same-chain_own s k)

  -- and every file the bytes
  free-contents : {k : ℕ} {e : Entered} → EntryIn img k e → contents j s e ≡ contents img s e
  free-contents {e = e} m =
      let f = entry-facts m in
      contents-same img j e (same-chain_own s e.anode) (λ y q. kept.block_kept y (chains_apart w.good e.anode 1 f.head (head_1 w.good) (entry-not-1 f) y q))

  -- the block in which an entry stands
  entry_block_lem : {k : ℕ} {e : Entered} → EntryIn img k e → block_of j (e.start / 512) ≡ block_of img (e.start / 512)
  entry_block_lem m = let f = entry-facts m in rw f.in_block_lem (block_same m.directory j (dir_kept m.directory) f.a₀ f.member-chain)

  facts-same : {k : ℕ} {e : Entered} → EntryIn img k e → facts_of j e ≡ facts_of img e
  unfolding facts_of
  facts-same m = rw (same_anodes, entry_block_lem m, free-contents m)

  named-same : {k : ℕ} → ReachedDir img k → (name : List ℕ) → entry_named j s k name ≡ entry_named img s k name
  unfolding entry_named
  named-same r name = rw (free_entries r)

  site-same : (path : Path) (k : ℕ) → ReachedDir img k → site_from j s k path ≡ site_from img s k path
  unfolding site_from
  site-same [] k r = refl
  site-same (name ∷ []) k r = refl
  site-same (name ∷ next ∷ rest) k r = rw (named-same r name) (go (entry_named img s k name) refl (site-same (next ∷ rest)))
    where
      go : (o : Option Entered) → entry_named img s k name ≡ o → ((h : ℕ) → ReachedDir img h → site_from j s h (next ∷ rest) ≡ site_from img s h (next ∷ rest)) →
          of_entry o (λ e. cond e.dir (site_from j s e.anode (next ∷ rest)) none) none ≡ of_entry o (λ e. cond e.dir (site_from img s e.anode (next ∷ rest)) none) none
      go none is deeper = refl
      go (some e) is deeper = at_dir e.dir refl
        where
          at_dir : (b : Bool) → e.dir ≡ b → cond b (site_from j s e.anode (next ∷ rest)) none ≡ cond b (site_from img s e.anode (next ∷ rest)) none
          at_dir true q = deeper e.anode (sub-reached (found_in r name e is) q)
          at_dir false q = refl

  -- the image holds the same tree
  pub free_tree : SameTree img j
  unfolding facts_at entry_from
  free_tree path = sym (rw (same_anodes, site-same path 5 (root-reached image)) (go (site_from img s 5 path) refl))
    where
      at_entry : {k : ℕ} (name : List ℕ) → ReachedDir img k → (o : Option Entered) → entry_named img s k name ≡ o →
          of_entry o (λ e. some (facts_of j e)) none ≡ of_entry o (λ e. some (facts_of img e)) none
      at_entry name r none is = refl
      at_entry name r (some e) is = ap (λ (f : Facts). some f) (facts-same (found_in r name e is))

      go : (o : Option Site) → site_from img s 5 path ≡ o →
          of_entry (of_site o (λ p. entry_named j s p.directory p.name) none) (λ e. some (facts_of j e)) none
          ≡ of_entry (of_site o (λ p. entry_named img s p.directory p.name) none) (λ e. some (facts_of img e)) none
      go none is = refl
      go (some p) is =
          let r = site-reached path 5 (root-reached image) p is in
          rw (named-same r p.name) (at_entry p.name r (entry_named img s p.directory p.name) refl)
