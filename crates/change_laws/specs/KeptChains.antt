-- A chain that a change leaves as it is: the same anodes with the same extents, and the same bytes in its blocks. So a directory has the entries that it had, and a file the bytes.
use Rattle.std.specs.Prelude.{ℕ, ◌<◌, ◌≡◌, refl, ◌≢◌, false, List, take}
use Rattle.std.proofs.Common.{sym, ◌∙◌}
use Rattle.std.proofs.Math.Path.{ap}
use Rattle.disk.specs.Blocks.{block_of}
use Rattle.rules.specs.Counting.{occurrences, gather}
use Rattle.rules.specs.Anodes.{Anodes, limit, anodes_of}
use Rattle.rules.specs.Chains.{chain_of, blocks_of}
use Rattle.rules.specs.Walk.{Entered, entries_in}
use Rattle.rules.specs.Lookup.{entries_of, bytes_of, contents}
use Rattle.laws.specs.Bags.{gather-kept}
use Rattle.laws.specs.Heads.{Head}
use Rattle.laws.specs.Space.{Alike}
use Rattle.laws.specs.ChainBlocks.{extent, kept-blocks}
use Rattle.laws.specs.Members.{Member, gather_congr}
use Rattle.frames.specs.StoredBytes.{BlocksKept, bytes_of-kept}
use Rattle.change_laws.specs.Image.{ReachedDir}
use Rattle.change_laws.specs.Reached.{EntryIn, entry-not-1, block_on, reached-not-1, reached_head, dir_block, not-file, entry-facts}
use Rattle.change_laws.specs.EntryBytes.{entry_bytes}

-- the chain of h has the anodes in t that it has in s, and they the extents
pub record SameChain (s t : Anodes) (h : ℕ) : Type 0 where
  pub same_anodes : chain_of t.next limit h ≡ chain_of s.next limit h
  pub same_extents : (a : ℕ) → 0 < occurrences a (chain_of s.next limit h) → (t.count a ≡ s.count a) × (t.block a ≡ s.block a)

pub same-chain_alike : {s t : Anodes} {h : ℕ} → chain_of t.next limit h ≡ chain_of s.next limit h → ((a : ℕ) → 0 < occurrences a (chain_of s.next limit h) → Alike s t a) → SameChain s t h
same-chain_alike e alike = record { same_anodes = e; same_extents = λ a q. let k = alike a q in (k.same_count, k.same_block) }

pub same-chain_own : (s : Anodes) (h : ℕ) → SameChain s s h
same-chain_own s h = record { same_anodes = refl; same_extents = λ a p. (refl, refl) }

module _ {s t : Anodes} {h : ℕ} (c : SameChain s t h) where
  pub same_blocks : blocks_of t h ≡ blocks_of s h
  unfolding extent
  same_blocks = kept-blocks s t h c.same_anodes (λ a p. let e = c.same_extents a p in rw (e.0, e.1))

  -- the entries of a directory, block by block
  pub entries_along : (j : List ℕ) → entries_of j t h ≡ gather (λ a. entries_in j (s.block a)) (chain_of s.next limit h)
  unfolding entries_of
  entries_along j =
      ap (gather (λ a. entries_in j (t.block a))) c.same_anodes
      ∙ gather-kept (λ a. entries_in j (s.block a)) (λ a. entries_in j (t.block a)) (chain_of s.next limit h) (λ a on. ap (entries_in j) (c.same_extents a on).1)

-- a file
pub contents-same : (img j : List ℕ) {s t : Anodes} (e : Entered) → SameChain s t e.anode → BlocksKept img j s e.anode → contents j t e ≡ contents img s e
unfolding contents bytes_of
contents-same img j {s} e c kept = rw (same_blocks c) (ap (take e.size) (bytes_of-kept img j s e.anode kept))

-- a reached directory
module _ {img : List ℕ} {h : ℕ} (r : ReachedDir img h) (j : List ℕ) (kept : BlocksKept img j (anodes_of img) h) where
  pub block_same : (a : ℕ) → Member a (chain_of (anodes_of img).next limit h) → block_of j ((anodes_of img).block a) ≡ block_of img ((anodes_of img).block a)
  block_same a on = kept ((anodes_of img).block a) (block_on (anodes_of img) h a on (dir_block r a on).one)

  pub entries_same : {t : Anodes} → SameChain (anodes_of img) t h → entries_of j t h ≡ entries_of img (anodes_of img) h
  unfolding entries_of entries_in
  entries_same c =
      let s = anodes_of img in
      entries_along c j ∙ gather_congr (λ a. entries_in j (s.block a)) (λ a. entries_in img (s.block a)) (chain_of s.next limit h) (λ a on. rw (block_same a on))

  -- its entries have the bytes that they had
  pub entry-bytes-same : {e : Entered} → EntryIn img h e → entry_bytes j e.start ≡ entry_bytes img e.start
  unfolding entry_bytes
  entry-bytes-same m =
      let f = entry-facts m in
      rw (f.in_block_lem, block_same f.a₀ f.member-chain)

-- a change leaves j with the anodes t, and leaves alone every chain but 1's and that of own, and their blocks but home's
pub record OthersLeft (img j : List ℕ) (t : Anodes) (own home : ℕ) : Type 0 where
  pub same_chains : (m : ℕ) → Head (anodes_of img).next (anodes_of img).block m → m ≢ 1 → m ≢ own → SameChain (anodes_of img) t m
  pub blocks-kept : (m : ℕ) → Head (anodes_of img).next (anodes_of img).block m → m ≢ 1 → m ≢ own → m ≢ home → BlocksKept img j (anodes_of img) m

module _ {img j : List ℕ} {t : Anodes} {own home : ℕ} (o : OthersLeft img j t own home) where
  -- a file of another chain has the bytes that it had
  pub contents-left : ReachedDir img home → {k : ℕ} {f : Entered} → EntryIn img k f → f.dir ≡ false → f.anode ≢ own → contents j t f ≡ contents img (anodes_of img) f
  contents-left r {f = f} m file apart =
      let g = entry-facts m in
      contents-same img j f (o.same_chains f.anode g.head (entry-not-1 g) apart) (o.blocks-kept f.anode g.head (entry-not-1 g) apart (λ i. not-file r g file (sym i)))

  -- another directory has the entries that it had
  pub entries_left : {k : ℕ} → ReachedDir img k → k ≢ own → k ≢ home → entries_of j t k ≡ entries_of img (anodes_of img) k
  entries_left {k} r not_own not_home =
      entries_same r j (o.blocks-kept k (reached_head r) (reached-not-1 r) not_own not_home) (o.same_chains k (reached_head r) (reached-not-1 r) not_own)
