-- What a removal leaves of all else: every other directory is reached and has its entries, every other file its bytes.
use Rattle.std.specs.Prelude.{ℕ, ◌≡◌, refl, ◌≢◌, Bool, true, false, List}
use Rattle.std.proofs.Common.{ap, ◌∙◌}
use Rattle.rules.specs.Counting.{one_at}
use Rattle.rules.specs.Anodes.{Anodes, anodes_of}
use Rattle.rules.specs.Walk.{Entered, reached_dirs}
use Rattle.rules.specs.Plans.{Slotted}
use Rattle.rules.specs.Lookup.{no_directory, entries_of, not_empty, contents}
use Rattle.rules.specs.Changes.{removed_image}
use Rattle.laws.specs.Heads.{Head}
use Rattle.laws.specs.Items.{headed}
use Rattle.laws.specs.Members.{no_member}
use Rattle.frames.specs.StoredBytes.{BlocksKept}
use Rattle.change_laws.specs.Image.{reached-sum, headed-same, ReachedDir}
use Rattle.change_laws.specs.Reached.{EntryIn, reached-not-1, reached_head, not-file}
use Rattle.change_laws.specs.EntryBytes.{entry_bytes}
use Rattle.change_laws.specs.KeptChains.{entry-bytes-same, OthersLeft, contents-left, entries_left}
use Rattle.change_laws.specs.PlannedChange.{image, facts, off_chain}
use Rattle.change_laws.specs.RemoveStores.{PlannedRemove, end, goes, others_same, other_data, removed-disk, kept_data}
use Rattle.change_laws.specs.Remove.{no_entry, left_whole, planned_accepted}

module _ {img : List ℕ} {e : Entered} {u : Slotted} {ys : List ℕ} (p : PlannedRemove img e u ys) where
  abbrev s : Anodes
  s = anodes_of img

  -- the image that a removal leaves
  abbrev j : List ℕ
  j = removed_image img e u

  -- ---- what is left of the chains

  -- the blocks of every chain but 1's, its own and its directory's are kept
  others_kept : (m : ℕ) → Head s.next s.block m → m ≢ 1 → m ≢ e.anode → m ≢ p.home → BlocksKept img j s m
  others_kept m head m1 other o z q = (kept_data p).block_kept z (other_data p m head m1 other z q, off_chain p m head o z q)

  pub others_left : OthersLeft img j (end p) e.anode p.home
  others_left = record { same_chains = others_same p; blocks-kept = others_kept }

  -- every other file has the bytes that it had
  pub contents-kept : {k : ℕ} {f : Entered} → EntryIn img k f → f.dir ≡ false → f.anode ≢ e.anode → contents j (anodes_of j) f ≡ contents img s f
  contents-kept m file o = rw (removed-disk p).anodes (contents-left others_left p.entry.directory m file o)

  -- every other directory has the entries that it had
  pub entries_kept : {k : ℕ} → ReachedDir img k → k ≢ p.home → k ≢ e.anode → entries_of j (anodes_of j) k ≡ entries_of img s k
  entries_kept r kh o = rw (removed-disk p).anodes (entries_left others_left r o kh)

  -- ---- the directories

  module _ (empty : e.dir ≡ true → not_empty img s e ≡ false) where
    left-headed : (x : ℕ) → x ≢ e.anode → headed x (reached_dirs j (anodes_of j)) ≡ headed x (reached_dirs img s)
    left-headed x o =
        let l = left_whole p empty in
        reached-sum (removed-disk p) l.1 (λ d. one_at d.head x) ∙ l.2 x o

    -- those that were reached are reached, and no other
    pub reached-kept : (x : ℕ) → x ≢ e.anode → no_directory j (anodes_of j) x ≡ no_directory img s x
    reached-kept x o = headed-same img j s (anodes_of j) x (left-headed x o)

    -- every entry of another directory has the bytes that it had
    pub bytes-kept : {k : ℕ} {f : Entered} → EntryIn img k f → k ≢ p.home → entry_bytes j f.start ≡ entry_bytes img f.start
    bytes-kept {k} {f} m kh = entry-bytes-same m.directory j (others_kept k (reached_head m.directory) (reached-not-1 m.directory) not-gone kh) m
      where
        -- the directory that goes has none
        not-gone : k ≢ e.anode
        not-gone q = go e.dir refl
          where
            go : (b : Bool) → e.dir ≡ b → ⊥
            go true i = no_member f (rw (ap (entries_of img s) q ∙ no_entry p empty i) at m.member)
            go false i = not-file m.directory (facts p) i q

    -- what went is no directory
    pub removed_unreached : no_directory j (anodes_of j) e.anode ≡ true
    removed_unreached = go (no_directory j (anodes_of j) e.anode) refl
      where
        go : (b : Bool) → no_directory j (anodes_of j) e.anode ≡ b → no_directory j (anodes_of j) e.anode ≡ true
        go true q = q
        go false q = absurd (((goes p).gone.was e.anode (rw (removed-disk p).anodes at (reached_head (record { image = record { blocks = (image p).blocks; anodes = (image p).anodes; accepted = planned_accepted p empty }; reached = q })))).0 refl)
