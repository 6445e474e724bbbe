-- A directory block in its new place: every chain but 1's has the anodes that it had, and they the extents but for that block; and the state is whole again, where the new place has the entries that the old one was given.
use Rattle.std.specs.Prelude.{ℕ, ◌<◌, ◌≡◌, refl, ◌≢◌, Bool, List, map}
use Rattle.std.proofs.Common.{sym, ap, subst, ◌∙◌, inl, inr, map-id, arith}
use Rattle.disk.specs.Blocks.{block_of}
use Rattle.rules.specs.Counting.{occurrences}
use Rattle.rules.specs.Anodes.{Anodes, limit, exists_by}
use Rattle.rules.specs.Chains.{chain_of}
use Rattle.rules.specs.Walk.{Dir, Entered, entries_from, entries_in}
use Rattle.rules.specs.Plans.{Slotted}
use Rattle.laws.specs.Tests.{same?}
use Rattle.laws.specs.Ownership.{handed}
use Rattle.laws.specs.Heads.{Head, head_while}
use Rattle.laws.specs.Space.{Alike, Good}
use Rattle.laws.specs.Owners.{full_used}
use Rattle.laws.specs.Moves.{Shift}
use Rattle.laws.specs.Frame.{shift_alike, shift_chain}
use Rattle.laws.specs.Members.{Member, member_each}
use Rattle.laws.specs.Whole.{DirHead, Whole, dir_heads, change_free, blocks-moved}
use Rattle.change_laws.specs.KeptChains.{SameChain}
use Rattle.safe_laws.specs.Relocated.{BlockMoved}
use Rattle.safe_laws.specs.MovedEntries.{placed_at, entries_placed}

-- the chain of h has in t the anodes that it has in s, and they the extents, but that anode a has the block z
pub record MovedChain (s t : Anodes) (a z h : ℕ) : Type 0 where
  pub same_anodes : chain_of t.next limit h ≡ chain_of s.next limit h
  pub same_counts : (b : ℕ) → 0 < occurrences b (chain_of s.next limit h) → t.count b ≡ s.count b
  pub same_blocks : (b : ℕ) → 0 < occurrences b (chain_of s.next limit h) → b ≢ a → t.block b ≡ s.block b
  pub own_block : 0 < occurrences a (chain_of s.next limit h) → t.block a ≡ z

-- where a is not on it, it is the same chain
pub chain_unmoved : {s t : Anodes} {a z h : ℕ} → MovedChain s t a z h → (0 < occurrences a (chain_of s.next limit h) → ⊥) → SameChain s t h
chain_unmoved {s} {h = h} c off = record { same_anodes = c.same_anodes; same_extents = λ b p. (c.same_counts b p, c.same_blocks b p (λ i. off (subst (λ (x : ℕ). 0 < occurrences x (chain_of s.next limit h)) i p))) }

-- and the same chain with the block in its old place
pub chain_stays : {s t : Anodes} {h : ℕ} → SameChain s t h → (a z : ℕ) → s.block a ≡ z → MovedChain s t a z h
chain_stays c a z is = record { same_anodes = c.same_anodes; same_counts = λ b p. (c.same_extents b p).0; same_blocks = λ b p n. (c.same_extents b p).1; own_block = λ p. (c.same_extents a p).1 ∙ is }

-- the entries of a block in its new place
pub entries_relocated : (j b : List ℕ) (y z : ℕ) → block_of j z ≡ b → entries_in j z ≡ map (placed_at y z) (entries_from 28 b y 16)
unfolding entries_in
entries_relocated j b y z is = rw is (entries_placed b y z 28 16)

-- from q to r anode a has another block, and from there to t only the free list is touched
module _ {n last : ℕ} {q r : Slotted} {system hd sd : ℕ → ℕ} {a : ℕ} {xs : List ℕ} (g : Good limit (exists_by q.slots) n last q.anodes system hd sd) (moved : BlockMoved n last q system hd a r xs)
    {t : Anodes} {ex' : ℕ → Bool} {system' hd' sd' : ℕ → ℕ} (g' : Good limit ex' n last t system' hd' sd') (shift : Shift r.anodes moved.hd' t hd' 1 1) where
  -- the anodes between: the new block is out of the free list
  abbrev mid : Anodes
  mid = moved.between

  -- an anode in use stays so
  still_used : (b : ℕ) → mid.block b ≢ 0 → r.anodes.block b ≢ 0
  still_used b u = elim (same? b a) [
    | inl i ↦ λ z. moved.some_block (sym (ap r.anodes.block i ∙ moved.own) ∙ z)
    | inr i ↦ λ z. u (sym (moved.others b i) ∙ z)
  ]

  -- the chain of a head other than 1
  module _ (h : ℕ) (d : Head q.anodes.next q.anodes.block h) (h1 : h ≢ 1) where
    -- it stays a head while the block is out
    head_mid : Head mid.next mid.block h
    head_mid = moved.out.stays h d

    -- and where the anode has the block
    head_r : Head r.anodes.next r.anodes.block h
    head_r = rw moved.next (head_while head_mid (still_used h head_mid.in_use))

    -- and where the free list is touched again
    pub relocated_head : Head t.next t.block h
    relocated_head = shift.stays h head_r

    -- its anodes are the same while the block is out
    pub chain-mid : chain_of moved.between.next limit h ≡ chain_of q.anodes.next limit h
    chain-mid = shift_chain g moved.out-good moved.out h d h1 h1

    -- and read the same
    pub alike_mid : (b : ℕ) → 0 < occurrences b (chain_of q.anodes.next limit h) → Alike q.anodes moved.between b
    alike_mid = shift_alike g moved.out-good moved.out h d h1 h1

    -- they are the same where the anode has the block
    chain-r : chain_of r.anodes.next limit h ≡ chain_of q.anodes.next limit h
    chain-r = ap (λ (f : ℕ → ℕ). chain_of f limit h) moved.next ∙ chain-mid

    -- and are left alone from there on
    alike_t : (b : ℕ) → 0 < occurrences b (chain_of q.anodes.next limit h) → Alike r.anodes t b
    alike_t b p = shift_alike moved.good g' shift h head_r h1 h1 b (rw chain-r p)

    -- THE CHAIN THEN
    pub relocated-chain : MovedChain q.anodes t a moved.z h
    relocated-chain = record {
      same_anodes = shift_chain moved.good g' shift h head_r h1 h1 ∙ chain-r;
      same_counts = λ b p. (alike_t b p).same_count ∙ moved.count b ∙ (alike_mid b p).same_count;
      same_blocks = λ b p o. (alike_t b p).same_block ∙ moved.others b o ∙ (alike_mid b p).same_block;
      own_block = λ p. (alike_t a p).same_block ∙ moved.own;
    }

  -- the state with it is whole, where the new place has the entries and marks that the old one had, and every other block of a directory those that it had
  module _ {entries : ℕ → List Entered} {marked : Dir → ℕ → Bool} {dirs : List Dir} (w : Whole (exists_by q.slots) n last q.anodes system hd sd entries marked dirs) (one : q.anodes.count a ≡ 1) (away : hd a ≢ 1) (entries' : ℕ → List Entered) (marked' : Dir → ℕ → Bool)
      (home_entries : entries' moved.z ≡ entries (q.anodes.block a)) (home_marks : (d : Dir) → marked' d moved.z ≡ marked d (q.anodes.block a))
      (rest : (d : Dir) → Member d dirs → (b : ℕ) → 0 < occurrences b (chain_of q.anodes.next limit d.head) → q.anodes.count b ≡ 1 → b ≢ a →
      (entries' (q.anodes.block b) ≡ entries (q.anodes.block b)) × (marked' d (q.anodes.block b) ≡ marked d (q.anodes.block b))) where
    -- the state is whole while the block is out
    whole_mid : Whole (exists_by q.slots) n last mid (handed system 1 moved.z) moved.hd' moved.sd' entries marked dirs
    whole_mid = change_free w moved.out-good moved.out

    -- every directory is the chain of a head
    head_of : (d : Dir) → Member d dirs → Head q.anodes.next q.anodes.block d.head × (d.head ≢ 1)
    head_of d in_tree = member_each (DirHead q.anodes) d dirs in_tree (dir_heads w)

    -- its blocks have the entries and marks that they should
    there : (d : Dir) → Member d dirs → (b : ℕ) → 0 < occurrences b (chain_of mid.next limit d.head) → mid.count b ≡ 1 →
        (entries' (r.anodes.block b) ≡ map (λ x. x) (entries (mid.block b))) × (marked' d (r.anodes.block b) ≡ marked d (mid.block b))
    there d in_tree b p one_b =
        let (head, not-1) = head_of d in_tree in
        let on = rw (chain-mid d.head head not-1) at p in
        let like = alike_mid d.head head not-1 b on in
        rw (map-id (entries (mid.block b)), like.same_block) (elim (same? b a) [
          | inl i ↦ rw (i, moved.own) (home_entries, home_marks d)
          | inr i ↦ rw (moved.others b i, like.same_block) (rest d in_tree b on (sym like.same_count ∙ one_b) i)
        ])

    -- THE WHOLE STATE THEN
    pub relocated_whole : Whole ex' n last t system' hd' sd' entries' marked' dirs
    relocated_whole = change_free (blocks-moved whole_mid moved.good moved.next moved.count still_used was (λ x. x) (λ x. (refl, refl, refl, refl, refl)) entries' marked' there) g' shift
      where
        was : (b : ℕ) → r.anodes.block b ≢ 0 → mid.block b ≢ 0
        was b u = elim (same? b a) [
          | inl i ↦ (let used = full_used g a (omega (arith, one)) in λ z. used (sym (moved.out.apart a used away away).same_block ∙ ap mid.block (sym i) ∙ z))
          | inr i ↦ λ z. u (moved.others b i ∙ z)
        ]
