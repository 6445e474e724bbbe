-- What a refused and a done change leave of the tables.
use Rattle.std.specs.Prelude.{ℕ, zero, suc, ◌+◌, Bool, ◌≡◌, refl, ◌≢◌, List, ◌++◌, drop}
use Rattle.std.proofs.Common.{sym, ap, ◌∙◌, arith, le-leb}
use Rattle.std.proofs.lemmas.Bool.{lt-leb}
use Rattle.disk.specs.Root.{slot_of}
use Rattle.rules.specs.Counting.{occurrences}
use Rattle.rules.specs.Anodes.{Anodes, limit, exists_by, anodes_of}
use Rattle.rules.specs.Chains.{system_by, system_owns}
use Rattle.rules.specs.Accepted.{disk_size, last_reserved, PastDamage}
use Rattle.rules.specs.Plans.{Slotted}
use Rattle.rules.specs.Tables.{anode_table, block_table, owner_head, table_left, blocks_left, anodes_left}
use Rattle.rules.specs.Changes.{left}
use Rattle.rules.specs.Calls.{settled}
use Rattle.laws.specs.Space.{Good}
use Rattle.laws.specs.Moves.{with_these, Passed, SlotsGrew}
use Rattle.laws.specs.GotSlots.{slots_got, got_all}
use Rattle.laws.specs.OwnerTable.{set_all, kept_table, moved_front, heads_past}
use Rattle.frames.specs.Kept.{disk_size-kept, system_owns-kept}
use Rattle.change_laws.specs.Image.{GoodOn, head_in, AcceptedImage, accepted_whole, DiskWith, disk_at, table-grown, disk_size_lem, disk_slots}
use Rattle.change_tables.specs.Leaves.{Leaves}

-- an answer past the damage numbers shows the tables as 0 does
pub late_table : (k : ℕ) → PastDamage k → (range : ℕ) (shown old : List ℕ) → table_left k range shown old ≡ table_left 0 range shown old
unfolding table_left
late_table zero l range shown old = absurd (omega arith)
late_table (suc k) l range shown old = rw (le-leb 1 (suc k) (omega arith), le-leb 5 (suc k) (omega arith), lt-leb (suc k) 4 (omega arith), lt-leb (suc k) 17 (omega arith))

-- a refused change leaves image and tables
pub leaves_refused : (k : ℕ) → PastDamage k → (img b a : List ℕ) → Leaves k img b a img b a (left k img)
unfolding settled blocks_left anodes_left
leaves_refused k l img b a b₀ a₀ p q =
    rw (p, q, late_table k l (disk_size img) (block_table img (anodes_of img)) b₀, late_table k l limit (anode_table (anodes_of img)) a₀)

-- a table that shows the owners of the blocks by the anodes s, and what stands behind it
abbrev pub Shows : List ℕ → Anodes → List ℕ → List ℕ → Type 0
Shows img s b r = b ≡ block_table img s ++ r

-- blocks of ys went from one head's chain to another's, and those of gs from the free list to the system, in an image j of the same size
module _ (img j : List ℕ) (same_size : disk_size j ≡ disk_size img) (gs : List ℕ) (got : (x : ℕ) → system_owns j x ≡ system_owns img x + occurrences x gs) (s t : Anodes)
    {hd sd hd' sd' : ℕ → ℕ} (g : GoodOn img s hd sd) {ex : ℕ → Bool} (from to : ℕ) (ys : List ℕ)
    (g' : Good limit ex (disk_size img) (last_reserved img) t (with_these (system_owns img) gs) hd' sd') (passed : Passed limit s hd t hd' from to ys gs) (apart : from ≢ to) where
  -- the block table has the other head at each of them, and 65534 at those of the system, in whatever order they are listed
  pub shows_moved : (zs : List ℕ) → ((x : ℕ) → occurrences x zs ≡ occurrences x ys) → (hs : List ℕ) → ((x : ℕ) → occurrences x hs ≡ occurrences x gs) →
      (b r : List ℕ) → Shows img s b r → Shows j t (set_all (set_all b zs to) hs 65534) r
  shows_moved zs all hs all-got b r p = ap (λ (l : List ℕ). set_all (set_all l zs to) hs 65534) p ∙ moved_front img j same_size gs got s t g from to ys g' passed apart zs all hs all-got r

-- every block has the owner that it had
pub shows_kept : (img : List ℕ) (s t : Anodes) → ((x : ℕ) → owner_head t x ≡ owner_head s x) → (b r : List ℕ) → Shows img s b r → Shows img t b r
shows_kept img s t same b r p = p ∙ ap (λ (l : List ℕ). l ++ r) (sym (kept_table img img refl refl s t same))

-- a done change leaves the tables of the new image: that of a disk of the same size, perhaps with other slots
pub leaves_done : (img disk j : List ℕ) → disk_size disk ≡ disk_size img → {t : Anodes} → DiskWith disk t j → (b a b' a' : List ℕ) → ((r : List ℕ) → Shows img (anodes_of img) b r → Shows disk t b' r)
    → a' ≡ anode_table t ++ drop limit a → Leaves 0 img b a j b' a' (left 0 j)
unfolding settled blocks_left anodes_left table_left anode_table
leaves_done img disk j same {t} d b a b' a' shown heads b₀ a₀ p q =
    let size = disk_size-kept d.same.kept in
    let past = heads_past (anodes_of img) a a₀ q in
    rw (shown (drop (disk_size img) b₀) p, heads, past, d.anodes, size, same, kept_table disk j size (system_owns-kept d.same.kept refl) t t (λ x. refl))

-- blocks of ys went from one head's chain to another's, and those of gs from the free list to slots: a done change of an accepted image, whose table is t then
module _ {img : List ℕ} (image : AcceptedImage img) {t : Slotted} (gs : List ℕ) {hd' sd' : ℕ → ℕ} (g' : Good limit (exists_by t.slots) (disk_size img) (last_reserved img) t.anodes (with_these (system_owns img) gs) hd' sd')
    (got : (x : ℕ) → system_by t.slots x ≡ system_owns img x + occurrences x gs) (grew : SlotsGrew (disk_size img) (slot_of img) t.slots)
    (from to : ℕ) (ys : List ℕ) (passed : Passed limit (anodes_of img) (head_in img) t.anodes hd' from to ys gs) (apart : from ≢ to) where
  -- what it leaves of the tables, where the blocks of ys, in whatever order they are listed, get their new owner, and those that slots have got the system's
  pub leaves_moved : {j : List ℕ} → DiskWith (disk_at img t) t.anodes j → (zs : List ℕ) → ((x : ℕ) → occurrences x zs ≡ occurrences x ys) → (b a : List ℕ) →
      Leaves 0 img b a j (set_all (set_all b zs to) (slots_got (slot_of img) t.slots 42) 65534) (anode_table t.anodes ++ drop limit a) (left 0 j)
  leaves_moved {j} d zs all b a =
      let p = table-grown image gs g' got grew in
      let hs = slots_got (slot_of img) t.slots 42 in
      leaves_done img (disk_at img t) j (disk_size_lem image p) d b a (set_all (set_all b zs to) hs 65534) (anode_table t.anodes ++ drop limit a)
      (shows_moved img (disk_at img t) (disk_size_lem image p) gs (λ x. rw (disk_slots image p) (got x)) (anodes_of img) t.anodes (accepted_whole image).good from to ys g' passed apart zs all hs (got_all grew gs got) b) refl

-- a change that leaves the anodes leaves both tables
pub leaves_same : (img j : List ℕ) → DiskWith img (anodes_of img) j → (b a : List ℕ) → Leaves 0 img b a j b a (left 0 j)
unfolding anodes_left table_left anode_table
leaves_same img j d b a b₀ a₀ p q =
    let past = heads_past (anodes_of img) a a₀ q in
    leaves_done img img j refl d b a b a (λ r shown. shown) (rw past q) b₀ a₀ p q
