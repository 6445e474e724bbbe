-- The directory block of a removed entry with the gap closed, in its old place or a new one: the other entries stand there in their order, and have the facts that they had.
use Rattle.std.specs.Prelude.{ℕ, ◌+◌, ◌-◌, ◌*◌, ◌/◌, ◌%◌, ◌≤◌, ◌<◌, ◌≡◌, ◌≢◌, ◌⊎◌, cond, List, ◌∷◌, ◌++◌, map, eqb, ltb, get_or, take, drop}
use Rattle.std.proofs.Math.Path.{refl}
use Rattle.std.proofs.Common.{sym, ap, ap₂, ◌∙◌, inl, inr, append_assoc, arith}
use Rattle.std.proofs.lemmas.Simd.{map-map}
use Rattle.std.proofs.lemmas.List.{map-append}
use borrow.Author.Tests.{eq-eqb, ne_eqb, lt-ltb, le-ltb}
use Rattle.endian.proofs.Laws.{part_byte}
use Rattle.disk.specs.Blocks.{block_of}
use Rattle.directory.proofs.Laws.{FoundAt}
use Rattle.rules.specs.Walk.{Entered, entries_from, entries_in}
use Rattle.rules.specs.Changes.{entry_closed}
use Rattle.laws.specs.Members.{Member, member-later, member-left, member_right, map_members}
use Rattle.change_laws.specs.FoundEntries.{BlockEntry, block_standing, standing_found, standing_start, start_order, entry-start}
use Rattle.change_laws.specs.Gap.{lowered, length-closed, entries_closed, bytes-earlier, bytes-later}
use Rattle.paths.specs.Facts.{facts_in}
use Rattle.safe_laws.specs.MovedEntries.{placed_at}
use Rattle.safe_laws.specs.RelocatedEntries.{entries_relocated}
use Rattle.safe_laws.specs.FactsKept.{facts-same}

-- the place of an entry, where an entry of so many bytes at `start` is gone and its block is block z now
unfoldable pub closed_start : ℕ → ℕ → ℕ → ℕ → ℕ
closed_start start len z x = cond (eqb (x / 512) (start / 512)) (z * 512 + (cond (ltb start x) (x - len) x - start / 512 * 512)) x

-- the entry there
unfoldable pub closed_at : ℕ → ℕ → ℕ → Entered → Entered
closed_at start len z x = record { broken = x.broken; dir = x.dir; anode = x.anode; size = x.size; name = x.name; start = closed_start start len z x.start }

-- it says what it said
pub closed_fields : (start len z : ℕ) (x : Entered) → ((closed_at start len z x).dir ≡ x.dir) × ((closed_at start len z x).anode ≡ x.anode) × ((closed_at start len z x).name ≡ x.name) × ((closed_at start len z x).size ≡ x.size)
unfolding closed_at
closed_fields start len z x = (refl, refl, refl, refl)

-- and stands there
pub closed-start : (start len z : ℕ) (x : Entered) → (closed_at start len z x).start ≡ closed_start start len z x.start
unfolding closed_at
closed-start start len z x = refl

module _ (start len z : ℕ) where
  -- an entry of another block stays
  stays : (x : ℕ) → x / 512 ≢ start / 512 → closed_start start len z x ≡ x
  unfolding closed_start
  stays x o = rw (ne_eqb (x / 512) (start / 512) o) refl

  -- so it is the same entry
  pub closed_other : (x : Entered) → x.start / 512 ≢ start / 512 → closed_at start len z x ≡ x
  unfolding closed_at
  closed_other x o = rw (stays x.start o) refl

  -- one of its block before it, and one behind it
  pub start-before : (x : ℕ) → x / 512 ≡ start / 512 → x ≤ start → closed_start start len z x ≡ z * 512 + (x - start / 512 * 512)
  unfolding closed_start
  start-before x i l = rw (eq-eqb (x / 512) (start / 512) i, le-ltb start x l) refl

  -- one behind it stands earlier by its bytes
  pub start-behind : (x : ℕ) → x / 512 ≡ start / 512 → start < x → closed_start start len z x ≡ z * 512 + (x - len - start / 512 * 512)
  unfolding closed_start
  start-behind x i l = rw (eq-eqb (x / 512) (start / 512) i, lt-ltb start x l) refl

-- the block b in which e stands
module _ {b : List ℕ} {y at : ℕ} {e : Entered} (u : BlockEntry b y at e) where
  -- an entry of it: its place, and its bytes there
  in_block_lem : (x : Entered) → Member x (entries_from 28 b y 16) → (p : ℕ) × (x.start ≡ y * 512 + p) × FoundAt b p
  in_block_lem x q = let (p, l, s) = entry-start b y 28 16 x q u.unbroken in (p, standing_start s, standing_found s)

  -- one before e ends before it
  pub is_before : (x : Entered) → Member x u.parted.0 → (p : ℕ) × (x.start ≡ y * 512 + p) × FoundAt b p × (x.start ≤ e.start)
  is_before x n =
      let (us, vs, i) = n in
      let (before, behind, parted) = u.parted in
      let (p, is, found) = in_block_lem x (rw parted (member-left x before (e ∷ behind) n)) in
      (p, is, found, omega (arith, is, start_order b y p x e is vs behind us 28 16 (parted ∙ rw i (append_assoc us (x ∷ vs) (e ∷ behind))) u.unbroken))

  -- one behind e starts behind it
  pub is_behind : (x : Entered) → Member x u.parted.1 → (p : ℕ) × (x.start ≡ y * 512 + p) × FoundAt b p × (at + get_or b at 0 ≤ p)
  is_behind x n =
      let (before, behind, parted) = u.parted in
      let (p, is, found) = in_block_lem x (rw parted (member_right x before (e ∷ behind) (member-later x e behind n))) in
      (p, is, found, (bytes-later u x n p is).0)

  -- the block that e stands in
  own_block : e.start / 512 ≡ y
  own_block = omega (arith, u.start, (standing_found (block_standing u)).room)

  -- j has that block with the gap of e closed, as block z
  module _ (j : List ℕ) (z : ℕ) (is : block_of j z ≡ entry_closed b at) where
    -- the bytes that e had
    abbrev len : ℕ
    len = get_or b at 0

    -- where an entry is then
    abbrev φ : Entered → Entered
    φ = closed_at e.start len z

    -- where an entry before e is, and one behind it
    place_before : (x : Entered) → Member x u.parted.0 → closed_start e.start len z x.start ≡ z * 512 + (x.start - y * 512)
    place_before x n =
        let (p, at_p, found, l) = is_before x n in
        let home : x.start / 512 ≡ e.start / 512 = omega (arith, at_p, found.room, own_block) in
        start-before e.start len z x.start home l ∙ ap (λ (i : ℕ). z * 512 + (x.start - i * 512)) own_block

    -- one behind it stands as many bytes earlier
    place_behind : (x : Entered) → Member x u.parted.1 → closed_start e.start len z x.start ≡ z * 512 + (x.start - len - y * 512)
    place_behind x n =
        let (p, at_p, found, l) = is_behind x n in
        let home : x.start / 512 ≡ e.start / 512 = omega (arith, at_p, found.room, own_block) in
        let later : e.start < x.start = omega (arith, at_p, u.start, l, (standing_found (block_standing u)).long) in
        start-behind e.start len z x.start home later ∙ ap (λ (i : ℕ). z * 512 + (x.start - len - i * 512)) own_block

    -- so one before it moves with its block alone
    under_before : (x : Entered) → Member x u.parted.0 → placed_at y z x ≡ closed_at e.start len z x
    unfolding placed_at closed_at
    under_before x n = rw (place_before x n) refl

    -- and one behind it moves down in it too
    under_behind : (x : Entered) → Member x u.parted.1 → placed_at y z (lowered len x) ≡ closed_at e.start len z x
    unfolding placed_at closed_at
    under_behind x n = rw (place_behind x n) refl

    -- the entries of block z are those that stay
    pub entries_now : entries_in j z ≡ map (closed_at e.start (get_or b at 0) z) (u.parted.0 ++ u.parted.1)
    entries_now =
        let (before, behind, parted) = u.parted in
        entries_relocated j (entry_closed b at) y z is ∙ ap (map (placed_at y z)) (entries_closed u) ∙ map-append (placed_at y z) before (map (lowered len) behind)
        ∙ ap₂ ◌++◌ (map_members (placed_at y z) φ before under_before) (map-map (placed_at y z) (lowered len) behind ∙ map_members (λ x. placed_at y z (lowered len x)) φ behind under_behind)
        ∙ sym (map-append φ before behind)

    -- an entry that stands in the closed block as it stood in b has the facts that it had
    facts_at : (start start' p p' size : ℕ) (bytes : List ℕ) → start ≡ y * 512 + p → start' ≡ z * 512 + p' → FoundAt b p → p' ≤ p → take (get_or b p 0) (drop p' (entry_closed b at)) ≡ take (get_or b p 0) (drop p b) →
        facts_in (block_of j (start' / 512)) (start' % 512) size bytes ≡ facts_in b (start % 512) size bytes
    facts_at start start' p p' size bytes at_p at-p' found l same =
        let block : start' / 512 ≡ z = omega (arith, at-p', l, found.room) in
        let place : start' % 512 ≡ p' = omega (arith, at-p', l, found.room) in
        let old : start % 512 ≡ p = omega (arith, at_p, found.room) in
        rw (block, place, old, is) (facts-same b (entry_closed b at) p p' u.whole (length-closed u) found (omega (arith, l, found.room)) (λ i q o. part_byte (entry_closed b at) b p' p (get_or b p 0) same i q) size bytes)

    -- the entries that stay have the facts that they had
    pub facts-now : (x : Entered) → Member x u.parted.0 ⊎ Member x u.parted.1 → (size : ℕ) (bytes : List ℕ) →
        facts_in (block_of j ((closed_at e.start (get_or b at 0) z x).start / 512)) ((closed_at e.start (get_or b at 0) z x).start % 512) size bytes ≡ facts_in b (x.start % 512) size bytes
    facts-now x (inl n) size bytes =
        let (p, at_p, found, l) = is_before x n in
        facts_at x.start (φ x).start p p size bytes at_p (closed-start e.start len z x ∙ place_before x n ∙ omega (arith, at_p)) found (omega arith) (bytes-earlier u x n p at_p)
    facts-now x (inr n) size bytes =
        let (p, at_p, found, l) = is_behind x n in
        facts_at x.start (φ x).start p (p - len) size bytes at_p (closed-start e.start len z x ∙ place_behind x n ∙ omega (arith, at_p, l)) found (omega arith) (bytes-later u x n p at_p).1
