-- A directory block with the gap of one of its entries closed: the entries before it stay, those behind it stand as many bytes earlier as it had.
use Rattle.std.specs.Prelude.{ℕ, zero, suc, ◌+◌, ◌-◌, ◌*◌, ◌≤◌, ◌<◌, ◌≡◌, List, ◌∷◌, ◌++◌, map, length, take, drop, replicate, Some, None, Ok}
use Rattle.std.proofs.Math.Path.{refl, sym}
use Rattle.std.proofs.Common.{ap, ◌∙◌, inl, inr, append_assoc, get_or-drop, length-take-le, get_or-append-add}
use native.Mathlib.Omega.{arith}
use Rattle.std.proofs.Math.ListN.{get_or, length-append, length-drop, length-replicate, get_or-append}
use Rattle.std.proofs.lemmas.List.{get_or-replicate}
use Rattle.std.proofs.Math.Seq.{get_or-take}
use Rattle.endian.proofs.Laws.{part_same}
use Rattle.directory.specs.declared.Entry.{Entry}
use Rattle.directory.specs.Entries.{directory_header_in, walked_at}
use Rattle.directory.proofs.Laws.{found_at}
use Rattle.rules.specs.Walk.{Entered, entries_from}
use Rattle.rules.specs.Changes.{end_from, entries_end, gap_closed, entry_closed}
use Rattle.change_laws.specs.FoundEntries.{head_same, same-name_in, walked_same, entry_standing, entries_more, entries_end_lem, unbroken_cases, end_more, end-here, end_bounds, standing_found, start-after, start_order, reaches, BlockEntry, block_standing, end_within}
use Rattle.laws.specs.Members.{Member}
use Rattle.laws.specs.Entries.{Unbroken}

-- the same entry, so many bytes earlier
abbrev pub lowered : ℕ → Entered → Entered
lowered len e = record { broken = e.broken; dir = e.dir; anode = e.anode; size = e.size; name = e.name; start = e.start - len }

-- b' is b with the bytes from at + len up to end moved down by len, and zeros behind them
module _ (b b' : List ℕ) (y at len end : ℕ) (whole : length b ≡ 512) (whole' : length b' ≡ 512)
    (front : (i : ℕ) → i < at → get_or b' i 0 ≡ get_or b i 0)
    (behind : (i : ℕ) → at ≤ i → i + len < end → get_or b' i 0 ≡ get_or b (i + len) 0)
    (zeros : (i : ℕ) → end ≤ i + len → i < end → get_or b' i 0 ≡ 0) (some : 0 < len) where
  ends : (i : ℕ) → get_or b' i 0 ≡ 0 → walked_at b' i ≡ Ok None
  unfolding walked_at
  ends i z = rw z

  -- the entries behind the gap
  moved-first : (m p : ℕ) (x : Entry) → walked_at b (p + len) ≡ Ok (Some x) → at ≤ p → p + len + get_or b (p + len) 0 ≤ end →
      entries_from (suc m) b' y (p + get_or b (p + len) 0) ≡ map (lowered len) (entries_from m b y (p + get_or b (p + len) 0 + len)) →
      entries_from (suc (suc m)) b' y p ≡ map (lowered len) (entries_from (suc m) b y (p + len))
  moved-first m p x q l within rest =
      let g = found_at b (p + len) x q in
      let same : (i : ℕ) → i < get_or b (p + len) 0 → get_or b' (p + i) 0 ≡ get_or b (p + len + i) 0 = λ i h.
      let c : p + i + len ≡ p + len + i = omega arith in behind (p + i) (omega arith) (omega arith) ∙ rw c in
      let first : get_or b' p 0 ≡ get_or b (p + len) 0 = behind p l (omega (arith, within, g.long)) in
      let start : y * 512 + p ≡ y * 512 + (p + len) - len = omega arith in
      let swap : p + get_or b (p + len) 0 + len ≡ p + len + get_or b (p + len) 0 = omega arith in
      entries_more b' y (suc m) p x (walked_same b b' (p + len) p whole whole' g (omega (arith, g.room)) same ∙ q)
      ∙ rw (first, same-name_in b b' (p + len) p whole whole' g (omega (arith, g.room)) same, rest, swap, entries_more b y m (p + len) x q, start)

  moved : (k p : ℕ) → at ≤ p → Unbroken (entries_from k b y (p + len)) → p + len ≤ 510 → 520 ≤ p + len + 18 * k → end_from k b (p + len) ≡ end →
      entries_from (suc k) b' y p ≡ map (lowered len) (entries_from k b y (p + len))
  moved zero p l u r f e = absurd (omega (arith, r, f))
  moved (suc m) p l u r f e = elim (unbroken_cases b y m (p + len) u) [
    | inl q ↦ (let z : end ≡ p + len = sym e ∙ end-here b m (p + len) q in
        entries_end_lem b' y (suc (suc m)) p (ends p (zeros p (omega arith) (omega arith))) ∙ ap (map (lowered len)) (sym (entries_end_lem b y (suc m) (p + len) q)))
    | inr q ↦ (let g = found_at b (p + len) q.0 q.1 in
        let n : p + len + get_or b (p + len) 0 ≡ p + get_or b (p + len) 0 + len = omega arith in
        let unbroken = rw n at q.2 in
        let last : end_from m b (p + get_or b (p + len) 0 + len) ≡ end = rw n at (sym (end_more b m (p + len) q.0 q.1) ∙ e) in
        let behind_it = end_bounds b y m (p + get_or b (p + len) 0 + len) unbroken (omega (arith, g.room)) (omega (arith, f, g.long)) in
        moved-first m p q.0 q.1 l (omega (arith, behind_it.0, last))
        (moved m (p + get_or b (p + len) 0) (omega arith) unbroken (omega (arith, g.room)) (omega (arith, f, g.long)) last))
  ]

  -- with those before it
  module _ (e : Entered) (ys : List Entered) (start : e.start ≡ y * 512 + at) (its-length : get_or b at 0 ≡ len) where
    closed : (xs : List Entered) (k p : ℕ) → entries_from k b y p ≡ xs ++ (e ∷ ys) → Unbroken (entries_from k b y p) → 520 ≤ p + 18 * k →
        end_from k b p ≡ end → entries_from k b' y p ≡ xs ++ map (lowered len) ys
    closed xs k p i u f q =
        let r = reaches b y at e start ys xs k p i u in
        let o = r.found in
        let s = o.stands in
        let g = standing_found s in
        let next : at + get_or b at 0 ≡ at + len = ap (λ (n : ℕ). at + n) its-length in
        r.front b' whole whole' front
        ∙ ap (λ (l : List Entered). xs ++ l) (moved r.m at (omega arith) (rw next at o.unbroken) (omega (arith, g.room, next)) (omega (arith, f, r.fuel, g.long, next))
        (rw next at (sym (end_more b r.m at s.entry s.walked) ∙ sym r.end ∙ q)) ∙ ap (map (lowered len)) (rw next at o.rest))

-- ---- the bytes of the block

module _ (b : List ℕ) (at len end : ℕ) (whole : length b ≡ 512) (fits : at + len ≤ end) (within : end ≤ 512) where
  abbrev tail : List ℕ
  tail = replicate len 0 ++ drop end b

  abbrev middle : List ℕ
  middle = take (end - (at + len)) (drop (at + len) b)

  length_front : length (take at b) ≡ at
  length_front = length-take-le at b (omega arith)

  length-middle : length middle ≡ end - (at + len)
  length-middle = length-take-le (end - (at + len)) (drop (at + len) b) (omega (arith, length-drop (at + len) b))

  length-gap_closed : length (gap_closed b at len end) ≡ 512
  unfolding gap_closed
  length-gap_closed = omega (
    arith,
    length-append (take at b) (middle ++ tail),
    length_front,
    length-append middle tail,
    length-middle,
    length-append (replicate len 0) (drop end b),
    length-replicate {A = ℕ} len 0,
    length-drop end b,
  )

  gap_front : (i : ℕ) → i < at → get_or (gap_closed b at len end) i 0 ≡ get_or b i 0
  unfolding gap_closed
  gap_front i l = get_or-append (take at b) (middle ++ tail) 0 i (omega (arith, length_front)) ∙ get_or-take at b i 0 l

  -- the byte k behind the front
  from_front : (k : ℕ) → get_or (gap_closed b at len end) (at + k) 0 ≡ get_or (middle ++ tail) k 0
  unfolding gap_closed
  from_front k = rw length_front at (get_or-append-add (take at b) (middle ++ tail) k 0)

  behind-at : (i k : ℕ) → i ≡ at + k → i + len < end → get_or (gap_closed b at len end) i 0 ≡ get_or b (i + len) 0
  behind-at i k e h =
      let f : at + len + k ≡ i + len = omega arith in
      ap (λ (n : ℕ). get_or (gap_closed b at len end) n 0) e ∙ from_front k ∙ get_or-append middle tail 0 k (omega (arith, length-middle))
      ∙ get_or-take (end - (at + len)) (drop (at + len) b) k 0 (omega arith) ∙ get_or-drop (at + len) b k 0 ∙ rw f

  zero-at : (i k : ℕ) → i + len ≡ end + k → k < len → get_or (gap_closed b at len end) i 0 ≡ 0
  zero-at i k e h =
      let m : i ≡ at + (end - (at + len) + k) = omega arith in
      ap (λ (n : ℕ). get_or (gap_closed b at len end) n 0) m ∙ from_front (end - (at + len) + k) ∙ rw length-middle at (get_or-append-add middle tail k 0)
      ∙ get_or-append (replicate len 0) (drop end b) 0 k (omega (arith, length-replicate {A = ℕ} len 0)) ∙ get_or-replicate {A = ℕ} len k 0 0 h

  gap_behind : (i : ℕ) → at ≤ i → i + len < end → get_or (gap_closed b at len end) i 0 ≡ get_or b (i + len) 0
  gap_behind i l h = behind-at i (i - at) (omega arith) h

  gap_zeros : (i : ℕ) → end ≤ i + len → i < end → get_or (gap_closed b at len end) i 0 ≡ 0
  gap_zeros i l h = zero-at i (i + len - end) (omega arith) (omega arith)

  -- the head of the block
  gap_head : 16 ≤ at → directory_header_in (gap_closed b at len end) ≡ directory_header_in b
  gap_head l = head_same b (gap_closed b at len end) (λ i h. gap_front i (omega arith))

  -- the same bytes, before the gap and behind it
  bytes-before : (k n : ℕ) → k + n ≤ at → take n (drop k (gap_closed b at len end)) ≡ take n (drop k b)
  bytes-before k n l = part_same (gap_closed b at len end) b k k n (omega (arith, length-gap_closed)) (omega arith) (λ i h. gap_front (k + i) (omega arith))

  bytes-behind : (k n : ℕ) → at + len ≤ k → k + n ≤ end → take n (drop (k - len) (gap_closed b at len end)) ≡ take n (drop k b)
  bytes-behind k n l h = part_same (gap_closed b at len end) b (k - len) k n (omega (arith, length-gap_closed)) (omega arith)
      (λ i m. let e : k - len + i + len ≡ k + i = omega arith in gap_behind (k - len + i) (omega arith) (omega arith) ∙ rw e)

-- ---- an entry of a directory block goes

module _ {b : List ℕ} {y at : ℕ} {e : Entered} (u : BlockEntry b y at e) where
  from_16 : 16 ≤ at
  from_16 = omega (arith, u.start, start-after b y u.parted.0 e u.parted.1 28 16 u.parted.2 u.unbroken)

  abbrev fits : at + get_or b at 0 ≤ entries_end b
  fits = (block_standing u).before

  pub length-closed : length (entry_closed b at) ≡ 512
  length-closed = length-gap_closed b at (get_or b at 0) (entries_end b) u.whole fits (end_within u)

  pub head_closed : directory_header_in (entry_closed b at) ≡ directory_header_in b
  head_closed = gap_head b at (get_or b at 0) (entries_end b) u.whole fits (end_within u) from_16

  -- the entries that stay
  pub entries_closed : entries_from 28 (entry_closed b at) y 16 ≡ u.parted.0 ++ map (lowered (get_or b at 0)) u.parted.1
  unfolding entries_end
  entries_closed =
      let len = get_or b at 0 in
      let end = entries_end b in
      let within = end_within u in
      closed b (gap_closed b at len end) y at len end u.whole length-closed (gap_front b at len end u.whole fits within) (gap_behind b at len end u.whole fits within)
      (gap_zeros b at len end u.whole fits within) (omega (arith, (standing_found (block_standing u)).long)) e u.parted.1 u.start refl u.parted.0 28 16 u.parted.2 u.unbroken (omega arith) refl

  -- the bytes of an entry that stays
  pub bytes-earlier : (f : Entered) → Member f u.parted.0 → (k : ℕ) → f.start ≡ y * 512 + k → take (get_or b k 0) (drop k (entry_closed b at)) ≡ take (get_or b k 0) (drop k b)
  bytes-earlier f (us, vs, i) k p =
      let before = start_order b y k f e p vs u.parted.1 us 28 16 (u.parted.2 ∙ rw i (append_assoc us (f ∷ vs) (e ∷ u.parted.1))) u.unbroken in
      bytes-before b at (get_or b at 0) (entries_end b) u.whole fits (end_within u) k (get_or b k 0) (omega (arith, before, u.start))

  pub bytes-later : (f : Entered) → Member f u.parted.1 → (k : ℕ) → f.start ≡ y * 512 + k →
      (at + get_or b at 0 ≤ k) × (take (get_or b k 0) (drop (k - get_or b at 0) (entry_closed b at)) ≡ take (get_or b k 0) (drop k b))
  unfolding entries_end
  bytes-later f (us, vs, i) k p =
      let xs = u.parted.0 in
      let all : entries_from 28 b y 16 ≡ xs ++ (e ∷ (us ++ (f ∷ vs))) = u.parted.2 ∙ rw i in
      let behind : at + get_or b at 0 ≤ k = omega (arith, p, start_order b y at e f u.start us vs xs 28 16 all u.unbroken) in
      let f_stands = entry_standing b y k f p vs (xs ++ (e ∷ us)) 28 16 (all ∙ sym (append_assoc xs (e ∷ us) (f ∷ vs))) u.unbroken (omega arith) in
      (behind, bytes-behind b at (get_or b at 0) (entries_end b) u.whole fits (end_within u) k (get_or b k 0) behind f_stands.before)
