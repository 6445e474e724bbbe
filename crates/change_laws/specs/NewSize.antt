-- A directory block with another size in one of its entries: that entry has the size, and nothing else changes.
use Rattle.std.specs.Prelude.{ℕ, zero, suc, ◌+◌, ◌*◌, ◌≤◌, ◌<◌, ◌≡◌, ◌⊎◌, Bool, List, ◌∷◌, ◌++◌, eqb, length, get_or, Some, None, Result, Ok, Err}
use Rattle.std.proofs.Math.Path.{refl, ap}
use Rattle.std.proofs.Common.{sym, ap₂, ◌∙◌, inl, inr, arith}
use Rattle.std.proofs.Math.Bool.{true, false, cond}
use Rattle.endian.specs.Bytes.{be16, put32}
use Rattle.endian.proofs.Laws.{be16-bytes, length-put32, get_or-put32_other, drop-put32, be32-put32-same}
use Rattle.disk.specs.declared.Refusal.TheVariants.{DirectoryBlock}
use Rattle.directory.specs.declared.Entry.{Entry}
use Rattle.directory.specs.declared.Kind.{Kind}
use Rattle.directory.specs.declared.UnknownKind.{UnknownKind}
use Rattle.directory.specs.Entries.{Walked}
use Rattle.directory.specs.Entries.{directory_header_in, kind_read, name_length, comment_length, name_in, entry_shaped, entry_in, walked_kind, walked_at}
use Rattle.directory.proofs.Laws.{found_at, end-at}
use Rattle.rules.specs.Walk.{Entered, entries_from}
use Rattle.change_laws.specs.FoundEntries.{head_same, same-name_in, walked_same, entries_more, entries_end_lem, unbroken_cases, standing_found, reaches}
use Rattle.laws.specs.Entries.{Unbroken}

-- the same entry with another size
abbrev pub sized : ℕ → Entered → Entered
sized new e = record { broken = e.broken; dir = e.dir; anode = e.anode; size = new; name = e.name; start = e.start }

-- an entry with another size
abbrev with_new : ℕ → Entry → Entry
with_new new x = record {
  kind = x.kind;
  anode = x.anode;
  size = new;
  day = x.day;
  minute = x.minute;
  tick = x.tick;
  protection = x.protection;
  name = x.name;
  comment = x.comment;
}

-- what stands at a place, with another size where it is an entry
abbrev on_found : ℕ → Walked → Walked
on_found new (Ok (Some x)) = Ok (Some (with_new new x))
on_found new (Ok None) = Ok None
on_found new (Err r) = Err r

-- ---- the bytes

module _ (b : List ℕ) (at new : ℕ) where
  abbrev b' : List ℕ
  b' = put32 b (at + 4) new

  others : (i : ℕ) → (i < at + 4) ⊎ (at + 8 ≤ i) → get_or b' i 0 ≡ get_or b i 0
  others i (inl l) = get_or-put32_other b (at + 4) new i (inl l)
  others i (inr l) = get_or-put32_other b (at + 4) new i (inr (omega arith))

  others16 : (i : ℕ) → (i + 1 < at + 4) ⊎ (at + 8 ≤ i) → be16 b' i ≡ be16 b i
  others16 i (inl l) = be16-bytes b' b i i (others i (inl (omega arith))) (others (i + 1) (inl (omega arith)))
  others16 i (inr l) = be16-bytes b' b i i (others i (inr l)) (others (i + 1) (inr (omega arith)))

  pub head_sized : 16 ≤ at → directory_header_in b' ≡ directory_header_in b
  head_sized l = head_same b b' (λ i h. others i (inl (omega arith)))

  name_length_lem : name_length b' at ≡ name_length b at
  unfolding name_length
  name_length_lem = others (at + 15) (inr (omega arith))

  comment_length_lem : comment_length b' at ≡ comment_length b at
  unfolding comment_length
  comment_length_lem = rw name_length_lem (others (at + 16 + name_length b at) (inr (omega arith)))

  name_sized : name_in b' at ≡ name_in b at
  unfolding name_in
  name_sized = rw (name_length_lem, drop-put32 b (at + 4) new (at + 16) (omega arith))

  same_shape : entry_shaped b' at ≡ entry_shaped b at
  unfolding entry_shaped
  same_shape = rw (others at (inl (omega arith)), name_length_lem, comment_length_lem, name_sized)

  -- the entry that has the size
  new_fields : at + 7 < length b → (k : Kind) → entry_in b' at k ≡ with_new new (entry_in b at k)
  unfolding entry_in
  new_fields l k = rw (
    others16 (at + 2) (inl (omega arith)),
    be32-put32-same b (at + 4) new (omega arith),
    others16 (at + 8) (inr (omega arith)),
    others16 (at + 10) (inr (omega arith)),
    others16 (at + 12) (inr (omega arith)),
    others (at + 14) (inr (omega arith)),
    name_length_lem,
    comment_length_lem,
  )

  walked_new : at + 7 < length b → walked_at b' at ≡ on_found new (walked_at b at)
  unfolding walked_at
  walked_new l = rw (others at (inl (omega arith)), same_shape, others (at + 1) (inl (omega arith))) (go (eqb (get_or b at 0) 0) (entry_shaped b at) (kind_read (get_or b (at + 1) 0)))
    where
      go : (p q : Bool) (k : Result Kind UnknownKind) → cond p (Ok None) (cond q (walked_kind k (entry_in b' at)) (Err DirectoryBlock)) ≡ on_found new (cond p (Ok None) (cond q (walked_kind k (entry_in b at)) (Err DirectoryBlock)))
      go true q k = refl
      go false false k = refl
      go false true (Err w) = refl
      go false true (Ok k) = ap (λ x. Ok (Some x)) (new_fields l k)

-- ---- the entries

-- entries of the same bytes
entries_later : (b b' : List ℕ) (y : ℕ) → length b ≡ 512 → length b' ≡ 512 → (k at : ℕ) → ((i : ℕ) → at ≤ i → get_or b' i 0 ≡ get_or b i 0) →
    Unbroken (entries_from k b y at) → entries_from k b' y at ≡ entries_from k b y at
unfolding walked_at
entries_later b b' y whole whole' zero at same u = unfold entries_from in refl
entries_later b b' y whole whole' (suc m) at same u = elim (unbroken_cases b y m at u) [
  | inl o ↦ entries_end_lem b' y (suc m) at (rw (same at (omega arith) ∙ end-at b at o)) ∙ sym (entries_end_lem b y (suc m) at o)
  | inr o ↦ (let g = found_at b at o.0 o.1 in
      entries_more b' y m at o.0 (walked_same b b' at at whole whole' g g.room (λ i l. same (at + i) (omega arith)) ∙ o.1)
      ∙ rw (same at (omega arith), same-name_in b b' at at whole whole' g g.room (λ i l. same (at + i) (omega arith)), entries_later b b' y whole whole' m (at + get_or b at 0) (λ i l. same i (omega arith)) o.2) (sym (entries_more b y m at o.0 o.1)))
]

module _ (b : List ℕ) (y at new : ℕ) (whole : length b ≡ 512) (e : Entered) (ys : List Entered) (start : e.start ≡ y * 512 + at) where
  whole' : length (b' b at new) ≡ 512
  whole' = length-put32 b (at + 4) new ∙ whole

  pub entries_sized : (xs : List Entered) (k p : ℕ) → entries_from k b y p ≡ xs ++ (e ∷ ys) → Unbroken (entries_from k b y p) →
      entries_from k (put32 b (at + 4) new) y p ≡ xs ++ (sized new e ∷ ys)
  entries_sized xs k p i u =
      let r = reaches b y at e start ys xs k p i u in
      let o = r.found in
      let s = o.stands in
      let g = standing_found s in
      let c = b' b at new in
      r.front c whole whole' (λ i l. others b at new i (inl (omega arith)))
      ∙ ap (λ (l : List Entered). xs ++ l) (entries_more c y r.m at (with_new new s.entry) (walked_new b at new (omega (arith, whole, g.long, g.room)) ∙ ap (on_found new) s.walked)
      ∙ rw (
        others b at new at (inl (omega arith)),
        name_sized b at new,
        entries_later b c y whole whole' r.m (at + get_or b at 0) (λ i l. others b at new i (inr (omega (arith, l, g.long)))) o.unbroken,
      )
      (ap₂ ◌∷◌ (ap (sized new) (sym s.is)) o.rest))
