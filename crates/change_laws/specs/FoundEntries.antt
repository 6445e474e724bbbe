-- The entries of a directory block, one by one: what a found one says, and that its bytes at another place, or in another block, are the same entry.
use Rattle.std.specs.Prelude.{ℕ, zero, suc, ◌+◌, ◌-◌, ◌*◌, ◌≤◌, ◌<◌, ◌≡◌, refl, ◌⊎◌, ◌&&◌, eqb, leb, length, Some, None, Ok, Err}
use Rattle.std.proofs.Common.{sym, ap, ◌∙◌, subst, inl, inr, true≢false, arith, add-zero}
use Rattle.std.proofs.Math.Path.{fun_ext}
use Rattle.std.proofs.Math.Bool.{cond}
use mathlib.Core.List.{List, [], ◌∷◌, ◌++◌, cons≢nil, head-eq_of_cons-eq, tail-eq_of_cons-eq}
use Rattle.std.proofs.Math.Nat.{add_assoc}
use Rattle.std.proofs.Math.ListN.{get_or}
use borrow.Author.Tests.{le-leb, ne_eqb}
use Rattle.endian.specs.Bytes.{be16}
use Rattle.endian.proofs.Laws.{be16-bytes, be32_halves, part_same}
use Rattle.disk.specs.declared.Refusal.TheVariants.{DirectoryBlock}
use Rattle.directory.specs.declared.Entry.{Entry}
use Rattle.directory.specs.declared.Kind.{Kind}
use Rattle.directory.specs.Entries.{Walked}
use Rattle.directory.specs.Entries.{directory_header_in, kind_read, good_name, entry_length, name_length, comment_length, name_in, entry_shaped, entry_in, walked_kind, walked_at}
use Rattle.directory.proofs.Laws.{FoundAt, found_at, end-at}
use Rattle.rules.specs.Counting.{any_in}
use Rattle.rules.specs.Walk.{Entered, with_rest, entries_from}
use Rattle.rules.specs.Changes.{end_from, entries_end}
use Rattle.laws.specs.Members.{Member, no_member}
pub use Rattle.laws.specs.Entries.{entered_at, entries_more, entries_end_lem, Unbroken}

-- the same first 16 bytes are the same head
pub head_same : (b b' : List ℕ) → ((i : ℕ) → i < 16 → get_or b' i 0 ≡ get_or b i 0) → directory_header_in b' ≡ directory_header_in b
unfolding directory_header_in
head_same b b' same = rw (two 0 (omega arith), two 12 (omega arith), two 14 (omega arith))
  where
    two : (i : ℕ) → i < 15 → be16 b' i ≡ be16 b i
    two i h = be16-bytes b' b i i (same i (omega arith)) (same (i + 1) (omega arith))

-- the bytes of an entry, at another place or in another block
module _ (b b' : List ℕ) (at at' : ℕ) (whole : length b ≡ 512) (whole' : length b' ≡ 512) (f : FoundAt b at) (room' : at' + get_or b at 0 ≤ 510)
    (same : (i : ℕ) → i < get_or b at 0 → get_or b' (at' + i) 0 ≡ get_or b (at + i) 0) where
  same_length : get_or b' at' 0 ≡ get_or b at 0
  same_length = rw (add-zero at', add-zero at) at (same 0 (omega (arith, f.long)))

  same16 : (i : ℕ) → i < 17 → be16 b' (at' + i) ≡ be16 b (at + i)
  same16 i l = be16-bytes b' b (at' + i) (at + i) (same i (omega (arith, f.long))) (rw (add_assoc at' i 1, add_assoc at i 1) (same (i + 1) (omega (arith, f.long))))

  same_name : name_length b' at' ≡ name_length b at
  unfolding name_length
  same_name = same 15 (omega (arith, f.long))

  same_comment : comment_length b' at' ≡ comment_length b at
  unfolding comment_length entry_length
  same_comment = rw (same_name, add_assoc at' 16 (name_length b at), add_assoc at 16 (name_length b at)) (same (16 + name_length b at) (omega (arith, f.exact)))

  pub same-name_in : name_in b' at' ≡ name_in b at
  unfolding name_in entry_length
  same-name_in = rw same_name
      (part_same b' b (at' + 16) (at + 16) (name_length b at) (omega (arith, f.exact)) (omega (arith, f.exact, f.room))
      (λ i l. rw (add_assoc at' 16 i, add_assoc at 16 i) (same (16 + i) (omega (arith, f.exact)))))

  pub same_fields : (k : Kind) → entry_in b' at' k ≡ entry_in b at k
  unfolding entry_in
  same_fields k = rw (
    same16 2 (omega arith),
    be32_halves b' b (at' + 4) (at + 4) (same16 4 (omega arith)) (rw (add_assoc at' 4 2, add_assoc at 4 2) (same16 6 (omega arith))),
    same16 8 (omega arith),
    same16 10 (omega arith),
    same16 12 (omega arith),
    same 14 (omega (arith, f.long)),
    same_name,
    same_comment,
  )

  pub walked_same : walked_at b' at' ≡ walked_at b at
  unfolding walked_at entry_shaped
  walked_same = rw (
    same_length,
    same_name,
    same_comment,
    same-name_in,
    same 1 (omega (arith, f.long)),
    le-leb (at' + get_or b at 0) 510 room',
    le-leb (at + get_or b at 0) 510 f.room,
  ) (ap (λ (h : Kind → Entry). cond (eqb (get_or b at 0) 0) (Ok None) (cond (eqb (get_or b at 0) (entry_length (name_length b at) (comment_length b at)) && (leb (comment_length b at) 79 && good_name (name_in b at)))
      (walked_kind (kind_read (get_or b (at + 1) 0)) h) (Err DirectoryBlock))) (fun_ext same_fields))

-- ---- the entries from a place on

-- the end mark stands there, or an entry, and none behind it is broken
abbrev pub EndOrEntry : List ℕ → ℕ → ℕ → ℕ → Type 0
EndOrEntry b y m at = (walked_at b at ≡ Ok None) ⊎ ((x : Entry) × (walked_at b at ≡ Ok (Some x)) × Unbroken (entries_from m b y (at + get_or b at 0)))

-- where none is broken, it is so
pub unbroken_cases : (b : List ℕ) (y m at : ℕ) → Unbroken (entries_from (suc m) b y at) → EndOrEntry b y m at
unfolding entries_from any_in
unbroken_cases b y m at u = go (walked_at b at) refl u
  where
    go : (w : Walked) → walked_at b at ≡ w → Unbroken (with_rest w (name_in b at) (y * 512 + at) (entries_from m b y (at + get_or b at 0))) → EndOrEntry b y m at
    go (Ok (Some x)) e v = inr (x, e, v)
    go (Ok None) e v = inl e
    go (Err r) e v = absurd (true≢false v)

pub end_more : (b : List ℕ) (m at : ℕ) (x : Entry) → walked_at b at ≡ Ok (Some x) → end_from (suc m) b at ≡ end_from m b (at + get_or b at 0)
unfolding end_from
end_more b m at x e = rw (ne_eqb (get_or b at 0) 0 (λ z. omega (arith, z, (found_at b at x e).long)))

pub end-here : (b : List ℕ) (m at : ℕ) → walked_at b at ≡ Ok None → end_from (suc m) b at ≡ at
unfolding end_from
end-here b m at e = rw (end-at b at e)

-- the end mark stands behind the entries; 28 entries never fit
pub end_bounds : (b : List ℕ) (y k at : ℕ) → Unbroken (entries_from k b y at) → at ≤ 510 → 520 ≤ at + 18 * k →
    (at ≤ end_from k b at) × (end_from k b at ≤ 510) × (walked_at b (end_from k b at) ≡ Ok None)
end_bounds b y zero at u l f = absurd (omega (arith, l, f))
end_bounds b y (suc m) at u l f = elim (unbroken_cases b y m at u) [
  | inl e ↦ rw (end-here b m at e) (omega arith, l, e)
  | inr e ↦ (let g = found_at b at e.0 e.1 in
      let r = end_bounds b y m (at + get_or b at 0) e.2 g.room (omega (arith, f, g.long)) in
      rw (end_more b m at e.0 e.1) (omega (arith, r.0), r.1, r.2))
]

-- an entry is found at its place in the block, and ends before the mark
pub record Standing (b : List ℕ) (y at end : ℕ) (e : Entered) : Type 0 where
  pub entry : Entry
  pub walked : walked_at b at ≡ Ok (Some entry)
  pub is : e ≡ entered_at entry (name_in b at) (y * 512 + at)
  pub before : at + get_or b at 0 ≤ end

-- what its bytes say
pub standing_found : {b : List ℕ} {y at end : ℕ} {e : Entered} → Standing b y at end e → FoundAt b at
standing_found {b} {at = at} s = found_at b at s.entry s.walked

-- its place in the image
pub standing_start : {b : List ℕ} {y at end : ℕ} {e : Entered} → Standing b y at end e → e.start ≡ y * 512 + at
standing_start s = ap (λ (e : Entered). e.start) s.is

-- it ends before a later mark too
stands_before : {b : List ℕ} {y at end : ℕ} {e : Entered} → Standing b y at end e → (further : ℕ) → end ≤ further → Standing b y at further e
stands_before s further l = record { entry = s.entry; walked = s.walked; is = s.is; before = omega (arith, s.before, l) }

-- the first of the entries from a place on
pub record FirstFound (b : List ℕ) (y m at : ℕ) (e : Entered) (behind : List Entered) : Type 0 where
  pub stands : Standing b y at (at + get_or b at 0) e
  pub rest : entries_from m b y (at + get_or b at 0) ≡ behind
  pub unbroken : Unbroken (entries_from m b y (at + get_or b at 0))

first_found : (b : List ℕ) (y m at : ℕ) (e : Entered) (l : List Entered) → entries_from (suc m) b y at ≡ e ∷ l → Unbroken (entries_from (suc m) b y at) → FirstFound b y m at e l
first_found b y m at e l i u = elim (unbroken_cases b y m at u) [
  | inl o ↦ absurd (cons≢nil (sym i ∙ entries_end_lem b y (suc m) at o))
  | inr o ↦ (let c = sym (entries_more b y m at o.0 o.1) ∙ i in
      record { stands = record { entry = o.0; walked = o.1; is = sym (head-eq_of_cons-eq c); before = omega arith }; rest = tail-eq_of_cons-eq c; unbroken = o.2 })
]

-- it stands at the place that it says
first-here : {b : List ℕ} {y m p : ℕ} {e : Entered} {l : List Entered} → FirstFound b y m p e l → (at : ℕ) → e.start ≡ y * 512 + at → p ≡ at
first-here o at start = omega (arith, standing_start o.stands, start)

-- no entry stands before the place where they start
pub start-after : (b : List ℕ) (y : ℕ) (xs : List Entered) (e : Entered) (ys : List Entered) (k at : ℕ) → entries_from k b y at ≡ xs ++ (e ∷ ys) →
    Unbroken (entries_from k b y at) → y * 512 + at ≤ e.start
unfolding entries_from
start-after b y xs e ys zero at i u = absurd (no_member e (xs, ys, i))
start-after b y [] e ys (suc m) at i u = omega (arith, standing_start (first_found b y m at e ys i u).stands)
start-after b y (x ∷ xs) e ys (suc m) at i u = let o = first_found b y m at x (xs ++ (e ∷ ys)) i u in omega (arith, start-after b y xs e ys m (at + get_or b at 0) o.rest o.unbroken)

-- the entries from p on, passed up to e at its place
pub record Reaches (b : List ℕ) (y k p at : ℕ) (xs : List Entered) (e : Entered) (ys : List Entered) : Type 0 where
  -- how many may follow e
  pub m : ℕ
  pub found : FirstFound b y m at e ys
  -- an entry has at least 18 bytes
  pub fuel : p + 18 * k ≤ at + 18 * suc m
  pub end : end_from k b p ≡ end_from (suc m) b at
  -- a block with the same bytes before e has the same entries there
  pub front : (b' : List ℕ) → length b ≡ 512 → length b' ≡ 512 → ((i : ℕ) → i < at → get_or b' i 0 ≡ get_or b i 0) → entries_from k b' y p ≡ xs ++ entries_from (suc m) b' y at

pub reaches : (b : List ℕ) (y at : ℕ) (e : Entered) → e.start ≡ y * 512 + at → (ys xs : List Entered) (k p : ℕ) → entries_from k b y p ≡ xs ++ (e ∷ ys) →
    Unbroken (entries_from k b y p) → Reaches b y k p at xs e ys
unfolding entries_from
reaches b y at e start ys xs zero p i u = absurd (no_member e (xs, ys, i))
reaches b y at e start ys [] (suc m) p i u =
    let o = first_found b y m p e ys i u in
    let here = first-here o at start in
    record { m = m; found = subst (λ (q : ℕ). FirstFound b y m q e ys) here o; fuel = omega (arith, here); end = ap (end_from (suc m) b) here; front = λ b' w w' same. ap (entries_from (suc m) b' y) here }
reaches b y at e start ys (z ∷ zs) (suc m) p i u =
    let o = first_found b y m p z (zs ++ (e ∷ ys)) i u in
    let s = o.stands in
    let g = standing_found s in
    let r = reaches b y at e start ys zs m (p + get_or b p 0) o.rest o.unbroken in
    let before : p + get_or b p 0 ≤ at = omega (arith, start, start-after b y zs e ys m (p + get_or b p 0) o.rest o.unbroken) in
    record {
      m = r.m;
      found = r.found;
      fuel = omega (arith, r.fuel, g.long);
      end = end_more b m p s.entry s.walked ∙ r.end;
      front = λ b' w w' same.
          entries_more b' y m p s.entry (walked_same b b' p p w w' g g.room (λ i l. same (p + i) (omega arith)) ∙ s.walked)
          ∙ rw (same p (omega (arith, before, g.long)), same-name_in b b' p p w w' g g.room (λ i l. same (p + i) (omega arith)), ← s.is, r.front b' w w' same);
    }

-- an entry of the list stands in the block
pub entry-start : (b : List ℕ) (y k p : ℕ) (e : Entered) → Member e (entries_from k b y p) → Unbroken (entries_from k b y p) → (at : ℕ) × (p ≤ at) × Standing b y at 510 e
entry-start b y k p e (xs, ys, i) u =
    let l = start-after b y xs e ys k p i u in
    let at = e.start - y * 512 in
    let s = (reaches b y at e (omega arith) ys xs k p i u).found.stands in
    (at, omega arith, stands_before s 510 (standing_found s).room)

-- an entry ends before the next begins
pub start_order : (b : List ℕ) (y at : ℕ) (f e : Entered) → f.start ≡ y * 512 + at → (vs ys us : List Entered) (k p : ℕ) → entries_from k b y p ≡ us ++ (f ∷ (vs ++ (e ∷ ys))) →
    Unbroken (entries_from k b y p) → y * 512 + (at + get_or b at 0) ≤ e.start
start_order b y at f e start vs ys us k p i u =
    let r = reaches b y at f start (vs ++ (e ∷ ys)) us k p i u in
    start-after b y vs e ys r.m (at + get_or b at 0) r.found.rest r.found.unbroken

-- an entry of the list stands before the end mark
pub entry_standing : (b : List ℕ) (y at : ℕ) (e : Entered) → e.start ≡ y * 512 + at → (ys xs : List Entered) (k p : ℕ) → entries_from k b y p ≡ xs ++ (e ∷ ys) →
    Unbroken (entries_from k b y p) → 520 ≤ p + 18 * k → Standing b y at (end_from k b p) e
entry_standing b y at e start ys xs k p i u f =
    let r = reaches b y at e start ys xs k p i u in
    let s = r.found.stands in
    let g = standing_found s in
    stands_before s (end_from k b p)
    (omega (arith, r.end, end_more b r.m at s.entry s.walked, (end_bounds b y r.m (at + get_or b at 0) r.found.unbroken g.room (omega (arith, f, r.fuel, g.long))).0))

-- ---- an entry of a directory block whose entries keep the rules

pub record BlockEntry (b : List ℕ) (y at : ℕ) (e : Entered) : Type 0 where
  pub whole : length b ≡ 512
  pub unbroken : Unbroken (entries_from 28 b y 16)
  -- the entries before it, and those behind it
  pub parted : Member e (entries_from 28 b y 16)
  pub start : e.start ≡ y * 512 + at

module _ {b : List ℕ} {y at : ℕ} {e : Entered} (u : BlockEntry b y at e) where
  pub block_standing : Standing b y at (entries_end b) e
  unfolding entries_end
  block_standing = entry_standing b y at e u.start u.parted.1 u.parted.0 28 16 u.parted.2 u.unbroken (omega arith)

  pub end_within : entries_end b ≤ 512
  unfolding entries_end
  end_within = omega (arith, (end_bounds b y 28 16 u.unbroken (omega arith) (omega arith)).1)
