-- The cases of the definitions, and what a reader of a directory block gets after a store. Assumes nothing.
use Rattle.std.specs.Prelude.{Some, None, Result, Ok, Err}
use mathlib.Core.Path.{◌≡◌, refl, sym, ap, ◌∙◌}
use Prim.Native.Nat.{ℕ, ◌+◌, ◌-◌, ◌*◌, ◌/◌, ◌%◌, ◌<◌, ◌≤◌}
use mathlib.Core.List.{List, [], ◌∷◌}
use mathlib.Core.Bool.{Bool, true, false, cond, ◌&&◌, and-eq-true_iff, false≢true, true≢false}
use native.Mathlib.Omega.{arith}
use native.Mathlib.Numerals.{add-one}
use borrow.Author.Tests.{le-leb, eq-eqb, ne_eqb, leb-true, eqb-true}
use lib.Dec.{leb, eqb}
use lib.ListN.{length, get_or, set, take, drop, drop_of_length-le, length-set, length-drop}
use lib.Seq.{drop-cons, get_or-set_same, get_or-set_other, get_or-take, get_or-drop, length-take-le, ext_get_or}
use Rattle.endian.specs.Bytes.{be16, be32, put16, put32, stored, cleared}
use Rattle.endian.proofs.Laws.{length-put16, length-put32, be16-put16-same, be16-put16_other, get_or-put16_other, length-stored, length-cleared, run_on, byte_run, put16-run, put32-run, get_or-stored-before, get_or-stored-after, get_or-stored_in, get_or-cleared-before, get_or-cleared-after, get_or-cleared_in}
use Rattle.directory.specs.declared.DirectoryHeader.{DirectoryHeader}
use Rattle.directory.specs.declared.Kind.{Kind}
use Rattle.directory.specs.declared.Kind.TheVariants.{File, Directory}
use Rattle.directory.specs.declared.UnknownKind.{UnknownKind}
use Rattle.directory.specs.declared.Entry.{Entry}
use Rattle.directory.specs.Entries.{Walked}
use Rattle.disk.specs.declared.Refusal.{Refusal}
use Rattle.disk.specs.declared.Refusal.TheVariants.{DirectoryBlock}
use Rattle.directory.specs.Entries.{directory_header_in, put_directory_header, kind_read, type_of, good_name_byte, all_bytes, good_name, entry_length, name_length, comment_length, name_in, entry_shaped, entry_in, walked_kind, walked_at, put_entry}

-- ---- names

-- the bytes from `j` on: the one at `j`, and those after it
pub all_bytes_step : (test : ℕ → Bool) (l : List ℕ) (j : ℕ) → j < length l
    → all_bytes test (drop j l) ≡ test (get_or l j 0) && all_bytes test (drop (j + 1) l)
unfolding all_bytes
all_bytes_step test l j h = rw (drop-cons l j 0 h, add-one j)

pub all_bytes-end : (test : ℕ → Bool) (l : List ℕ) (j : ℕ) → length l ≤ j → all_bytes test (drop j l) ≡ true
unfolding all_bytes
all_bytes-end test l j h = rw (drop_of_length-le l h)

-- a name of a good length is good by its bytes
pub good_name-bytes : (name : List ℕ) → 1 ≤ length name → length name ≤ 107 → good_name name ≡ all_bytes good_name_byte name
unfolding good_name
good_name-bytes name h k = rw (le-leb 1 (length name) h, le-leb (length name) 107 k)

pub good_name-length : (name : List ℕ) → good_name name ≡ true → length name ≤ 107
unfolding good_name
good_name-length name h =
    let rest = ((and-eq-true_iff (leb 1 (length name)) (leb (length name) 107 && all_bytes good_name_byte name)).0 h).1 in
    leb-true (length name) 107 ((and-eq-true_iff (leb (length name) 107) (all_bytes good_name_byte name)).0 rest).0

-- ---- a directory block's head

module _ (b : List ℕ) (h : DirectoryHeader) where
  pub length-put_directory_header : length (put_directory_header b h) ≡ length b
  unfolding put_directory_header
  length-put_directory_header = simp length-put16

  -- every byte from 16 on is left
  pub get_or-put_directory_header-after : (i : ℕ) → 16 ≤ i → get_or (put_directory_header b h) i 0 ≡ get_or b i 0
  unfolding put_directory_header
  get_or-put_directory_header-after i g =
      get_or-put16_other _ 14 _ i (omega arith) (omega arith) ∙ get_or-put16_other _ 12 _ i (omega arith) (omega arith) ∙ get_or-put16_other b 0 _ i (omega arith) (omega arith)

  pub directory_header_in-put_directory_header : 16 ≤ length b → directory_header_in (put_directory_header b h) ≡ h
  unfolding directory_header_in put_directory_header
  directory_header_in-put_directory_header room =
      let b1 = put16 b 0 h.mark in
      let b2 = put16 b1 12 h.owner.0 in
      let n1 : length b1 ≡ length b = length-put16 b 0 h.mark in
      let n2 : length b2 ≡ length b1 = length-put16 b1 12 h.owner.0 in
      rw (
        be16-put16_other b2 14 h.parent.0 0 (λ j m e. omega arith),
        be16-put16_other b1 12 h.owner.0 0 (λ j m e. omega arith),
        be16-put16-same b 0 h.mark (omega arith),
        be16-put16_other b2 14 h.parent.0 12 (λ j m e. omega arith),
        be16-put16-same b1 12 h.owner.0 (omega arith),
        be16-put16-same b2 14 h.parent.0 (omega arith),
      )

-- ---- storing an entry

-- the stores of an entry one after another, each with what it makes of the block
pub put_entry_stores : (b : List ℕ) (at : ℕ) (e : Entry) (name comment : List ℕ) (len type : ℕ)
    → len ≡ entry_length e.name e.comment
    → type ≡ type_of e.kind
    → (b1 b2 b3 b4 b5 b6 b7 b8 b9 b10 b11 b12 b13 : List ℕ)
    → b1 ≡ set b at (len % 256)
    → b2 ≡ set b1 (at + 1) type
    → b3 ≡ put16 b2 (at + 2) e.anode.0
    → b4 ≡ put32 b3 (at + 4) e.size
    → b5 ≡ put16 b4 (at + 8) e.day
    → b6 ≡ put16 b5 (at + 10) e.minute
    → b7 ≡ put16 b6 (at + 12) e.tick
    → b8 ≡ set b7 (at + 14) e.protection
    → b9 ≡ set b8 (at + 15) e.name
    → b10 ≡ stored b9 (at + 16) name
    → b11 ≡ set b10 (at + 16 + e.name) e.comment
    → b12 ≡ stored b11 (at + 16 + e.name + 1) comment
    → b13 ≡ cleared b12 (at + 16 + e.name + 1 + e.comment) (at + len + 1 - (at + 16 + e.name + 1 + e.comment))
    → b13 ≡ put_entry b at e name comment
unfolding put_entry
put_entry_stores b at e name comment len type l t b1 b2 b3 b4 b5 b6 b7 b8 b9 b10 b11 b12 b13 s1 s2 s3 s4 s5 s6 s7 s8 s9 s10 s11 s12 s13 =
    rw (s13, s12, s11, s10, s9, s8, s7, s6, s5, s4, s3, s2, s1, l, t)

-- ---- the run of bytes of an entry's fields

-- the first sixteen bytes of an entry
unfoldable entry_head : Entry → List ℕ
entry_head e =
    entry_length e.name e.comment % 256
    ∷ type_of e.kind
    ∷ e.anode.0 / 256 ∷ e.anode.0 % 256
    ∷ e.size / 65536 / 256 ∷ e.size / 65536 % 256 ∷ e.size % 65536 / 256 ∷ e.size % 65536 % 256
    ∷ e.day / 256 ∷ e.day % 256
    ∷ e.minute / 256 ∷ e.minute % 256
    ∷ e.tick / 256 ∷ e.tick % 256
    ∷ e.protection
    ∷ e.name
    ∷ []

-- ---- reading an entry that was stored

kind_read-type_of : (k : Kind) → kind_read (type_of k) ≡ Ok k
unfolding kind_read
kind_read-type_of File = refl
kind_read-type_of Directory = refl

module _ (b : List ℕ) (at : ℕ) (e : Entry) (name comment : List ℕ) where
  pub length-put_entry : length (put_entry b at e name comment) ≡ length b
  unfolding put_entry
  length-put_entry = simp (length-cleared, length-stored, length-set, length-put16, length-put32)

  -- the block after the first sixteen bytes, after the name, after the comment's length byte and after the comment
  abbrev headed : List ℕ
  headed = stored b at (entry_head e)

  abbrev named : List ℕ
  named = stored headed (at + 16) name

  abbrev counted : List ℕ
  counted = set named (at + 16 + e.name) e.comment

  abbrev commented : List ℕ
  commented = stored counted (at + 16 + e.name + 1) comment

  -- the fields are stored as one run
  put_entry-run : put_entry b at e name comment
      ≡ cleared commented (at + 16 + e.name + 1 + e.comment) (at + entry_length e.name e.comment + 1 - (at + 16 + e.name + 1 + e.comment))
  unfolding put_entry entry_head
  put_entry-run =
      let r1 = byte_run b at (entry_length e.name e.comment % 256) in
      let r2 = byte_run _ (at + 1) (type_of e.kind) ∙ run_on _ _ _ _ r1 (at + 1) _ (omega arith) in
      let r3 = put16-run _ (at + 2) e.anode.0 ∙ run_on _ _ _ _ r2 (at + 2) _ (omega arith) in
      let r4 = put32-run _ (at + 4) e.size ∙ run_on _ _ _ _ r3 (at + 4) _ (omega arith) in
      let r5 = put16-run _ (at + 8) e.day ∙ run_on _ _ _ _ r4 (at + 8) _ (omega arith) in
      let r6 = put16-run _ (at + 10) e.minute ∙ run_on _ _ _ _ r5 (at + 10) _ (omega arith) in
      let r7 = put16-run _ (at + 12) e.tick ∙ run_on _ _ _ _ r6 (at + 12) _ (omega arith) in
      let r8 = byte_run _ (at + 14) e.protection ∙ run_on _ _ _ _ r7 (at + 14) _ (omega arith) in
      let r9 = byte_run _ (at + 15) e.name ∙ run_on _ _ _ _ r8 (at + 15) _ (omega arith) in
      rw r9

  -- each store leaves what stands before it
  get_or-counted : (i : ℕ) → i ≤ at + 16 + e.name → get_or (put_entry b at e name comment) i 0 ≡ get_or counted i 0
  get_or-counted i h =
      rw put_entry-run (get_or-cleared-before commented _ _ i (omega arith) ∙ get_or-stored-before counted _ comment i (omega arith))

  get_or-named : (i : ℕ) → i < at + 16 + e.name → get_or (put_entry b at e name comment) i 0 ≡ get_or named i 0
  get_or-named i h = get_or-counted i (omega arith) ∙ get_or-set_other named _ i _ 0 (omega arith)

  get_or-headed : (i : ℕ) → i < at + 16 → get_or (put_entry b at e name comment) i 0 ≡ get_or headed i 0
  get_or-headed i h = get_or-named i (omega arith) ∙ get_or-stored-before headed _ name i h

  -- every byte before the entry is left
  pub get_or-put_entry-before : (i : ℕ) → i < at → get_or (put_entry b at e name comment) i 0 ≡ get_or b i 0
  get_or-put_entry-before i h = get_or-headed i (omega arith) ∙ get_or-stored-before b at (entry_head e) i h

  -- the byte after the entry becomes 0
  get_or-put_entry-end : get_or (put_entry b at e name comment) (at + entry_length e.name e.comment) 0 ≡ 0
  unfolding entry_length
  get_or-put_entry-end = rw put_entry-run (get_or-cleared_in commented _ _ _ (omega arith) (omega arith))

  -- and ends the entries
  pub walked_at-put_entry-end : walked_at (put_entry b at e name comment) (at + entry_length e.name e.comment) ≡ Ok None
  unfolding walked_at
  walked_at-put_entry-end = rw get_or-put_entry-end

  module _ (name_fits : length name ≡ e.name) (comment_fits : length comment ≡ e.comment) where
    -- every byte past that one is left
    pub get_or-put_entry-after : (i : ℕ) → at + entry_length e.name e.comment < i → get_or (put_entry b at e name comment) i 0 ≡ get_or b i 0
    unfolding entry_length entry_head
    get_or-put_entry-after i h =
        rw put_entry-run
        (get_or-cleared-after commented _ _ i (omega arith)
        ∙ get_or-stored-after counted _ comment i (omega arith)
        ∙ get_or-set_other named _ i _ 0 (omega arith)
        ∙ get_or-stored-after headed _ name i (omega arith)
        ∙ get_or-stored-after b at (entry_head e) i (omega arith))

    module _ (whole : length b ≡ 512) (room : at + entry_length e.name e.comment ≤ 510) where
      -- byte `k` of the entry
      in_head : (i k : ℕ) → i ≡ at + k → k < 16 → get_or (put_entry b at e name comment) i 0 ≡ get_or (entry_head e) k 0
      unfolding entry_length entry_head
      in_head i k q h = get_or-headed i (omega arith) ∙ get_or-stored_in b at (entry_head e) i k q h (omega arith)

      name_length-put_entry : name_length (put_entry b at e name comment) at ≡ e.name
      unfolding name_length entry_head
      name_length-put_entry = in_head (at + 15) 15 refl (omega arith)

      comment_length-put_entry : comment_length (put_entry b at e name comment) at ≡ e.comment
      unfolding comment_length entry_length
      comment_length-put_entry =
          let n : length named ≡ length b = simp length-stored in
          rw name_length-put_entry (get_or-counted _ (omega arith) ∙ get_or-set_same named _ e.comment 0 (omega arith))

      in_name : (i : ℕ) → i < length name → get_or (put_entry b at e name comment) (at + 16 + i) 0 ≡ get_or name i 0
      unfolding entry_length
      in_name i h =
          let n : length headed ≡ length b = length-stored b at (entry_head e) in
          get_or-named _ (omega arith) ∙ get_or-stored_in headed (at + 16) name _ i refl h (omega arith)

      pub name_in-put_entry : name_in (put_entry b at e name comment) at ≡ name
      unfolding name_in entry_length
      name_in-put_entry =
          let l = drop (at + 16) (put_entry b at e name comment) in
          let k = length-drop (at + 16) (put_entry b at e name comment) in
          let m = length-put_entry in
          let n : length (take e.name l) ≡ e.name = length-take-le e.name l (omega arith) in
          rw name_length-put_entry
          (ext_get_or 0 (take e.name l) name (n ∙ sym name_fits)
          (λ i h. get_or-take e.name l i 0 (omega arith) ∙ get_or-drop (at + 16) (put_entry b at e name comment) i 0 ∙ in_name i (omega arith)))

      -- the number in two bytes of the entry
      in_head16 : (i k v : ℕ) → i ≡ at + k → k < 15 → get_or (entry_head e) k 0 ≡ v / 256 → get_or (entry_head e) (k + 1) 0 ≡ v % 256
          → be16 (put_entry b at e name comment) i ≡ v
      unfolding be16
      in_head16 i k v q h p r = rw (in_head i k q (omega arith), in_head (i + 1) (k + 1) (omega arith) (omega arith), p, r) (omega arith)

      pub entry_in-put_entry : entry_in (put_entry b at e name comment) at e.kind ≡ e
      unfolding entry_in be32 entry_head
      entry_in-put_entry =
          let halves : e.size / 65536 * 65536 + e.size % 65536 ≡ e.size = omega arith in
          rw (
            in_head16 (at + 2) 2 e.anode.0 refl (omega arith) refl refl,
            in_head16 (at + 4) 4 (e.size / 65536) refl (omega arith) refl refl,
            in_head16 (at + 4 + 2) 6 (e.size % 65536) (omega arith) (omega arith) refl refl,
            in_head16 (at + 8) 8 e.day refl (omega arith) refl refl,
            in_head16 (at + 10) 10 e.minute refl (omega arith) refl refl,
            in_head16 (at + 12) 12 e.tick refl (omega arith) refl refl,
            in_head (at + 14) 14 refl (omega arith),
            name_length-put_entry,
            comment_length-put_entry,
            halves,
          )

      -- a stored entry is found
      pub walked_at-put_entry : good_name name ≡ true → e.comment ≤ 79 → walked_at (put_entry b at e name comment) at ≡ Ok (Some e)
      unfolding walked_at entry_shaped entry_length entry_head
      walked_at-put_entry good short =
          let long = good_name-length name good in
          let len : get_or (put_entry b at e name comment) at 0 ≡ entry_length e.name e.comment =
          in_head at 0 (omega arith) (omega arith) ∙ (omega arith) in
          rw (
            len,
            name_length-put_entry,
            comment_length-put_entry,
            name_in-put_entry,
            in_head (at + 1) 1 refl (omega arith),
            kind_read-type_of e.kind,
            ne_eqb (entry_length e.name e.comment) 0 (omega arith),
            eq-eqb (entry_length e.name e.comment) (entry_length e.name e.comment) refl,
            le-leb (at + entry_length e.name e.comment) 510 room,
            le-leb e.comment 79 short,
            good,
            entry_in-put_entry,
          )

-- ---- what a found entry and the end mark say of the bytes

-- whether an entry was found
abbrev is_found : Walked → Bool
is_found (Ok (Some e)) = true
is_found (Ok None) = false
is_found (Err r) = false

-- whether the end mark was met
abbrev is_end : Walked → Bool
is_end (Ok (Some e)) = false
is_end (Ok None) = true
is_end (Err r) = false

-- what an entry that is found says of its length byte
pub record FoundAt (b : List ℕ) (at : ℕ) : Type 0 where
  pub long : 18 ≤ get_or b at 0
  pub exact : get_or b at 0 ≡ entry_length (name_length b at) (comment_length b at)
  pub room : at + get_or b at 0 ≤ 510

shaped_at : (b : List ℕ) (at : ℕ) → entry_shaped b at ≡ true → FoundAt b at
unfolding entry_shaped entry_length
shaped_at b at h =
    let fits = (and-eq-true_iff (eqb (get_or b at 0) (entry_length (name_length b at) (comment_length b at))) (leb (at + get_or b at 0) 510 && (leb (comment_length b at) 79 && good_name (name_in b at)))).0 h in
    let exact = eqb-true (get_or b at 0) (entry_length (name_length b at) (comment_length b at)) fits.0 in
    let within = (and-eq-true_iff (leb (at + get_or b at 0) 510) (leb (comment_length b at) 79 && good_name (name_in b at))).0 fits.1 in
    record { long = omega (arith, exact); exact = exact; room = leb-true (at + get_or b at 0) 510 within.0 }

pub found_at : (b : List ℕ) (at : ℕ) (x : Entry) → walked_at b at ≡ Ok (Some x) → FoundAt b at
unfolding walked_at
found_at b at x h = go (eqb (get_or b at 0) 0) (entry_shaped b at) (walked_kind (kind_read (get_or b (at + 1) 0)) (entry_in b at)) refl h
  where
    go : (p q : Bool) (w : Walked) → entry_shaped b at ≡ q → cond p (Ok None) (cond q w (Err DirectoryBlock)) ≡ Ok (Some x) → FoundAt b at
    go true q w j f = absurd (false≢true (ap is_found f))
    go false false w j f = absurd (false≢true (ap is_found f))
    go false true w j f = shaped_at b at j

fields_of : (b : List ℕ) (at : ℕ) (x : Entry) (k : Kind) → kind_read (get_or b (at + 1) 0) ≡ Ok k → entry_in b at k ≡ x → (kind_read (get_or b (at + 1) 0) ≡ Ok x.kind) × (x ≡ entry_in b at x.kind)
unfolding entry_in
fields_of b at x k e i = rw (← i) (e, refl)

-- its kind is that of its type byte, and its fields are those that stand there
pub found_fields : (b : List ℕ) (at : ℕ) (x : Entry) → walked_at b at ≡ Ok (Some x) → (kind_read (get_or b (at + 1) 0) ≡ Ok x.kind) × (x ≡ entry_in b at x.kind)
unfolding walked_at
found_fields b at x h = go (eqb (get_or b at 0) 0) (entry_shaped b at) (kind_read (get_or b (at + 1) 0)) refl h
  where
    go : (p q : Bool) (k : Result Kind UnknownKind) → kind_read (get_or b (at + 1) 0) ≡ k → cond p (Ok None) (cond q (walked_kind k (entry_in b at)) (Err DirectoryBlock)) ≡ Ok (Some x) → (kind_read (get_or b (at + 1) 0) ≡ Ok x.kind) × (x ≡ entry_in b at x.kind)
    go true q k e f = absurd (false≢true (ap is_found f))
    go false true (Ok k) e f = fields_of b at x k e cc
    go false true (Err w) e f = absurd (false≢true (ap is_found f))
    go false false k e f = absurd (false≢true (ap is_found f))

-- the end mark is a length byte 0
pub end-at : (b : List ℕ) (at : ℕ) → walked_at b at ≡ Ok None → get_or b at 0 ≡ 0
unfolding walked_at
end-at b at h = go (eqb (get_or b at 0) 0) (entry_shaped b at) (kind_read (get_or b (at + 1) 0)) refl h
  where
    go : (p q : Bool) (k : Result Kind UnknownKind) → eqb (get_or b at 0) 0 ≡ p → cond p (Ok None) (cond q (walked_kind k (entry_in b at)) (Err DirectoryBlock)) ≡ Ok None → get_or b at 0 ≡ 0
    go true q k j f = eqb-true (get_or b at 0) 0 j
    go false true (Ok x) j f = absurd (false≢true (ap is_end f))
    go false true (Err w) j f = absurd (false≢true (ap is_end f))
    go false false k j f = absurd (false≢true (ap is_end f))

-- a fault is the refusal of a directory block, 12
pub fault_at : (b : List ℕ) (at : ℕ) (r : Refusal) → walked_at b at ≡ Err r → r ≡ DirectoryBlock
unfolding walked_at
fault_at b at r h = go (eqb (get_or b at 0) 0) (entry_shaped b at) (kind_read (get_or b (at + 1) 0)) h
  where
    go : (p q : Bool) (k : Result Kind UnknownKind) → cond p (Ok None) (cond q (walked_kind k (entry_in b at)) (Err DirectoryBlock)) ≡ Err r → r ≡ DirectoryBlock
    go true q k f = absurd (true≢false (ap is_end f))
    go false true (Ok x) f = absurd (true≢false (ap is_found f))
    go false true (Err w) f = cc
    go false false k f = cc
