-- An entry put behind the last of a directory block, and a new directory block.
use Rattle.std.specs.Prelude.{ℕ, zero, suc, ◌+◌, ◌*◌, ◌≤◌, ◌<◌, ◌≡◌, Bool, true, false, List, [], ◌∷◌, ◌++◌, leb, length, get_or, take, drop, Some, Ok}
use Rattle.std.proofs.Math.Path.{refl, ap₂}
use Rattle.std.proofs.Common.{sym, ap, ◌∙◌, inl, inr, arith, leb-true, length-set}
use Rattle.std.proofs.Math.Option.{some, none-ne-some}
use Rattle.endian.proofs.Laws.{length-put16, length-put32, length-stored, stored-cleared}
use Rattle.disk.specs.Blocks.{block_of}
use Rattle.directory.specs.declared.Entry.{Entry}
use Rattle.directory.specs.Entries.{directory_header_in, good_name, entry_length, entry_in, walked_at, put_entry}
use Rattle.directory.proofs.Laws.{length-put_entry, get_or-put_entry-before, walked_at-put_entry-end, entry_in-put_entry, name_in-put_entry, walked_at-put_entry, found_at}
use Rattle.rules.specs.Counting.{occurrences}
use Rattle.rules.specs.Walk.{Entered, entries_from}
use Rattle.rules.specs.Format.{new_directory_block}
use Rattle.rules.specs.Changes.{end_from, entries_end, first_room}
use Rattle.laws.specs.Bags.{occurrences-cons, occurrences-here}
use Rattle.laws.specs.NewDirectory.{mark-new}
use Rattle.laws.specs.Entries.{Unbroken}
use Rattle.change_laws.specs.FoundEntries.{head_same, same-name_in, walked_same, entered_at, entries_more, entries_end_lem, EndOrEntry, unbroken_cases, end_more, end-here, end_bounds}

-- ---- an entry at the end mark's place

module _ (b : List ℕ) (y : ℕ) (e : Entry) (name comment : List ℕ) (whole : length b ≡ 512) (room : entries_end b + entry_length e.name e.comment ≤ 510)
    (named : length name ≡ e.name) (commented : length comment ≡ e.comment) (good : good_name name ≡ true) (short : e.comment ≤ 79) where
  abbrev end : ℕ
  end = entries_end b

  abbrev b' : List ℕ
  b' = put_entry b end e name comment

  found : walked_at b' end ≡ Ok (Some e)
  found = walked_at-put_entry b end e name comment named commented whole room good short

  first : get_or b' end 0 ≡ entry_length e.name e.comment
  unfolding entry_in
  first =
      let is = entry_in-put_entry b end e name comment named commented whole room in
      (found_at b' end e found).exact ∙ ap₂ entry_length (ap (λ (x : Entry). x.name) is) (ap (λ (x : Entry). x.comment) is)

  put-here : (k : ℕ) → entries_from (suc k) b' y end ≡ entered_at e name (y * 512 + end) ∷ []
  put-here k =
      entries_more b' y k end e found
      ∙ ap₂ (λ (v : List ℕ) (l : List Entered). entered_at e v (y * 512 + end) ∷ l) (name_in-put_entry b end e name comment named commented whole room) (entries_end_lem b' y k (end + get_or b' end 0) (rw first (walked_at-put_entry-end b end e name comment)))

  put-behind : (k at : ℕ) → at ≤ 510 → 520 ≤ at + 18 * k → Unbroken (entries_from k b y at) → end_from k b at ≡ end →
      entries_from k b' y at ≡ entries_from k b y at ++ (entered_at e name (y * 512 + end) ∷ [])
  put-behind zero at l m u q = absurd (omega arith)
  put-behind (suc k) at l m u q = go (unbroken_cases b y k at u) (put-behind k)
    where
      go : EndOrEntry b y k at →
          ((at : ℕ) → at ≤ 510 → 520 ≤ at + 18 * k → Unbroken (entries_from k b y at) → end_from k b at ≡ end →
          entries_from k b' y at ≡ entries_from k b y at ++ (entered_at e name (y * 512 + end) ∷ [])) →
          entries_from (suc k) b' y at ≡ entries_from (suc k) b y at ++ (entered_at e name (y * 512 + end) ∷ [])
      go (inl z) rec =
          let here : at ≡ end = sym (end-here b k at z) ∙ q in
          rw (entries_end_lem b y (suc k) at z, here) (put-here k)
      go (inr (x, w, r)) rec =
          let f = found_at b at x w in
          let further : end_from k b (at + get_or b at 0) ≡ end = sym (end_more b k at x w) ∙ q in
          let fuel : 520 ≤ at + get_or b at 0 + 18 * k = omega (arith, m, f.long) in
          let below : at + get_or b at 0 ≤ end = omega (arith, (end_bounds b y k (at + get_or b at 0) r f.room fuel).0, further) in
          let same : (i : ℕ) → i < get_or b at 0 → get_or b' (at + i) 0 ≡ get_or b (at + i) 0 = λ i h. get_or-put_entry-before b end e name comment (at + i) (omega arith) in
          let w' = walked_same b b' at at whole (length-put_entry b end e name comment ∙ whole) f f.room same ∙ w in
          let next : at + get_or b' at 0 ≡ at + get_or b at 0 = ap (λ (i : ℕ). at + i) (get_or-put_entry-before b end e name comment at (omega (arith, f.long))) in
          entries_more b' y k at x w'
          ∙ ap₂ (λ (v : List ℕ) (l : List Entered). entered_at x v (y * 512 + at) ∷ l) (same-name_in b b' at at whole (length-put_entry b end e name comment ∙ whole) f f.room same)
          (ap (entries_from k b' y) next ∙ rec (at + get_or b at 0) f.room fuel r further)
          ∙ sym (ap (λ (l : List Entered). l ++ (entered_at e name (y * 512 + end) ∷ [])) (entries_more b y k at x w))

  -- a block's entries, with one more behind the last
  pub entries_put : Unbroken (entries_from 28 b y 16) → entries_from 28 b' y 16 ≡ entries_from 28 b y 16 ++ (entered_at e name (y * 512 + end) ∷ [])
  unfolding entries_end
  entries_put u = put-behind 28 16 (omega arith) (omega arith) u refl

-- the head of a directory block stays
pub head_put : (b : List ℕ) (at : ℕ) (e : Entry) (name comment : List ℕ) → 16 ≤ at → directory_header_in (put_entry b at e name comment) ≡ directory_header_in b
head_put b at e name comment l = head_same b (put_entry b at e name comment) (λ i h. get_or-put_entry-before b at e name comment i (omega arith))

-- the comment stands behind the name and its own length byte
pub comment_put : (b : List ℕ) (at : ℕ) (e : Entry) (name comment : List ℕ) → length comment ≡ e.comment → length b ≡ 512 → at + entry_length e.name e.comment ≤ 510 →
    take (length comment) (drop (at + 17 + e.name) (put_entry b at e name comment)) ≡ comment
unfolding put_entry entry_length
comment_put b at e name comment commented whole room =
    let start : at + 17 + e.name ≡ at + 16 + e.name + 1 = omega arith in
    ap (λ (k : ℕ). take (length comment) (drop k (put_entry b at e name comment))) start
    ∙ stored-cleared _ (at + 16 + e.name + 1) _ _ comment (simp (length-set, length-stored, length-put16, length-put32) (omega arith)) (omega arith)

-- ---- a new directory block

pub end-new : (owner parent : ℕ) → entries_end (new_directory_block owner parent) ≡ 16
unfolding entries_end
end-new owner parent = end-here (new_directory_block owner parent) 27 16 (mark-new owner parent)

-- ---- the first block with room

-- where room is found: in block y of the list, at its end mark
pub room-found : (img : List ℕ) (len : ℕ) (ys : List ℕ) (start : ℕ) → first_room img len ys ≡ some start →
    (y : ℕ) × (0 < occurrences y ys) × (start ≡ y * 512 + entries_end (block_of img y)) × (entries_end (block_of img y) + len ≤ 510)
unfolding first_room
room-found img len [] start e = absurd (none-ne-some start e)
room-found img len (y ∷ ys) start e = go (leb (entries_end (block_of img y) + len) 510) refl e (room-found img len ys start)
  where
    go : (c : Bool) → leb (entries_end (block_of img y) + len) 510 ≡ c → elim c [ true ↦ some (y * 512 + entries_end (block_of img y)) | false ↦ first_room img len ys ] ≡ some start →
        (first_room img len ys ≡ some start → (x : ℕ) × (0 < occurrences x ys) × (start ≡ x * 512 + entries_end (block_of img x)) × (entries_end (block_of img x) + len ≤ 510)) →
        (x : ℕ) × (0 < occurrences x (y ∷ ys)) × (start ≡ x * 512 + entries_end (block_of img x)) × (entries_end (block_of img x) + len ≤ 510)
    go true c f rec = (y, occurrences-here y ys, cc, leb-true (entries_end (block_of img y) + len) 510 c)
    go false c f rec = let r = rec f in (r.0, omega (arith, occurrences-cons r.0 y ys, r.1), r.2, r.3)
