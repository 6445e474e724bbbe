-- Laws of the rules' entries and lookups, from a place on. Assumes nothing.
use Rattle.std.specs.Prelude.{Option as Answer, Some, None, Ok, Err}
use Rattle.std.specs.Option.{is_some, option_or}
use Prim.Native.Nat.{ℕ, ◌+◌, ◌*◌, ◌/◌, ◌%◌, ◌<◌}
use mathlib.Core.Path.{◌≡◌, refl, sym, ap}
use mathlib.Core.Logic.{inl, inr}
use mathlib.Core.Bool.{Bool, true, false, true≢false, false≢true}
use mathlib.Core.List.{List, [], ◌∷◌, ◌++◌}
use mathlib.Core.Option.{Option, none, some}
use native.Mathlib.Numerals.{add-one}
use native.Mathlib.Omega.{arith}
use lib.ListN.{get_or}
use borrow.Author.Tests.{eq-eqb}
use Rattle.disk.specs.declared.Refusal.{Refusal}
use Rattle.disk.specs.Blocks.{block_of}
use Rattle.directory.specs.declared.Entry.{Entry}
use Rattle.directory.specs.Entries.{Walked, name_in, walked_at}
use Rattle.directory.proofs.Laws.{end-at}
use Rattle.counting.specs.Laws.{neither}
use Rattle.rules.specs.Counting.{any_in, gather}
use Rattle.rules.specs.Anodes.{limit}
use Rattle.rules.specs.Chains.{chain_of}
use Rattle.rules.specs.Walk.{Entered, entries_in}
use Rattle.rules.specs.Lookup.{name_at, is_named, first_named, entry_named, entries_of, nth}
use Rattle.anodes.specs.Loaded.{anodes_from}
use Rattle.laws.specs.Entries.{Unbroken, entries_left, reads_more, reads_fault, read_within}
use Rattle.reader.specs.declared.Reader.{Reader}
use Rattle.reader.specs.declared.EntryRead.{EntryRead}
use Rattle.reader.specs.declared.Places.{Places}
use Rattle.reader.specs.Reads.{ReadsEntry, Reads, GivesPlace, GivesPlaces}
use Rattle.lookup.specs.declared.EntryAt.{EntryAt}
use Rattle.lookup.specs.Answers.{entry_of, or_else, only_if, placed, entered}

-- ---- the entries of a block, from a place on

-- the name that stands at a place
pub name_at_lem : (img : List ℕ) (y : ℕ) (block : List ℕ) (at : ℕ) → block ≡ block_of img y → at < 512 → name_at img (y * 512 + at) ≡ name_in block at
unfolding name_at
name_at_lem img y block at is h =
    let p : (y * 512 + at) / 512 ≡ y = omega arith in
    let q : (y * 512 + at) % 512 ≡ at = omega arith in
    rw (p, q, is)

first_step : (name : List ℕ) (e : Entered) (es : List Entered) → first_named name (e ∷ es) ≡ or_else (only_if (is_named name e) e) (first_named name es)
unfolding first_named
first_step name e es = cases (is_named name e) where
  cases : (b : Bool) → elim b [ true ↦ some e | false ↦ first_named name es ] ≡ or_else (only_if b e) (first_named name es)
  cases true = refl
  cases false = refl

or_assoc : (one two three : Option Entered) → or_else (or_else one two) three ≡ or_else one (or_else two three)
or_assoc none two three = refl
or_assoc (some e) two three = refl

or-none : (o : Option Entered) → or_else o none ≡ o
or-none none = refl
or-none (some e) = refl

-- what a reader of a block still has to give: at its start the entries of the block
pub reader_whole : (img : List ℕ) (y : ℕ) (r : Reader) → r.block.now ≡ block_of img y → r.at ≡ 16 → r.left ≡ 28 → entries_left y r ≡ entries_in img y
unfolding entries_in
reader_whole img y r b a l = rw (b, a, l)

-- what a reader of block y gives
module _ (img : List ℕ) (y : ℕ) (r r' : Reader) (is : r.block.now ≡ block_of img y) where
  -- an entry, as a lookup places it, before those that are left
  pub reads_placed : (x : EntryRead) → ReadsEntry r x r' → entries_left y r ≡ entered img (placed x.entry (y * 512 + x.at)) ∷ entries_left y r'
  reads_placed x w = rw (name_at_lem img y r.block.now x.at is (read_within y r r' x w)) (reads_more y r r' x w)

  -- of the same block
  pub reads_same : (x : EntryRead) → ReadsEntry r x r' → r'.block.now ≡ block_of img y
  reads_same x w = rw w.same_block is

  pub unbroken_rest : (x : EntryRead) → ReadsEntry r x r' → Unbroken (entries_left y r) → Unbroken (entries_left y r')
  unfolding any_in
  unbroken_rest x w u = rw (reads_placed x w) at u

  -- and no fault where none is broken
  pub unbroken_no_fault : (f : Refusal) → Reads r (Some (Err f)) r' → Unbroken (entries_left y r) → ⊥
  unfolding any_in
  unbroken_no_fault f w u = true≢false (rw (reads_fault y r r' f w) at u)

-- where no entry is broken, a length byte that is not 0 is an entry's
module _ (y : ℕ) (r r' : Reader) where
  pub place_entry : (at : ℕ) → GivesPlace r at r' → Unbroken (entries_left y r) → (x : Entry) × ReadsEntry r (record { at = at; entry = x }) r'
  unfolding any_in
  place_entry at g u = go (walked_at r.block.now r.at) refl
    where
      go : (w : Walked) → walked_at r.block.now r.at ≡ w → (x : Entry) × ReadsEntry r (record { at = at; entry = x }) r'
      go (Ok (Some x)) e = (x, record { may = g.may; place = g.place; entry = e; same_block = g.same_block; behind = g.behind })
      go (Ok None) e = absurd (g.some (end-at r.block.now r.at e))
      go (Err f) e =
          let none : Reader = record { block = r.block; at = r.at; left = 0 } in
          absurd (true≢false (rw (reads_fault y r none f (omega (arith, g.may), e, refl)) at u))

-- and 0 is the end mark
pub places_none : (p p' : Places) → GivesPlaces p None p' → Reads p.reader None p'.reader
unfolding walked_at
places_none p p' (same, inl e) = (ap (λ (q : Places). q.reader) same, inl e)
places_none p p' (same, inr z) = (ap (λ (q : Places). q.reader) same, inr (rw (eq-eqb (get_or p.reader.block.now p.reader.at 0) 0 z)))

-- an entry passed: the first found so far with the entries from the place on, and with the one at the place before those behind it
pub named-passed : (name : List ℕ) (e : Entered) (rest : List Entered) (found : Option Entered)
    → or_else (or_else found (only_if (is_named name e) e)) (first_named name rest) ≡ or_else found (first_named name (e ∷ rest))
named-passed name e rest found = rw (first_step name e rest) (or_assoc found (only_if (is_named name e) e) (first_named name rest))

-- the first of two answers
pub or_found : (img : List ℕ) (one two : Answer EntryAt) → entry_of img (option_or one two) ≡ or_else (entry_of img one) (entry_of img two)
or_found img (Some e) two = refl
or_found img None two = refl

pub named_none : (name : List ℕ) (es : List Entered) → es ≡ [] → first_named name es ≡ none
unfolding first_named
named_none name es e = rw e

pub named_ended : (name : List ℕ) (es : List Entered) (found : Option Entered) → es ≡ [] → or_else found (first_named name es) ≡ found
named_ended name es found e = rw (named_none name es e) (or-none found)

pub first_found : (img : List ℕ) (one : Answer EntryAt) (later : Option Entered) → is_some one ≡ true → or_else (entry_of img one) later ≡ entry_of img one
first_found img (Some e) later s = refl
first_found img None later s = absurd (false≢true s)

pub later_found : (img : List ℕ) (one : Answer EntryAt) (later : Option Entered) → is_some one ≡ false → or_else (entry_of img one) later ≡ later
later_found img (Some e) later s = absurd (true≢false s)
later_found img None later s = refl

-- ---- counting down over the entries of a block, with others behind them

pub nth-none : (es rest : List Entered) (n : ℕ) → es ≡ [] → nth (es ++ rest) n ≡ nth rest n
nth-none es rest n e = rw e

module _ (e : Entered) (es : List Entered) (n : ℕ) where
  pub nth_here : n ≡ 0 → nth (e ∷ es) n ≡ some e
  unfolding nth
  nth_here z = rw z

  pub nth-behind : (l : ℕ) → n ≡ l + 1 → nth (e ∷ es) n ≡ nth es l
  unfolding nth
  nth-behind l p = rw (p, add-one l)

-- ---- the entries along a chain

-- the entries of the blocks of a list of anodes
unfoldable pub entries_along : List ℕ → List ℕ → List ℕ → List Entered
entries_along img firsts anodes = gather (λ x. entries_in img (get_or firsts x 0)) anodes

-- the counts are not looked at
pub along_whole : (img firsts nexts c : List ℕ) (h : ℕ) → entries_of img (anodes_from c firsts nexts) h ≡ entries_along img firsts (chain_of (λ x. get_or nexts x 0) limit h)
unfolding entries_of anodes_from entries_along
along_whole img firsts nexts c h = refl

pub along_end : (img firsts anodes : List ℕ) → anodes ≡ [] → entries_along img firsts anodes ≡ []
unfolding entries_along gather
along_end img firsts anodes e = rw e

unbroken_append : (xs ys : List Entered) → Unbroken (xs ++ ys) → Unbroken xs × Unbroken ys
unfolding any_in
unbroken_append [] ys u = (refl, u)
unbroken_append (x ∷ xs) ys u =
    let both = neither x.broken (any_in (λ e. e.broken) (xs ++ ys)) u in
    let each = unbroken_append xs ys both.1 in
    (rw (both.0, each.0), each.1)

first-append : (name : List ℕ) (xs ys : List Entered) → first_named name (xs ++ ys) ≡ or_else (first_named name xs) (first_named name ys)
unfolding first_named
first-append name [] ys = refl
first-append name (e ∷ xs) ys =
    rw (first_step name e (xs ++ ys), first_step name e xs, first-append name xs ys)
    (sym (or_assoc (only_if (is_named name e) e) (first_named name xs) (first_named name ys)))

module _ (img firsts anodes : List ℕ) (a : ℕ) (rest : List ℕ) (is : anodes ≡ a ∷ rest) where
  -- the entries of anode a's block, and those behind it
  pub along : entries_along img firsts anodes ≡ entries_in img (get_or firsts a 0) ++ entries_along img firsts rest
  unfolding entries_along gather
  along = rw is

  pub unbroken_along : Unbroken (entries_along img firsts anodes) → Unbroken (entries_in img (get_or firsts a 0)) × Unbroken (entries_along img firsts rest)
  unbroken_along u = unbroken_append (entries_in img (get_or firsts a 0)) (entries_along img firsts rest) (rw along at u)

  -- the first in the block of anode a, else the first behind it
  pub named_along : (name : List ℕ) (o : Option Entered) → o ≡ first_named name (entries_in img (get_or firsts a 0))
      → or_else o (first_named name (entries_along img firsts rest)) ≡ first_named name (entries_along img firsts anodes)
  named_along name o h = rw (along, first-append name (entries_in img (get_or firsts a 0)) (entries_along img firsts rest), h)

  pub nth_along : (n : ℕ) (o : Option Entered) → o ≡ nth (entries_in img (get_or firsts a 0) ++ entries_along img firsts rest) n → o ≡ nth (entries_along img firsts anodes) n
  nth_along n o h = rw along h

pub named_whole : (img firsts nexts c : List ℕ) (h : ℕ) (name : List ℕ) → entry_named img (anodes_from c firsts nexts) h name ≡ first_named name (entries_along img firsts (chain_of (λ x. get_or nexts x 0) limit h))
unfolding entry_named
named_whole img firsts nexts c h name = rw (along_whole img firsts nexts c h)

pub nth_empty : (es : List Entered) (n : ℕ) → es ≡ [] → nth es n ≡ none
unfolding nth
nth_empty es n e = rw e
