-- What the changes by name answer and leave, from what the search found.
use Rattle.std.specs.Prelude.{Option as Answer, Some, None, is_some, Result, Ok, Err}
use Prim.Native.Nat.{ℕ, ◌≤◌}
use mathlib.Core.Path.{◌≡◌, refl, sym, ap, ◌∙◌}
use mathlib.Core.Logic.{inl, inr}
use mathlib.Core.Bool.{Bool, true, false, cond, not, ◌||◌, true≢false, false≢true}
use mathlib.Core.List.{List}
use mathlib.Core.Option.{Option, none, some}
use native.Mathlib.Omega.{arith}
use lib.Dec.{eqb, leb, ltb}
use borrow.Author.Tests.{le-leb, lt-leb, le-ltb, lt-ltb, ne_eqb, not-false}
use Rattle.disk.specs.declared.Refusal.{Refusal}
use Rattle.disk.specs.Refusals.{number_of}
use Rattle.directory.specs.declared.Kind.{Kind}
use Rattle.directory.specs.declared.Kind.TheVariants.{File, Directory}
use Rattle.directory.specs.declared.UnknownKind.{UnknownKind}
use Rattle.directory.specs.Entries.{is_dir, kind_read, good_name, good_comment}
use Rattle.rules.specs.Anodes.{Anodes, anodes_of}
use Rattle.rules.specs.Chains.{blocks_of}
use Rattle.rules.specs.Walk.{Entered}
use Rattle.rules.specs.Accepted.{PastDamage}
use Rattle.rules.specs.Lookup.{no_directory, entry_named}
use Rattle.rules.specs.Plans.{table_of}
use Rattle.rules.specs.Changes.{Left, left, NewEntry, made, usual_growth, written}
use Rattle.rules.specs.Calls.{make_refusal, wrong_entry, done_or, left_after, change_named, wrong_text}
use Rattle.counting.specs.Laws.{neither}
use Rattle.laws.specs.Tests.{same?, less?}
use Rattle.frames.specs.DisjointBlocks.{chain_block, chain_once}
use Rattle.change_laws.specs.Answers.{Late}
use Rattle.change_laws.specs.Write.{written-disk}
use Rattle.anodes.specs.Loaded.{Loaded}
use Rattle.change_tables.specs.Leaves.{Leaves, ReachedEntry}
use Rattle.change_tables.specs.Laws.{leaves_refused, leaves_same}
use Rattle.change_tables.specs.Chains.{image-good, reached-entry, entry_known}
use Rattle.contents.specs.Written.{InsideOnce}
use Rattle.lookup.specs.declared.EntryAt.{EntryAt}
use Rattle.lookup.specs.Answers.{entered, entry_of}
use Rattle.find.proofs.Laws.{refused_some, not_done}

-- ---- a write to a reached entry

module _ {img counts firsts nexts : List ℕ} (l : Loaded img counts firsts nexts) (e : Entered) (r : ReachedEntry img e) where
  -- the blocks of the chain that it names are inside the image, each once
  pub chain_inside : InsideOnce img (blocks_of (anodes_of img) e.anode)
  chain_inside =
      let d = (entry_known l e r).head in
      (λ y p. (chain_block img (image-good l) e.anode d y p).inside, chain_once (image-good l) e.anode d)

  -- no anode changes, so both tables stay
  pub leaves_written : e.dir ≡ false → (offset : ℕ) (bytes j : List ℕ) → j ≡ written img (anodes_of img) e offset bytes → (b a : List ℕ) → Leaves 0 img b a j b a (left 0 (written img (anodes_of img) e offset bytes))
  leaves_written file offset bytes j is b a = rw is
      (leaves_same img (written img (anodes_of img) e offset bytes) (written-disk (reached-entry l e r) file offset bytes) b a)

-- ---- a change of a named entry

-- a refusal of a call's own table comes after the damage numbers
late_some : (n k : ℕ) → Late n → n ≡ k → 1 ≤ k → PastDamage k
late_some n k (inl z) e l = absurd (omega (arith, z, e, l))
late_some n k (inr z) e l = omega (arith, z, e)

-- the search found it, so what is left is what the change of it leaves
pub leaves_named : (img : List ℕ) (o : Option Entered) (f : Entered → Left) (n : ℕ) (x : Entered) → n ≡ 0 → o ≡ some x → (r : ℕ) (b a img' b' a' : List ℕ) → Leaves r img b a img' b' a' (f x) →
    Leaves r img b a img' b' a' (change_named n img o f)
unfolding done_or
leaves_named img o f n x e is r b a img' b' a' l = rw (e, is) l

module _ (img : List ℕ) (done : Left) where
  -- a number that is not 0 leaves the image, and the tables that show it
  pub leaves_unmade : (n k : ℕ) → PastDamage k → n ≡ k → (b a : List ℕ) → Leaves k img b a img b a (left_after n img done)
  leaves_unmade n k l e b a = rw (e, not_done k (omega arith) done (left k img)) (leaves_refused k l img b a)

  pub leaves_unchanged : (n : ℕ) → Late n → (r : Refusal) → n ≡ number_of r → (b a : List ℕ) → Leaves (number_of r) img b a img b a (left_after n img done)
  leaves_unchanged n late r is b a = leaves_unmade n (number_of r) (late_some n (number_of r) late is (refused_some r (number_of r) refl)) is b a

-- ---- make

-- whether a type byte was read, and as a directory's
abbrev is_read : Result Kind UnknownKind → Bool
is_read (Ok k) = true
is_read (Err byte) = false

abbrev dir_read : Result Kind UnknownKind → Bool
dir_read (Ok k) = is_dir k
dir_read (Err byte) = false

type_read : (type : ℕ) → is_read (kind_read type) ≡ (eqb type 253 || eqb type 2)
unfolding kind_read
type_read type = go (eqb type 253) (eqb type 2)
  where
    go : (a b : Bool) → is_read (cond a (Ok File) (cond b (Ok Directory) (Err (record { 0 = type })))) ≡ (a || b)
    go true b = refl
    go false true = refl
    go false false = refl

dir_read_lem : (type : ℕ) → dir_read (kind_read type) ≡ eqb type 2
unfolding kind_read
dir_read_lem type = elim (same? type 253) [ inl e ↦ rw e | inr n ↦ rw (ne_eqb type 253 n) (go (eqb type 2)) ]
  where
    go : (b : Bool) → dir_read (cond b (Ok Directory) (Err (record { 0 = type }))) ≡ b
    go true = refl
    go false = refl

-- a byte that is no type's is refused, and of another the name and the comment are looked at
pub wrong_type : (type : ℕ) (name comment : List ℕ) (byte : UnknownKind) → kind_read type ≡ Err byte → wrong_entry type name comment ≡ true
unfolding wrong_entry
wrong_type type name comment byte e = rw (sym (type_read type) ∙ ap is_read e)

module _ (type : ℕ) (k : Kind) (e : kind_read type ≡ Ok k) where
  pub right_type : (name comment : List ℕ) → wrong_entry type name comment ≡ wrong_text name comment
  unfolding wrong_entry
  right_type name comment = rw (sym (type_read type) ∙ ap is_read e)

  pub made_kind : is_dir k ≡ eqb type 2
  made_kind = ap dir_read (sym e) ∙ dir_read_lem type

-- a name and a comment that are right
pub right_entry : (name comment : List ℕ) → wrong_text name comment ≡ false → (good_name name ≡ true) × (good_comment comment ≡ true)
right_entry name comment e =
    let n = neither (not (good_name name)) (not (good_comment comment)) e in
    (not-false (good_name name) n.0, not-false (good_comment comment) n.1)

-- the length test, either way round
pub long_comment : (n : ℕ) → not (leb n 79) ≡ ltb 79 n
long_comment n = elim (less? 79 n) [ inl l ↦ rw (lt-leb n 79 l, lt-ltb 79 n l) | inr l ↦ rw (le-leb n 79 l, le-ltb 79 n l) ]

-- what is_some said of a lookup
pub there_said : (img : List ℕ) (l : Answer EntryAt) → is_some l ≡ true → (x : Entered) × (entry_of img l ≡ some x)
there_said img (Some e) is = (entered img e, refl)
there_said img None is = absurd (false≢true is)

pub none_said : (img : List ℕ) (l : Answer EntryAt) → is_some l ≡ false → entry_of img l ≡ none
none_said img (Some e) is = absurd (true≢false is)
none_said img None is = refl

module _ (img : List ℕ) (s : Anodes) (h type : ℕ) (name comment : List ℕ) where
  pub make_wrong : wrong_entry type name comment ≡ true → make_refusal img s h type name comment ≡ 20
  unfolding make_refusal
  make_wrong e = rw e

  module _ (right : wrong_entry type name comment ≡ false) where
    pub make_nowhere : no_directory img s h ≡ true → make_refusal img s h type name comment ≡ 21
    unfolding make_refusal
    make_nowhere e = rw (right, e)

    pub make_there : (x : Entered) → no_directory img s h ≡ false → entry_named img s h name ≡ some x → make_refusal img s h type name comment ≡ 23
    unfolding make_refusal
    make_there x e found = rw (right, e, found)

    pub make_fine : no_directory img s h ≡ false → entry_named img s h name ≡ none → make_refusal img s h type name comment ≡ 0
    unfolding make_refusal
    make_fine e found = rw (right, e, found)

pub leaves_made : (img : List ℕ) (h : ℕ) (new : NewEntry) (n : ℕ) → n ≡ 0 → (other : NewEntry) → other ≡ new → (r : ℕ) (b a img' b' a' : List ℕ) → Leaves r img b a img' b' a' (made usual_growth img (table_of img) h other) →
    Leaves r img b a img' b' a' (left_after n img (made usual_growth img (table_of img) h new))
unfolding done_or
leaves_made img h new n e other same r b a img' b' a' l = rw (e, ← same) l
