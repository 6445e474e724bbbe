-- What is known of a call that its own refusals, 20 to 26, let pass.
use Rattle.std.specs.Prelude.{ℕ, ◌+◌, ◌≤◌, ◌≡◌, refl, Bool, true, false, ◌||◌, List}
use Rattle.std.proofs.Common.{sym, true≢false, arith}
use Rattle.std.proofs.Math.Bool.{not}
use Rattle.std.proofs.Math.Option.{Option, none, some}
use Rattle.std.proofs.Math.Dec.{eqb}
use borrow.Author.Tests.{not-false}
use Rattle.directory.specs.Entries.{good_name, good_comment}
use Rattle.rules.specs.Counting.{◌if◌else◌}
use Rattle.rules.specs.Anodes.{Anodes, anodes_of}
use Rattle.rules.specs.Walk.{Entered}
use Rattle.rules.specs.Lookup.{no_directory, entry_named, is_there, not_empty}
use Rattle.rules.specs.Calls.{span_refusal, resize_refusal, remove_refusal, make_refusal, wrong_entry}
use Rattle.counting.specs.Laws.{neither}
use Rattle.laws.specs.Tests.{if-zero}
use Rattle.change_laws.specs.Answers.{not_there, file-found, span_found, removable_found}
use Rattle.change_laws.specs.Image.{AcceptedImage, ReachedDir}
use Rattle.change_laws.specs.Reached.{EntryIn, named-member}

-- a make: the directory is reached, the texts are good and the name is not there
pub record MakePassed (img : List ℕ) (h : ℕ) (name comment : List ℕ) : Type 0 where
  pub reached : no_directory img (anodes_of img) h ≡ false
  pub named : good_name name ≡ true
  pub commented : good_comment comment ≡ true
  pub unused : entry_named img (anodes_of img) h name ≡ none

-- a call that names an entry: it is there
pub record EntryPassed (img : List ℕ) (h : ℕ) (name : List ℕ) : Type 0 where
  pub entered : Entered
  pub is : entry_named img (anodes_of img) h name ≡ some entered
  pub reached : no_directory img (anodes_of img) h ≡ false

-- the directory, and the entry there, of an accepted image
abbrev pub passed_parent : {img : List ℕ} {h : ℕ} {name comment : List ℕ} → AcceptedImage img → MakePassed img h name comment → ReachedDir img h
passed_parent image p = record { image = image; reached = p.reached }

abbrev pub passed_entry : {img : List ℕ} {h : ℕ} {name : List ℕ} → AcceptedImage img → (p : EntryPassed img h name) → EntryIn img h p.entered
passed_entry {img} {h} {name} image p = record { directory = record { image = image; reached = p.reached }; member = named-member img (anodes_of img) h name p.entered p.is }

there_is : (o : Option Entered) → is_there o ≡ true → (e : Entered) × (o ≡ some e)
there_is none q = absurd (true≢false (sym q))
there_is (some e) q = (e, refl)

-- 21 and 22 passed
searched : (t : Bool) (o : Option Entered) (rest : ℕ) → (21 if t else 22 if not (is_there o) else rest) ≡ 0 → (t ≡ false) × ((e : Entered) × (o ≡ some e))
searched t o rest z =
    let p = if-zero 21 t (22 if not (is_there o) else rest) (omega arith) z in
    (p.0, there_is o (not-false (is_there o) (if-zero 22 (not (is_there o)) rest (omega arith) p.1).0))

module _ (img : List ℕ) (h : ℕ) where
  abbrev s : Anodes
  s = anodes_of img

  pub make_passed : (type : ℕ) (name comment : List ℕ) → make_refusal img (anodes_of img) h type name comment ≡ 0 → MakePassed img h name comment
  unfolding make_refusal wrong_entry
  make_passed type name comment z =
      let w = if-zero 20 (wrong_entry type name comment) _ (omega arith) z in
      let r = if-zero 21 (no_directory img s h) _ (omega arith) w.1 in
      let n = neither (not (good_name name)) (not (good_comment comment)) (neither (not (eqb type 253 || eqb type 2)) (not (good_name name) || not (good_comment comment)) w.0).1 in
      record {
        reached = r.0;
        named = not-false (good_name name) n.0;
        commented = not-false (good_comment comment) n.1;
        unused = not_there (entry_named img s h name) (if-zero 23 (is_there (entry_named img s h name)) 0 (omega arith) r.1).0;
      }

  module _ (name : List ℕ) where
    found : (rest : ℕ) → (21 if no_directory img (anodes_of img) h else 22 if not (is_there (entry_named img (anodes_of img) h name)) else rest) ≡ 0 → EntryPassed img h name
    found rest z =
        let (reached, (e, is)) = searched (no_directory img s h) (entry_named img s h name) rest z in
        record { entered = e; is = is; reached = reached }

    pub resize_passed : resize_refusal img (anodes_of img) h name ≡ 0 → (p : EntryPassed img h name) × (p.entered.dir ≡ false)
    unfolding resize_refusal
    resize_passed z = let p = found _ z in (p, (file-found img s h name p.entered p.is z).1)

    pub span_passed : (offset len : ℕ) → span_refusal img (anodes_of img) h name offset len ≡ 0 → (p : EntryPassed img h name) × (p.entered.dir ≡ false) × (offset + len ≤ p.entered.size)
    unfolding span_refusal
    span_passed offset len z = let p = found _ z in let (r, file, fits) = span_found img s h name p.entered p.is offset len z in (p, file, fits)

    pub remove_passed : remove_refusal img (anodes_of img) h name ≡ 0 → (p : EntryPassed img h name) × (p.entered.dir ≡ true → not_empty img (anodes_of img) p.entered ≡ false)
    unfolding remove_refusal not_empty
    remove_passed z = let p = found _ z in (p, λ d. rw d at (removable_found img s h name p.entered p.is z).1)
