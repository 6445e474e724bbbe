-- The facts of an entry that was put are the ones given.
use Rattle.std.specs.Prelude.{ℕ, ◌+◌, ◌≤◌, ◌≡◌, refl, Bool, true, false, cond, List, eqb, length, get_or, Some, None, Ok, Err}
use Rattle.std.proofs.Common.{sym, ap, ◌∙◌, eqb-true}
use Rattle.std.proofs.lemmas.Bool.{false≢true}
use Rattle.disk.specs.declared.Refusal.TheVariants.{DirectoryBlock}
use Rattle.directory.specs.declared.Entry.{Entry}
use Rattle.directory.specs.declared.Kind.{Kind}
use Rattle.directory.specs.declared.Kind.TheVariants.{File, Directory}
use Rattle.directory.specs.Entries.{Walked}
use Rattle.directory.specs.Entries.{kind_read, type_of, good_name, entry_length, name_length, comment_length, entry_shaped, entry_in, walked_kind, walked_at, put_entry}
use Rattle.directory.proofs.Laws.{entry_in-put_entry, name_in-put_entry, walked_at-put_entry}
use Rattle.change_laws.specs.NewEntry.{comment_put}
use Rattle.paths.specs.Facts.{comment_in, facts_in}

-- the type byte of an entry that is found is its kind's
pub found_type : (b : List ℕ) (at : ℕ) (x : Entry) → walked_at b at ≡ Ok (Some x) → get_or b (at + 1) 0 ≡ type_of x.kind
unfolding walked_at kind_read entry_in
found_type b at x h = go (eqb (get_or b at 0) 0) (entry_shaped b at) (eqb (get_or b (at + 1) 0) 253) (eqb (get_or b (at + 1) 0) 2) refl refl h
  where
    found_kind : (w : Walked) → Kind
    found_kind (Ok (Some e)) = e.kind
    found_kind (Ok None) = File
    found_kind (Err r) = File

    found? : Walked → Bool
    found? (Ok (Some e)) = true
    found? (Ok None) = false
    found? (Err r) = false

    go : (p q c d : Bool) → eqb (get_or b (at + 1) 0) 253 ≡ c → eqb (get_or b (at + 1) 0) 2 ≡ d →
        cond p (Ok None) (cond q (walked_kind (cond c (Ok File) (cond d (Ok Directory) (Err (record { 0 = get_or b (at + 1) 0 })))) (entry_in b at)) (Err DirectoryBlock)) ≡ Ok (Some x) → get_or b (at + 1) 0 ≡ type_of x.kind
    go true q c d i j f = absurd (false≢true (ap found? f))
    go false false c d i j f = absurd (false≢true (ap found? f))
    go false true true d i j f = eqb-true (get_or b (at + 1) 0) 253 i ∙ ap type_of (ap found_kind f)
    go false true false true i j f = eqb-true (get_or b (at + 1) 0) 2 j ∙ ap type_of (ap found_kind f)
    go false true false false i j f = absurd (false≢true (ap found? f))

-- the facts of an entry that was put
pub facts-put : (b : List ℕ) (at : ℕ) (e : Entry) (name comment : List ℕ) → length b ≡ 512 → at + entry_length e.name e.comment ≤ 510 → length name ≡ e.name → length comment ≡ e.comment → good_name name ≡ true → e.comment ≤ 79 →
    (size : ℕ) (bytes : List ℕ) → facts_in (put_entry b at e name comment) at size bytes
    ≡ record { type = type_of e.kind; name = name; comment = comment; day = e.day; minute = e.minute; tick = e.tick; protection = e.protection; size = size; bytes = bytes }
unfolding facts_in entry_in comment_in
facts-put b at e name comment whole room named commented good short size bytes =
    let is = entry_in-put_entry b at e name comment named commented whole room in
    let c : comment_length (put_entry b at e name comment) at ≡ length comment = ap (λ (x : Entry). x.comment) is ∙ sym commented in
    let n : name_length (put_entry b at e name comment) at ≡ e.name = ap (λ (x : Entry). x.name) is in
    rw (
      found_type (put_entry b at e name comment) at e (walked_at-put_entry b at e name comment named commented whole room good short),
      name_in-put_entry b at e name comment named commented whole room,
      c,
      n,
      comment_put b at e name comment commented whole room,
      ap (λ (x : Entry). x.day) is,
      ap (λ (x : Entry). x.minute) is,
      ap (λ (x : Entry). x.tick) is,
      ap (λ (x : Entry). x.protection) is,
    )
