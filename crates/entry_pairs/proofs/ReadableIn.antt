-- Every entry of a reached directory can be read.
use Rattle.std.specs.Prelude.{Some, None, Ok, Err}
use Prim.Native.Nat.{ℕ, ◌+◌}
use mathlib.Core.Path.{◌≡◌, refl, sym, ap, ◌∙◌}
use mathlib.Core.Bool.{Bool, true, false, cond, true≢false}
use mathlib.Core.List.{List}
use native.Mathlib.Omega.{arith}
use lib.ListN.{get_or}
use lib.Dec.{eqb}
use borrow.Author.Tests.{eqb-true}
use Rattle.disk.specs.declared.Refusal.TheVariants.{DirectoryBlock}
use Rattle.directory.specs.declared.Entry.{Entry}
use Rattle.directory.specs.declared.Kind.TheVariants.{File, Directory}
use Rattle.directory.specs.Entries.{Walked}
use Rattle.directory.specs.Entries.{is_dir, kind_read, entry_shaped, entry_in, walked_kind, walked_at}
use Rattle.rules.specs.Walk.{Entered, blocks_for}
use Rattle.laws.specs.Acceptance.{size_bounds}
use Rattle.change_laws.specs.Image.{image-passed}
use Rattle.change_laws.specs.Reached.{EntryIn, entry-facts, block_data}
use Rattle.change_laws.specs.Read.{bytes_long}
use Rattle.entry_pairs.specs.Readable.{Readable}

-- what is found is an entry
abbrev is_entry : Walked → Bool
is_entry (Ok (Some x)) = true
is_entry (Ok None) = false
is_entry (Err r) = false

-- and of that kind
abbrev is_it_dir : Walked → Bool
is_it_dir (Ok (Some x)) = is_dir x.kind
is_it_dir (Ok None) = false
is_it_dir (Err r) = false

-- a type that is read is 253 or 2
type_read : (t : ℕ) (b : List ℕ) (at : ℕ) (x : Entry) → walked_kind (kind_read t) (entry_in b at) ≡ Ok (Some x) → t ≡ cond (is_dir x.kind) 2 253
unfolding kind_read entry_in
type_read t b at x h = file (eqb t 253) (eqb t 2) refl refl h
  where
    file : (p q : Bool) → eqb t 253 ≡ p → eqb t 2 ≡ q → walked_kind (cond p (Ok File) (cond q (Ok Directory) (Err (record { 0 = t })))) (entry_in b at) ≡ Ok (Some x) → t ≡ cond (is_dir x.kind) 2 253
    file true q e d f = eqb-true t 253 e ∙ ap (λ (z : Bool). cond z 2 253) (ap is_it_dir f)
    file false true e d f = eqb-true t 2 d ∙ ap (λ (z : Bool). cond z 2 253) (ap is_it_dir f)
    file false false e d f = absurd (true≢false (sym (ap is_entry f)))

-- the type byte of an entry that is found is its kind's
type_found : (b : List ℕ) (at : ℕ) (x : Entry) → walked_at b at ≡ Ok (Some x) → get_or b (at + 1) 0 ≡ cond (is_dir x.kind) 2 253
unfolding walked_at
type_found b at x h = go (eqb (get_or b at 0) 0) (entry_shaped b at) h
  where
    go : (p q : Bool) → cond p (Ok None) (cond q (walked_kind (kind_read (get_or b (at + 1) 0)) (entry_in b at)) (Err DirectoryBlock)) ≡ Ok (Some x) → get_or b (at + 1) 0 ≡ cond (is_dir x.kind) 2 253
    go true q f = absurd (true≢false (sym (ap is_entry f)))
    go false true f = type_read (get_or b (at + 1) 0) b at x f
    go false false f = absurd (true≢false (sym (ap is_entry f)))

pub readable_in : {img : List ℕ} {h : ℕ} {e : Entered} → EntryIn img h e → Readable img e
unfolding blocks_for
readable_in {img} {h} {e} m =
    let f = entry-facts m in
    let size = size_bounds img (image-passed m.directory.image).size_right in
    record {
      its_type = type_found _ _ _ f.stands.walked ∙ ap (λ (z : Bool). cond z 2 253) (sym (ap (λ (x : Entered). x.dir) f.stands.is));
      has-bytes = λ file. omega (arith, bytes_long m file);
      inside = omega (arith, (block_data f).below, size.1);
    }
