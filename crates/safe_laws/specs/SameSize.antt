-- A safe resize to the size that the file has is the safe write of no bytes: the same steps and bytes, and the same new tree.
use Rattle.std.specs.Prelude.{ℕ, ◌*◌, ◌≡◌, false, length, take, replicate}
use Rattle.std.proofs.Math.Path.{refl, sym, ap}
use Rattle.std.proofs.Common.{ap₂, subst, ◌∙◌, arith, le_of_eq, take_at, eq-eqb, le-ltb}
use mathlib.Core.List.{List, [], ◌++◌, append-nil}
use Rattle.std.proofs.Math.Option.{some}
use Rattle.endian.specs.Bytes.{stored}
use Rattle.endian.proofs.Laws.{stored-none}
use Rattle.rules.specs.Anodes.{anodes_of}
use Rattle.rules.specs.Chains.{blocks_of}
use Rattle.rules.specs.Walk.{Entered, blocks_for}
use Rattle.rules.specs.Lookup.{entry_named, bytes_of}
use Rattle.rules.specs.Plans.{Slotted, table_of, planned}
use Rattle.change_laws.specs.Reached.{EntryIn, entry-facts}
use Rattle.change_laws.specs.Read.{bytes_long, file_long}
use Rattle.paths.specs.Paths.{Path}
use Rattle.paths.specs.Facts.{Facts, facts_in, facts_of}
use Rattle.safe_rules.specs.SafePlans.{SafeChange, taken_anew, resized_bytes, resize_change, write_change, safe_steps}
use Rattle.safe_rules.specs.SafeWrites.{new_image}
use Rattle.safe_rules.specs.SafeCalls.{safe_resize, safe_write}
use Rattle.safe_laws.specs.Claims.{with_contents, facts_changed, facts_after, tree_after}
use Rattle.safe_laws.specs.SafeWritten.{written_sound}
use Rattle.safe_laws.specs.WrittenTree.{file-facts, file-bytes, bytes-there, written-anew, written_tree}
use Rattle.safe_laws.specs.CrashTheorem.{LeftRight}

module _ {img : List ℕ} {k : ℕ} {e : Entered} (m : EntryIn img k e) (file : e.dir ≡ false) (new : ℕ) (same : e.size ≡ new) where
  -- the bytes of the file's blocks
  abbrev held : List ℕ
  held = bytes_of img (anodes_of img) e.anode

  -- ---- the change

  -- a file takes n blocks anew for these bytes
  abbrev anew_with : ℕ → List ℕ → SafeChange
  anew_with n l = record { steps = taken_anew e.anode n (table_of img); takes = n; changing = []; bytes = l; old = blocks_of (anodes_of img) e.anode }

  -- the resize leaves them as they are
  bytes_stay : resized_bytes held e.size new ≡ held
  unfolding resized_bytes
  bytes_stay = rw (le-ltb e.size new (le_of_eq (sym same))) (take_at held (replicate (blocks_for new * 512) 0) (blocks_for new * 512) (bytes_long m file ∙ ap (λ (n : ℕ). blocks_for n * 512) same))

  -- so both changes are one
  pub same_change : write_change img (table_of img) e 0 [] ≡ resize_change img (table_of img) e new
  unfolding resize_change write_change
  same_change = rw (eq-eqb e.size new same)
      (ap₂ anew_with ((entry-facts m).sized file ∙ ap blocks_for same) (stored-none held 0 ∙ sym bytes_stay ∙ sym (append-nil (resized_bytes held e.size new))))

  -- ---- the tree

  -- the file has that size
  size_is : (facts_of img e).size ≡ new
  unfolding facts_in
  size_is = ap (λ (f : Facts). f.size) (file-facts img e file) ∙ same

  -- the write and the resize leave its contents as they are
  bytes_are : stored (facts_of img e).bytes 0 [] ≡ take new ((facts_of img e).bytes ++ replicate new 0)
  bytes_are = stored-none (facts_of img e).bytes 0 ∙ sym (take_at (facts_of img e).bytes (replicate new 0) new (ap length (file-bytes img e file) ∙ file_long m file ∙ same))

  -- so its facts after both are the same
  same_after : (name : List ℕ) → entry_named img (anodes_of img) k name ≡ some e → facts_after img (safe_write k name 0 []) ≡ facts_after img (safe_resize k name new)
  unfolding facts_after facts_changed
  same_after name found = rw found (ap₂ (λ (n : ℕ) (l : List ℕ). some (with_contents (facts_of img e) n l)) size_is bytes_are)

  -- and so is the new tree
  same-new_tree : (name : List ℕ) → entry_named img (anodes_of img) k name ≡ some e → (path : Path) → tree_after img (safe_write k name 0 []) path ≡ tree_after img (safe_resize k name new) path
  unfolding tree_after
  same-new_tree name found path = rw (same_after name found) refl

  -- THE IMAGE THAT IT LEAVES
  pub same_size_right : (name : List ℕ) → entry_named img (anodes_of img) k name ≡ some e → LeftRight img (safe_resize k name new) (resize_change img (table_of img) e new)
  same_size_right name found = subst (λ (c : SafeChange). LeftRight img (safe_resize k name new) c) same_change (λ t ys plan.
      (written_sound m file 0 [] t ys plan, λ path. written_tree m file 0 [] t ys plan name found (omega arith) path ∙ same-new_tree name found path))

  -- THE BYTES IN ITS BLOCKS are those that a resize leaves there
  pub same_size_bytes : (t : Slotted) (ys : List ℕ) → safe_steps img (resize_change img (table_of img) e new) ≡ planned t ys →
      bytes_of (new_image img (resize_change img (table_of img) e new) t ys) (anodes_of (new_image img (resize_change img (table_of img) e new) t ys)) e.anode ≡ resized_bytes (bytes_of img (anodes_of img) e.anode) e.size new
  same_size_bytes t ys = subst (λ (c : SafeChange). safe_steps img c ≡ planned t ys → bytes_of (new_image img c t ys) (anodes_of (new_image img c t ys)) e.anode ≡ resized_bytes held e.size new) same_change
      (λ plan. bytes-there (written-anew m file 0 [] t ys plan) ∙ stored-none held 0 ∙ sym bytes_stay)
