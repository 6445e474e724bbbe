-- Blocks that are stored or zeroed, owners that are set, the anodes stored one after the other, the zeroed tail of a growing file and the type of a new entry. Assumes nothing.
use Prim.Native.Nat.{ℕ, zero, suc, ◌+◌, ◌-◌, ◌*◌, ◌/◌, ◌%◌, ◌<◌, ◌≤◌}
use mathlib.Core.Path.{◌≡◌, refl, sym, ap, ◌∙◌}
use mathlib.Core.Logic.{⊎_elim}
use mathlib.Core.Bool.{Bool, true, false, cond, not, ◌&&◌, and-false}
use mathlib.Core.List.{List, [], ◌∷◌, ◌++◌}
use native.Mathlib.Nat.{add-zero, add-suc}
use native.Mathlib.Numerals.{add-one}
use native.Mathlib.Omega.{arith}
use lib.ListN.{length, get_or, set, take, drop, replicate, length-replicate, length-take, replicate-append-replicate}
use lib.Seq.{get_or-take, get_or-drop, take-take, set_out, take-set-lt, take-set-le}
use lib.Dec.{eqb, ltb}
use borrow.Author.Tests.{lt-ltb, le-ltb, eq-eqb, ne_eqb, not-true, not-false}
use Rattle.endian.specs.Bytes.{put16, stored, cleared}
use Rattle.endian.proofs.Laws.{less?, run_on, cleared-stored, cleared-none, cleared-front}
use Rattle.disk.specs.Blocks.{block_of, with_block}
use Rattle.disk.specs.declared.Anode.{Anode}
use Rattle.disk.specs.AnodeBlocks.{anode_made, set_anode}
use Rattle.disk.proofs.Laws.{length-block_of-min}
use Rattle.disk.proofs.Store.{with_block-stored}
use Rattle.directory.specs.declared.Kind.{Kind}
use Rattle.directory.specs.declared.Kind.TheVariants.{File, Directory}
use Rattle.directory.specs.Entries.{directory_mark, put_directory_header, is_dir}
use Rattle.rules.specs.Anodes.{Anodes, same_anode, store_changed}
use Rattle.rules.specs.Chains.{run, blocks_of}
use Rattle.rules.specs.Walk.{Entered}
use Rattle.rules.specs.Format.{zero_block, new_directory_block}
use Rattle.rules.specs.Table.{in_block}
use Rattle.rules.specs.Changes.{with_blocks, zero_tail}
use Rattle.laws.specs.Chains.{run_step}
use Rattle.laws.specs.OwnerTable.{set_all}
use Rattle.tables.specs.Held.{HeldBelow}
use Rattle.anodes.specs.Loaded.{anodes_from}

-- ---- a directory's new block, as far as the image has it

-- a block is stored as far as the image has it
pub with_block-take : (img : List ℕ) (b : ℕ) (new : List ℕ) → with_block img b (take (length (block_of img b)) new) ≡ with_block img b new
unfolding with_block
with_block-take img b new = rw (take-take (length (block_of img b)) (length (block_of img b)) new (omega arith))

take-set : (k : ℕ) (l : List ℕ) (i v : ℕ) → take k (set l i v) ≡ set (take k l) i v
take-set k l i v =
    ⊎_elim
    (λ h. take-set-lt k l i v h)
    (λ h. take-set-le k l i v h ∙ sym (set_out (take k l) i v (omega (arith, length-take k l))))
    (less? i k)

take-put16 : (k : ℕ) (l : List ℕ) (at v : ℕ) → take k (put16 l at v) ≡ put16 (take k l) at v
unfolding put16
take-put16 k l at v = rw (take-set k (set l at (v / 256)) (at + 1) (v % 256), take-set k l at (v / 256))

pub new_head : (l m : List ℕ) (owner parent : ℕ) → length l ≤ 512 → m ≡ cleared l 0 512
    → put_directory_header m (record { mark = directory_mark; owner = record { 0 = owner }; parent = record { 0 = parent } }) ≡ take (length l) (new_directory_block owner parent)
unfolding put_directory_header new_directory_block
new_head l m owner parent h is = rw (is, cleared-front l 512 h, take-put16, take-put16, take-put16)

-- ---- blocks that are zeroed, and blocks whose owner is set

with_block-zero : (img : List ℕ) (b : ℕ) → cleared img (b * 512) 512 ≡ with_block img b zero_block
with_block-zero img b =
    let n : length zero_block ≡ 512 = length-replicate {A = ℕ} 512 0 in
    cleared-stored img (b * 512) 512 ∙ sym (with_block-stored img b zero_block (omega (arith, length-block_of-min img b)) (omega arith))

-- zeros that go on where others end
cleared_on : (l : List ℕ) (at m n : ℕ) → cleared l at (m + n) ≡ cleared (cleared l at m) (at + m) n
cleared_on l at m n =
    cleared-stored l at (m + n)
    ∙ ap (stored l at) (sym (replicate-append-replicate {A = ℕ} m n 0))
    ∙ sym (run_on l at (replicate m 0) (cleared l at m) (cleared-stored l at m) (at + m) (replicate n 0) (omega (arith, length-replicate {A = ℕ} m 0)))
    ∙ sym (cleared-stored (cleared l at m) (at + m) n)

pub run-zeroed : (img : List ℕ) (b c : ℕ) → cleared img (b * 512) (c * 512) ≡ with_blocks img (run b c) zero_block
unfolding with_blocks run
run-zeroed img b zero = cleared-none img (b * 512)
run-zeroed img b (suc c) =
    let n : suc c * 512 ≡ 512 + c * 512 = omega arith in
    let at : b * 512 + 512 ≡ suc b * 512 = omega arith in
    rw (n, cleared_on img (b * 512) 512 (c * 512), at, with_block-zero img b) (run-zeroed (with_block img b zero_block) (suc b) c)

-- nothing is left to store
pub blocks-stored : (img ys new : List ℕ) → ys ≡ [] → img ≡ with_blocks img ys new
unfolding with_blocks
blocks-stored img ys new e = rw e

pub owners-set : (blocks ys : List ℕ) (v : ℕ) → ys ≡ [] → blocks ≡ set_all blocks ys v
unfolding set_all
owners-set blocks ys v e = rw e

-- some blocks and then others
pub with_blocks-append : (img ys zs new : List ℕ) → with_blocks (with_blocks img ys new) zs new ≡ with_blocks img (ys ++ zs) new
unfolding with_blocks
with_blocks-append img [] zs new = refl
with_blocks-append img (y ∷ ys) zs new = with_blocks-append (with_block img y new) ys zs new

pub set_all-append : (blocks ys zs : List ℕ) (v : ℕ) → set_all (set_all blocks ys v) zs v ≡ set_all blocks (ys ++ zs) v
unfolding set_all
set_all-append blocks [] zs v = refl
set_all-append blocks (y ∷ ys) zs v = set_all-append (set blocks y v) ys zs v

pub set_next : (blocks : List ℕ) (b c m v : ℕ) → c ≡ m + 1 → set_all (set blocks b v) (run (b + 1) m) v ≡ set_all blocks (run b c) v
unfolding set_all
set_next blocks b c m v e = rw (run_step b c m e)

pub with_blocks-one : (img new : List ℕ) (b : ℕ) → with_blocks img (b ∷ []) new ≡ with_block img b new
unfolding with_blocks
with_blocks-one img new b = refl

-- ---- the anodes stored below a

pub store_changed-none : (s t : Anodes) (img : List ℕ) → store_changed s t img 0 ≡ img
unfolding store_changed
store_changed-none s t img = refl

module _ (c f n c' f' n' img : List ℕ) (a : ℕ) (x y : Anode) (old : x ≡ anode_made (get_or c a 0) (get_or f a 0) (get_or n a 0)) (new : y ≡ anode_made (get_or c' a 0) (get_or f' a 0) (get_or n' a 0))
    (r : Bool) (same : r ≡ eqb x.count y.count && (eqb x.block.0 y.block.0 && eqb x.next.0 y.next.0))
    (i : List ℕ) (is : i ≡ store_changed (anodes_from c f n) (anodes_from c' f' n') img a) where
  is_same : r ≡ same_anode (anodes_from c f n) (anodes_from c' f' n') a
  unfolding same_anode anodes_from
  is_same = rw (same, old, new)

  pub anode_kept : not r ≡ false → i ≡ store_changed (anodes_from c f n) (anodes_from c' f' n') img (a + 1)
  unfolding store_changed
  anode_kept l = is ∙ rw (add-one a, sym is_same ∙ not-false r l)

  pub anode_stored : not r ≡ true → (j : List ℕ) → j ≡ set_anode i a y → j ≡ store_changed (anodes_from c f n) (anodes_from c' f' n') img (a + 1)
  unfolding store_changed anodes_from
  anode_stored l j e = rw (e, is, new, add-one a, sym is_same ∙ not-true r l)

-- storing a run of anodes that have the same fields changes nothing
pub run-kept : (s t : Anodes) (img : List ℕ) (a n : ℕ) → ((x : ℕ) → a ≤ x → x < a + n → same_anode s t x ≡ true) → store_changed s t img a ≡ store_changed s t img (a + n)
unfolding store_changed
run-kept s t img a zero same = rw (add-zero a)
run-kept s t img a (suc n) same = run-kept s t img a n (λ x l h. same x l (omega arith)) ∙ rw (add-suc a n, same (a + n) (omega arith) (omega arith))

-- the fields are the same where the numbers of the three tables are
pub fields_same : (c f n c' f' n' : List ℕ) (a : ℕ) → get_or c a 0 ≡ get_or c' a 0 → get_or f a 0 ≡ get_or f' a 0 → get_or n a 0 ≡ get_or n' a 0
    → same_anode (anodes_from c f n) (anodes_from c' f' n') a ≡ true
unfolding same_anode anodes_from
fields_same c f n c' f' n' a x y z = rw (eq-eqb (get_or c a 0) (get_or c' a 0) x, eq-eqb (get_or f a 0) (get_or f' a 0) y, eq-eqb (get_or n a 0) (get_or n' a 0) z)

-- two tables have the same numbers where their parts have
pub part_same : (l m : List ℕ) (from n : ℕ) → HeldBelow (λ j. get_or (take n (drop from m)) j 0) (take n (drop from l)) n
    → (a : ℕ) → from ≤ a → a < from + n → get_or l a 0 ≡ get_or m a 0
part_same l m from n same a low high =
    let j : ℕ = a - from in
    let e : from + j ≡ a = omega arith in
    let h : j < n = omega arith in
    rw (get_or-take n (drop from l) j 0 h, get_or-take n (drop from m) j 0 h, get_or-drop from l j 0, get_or-drop from m j 0, e) at (same j h)

-- ---- the tail of a growing file

module _ (img : List ℕ) (s : Anodes) (e : Entered) (size new : ℕ) (is : e.size ≡ size) where
  pub tail-kept : new ≤ size → img ≡ zero_tail img s e new
  unfolding zero_tail
  tail-kept l = rw (is, le-ltb size new l)

  pub tail_none : size % 512 ≡ 0 → img ≡ zero_tail img s e new
  unfolding zero_tail
  tail_none z = rw (is, eq-eqb (size % 512) 0 z, and-false (ltb size new))

  pub tail-zeroed : (h : ℕ) → e.anode ≡ h → size < new → (size % 512 ≡ 0 → ⊥) → (b : ℕ) → b ≡ get_or (blocks_of s h) (size / 512) 0
      → in_block img b (λ l. cleared l (size % 512) (512 - size % 512)) ≡ zero_tail img s e new
  unfolding zero_tail
  tail-zeroed h head l n b nth = rw (nth, is, head, lt-ltb size new l, ne_eqb (size % 512) 0 n)

-- ---- a new entry

pub kind_back : (kind : Kind) → cond (is_dir kind) Directory File ≡ kind
kind_back File = refl
kind_back Directory = refl
