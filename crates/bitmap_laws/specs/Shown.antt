-- In an accepted image the block table gives owner 1 to exactly the blocks of 1's chain, so the bits that the code reads from it are the bitmap's.
use Rattle.std.specs.Prelude.{ℕ, ◌+◌, ◌-◌, ◌≤◌, ◌<◌, ◌≡◌, not, ◌||◌, List, ◌++◌, leb, length}
use Rattle.std.proofs.Math.Path.{fun_ext}
use Rattle.std.proofs.Math.Logic.{inl, inr}
use Rattle.std.proofs.Common.{arith}
use Rattle.std.proofs.Math.Dec.{eqb, ltb}
use borrow.Author.Tests.{le-ltb, lt-ltb, leb-false}
use Rattle.disk.specs.Root.{root_in}
use Rattle.disk.specs.Blocks.{block_of}
use Rattle.rules.specs.Anodes.{Anodes, anodes_of}
use Rattle.rules.specs.Accepted.{disk_size, last_reserved, wrong_root, check_answer}
use Rattle.rules.specs.Tables.{block_table}
use Rattle.counting.specs.Laws.{neither}
use Rattle.laws.specs.Tests.{less?}
use Rattle.laws.specs.Space.{head_1}
use Rattle.laws.specs.Acceptance.{Passed, passed_of, size_bounds}
use Rattle.laws.specs.OneOwner.{good}
use Rattle.table_laws.specs.ShownOwners.{shown_on, table_long}
use Rattle.bitmap.specs.Bitmap.{first_data, data_blocks, available, block_bit}
use Rattle.bitmap.specs.Table.{free_at, free_bit}

-- a block table that shows an accepted image's bits, and the bounds of its disk
pub record Shown (img table : List ℕ) : Type 0 where
  pub bits : free_bit table (disk_size img) (first_data img) ≡ block_bit img
  pub long : disk_size img ≤ length table
  pub reserved : first_data img ≤ disk_size img
  pub small : disk_size img ≤ 65535

module _ (img : List ℕ) (blocks anodes : ℕ) (ok : check_answer img blocks anodes ≡ 0) where
  abbrev s : Anodes
  s = anodes_of img

  abbrev passed : Passed img blocks anodes
  passed = passed_of img blocks anodes ok

  -- last reserved is on the disk
  reserved_inside : last_reserved img < disk_size img
  unfolding wrong_root
  reserved_inside =
      let r = root_in (block_of img 2) in
      let named = eqb r.name 0 || ltb 31 r.name in
      let a = neither (not (eqb r.first.0 0)) _ passed.root_right in
      let b = neither (ltb (last_reserved img) 2) _ a.1 in
      let d = neither (leb (disk_size img) (last_reserved img)) named b.1 in
      leb-false _ _ d.0

  -- the bits that the code reads are the bitmap's
  pub bits_shown : (table rest : List ℕ) → table ≡ block_table img s ++ rest → free_bit table (disk_size img) (first_data img) ≡ block_bit img
  unfolding free_bit free_at block_bit data_blocks first_data available
  bits_shown table rest is = fun_ext (λ k. elim (less? k (disk_size img - (last_reserved img + 1))) [
    | inl l ↦ (
        let x = last_reserved img + 1 + k in
        let b : x < disk_size img = omega (arith, l) in
        rw (lt-ltb x (disk_size img) b, lt-ltb k (disk_size img - (last_reserved img + 1)) l, shown_on img blocks anodes ok 1 (head_1 (good img blocks anodes passed)) table rest is x b))
    | inr l ↦ (
        let x = last_reserved img + 1 + k in
        rw (le-ltb x (disk_size img) (omega (arith, l, reserved_inside)), le-ltb k (disk_size img - (last_reserved img + 1)) l))
  ])

  -- the table of an accepted image, as the calls want it
  pub accepted_shown : (table rest : List ℕ) → table ≡ block_table img s ++ rest → Shown img table
  unfolding first_data
  accepted_shown table rest is = record {
    bits = bits_shown table rest is;
    long = table_long img blocks anodes ok table rest is;
    reserved = omega (arith, reserved_inside);
    small = (size_bounds img passed.size_right).1;
  }
