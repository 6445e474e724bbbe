use mathlib.Core.Path.{◌≡◌, sym, ◌∙◌}
use mathlib.Core.Bool.{◌&&◌}
use Prim.Native.Nat.{◌+◌}
use borrow.Author.Tests.{le-leb, lt-leb}
use lib.ListN.{drop}
use Rattle.directory.specs.Entries.{good_name_byte, all_bytes, good_name}
use Rattle.directory.proofs.Laws.{all_bytes_step, all_bytes-end, good_name-bytes}
use Rattle.directory.proofs.name_ok.Goals as goal

pub returns-then-name-lt1 : goal.returns-then-name-lt1
unfolding good_name
returns-then-name-lt1 c = simp (lt-leb 1 _ c.if-name-lt1.true)

pub returns-then-name-gt107 : goal.returns-then-name-gt107
unfolding good_name
returns-then-name-gt107 c = simp (le-leb 1 _ c.if-name-lt1.false, lt-leb _ 107 c.if-name-gt107.true)

pub loop-byte-init : goal.loop-byte-init
loop-byte-init c = sym (good_name-bytes _ c.if-name-lt1.false c.if-name-gt107.false)

pub returns-then-not-name_byte : goal.returns-then-not-name_byte
returns-then-not-name_byte c = let bytes_left : let name = c.args.name.now in (c.name_byte.result && all_bytes good_name_byte (drop (c.loop-byte.byte-index + 1) name)) ≡ good_name name = rw (all_bytes_step good_name_byte c.args.name.now c.loop-byte.byte-index c.loop-byte-test.true, ← c.name_byte.ensures) at c.loop-byte.invariant in
    rw c.if-not-name_byte.true at bytes_left

pub loop-byte-preserved : goal.loop-byte-preserved
loop-byte-preserved c = let bytes_left : let name = c.args.name.now in (c.name_byte.result && all_bytes good_name_byte (drop (c.loop-byte.byte-index + 1) name)) ≡ good_name name = rw (all_bytes_step good_name_byte c.args.name.now c.loop-byte.byte-index c.loop-byte-test.true, ← c.name_byte.ensures) at c.loop-byte.invariant in
    rw c.if-not-name_byte.false at bytes_left

pub returns : goal.returns
returns c = sym (all_bytes-end good_name_byte c.args.name.now c.loop-byte.byte-index c.loop-byte-test.false) ∙ c.loop-byte.invariant
