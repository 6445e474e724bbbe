use mathlib.Core.Path.{◌≡◌, sym, ◌∙◌}
use mathlib.Core.Bool.{◌&&◌}
use Prim.Native.Nat.{◌+◌}
use lib.Dec.{leb}
use lib.ListN.{get_or, take, drop}
use native.Mathlib.Omega.{arith}
use borrow.Author.Tests.{le-leb, lt-leb, eq-eqb, ne_eqb}
use Rattle.directory.specs.Entries.{good_name, name_length, comment_length, name_in, entry_shaped}
use Rattle.directory.proofs.entry_ok.Goals as goal

pub overflow_cast-len : goal.overflow_cast-len
overflow_cast-len c = omega (arith, c.shared_slice_known-2-1.given c.args.at)

pub returns-then-len-entry_len : goal.returns-then-len-entry_len
unfolding name_length comment_length entry_shaped
returns-then-len-entry_len c = rw (sym c.read8-name_len.ensures, sym c.read8-comment_len.ensures, sym c.entry_len.ensures, ne_eqb _ _ c.if-len-entry_len.true)

pub overflow_add-at-2 : goal.overflow_add-at-2
overflow_add-at-2 c = omega (arith, c.shared_slice_known-2-1.given c.args.at)

pub returns-then-at-len-gt510 : goal.returns-then-at-len-gt510
unfolding name_length comment_length name_in entry_shaped
returns-then-at-len-gt510 c = let room-left : let g = c.args in let l = g.block.now in entry_shaped l g.at ≡ (leb (g.at + get_or l g.at 0) 510 && (leb c.read8-comment_len.result 79 && good_name (take c.read8-name_len.result (drop (g.at + 16) l)))) = rw (← c.read8-name_len.ensures, ← c.read8-comment_len.ensures, ← c.entry_len.ensures, eq-eqb _ _ c.if-len-entry_len.false) in
    sym (room-left ∙ rw (lt-leb _ 510 c.if-at-len-gt510.true))

pub returns-then-comment_len-gt79 : goal.returns-then-comment_len-gt79
unfolding name_length comment_length name_in entry_shaped
returns-then-comment_len-gt79 c = let room-left : let g = c.args in let l = g.block.now in entry_shaped l g.at ≡ (leb (g.at + get_or l g.at 0) 510 && (leb c.read8-comment_len.result 79 && good_name (take c.read8-name_len.result (drop (g.at + 16) l)))) = rw (← c.read8-name_len.ensures, ← c.read8-comment_len.ensures, ← c.entry_len.ensures, eq-eqb _ _ c.if-len-entry_len.false) in
    sym (room-left ∙ rw (le-leb _ 510 c.if-at-len-gt510.false, lt-leb _ 79 c.if-comment_len-gt79.true))

pub returns : goal.returns
unfolding name_length comment_length name_in entry_shaped
returns c = let room-left : let g = c.args in let l = g.block.now in entry_shaped l g.at ≡ (leb (g.at + get_or l g.at 0) 510 && (leb c.read8-comment_len.result 79 && good_name (take c.read8-name_len.result (drop (g.at + 16) l)))) = rw (← c.read8-name_len.ensures, ← c.read8-comment_len.ensures, ← c.entry_len.ensures, eq-eqb _ _ c.if-len-entry_len.false) in
    sym (room-left ∙ rw (le-leb _ 510 c.if-at-len-gt510.false, le-leb _ 79 c.if-comment_len-gt79.false, ← c.part.ensures) (sym c.name_ok.ensures))
