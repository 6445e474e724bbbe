use lib.ListN.{length}
use mathlib.Core.Path.{sym, ap, ◌∙◌}
use mathlib.Core.List.{List}
use Prim.Native.Nat.{ℕ, ◌+◌}
use Rattle.differences.specs.Handing.{handing_of}
use native.Mathlib.Omega.{arith}
use borrow.Author.Tests.{ltb-false}
use Rattle.handing.specs.HandLaws.{hand_nothing, hand_passing, hand_storing}
use Rattle.handing.proofs.hand_out.Goals as goal

pub returns-then-has_no_room : goal.returns-then-has_no_room
returns-then-has_no_room c = sym (hand_nothing _ _ (sym c.has_no_room.ensures ∙ c.if-has_no_room.true))

pub returns-then-c-ne0 : goal.returns-then-c-ne0
returns-then-c-ne0 c = let a = c.args in
    sym (hand_passing a.out.now a.c.skip a.c.done _ (ltb-false _ _ (sym c.has_no_room.ensures ∙ c.if-has_no_room.false)) (λ e. omega arith))

pub put_difference-requires : goal.put_difference-requires
put_difference-requires c = ltb-false _ _ (sym c.has_no_room.ensures ∙ c.if-has_no_room.false)

pub overflow_add-result : goal.overflow_add-result
overflow_add-result c = let a = c.args in
    let room = ltb-false (length a.out.now) (a.c.done + 6) (sym c.has_no_room.ensures ∙ c.if-has_no_room.false) in
    omega arith

pub returns : goal.returns
returns c = let a = c.args in
    ap (λ (l : List ℕ). handing_of l 0 (a.c.done + 6)) c.put_difference.ensures
    ∙ sym (hand_storing a.out.now a.c.skip a.c.done _ (ltb-false _ _ (sym c.has_no_room.ensures ∙ c.if-has_no_room.false)) (omega arith))
