use mathlib.Core.Path.{sym, ◌∙◌}
use lib.ListN.{length}
use Rattle.std.proofs.lemmas.Result.{err_from_is_err_and}
use native.Mathlib.Omega.{arith}
use Rattle.tables.proofs.Laws.{zeroed-below}
use Rattle.fsck.specs.Answers.{Headed}
use Rattle.fsck.proofs.Laws.{headed, refused_is, accepted_is, Examined, outcome_header, outcome-accepted, outcome_refused}
use Rattle.fsck.proofs.open_disk.Goals as goal

pub returns-in_err-test_header : goal.returns-in_err-test_header
returns-in_err-test_header c = let p = err_from_is_err_and c.from_residual.result c.from_residual.ensures.1 in
    rw (p.1, p.2) (record { outcome = outcome_header _ _ _ _ _ c.in_err-test_header.was c.test_header.ensures; tally = tt; opened = tt })

pub zero_first-requires : goal.zero_first-requires
zero_first-requires c = let headed-at : Headed c.args.image.now (length c.args.blocks.now) (length c.args.anodes.now) = headed _ _ _ _ _ c.in_ok-test_header.was c.test_header.ensures in
    omega (arith, headed-at.room.for_blocks, c.disk_size-n.ensures)

pub zero_first-requires-2 : goal.zero_first-requires-2
zero_first-requires-2 c = let headed-at : Headed c.args.image.now (length c.args.blocks.now) (length c.args.anodes.now) = headed _ _ _ _ _ c.in_ok-test_header.was c.test_header.ensures in
    headed-at.room.for_anodes

pub examine-tally-requires : goal.examine-tally-requires
examine-tally-requires c = let headed-at : Headed c.args.image.now (length c.args.blocks.now) (length c.args.anodes.now) = headed _ _ _ _ _ c.in_ok-test_header.was c.test_header.ensures in
    let d = c in
    let h = headed-at in
    let b = c.zero_first in
    let a = c.zero_first-2 in record {
      sized = c.requires;
      image_value = h.size_right;
      zeroed = record {
        room = record { for_blocks = omega (arith, h.room.for_blocks, b.auto.table); for_anodes = omega (arith, h.room.for_anodes, a.auto.table) };
        blocks-zero = λ x l. zeroed-below d.disk_size-n.result _ _ b.ensures x (omega (arith, l, d.disk_size-n.ensures));
        anodes_zero = zeroed-below _ c.args.anodes.now _ a.ensures;
      };
    }

pub zero_first-requires-then-is_err : goal.zero_first-requires-then-is_err
zero_first-requires-then-is_err c = let headed-at : Headed c.args.image.now (length c.args.blocks.now) (length c.args.anodes.now) = headed _ _ _ _ _ c.in_ok-test_header.was c.test_header.ensures in
    let x = c in omega (arith, headed-at.room.for_blocks, c.disk_size-n.ensures, x.zero_first.auto.table, x.examine-tally.auto.blocks)

pub zero_first-requires-then-is_err-2 : goal.zero_first-requires-then-is_err-2
zero_first-requires-then-is_err-2 c = let headed-at : Headed c.args.image.now (length c.args.blocks.now) (length c.args.anodes.now) = headed _ _ _ _ _ c.in_ok-test_header.was c.test_header.ensures in
    let x = c in omega (arith, headed-at.room.for_anodes, x.zero_first-2.auto.table, x.examine-tally.auto.anodes)

pub returns-then-is_err : goal.returns-then-is_err
returns-then-is_err c = let headed-at : Headed c.args.image.now (length c.args.blocks.now) (length c.args.anodes.now) = headed _ _ _ _ _ c.in_ok-test_header.was c.test_header.ensures in
    let examined : let g = c.args in let e = c.examine-tally in Examined g.image.now g.blocks.now g.anodes.now c.disk_size-n.result e.new.blocks e.new.anodes e.result = record {
      size = c.disk_size-n.ensures;
      header = headed-at;
      b₁ = c.zero_first.new.table;
      a₁ = c.zero_first-2.new.table;
      blocks-zeroed = c.zero_first.ensures;
      anodes_zeroed = c.zero_first-2.ensures;
      answer = c.examine-tally.ensures.answer;
      left = c.examine-tally.ensures.tables;
    } in
    let x = c in
    record { outcome = outcome_refused _ _ _ examined _ (refused_is _ (sym c.is_err.ensures.value ∙ c.if-is_err.true)).1 _ _ c.zero_first-then-is_err.ensures c.zero_first-then-is_err-2.ensures; tally = x.examine-tally.ensures.tally; opened = x.examine-tally.ensures.opened }

pub returns-else-is_err : goal.returns-else-is_err
returns-else-is_err c = let headed-at : Headed c.args.image.now (length c.args.blocks.now) (length c.args.anodes.now) = headed _ _ _ _ _ c.in_ok-test_header.was c.test_header.ensures in
    let examined : let g = c.args in let e = c.examine-tally in Examined g.image.now g.blocks.now g.anodes.now c.disk_size-n.result e.new.blocks e.new.anodes e.result = record {
      size = c.disk_size-n.ensures;
      header = headed-at;
      b₁ = c.zero_first.new.table;
      a₁ = c.zero_first-2.new.table;
      blocks-zeroed = c.zero_first.ensures;
      anodes_zeroed = c.zero_first-2.ensures;
      answer = c.examine-tally.ensures.answer;
      left = c.examine-tally.ensures.tables;
    } in
    let x = c in
    record { outcome = outcome-accepted _ _ _ examined _ (accepted_is _ (sym c.is_err.ensures.value ∙ c.if-is_err.false)).1; tally = x.examine-tally.ensures.tally; opened = x.examine-tally.ensures.opened }
