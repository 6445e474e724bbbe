use mathlib.Core.Path.{◌≡◌, sym, ◌∙◌}
use mathlib.Core.Bool.{false}
use Rattle.rules.specs.Accepted.{wrong_slots}
use Rattle.fsck.proofs.Laws.{kept-all, slots_wrong, slots_right}
use borrow.Author.Rules.{rules}
use Rattle.fsck.proofs.examine.Goals as goal

pub returns-then-wrong_slots : goal.returns-then-wrong_slots
returns-then-wrong_slots c = record { answer = slots_wrong _ _ (sym c.wrong_slots.ensures ∙ c.if-wrong_slots.true); tally = tt; tables = kept-all _ _ _; opened = tt }

pub test_all-requires : goal.test_all-requires
test_all-requires c = let right-slots : wrong_slots c.args.image.now ≡ false = sym c.wrong_slots.ensures ∙ c.if-wrong_slots.false in
    record { sized = ((search rules, search rules, search rules), search rules, search rules); nexts_value = c.load.ensures; image_value = (c.requires.image_value, right-slots); zeroed = c.requires.zeroed }

pub returns : goal.returns
returns c = let right-slots : wrong_slots c.args.image.now ≡ false = sym c.wrong_slots.ensures ∙ c.if-wrong_slots.false in
    record { answer = slots_right _ _ _ right-slots c.test_all.ensures.answer; tally = c.test_all.ensures.tally; tables = c.test_all.ensures.tables; opened = c.test_all.ensures.opened }
