use Rattle.edits.proofs.Blocks.{fields_same}
use Rattle.edits.proofs.same_run.Goals as goal

pub returns-then-same_numbers-2 : goal.returns-then-same_numbers-2
returns-then-same_numbers-2 c = λ r a low high.
    fields_same _ _ _ _ _ _ a (c.same_numbers.ensures c.if-same_numbers.true a low high) (c.same_numbers-then-same_numbers.ensures c.if-same_numbers-2.true a low high) (c.same_numbers-then-same_numbers-2.ensures r a low high)
