use Rattle.looks.specs.Calls.{label_of, label_fields}
use Rattle.look_calls.proofs.put_label.Goals as goal

pub returns : goal.returns
unfolding label_of label_fields
returns c = rw (c.root_in-root.ensures, c.block_part.ensures)
