use Rattle.bitmap_laws.specs.Read.{first_read}
use borrow.Author.Rules.{rules}
use Rattle.bitmap_calls.proofs.first_data.Goals as goal

pub returns : goal.returns
returns c = (first_read _ _ _ c.block_part.ensures c.root_in-root.ensures, search rules)
