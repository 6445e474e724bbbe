use Rattle.settings.specs.Files.{record_count, record_length}
use borrow.Author.Rules.{rules}
use Rattle.settings.proofs.record_count.Goals as goal

pub returns : goal.returns
unfolding record_count record_length
returns c = search rules
