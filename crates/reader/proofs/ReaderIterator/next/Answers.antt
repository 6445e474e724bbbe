use borrow.Author.Rules.{rules}
use Rattle.reader.specs.Reads.{entry_read}
use Rattle.reader.proofs.ReaderIterator.next.Goals as goal

pub returns-in-Ok-Some-clause-steps : goal.returns-in-Ok-Some-clause-steps
unfolding entry_read
returns-in-Ok-Some-clause-steps c = search rules

pub returns-in-Ok-None-clause-steps : goal.returns-in-Ok-None-clause-steps
unfolding entry_read
returns-in-Ok-None-clause-steps c = search rules

pub returns-in-Err-clause-steps : goal.returns-in-Err-clause-steps
unfolding entry_read
returns-in-Err-clause-steps c = search rules
