use Rattle.named_changes.proofs.Laws.{long_comment}
use Rattle.directory.specs.Entries.{good_comment}
use lib.ListN.{length}
use mathlib.Core.Path.{sym, ◌∙◌}
use Rattle.named_changes.proofs.wrong_entry.Goals as goal

pub returns-else-not-name_ok : goal.returns-else-not-name_ok
unfolding good_comment
returns-else-not-name_ok c = rw (sym c.name_ok.ensures ∙ c.if-not-name_ok.false) (sym (long_comment (length c.args.comment.now)))
