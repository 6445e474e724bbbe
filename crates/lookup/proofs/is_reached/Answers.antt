use mathlib.Core.Path.{sym, ap, ◌∙◌}
use mathlib.Core.Bool.{not}
use borrow.Author.Tests.{le-ltb}
use Rattle.lookup.proofs.Queue.{place_out, place_there, place_occurrences}
use Rattle.lookup.proofs.is_reached.Goals as goal

pub returns-then-entry-head : goal.returns-then-entry-head
returns-then-entry-head c = let a = c in
    λ parents. ap not (sym (le-ltb _ _ (place_out _ _ a.args.heads.now _ a.requires (λ e. c.if-entry-head.true (c.entry.ensures ∙ e))))) ∙ place_occurrences _ _ parents _

pub returns : goal.returns
returns c = λ parents. rw (c.is_some.ensures, ← place_there _ _ _ c.place_in_queue.result c.place_in_queue.ensures) (place_occurrences _ _ parents _)
