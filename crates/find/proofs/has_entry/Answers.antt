use mathlib.Core.Path.{sym, ap, ◌∙◌}
use Rattle.std.specs.Prelude.{Ok}
use Rattle.rules.specs.Walk.{entries_from}
use Rattle.rules.specs.Lookup.{nth}
use Rattle.laws.specs.Entries.{entries_more, entries_end_lem}
use Rattle.find.proofs.has_entry.Goals as goal

pub returns-in-Ok-Some : goal.returns-in-Ok-Some
unfolding nth
returns-in-Ok-Some c = let w = c.in-Ok-Some in λ y. rw (entries_more _ y 27 16 _ (sym c.entry_at.ensures ∙ w.is ∙ ap Ok w.field-0-is))

pub returns-in-Ok-None : goal.returns-in-Ok-None
unfolding nth
returns-in-Ok-None c = let w = c.in-Ok-None in λ y. rw (entries_end_lem _ y 28 16 (sym c.entry_at.ensures ∙ w.is ∙ ap Ok w.field-0-is))

pub returns-in-Err : goal.returns-in-Err
unfolding entries_from nth
returns-in-Err c = λ y. rw (← c.entry_at.ensures, c.in-Err.is)
