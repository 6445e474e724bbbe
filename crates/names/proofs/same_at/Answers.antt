use mathlib.Core.Path.{sym, ap, ◌∙◌}
use Rattle.names.specs.Index.{folded_in, name_of, print_of}
use Rattle.names.proofs.Laws.{other_name}
use Rattle.names.proofs.same_at.Goals as goal

pub returns-then-entry-print : goal.returns-then-entry-print
returns-then-entry-print c = let p = c.requires in sym (other_name _ _ (λ e. c.if-entry-print.true (c.entry.ensures ∙ p.0 ∙ ap print_of (sym e) ∙ sym p.1)))

pub returns : goal.returns
unfolding name_of folded_in
returns c = rw (c.same_folded.ensures, c.name_at.ensures, c.entry-at.ensures, c.entry-b.ensures)
