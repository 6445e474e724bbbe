use Rattle.std.specs.Prelude.{Ok}
use mathlib.Core.Path.{sym, ap, ◌∙◌}
use mathlib.Core.Option.{some}
use Rattle.rules.specs.Walk.{Entered}
use Rattle.counterparts.proofs.Found.{kind_there, fields_there}
use Rattle.counterparts.proofs.indexed_entry.Goals as goal

pub returns-in_default : goal.returns-in_default
returns-in_default c = let said = rw (c.read8.ensures, c.block_part-block.ensures, c.entry-at.ensures, c.entry.ensures) at c.try_from.ensures in
    λ e w s t. let there = kind_there _ _ _ e w s t in cc (c.in_default.is, said)

pub returns : goal.returns
returns c = let said = rw (c.read8.ensures, c.block_part-block.ensures, c.entry-at.ensures, c.entry.ensures) at c.try_from.ensures in
    λ e w s t. rw (c.read32.ensures, c.read16.ensures, c.block_part-block.ensures, c.entry-at.ensures, c.entry.ensures) (ap (λ (y : Entered). some y) (fields_there _ _ _ e w s t c.in-Ok.kind (sym said ∙ c.in-Ok.is)))
