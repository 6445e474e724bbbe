use mathlib.Core.Path.{refl}
use lib.Dec.{eqb}
use borrow.Author.Rules.{rules}
use Rattle.std.proofs.Common.{tests}
use Rattle.std.proofs.lemmas.Iterator.{YieldsList-from_range}
use Rattle.std.proofs.lemmas.Iterator.Search.{find_from_yields_List}
use Rattle.anodes.specs.Loaded.{slots_from}
use Rattle.growing.proofs.Growing.{empty_first}
use Rattle.growing.proofs.empty_slot.Goals as goal

pub returns : goal.returns
unfolding slots_from
returns c = empty_first (slots_from c.args.slots.now) c.find.result (find_from_yields_List (λ k. eqb (slots_from c.args.slots.now k) 0) _ _ c.find.result c.find.ensures.ran (YieldsList-from_range 0 42 42 refl refl) (λ x b q k. search (rules, tests)))
