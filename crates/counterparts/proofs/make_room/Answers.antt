use Rattle.names.proofs.Laws.{indexed_anew}
use mathlib.Core.Logic.{inl, inr}
use mathlib.Core.Path.{refl}
use borrow.Author.Rules.{rules}
use Rattle.counterparts.proofs.make_room.Goals as goal

pub returns-then-i-blocks-le3444 : goal.returns-then-i-blocks-le3444
returns-then-i-blocks-le3444 c = (λ img t. t, inr c.if-i-blocks-le3444.true)

pub returns : goal.returns
returns c = (λ img t. indexed_anew img c.args.index.now _ c.zero_first.ensures (search rules), inl refl)
