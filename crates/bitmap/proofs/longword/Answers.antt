use mathlib.Core.Path.{◌∙◌}
use Prim.Native.Nat.{◌+◌}
use Rattle.bitmap.proofs.Laws.{longword_none, longword_part}
use borrow.Author.Rules.{rules}
use Rattle.bitmap.proofs.longword.Goals as goal

pub returns-then-end-n : goal.returns-then-end-n
returns-then-end-n c = let a = c.args in
    c.bits_in.ensures ∙ longword_part _ _ _ _ (a.first + a.at + 32) (search rules) (search rules) (search rules) (λ i k l. search rules)

pub returns-then-from-n : goal.returns-then-from-n
returns-then-from-n c = let a = c.args in
    c.bits_in-then-from-n.ensures ∙ longword_part _ _ _ _ a.n (search rules) (search rules) (search rules) (λ i k l. search rules)

pub returns : goal.returns
returns c = longword_none _ _ _ _ c.if-from-n.false
