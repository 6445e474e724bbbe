use Prim.Native.Nat.{◌<◌}
use mathlib.Core.Path.{sym, ◌∙◌}
use native.Mathlib.Omega.{arith}
use lib.ListN.{length}
use Rattle.chains.proofs.Predecessors.{noted_skip, noted_twice, noted_set}
use Rattle.chains.proofs.note_pred.Goals as goal

pub returns-then-next-eq0 : goal.returns-then-next-eq0
returns-then-next-eq0 c = noted_skip _ _ _ c.requires.4 (sym c.entry-next.ensures ∙ c.if-next-eq0.true)

pub returns-then-entry-ne0 : goal.returns-then-entry-ne0
returns-then-entry-ne0 c = noted_twice _ _ _ c.requires.4 _ (sym c.entry-next.ensures) c.if-next-eq0.false c.requires.0 (λ z. c.if-entry-ne0.true (c.entry.ensures ∙ z))

pub returns : goal.returns
returns c = let s = c in
    let e = c.entry-next in
    let l : e.result < length s.args.preds.now = omega (arith, s.requires.3 s.args.a) in
    rw c.set_entry.ensures
    (noted_set _ _ _ s.requires.4 _ (sym e.ensures) l s.requires.2 (sym c.entry.ensures ∙ c.if-entry-ne0.false))
