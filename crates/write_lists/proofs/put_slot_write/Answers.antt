use mathlib.Core.Path.{sym, ap, ◌∙◌}
use native.Mathlib.Omega.{arith}
use lib.ListN.{length}
use Rattle.anodes.specs.Loaded.{slots_from}
use Rattle.write_lists.proofs.Laws.{no_write, held_none, held_one}
use Rattle.write_lists.proofs.put_slot_write.Goals as goal

pub returns-then-y-eq0 : goal.returns-then-y-eq0
unfolding slots_from
returns-then-y-eq0 c = let x = c.args in
    let none = held_none (slots_from x.slots.now) x.k (sym c.entry-y.ensures ∙ c.if-y-eq0.true) in
    (sym (no_write x.out.now x.at x.image.now _ none), omega (arith, ap length none))

pub put_write-requires : goal.put_write-requires
unfolding slots_from
put_write-requires c = let x = c.args in
    let p = c.requires in
    let one = held_one (slots_from x.slots.now) x.k (λ e. c.if-y-eq0.false (c.entry-y.ensures ∙ e)) in
    (omega (arith, p.0, c.entry-y.ensures), omega (arith, p.1, ap length one))

pub returns : goal.returns
unfolding slots_from
returns c = let x = c.args in
    let p = c.put_write.ensures in
    let one = held_one (slots_from x.slots.now) x.k (λ e. c.if-y-eq0.false (c.entry-y.ensures ∙ e)) in
    (rw (one, ← c.entry-y.ensures) p.0, omega (arith, p.1, ap length one))
