use mathlib.Core.Path.{◌≡◌, sym, ap}
use native.Mathlib.Omega.{arith}
use lib.ListN.{length}
use Rattle.anodes.specs.Loaded.{slots_from}
use Rattle.write_lists.proofs.Laws.{no_write, no_slot, slot_length, slot_room, slot_put}
use Rattle.write_lists.proofs.put_slots.Goals as goal

pub loop-k-init : goal.loop-k-init
loop-k-init c = let x = c.args in
    let none = no_slot (slots_from x.slots.now) in
    (omega (arith, ap length none), sym (no_write x.out.now x.at x.image.now _ none))

pub put_slot_write-place-requires : goal.put_slot_write-place-requires
put_slot_write-place-requires c = let l = c.loop-k in
    let p = c.requires in
    (p.0 l.k, omega (arith, p.1, l.invariant.0, slot_room (slots_from c.args.slots.now) l.k c.loop-k-test.true))

pub loop-k-preserved : goal.loop-k-preserved
unfolding slots_from
loop-k-preserved c = let l = c.loop-k in
    let x = c.args in
    let p = c.put_slot_write-place.ensures in (
      omega (arith, p.1, l.invariant.0, slot_length (slots_from x.slots.now) l.k),
      slot_put (slots_from x.slots.now) x.image.now c.requires.0 x.out.now x.at l.k l.out l.place _ l.invariant.1 l.invariant.0 p.0,
    )

pub returns : goal.returns
returns c = let e : c.loop-k.k ≡ 42 = omega arith in
    (rw e at c.loop-k.invariant.1, rw e at c.loop-k.invariant.0)
