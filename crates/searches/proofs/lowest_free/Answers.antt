use Prim.Native.Nat.{◌+◌, ◌-◌}
use mathlib.Core.Path.{refl, ◌∙◌}
use mathlib.Core.List.{[]}
use native.Mathlib.Omega.{arith}
use borrow.Author.Rules.{rules}
use Rattle.anodes.specs.Loaded.{anodes_from}
use Rattle.searches.proofs.Searches.{few_read, slot_found, slot_passed, slots_start, slots_end}
use Rattle.searches.proofs.lowest_free.Goals as goal

pub loop-k-init : goal.loop-k-init
loop-k-init c = (search rules, λ x n. slots_start _ (anodes_from x _ n))

pub overflow_add-read : goal.overflow_add-read
overflow_add-read c = omega (arith, few_read _ _ _ _ _ (c.search_slot-stop.ensures [] []))

pub returns-then-anode-k : goal.returns-then-anode-k
returns-then-anode-k c = λ x n.
    let l = c.loop-k in
    slot_found _ (anodes_from x _ n) _ _ _ (c.search_slot-stop.ensures x n) (42 - (l.k + 1)) l.read (omega arith) c.if-anode-k.true ∙ l.invariant.1 x n

pub loop-k-preserved : goal.loop-k-preserved
loop-k-preserved c = let l = c.loop-k in
    let e = c.search_slot-stop.ensures in (
      omega (arith, few_read _ _ _ _ _ (e [] [])),
      λ x n. slot_passed _ (anodes_from x _ n) _ _ _ (e x n) (42 - (l.k + 1)) l.read (omega arith) refl c.if-anode-k.false ∙ l.invariant.1 x n,
    )

pub returns : goal.returns
returns c = λ x n. let l = c.loop-k in slots_end _ (anodes_from x _ n) l.k l.read (omega arith) ∙ l.invariant.1 x n
