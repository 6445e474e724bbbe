use mathlib.Core.Path.{◌≡◌, sym, ◌∙◌}
use Prim.Native.Nat.{◌+◌, ◌≤◌}
use native.Mathlib.Omega.{arith}
use lib.ListN.{drop}
use Rattle.rules.specs.Accepted.{disk_size}
use Rattle.owners.proofs.Laws.{kept-drop}
use Rattle.owners.proofs.Owners.{size_some, slot_within, system_first, system_skip, system_more, system_hit, system_done}
use borrow.Author.Rules.{rules}
use Rattle.owners.proofs.mark_system.Goals as goal

pub mark_run-requires : goal.mark_run-requires
mark_run-requires c = λ z. let h = size_some _ c.requires.image_value.0 in search rules

pub returns-then-mark_run : goal.returns-then-mark_run
returns-then-mark_run c = let hit = rw c.if-mark_run.true at c.mark_run.ensures.run in
    let h = size_some _ c.requires.image_value.0 in
    absurd (hit.taken (c.requires.zero_below hit.block (omega (arith, hit.below))))

pub loop-s-init : goal.loop-s-init
loop-s-init c = (search rules, search rules, search rules, system_first _ _ _ _ c.requires.zero_below (rw c.if-mark_run.false at c.mark_run.ensures.run) c.mark_run.ensures.kept)

pub loop-s-preserved-then-slot-eq0 : goal.loop-s-preserved-then-slot-eq0
loop-s-preserved-then-slot-eq0 c = let l = c.loop-s in
    (search rules, search rules, search rules, system_skip _ _ _ _ l.invariant.3 (sym c.slot_of-slot.ensures ∙ c.if-slot-eq0.true))

pub mark_run-requires-in-loop-s : goal.mark_run-requires-in-loop-s
mark_run-requires-in-loop-s c = let within : (3 ≤ c.slot_of-slot.result.0) × (c.slot_of-slot.result.0 + 1 ≤ disk_size c.args.image.now) = slot_within _ _ _ c.requires.image_value.1 (sym c.slot_of-slot.ensures) c.if-slot-eq0.false in
    λ z. let w = within in search rules

pub returns-then-mark_run-2 : goal.returns-then-mark_run-2
returns-then-mark_run-2 c = let within : (3 ≤ c.slot_of-slot.result.0) × (c.slot_of-slot.result.0 + 1 ≤ disk_size c.args.image.now) = slot_within _ _ _ c.requires.image_value.1 (sym c.slot_of-slot.ensures) c.if-slot-eq0.false in
    let kept-first : let g = c.args in drop (disk_size g.image.now) c.mark_run.new.blocks ≡ drop (disk_size g.image.now) g.blocks.now = kept-drop _ _ 0 3 _ c.mark_run.ensures.kept (λ z. size_some _ c.requires.image_value.0) (search rules) in
    let kept_slot : let k = disk_size c.args.image.now in drop k c.mark_run-in-loop-s.new.blocks ≡ drop k c.mark_run.new.blocks = kept-drop _ _ _ 1 _ c.mark_run-in-loop-s.ensures.kept (λ z. within.1) (search rules) ∙ c.loop-s.invariant.2 in
    let l = c.loop-s in
    let m = c.mark_run-in-loop-s in
    let w = within in record { answer = system_hit _ _ _ _ l.invariant.3 _ c.loop-s-test.true (sym c.slot_of-slot.ensures) c.if-slot-eq0.false w.0 w.1 (rw c.if-mark_run-2.true at m.ensures.run); kept = kept_slot ∙ kept-first }

pub loop-s-preserved : goal.loop-s-preserved
loop-s-preserved c = let within : (3 ≤ c.slot_of-slot.result.0) × (c.slot_of-slot.result.0 + 1 ≤ disk_size c.args.image.now) = slot_within _ _ _ c.requires.image_value.1 (sym c.slot_of-slot.ensures) c.if-slot-eq0.false in
    let kept_slot : let k = disk_size c.args.image.now in drop k c.mark_run-in-loop-s.new.blocks ≡ drop k c.mark_run.new.blocks = kept-drop _ _ _ 1 _ c.mark_run-in-loop-s.ensures.kept (λ z. within.1) (search rules) ∙ c.loop-s.invariant.2 in
    let l = c.loop-s in
    let m = c.mark_run-in-loop-s in (
      search rules,
      search rules,
      kept_slot,
      system_more _ _ _ _ l.invariant.3 _ _ (sym c.slot_of-slot.ensures) c.if-slot-eq0.false (rw c.if-mark_run-2.false at m.ensures.run) m.ensures.kept,
    )

pub returns : goal.returns
returns c = let kept-first : let g = c.args in drop (disk_size g.image.now) c.mark_run.new.blocks ≡ drop (disk_size g.image.now) g.blocks.now = kept-drop _ _ 0 3 _ c.mark_run.ensures.kept (λ z. size_some _ c.requires.image_value.0) (search rules) in
    let l = c.loop-s in
    let e : l.s ≡ 42 = omega arith in
    record { answer = system_done _ _ _ (rw e at l.invariant.3); kept = l.invariant.2 ∙ kept-first }
