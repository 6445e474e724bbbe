use mathlib.Core.Path.{◌≡◌, sym, ◌∙◌}
use mathlib.Core.Bool.{true≢false}
use Prim.Native.Nat.{◌+◌, ◌<◌, ◌≤◌}
use native.Mathlib.Omega.{arith}
use lib.ListN.{get_or, drop}
use Rattle.rules.specs.Accepted.{disk_size}
use Rattle.anodes.specs.Loaded.{anodes_from}
use Rattle.laws.specs.TestsPassed.{zero_anode, extent_inside}
use Rattle.owners.proofs.Laws.{kept-drop}
use Rattle.owners.proofs.Owners.{size_some, anode_first, anode_more, head_some, anode_hit, system_twice, two-owners, one_owner, anode_done}
use borrow.Author.Rules.{rules}
use Rattle.owners.proofs.mark_owners.Goals as goal

pub returns-then-mark_system : goal.returns-then-mark_system
returns-then-mark_system c = let o = rw c.if-mark_system.true at c.mark_system.ensures.answer in
    record { two = λ n. sym (two-owners _ _ _ n (system_twice _ _ _ _ o)); marked = λ e. absurd (true≢false e); kept = c.mark_system.ensures.kept }

pub loop-a-init : goal.loop-a-init
loop-a-init c = (search rules, search rules, search rules, anode_first _ _ _ _ _ _ (rw c.if-mark_system.false at c.mark_system.ensures.answer))

pub mark_run-requires : goal.mark_run-requires
unfolding anodes_from
mark_run-requires c = let within : let g = c.args in let a = c.loop-a.a in 0 < get_or g.counts.now a 0 → get_or g.firsts.now a 0 + get_or g.counts.now a 0 ≤ disk_size g.image.now = let s = c.requires.by_index in extent_inside _ s.1 _ s.2 c.loop-a.a c.loop-a-test.true in
    λ z. let w = within z in search rules

pub returns-then-mark_run : goal.returns-then-mark_run
unfolding anodes_from
returns-then-mark_run c = let within : let g = c.args in let a = c.loop-a.a in 0 < get_or g.counts.now a 0 → get_or g.firsts.now a 0 + get_or g.counts.now a 0 ≤ disk_size g.image.now = let s = c.requires.by_index in extent_inside _ s.1 _ s.2 c.loop-a.a c.loop-a-test.true in
    let kept_run : let k = disk_size c.args.image.now in drop k c.mark_run.new.blocks ≡ drop k c.mark_system.new.blocks = kept-drop _ _ _ _ _ c.mark_run.ensures.kept within (search rules) ∙ c.loop-a.invariant.2 in
    let l = c.loop-a in
    let m = c.mark_run in
    let o = anode_hit _ _ _ _ _ l.a _ l.invariant.3 c.loop-a-test.true (rw c.if-mark_run.true at m.ensures.run) within in
    record { two = λ n. sym (two-owners _ _ _ n o); marked = λ e. absurd (true≢false e); kept = kept_run ∙ c.mark_system.ensures.kept }

pub loop-a-preserved : goal.loop-a-preserved
unfolding anodes_from
loop-a-preserved c = let within : let g = c.args in let a = c.loop-a.a in 0 < get_or g.counts.now a 0 → get_or g.firsts.now a 0 + get_or g.counts.now a 0 ≤ disk_size g.image.now = let s = c.requires.by_index in extent_inside _ s.1 _ s.2 c.loop-a.a c.loop-a-test.true in
    let kept_run : let k = disk_size c.args.image.now in drop k c.mark_run.new.blocks ≡ drop k c.mark_system.new.blocks = kept-drop _ _ _ _ _ c.mark_run.ensures.kept within (search rules) ∙ c.loop-a.invariant.2 in
    let l = c.loop-a in
    let m = c.mark_run in
    let size = size_some _ c.requires.image_value.0 in
    let run = rw c.if-mark_run.false at m.ensures.run in
    let some = head_some _ _ _ _ _ l.a _ l.invariant.3 _ run (omega arith) (zero_anode _ c.requires.by_index.1).0 (c.requires.by_index_2 l.a) in (
      search rules,
      search rules,
      kept_run,
      anode_more _ _ _ _ _ l.a _ l.invariant.3 _ run m.ensures.kept some,
    )

pub returns : goal.returns
returns c = let l = c.loop-a in
    let e : l.a ≡ 3444 = omega arith in
    let m = rw e at l.invariant.3 in
    record { two = λ n. sym (one_owner _ _ _ n _ _ m); marked = λ r n. anode_done _ _ _ _ n _ _ m; kept = l.invariant.2 ∙ c.mark_system.ensures.kept }
