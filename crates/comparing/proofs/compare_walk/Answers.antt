use Prim.Native.Nat.{ℕ}
use mathlib.Core.Path.{ap, ◌∙◌}
use native.Mathlib.Omega.{arith}
use lib.ListN.{get_or}
use Rattle.change_laws.specs.Image.{accepted_own}
use Rattle.comparing.proofs.Laws.{directory_readable}
use Rattle.comparing.proofs.WalkedTo.{walked_none, walked_reached, walked_partner, walked_more, walked_pairs, walked_rest}
use Rattle.comparing.proofs.compare_walk.Goals as goal

pub loop-i-init : goal.loop-i-init
loop-i-init c = (c.requires.loaded.1, λ parents q. walked_none _ _ _ parents _ _ _ q c.requires.met_value)

pub open_directory-span-requires : goal.open_directory-span-requires
open_directory-span-requires c = let g = c.loop-i.invariant.1 c.requires.open_walk.0 c.requires.open_walk.2.queued in
    let l = c.loop-i-test.true in
    ((_, c.requires.loaded.0), rw (c.entry-in-loop-i.ensures, c.entry.ensures) (walked_partner g l (accepted_own _ c.requires.open_walk.2.loaded.accepted) (accepted_own _ c.requires.loaded.0.accepted)), c.loop-i.invariant.0)

pub compare_directory-so_far-requires : goal.compare_directory-so_far-requires
compare_directory-so_far-requires c = let g = c.loop-i.invariant.1 c.requires.open_walk.0 c.requires.open_walk.2.queued in
    let l = c.loop-i-test.true in
    let a = accepted_own _ c.requires.open_walk.2.loaded.accepted in
    record { loaded = (c.requires.open_walk.2.loaded, rw c.entry.ensures (directory_readable (walked_reached g l a))); loaded_2 = (c.requires.loaded.0, rw (c.entry-in-loop-i.ensures, c.entry.ensures) (walked_partner g l a (accepted_own _ c.requires.loaded.0.accepted))); span_of = c.open_directory-span.ensures }

pub loop-i-preserved : goal.loop-i-preserved
loop-i-preserved c = let l = c.loop-i in
    let head = c.entry.ensures in
    let p = c.entry-in-loop-i.ensures ∙ ap (λ (h : ℕ). get_or l.partners h 0) head in (
      c.open_directory-span.ensures.indexed,
      λ parents q. walked_more (l.invariant.1 parents q) c.loop-i-test.true _ _ (rw (p, head) at c.compare_directory-so_far.ensures.pairs) (rw (p, head) at c.compare_directory-so_far.ensures.differences),
    )

pub returns : goal.returns
returns c = let g = c.loop-i.invariant.1 c.requires.open_walk.0 c.requires.open_walk.2.queued in
    record { pairs = walked_pairs g (omega (arith, c.loop-i-test.false)); differences = walked_rest g (omega (arith, c.loop-i-test.false)) }
