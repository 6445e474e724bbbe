use mathlib.Core.Path.{refl, sym, ap, ◌∙◌}
use native.Mathlib.Omega.{arith}
use Prim.Native.Nat.{ℕ, ◌+◌, ◌<◌}
use lib.ListN.{get_or}
use mathlib.Core.Bool.{true}
use Rattle.anodes.specs.Loaded.{anodes_from}
use Rattle.placing.proofs.Found.{extent-at, first_out, some_found, none_found, passed_on}
use Rattle.relocating.proofs.new_place.Goals as goal

pub returns-in_err-found : goal.returns-in_err-found
returns-in_err-found c = let n = none_found _ _ _ c.ok_or.ensures.value _ c.in_err-found.was in
    rw (passed_on c.from_residual.result _ c.from_residual.ensures.1, n.1) (sym (c.free_extent.ensures c.args.firsts.now) ∙ n.0, refl)

pub overflow_add-rest : goal.overflow_add-rest
unfolding anodes_from
overflow_add-rest c = let extent = sym (c.free_extent.ensures c.args.firsts.now) ∙ some_found _ _ _ c.ok_or.ensures.value _ c.in_ok-found.was in
    let e = c.in_ok-found.found in
    let at : (e.before.0 < 3444) × (e.anode.0 < 3444) × (0 < get_or c.args.counts.now e.anode.0 0) × (get_or c.args.firsts.now e.anode.0 0 < 65535) = extent-at c.requires.by_index.2 true _ _ extent in
    record { fits = omega (arith, at, c.entry-y.ensures) }

pub without_run-requires : goal.without_run-requires
unfolding anodes_from
without_run-requires c = let extent = sym (c.free_extent.ensures c.args.firsts.now) ∙ some_found _ _ _ c.ok_or.ensures.value _ c.in_ok-found.was in
    let e = c.in_ok-found.found in
    let at : (e.before.0 < 3444) × (e.anode.0 < 3444) × (0 < get_or c.args.counts.now e.anode.0 0) × (get_or c.args.firsts.now e.anode.0 0 < 65535) = extent-at c.requires.by_index.2 true _ _ extent in
    (at.0, at.1, c.requires.anode_tables, omega (arith, at.2))

pub returns : goal.returns
unfolding anodes_from
returns c = let extent = sym (c.free_extent.ensures c.args.firsts.now) ∙ some_found _ _ _ c.ok_or.ensures.value _ c.in_ok-found.was in
    let y = c.entry-y.ensures in
    (_, _, extent, y, c.without_run.ensures ∙ first_out _ _ _ _ (ap (λ (b : ℕ). b + 1) y))
