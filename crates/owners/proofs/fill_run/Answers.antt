use mathlib.Core.Path.{◌≡◌}
use Prim.Native.Nat.{◌+◌, ◌-◌}
use native.Mathlib.Omega.{arith}
use lib.ListN.{replicate}
use Rattle.std.proofs.lemmas.Grind.{common_steps}
use Rattle.owners.proofs.Laws.{filled_run, kept_run}
use Rattle.owners.proofs.fill_run.Goals as goal

pub returns : goal.returns
returns c = let g = c.args in
    let room = c.requires (omega arith) in
    let n : g.first.0 + g.count - g.first.0 ≡ g.count = omega arith in
    let e : c.fill.new.self ≡ replicate g.count g.mark = grind (arith, common_steps) in
    record { run = filled_run _ _ _ _ _ _ n e room; kept = kept_run _ _ _ _ _ _ n e room }
