use Prim.Native.Nat.{◌+◌, ◌-◌, ◌*◌}
use mathlib.Core.Path.{ap, sym, ◌∙◌}
use mathlib.Core.List.{[]}
use native.Mathlib.Omega.{arith}
use Rattle.rules.specs.Lookup.{entries_of}
use Rattle.anodes.specs.Loaded.{anodes_from}
use Rattle.file_sums.specs.Sums.{sums_made, sums_with}
use Rattle.file_sums.proofs.Laws.{queued-none, queued_more, queued-all, within_none, within_join}
use Rattle.file_sums.proofs.sum_files.Goals as goal

pub loop-i-init : goal.loop-i-init
loop-i-init c = (within_none _, λ parents. ap (sums_with c.args.starts.now (sums_made 0 0)) (queued-all c.args.starts.now (sums_made 0 0) (entries_of c.args.image.now (anodes_from [] c.args.firsts.now c.args.nexts.now)) _ parents _ _ (omega arith)))

pub loop-i-preserved : goal.loop-i-preserved
loop-i-preserved c = let l = c.loop-i in
    let a = c.args in (
      within_join _ _ _ (l.i * 96432) 96432 _ (omega arith) l.invariant.0 c.add_directory-sums.ensures.1,
      λ parents. queued_more _ _ (entries_of a.image.now (anodes_from [] a.firsts.now a.nexts.now)) _ parents l.i (a.dirs - l.i) (a.dirs - (l.i + 1)) (omega arith) _ (rw c.entry.ensures at c.add_directory-sums.ensures.0) ∙ l.invariant.1 parents,
    )

pub returns : goal.returns
returns c = λ parents. sym (queued-none _ _ (entries_of c.args.image.now (anodes_from [] c.args.firsts.now c.args.nexts.now)) _ parents c.loop-i.i (c.args.dirs - c.loop-i.i) (omega arith)) ∙ c.loop-i.invariant.1 parents
