use Prim.Native.Nat.{◌<◌}
use mathlib.Core.Path.{◌∙◌}
use native.Mathlib.Omega.{arith}
use lib.ListN.{get_or}
use Rattle.anodes.specs.Loaded.{anodes_from}
use Rattle.laws.specs.GiveRuns.{run-most}
use Rattle.giving_runs.proofs.pick_run.Goals as goal

pub run_length-length-requires : goal.run_length-length-requires
run_length-length-requires c = let s = c in
    let x = c.entry.result in
    let full : 0 < get_or s.args.counts.now x 0 = rw (c.entry.ensures, c.last_full-place.ensures) s.requires.nonzero in
    omega (arith, c.entry-count.ensures, c.entry-first.ensures, s.requires.by_index x full)

pub overflow_sub-result : goal.overflow_sub-result
overflow_sub-result c = omega (arith, c.run_length-length.ensures, run-most c.args.last.0 c.args.left c.entry-count.result c.entry-first.result)

pub overflow_add-result : goal.overflow_add-result
overflow_add-result c = let s = c in
    let x = c.entry.result in
    let full : 0 < get_or s.args.counts.now x 0 = rw (c.entry.ensures, c.last_full-place.ensures) s.requires.nonzero in
    record { fits = omega (arith, c.entry-count.ensures, c.entry-first.ensures, s.requires.by_index x full, c.run_length-length.ensures, run-most s.args.last.0 s.args.left c.entry-count.result c.entry-first.result) }

pub returns : goal.returns
unfolding anodes_from
returns c = λ n. record {
  place_is = c.last_full-place.ensures;
  anode_is = c.entry.ensures;
  before_is = c.anode_before.ensures;
  length_is = c.run_length-length.ensures ∙ rw (c.entry-count.ensures, c.entry-first.ensures);
  first_is = rw (c.entry-count.ensures, c.entry-first.ensures);
  whole_is = rw c.entry-count.ensures;
}
