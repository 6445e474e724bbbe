use mathlib.Core.Path.{sym, ◌∙◌}
use Rattle.lookup.proofs.Laws.{along_end}
use Rattle.unmet_entries.specs.Along.{hand_no_entries, hand_along}
use Rattle.comparing.proofs.Laws.{readable_block, readable_behind, along_loaded, pairs_none, pairs_chain_step}
use Rattle.comparing.proofs.compare_directory.Goals as goal

pub loop-a-init : goal.loop-a-init
loop-a-init c = let whole = along_loaded _ _ _ _ c.args.head.0 c.requires.loaded.0 in
    rw (c.into_iter-a-iterator.ensures.into_iter_gives, c.along-a-items.ensures) (rw whole at c.requires.loaded.1, rw whole, rw whole)

pub compare_block-so_far-requires : goal.compare_block-so_far-requires
compare_block-so_far-requires c = record {
  loaded = (c.requires.loaded.0, rw c.entry.ensures (readable_block _ _ _ _ _ c.in-Some.ensures.steps c.loop-a.invariant.0));
  loaded_2 = c.requires.loaded_2;
  span_of = c.requires.span_of;
}

pub loop-a-preserved : goal.loop-a-preserved
loop-a-preserved c = let l = c.loop-a in
    let is = c.in-Some.ensures.steps in
    let made = rw c.entry.ensures at c.compare_block-so_far.ensures in (
      readable_behind _ _ _ _ _ is l.invariant.0,
      pairs_chain_step _ _ _ _ _ _ _ _ is _ made.pairs ∙ l.invariant.1,
      hand_along _ _ _ _ _ _ _ is _ made.differences ∙ l.invariant.2,
    )

pub returns : goal.returns
returns c = let l = c.loop-a in
    let done = along_end _ _ _ c.in-None.ensures.steps.0 in
    record { pairs = sym (pairs_none _ _ _ _ done) ∙ l.invariant.1; differences = sym (hand_no_entries _ _ _ done) ∙ l.invariant.2 }
