use mathlib.Core.Path.{◌≡◌}
use lib.ListN.{length}
use Rattle.endian.proofs.Laws.{get_or_zeros}
use Rattle.report_calls.proofs.Counted.{pass_room, longest_is, queue_room, split_are, bytes_are, figures_are}
use borrow.Author.Rules.{rules}
use Rattle.report_calls.proofs.count_figures.Goals as goal

pub count_runs-longest-requires : goal.count_runs-longest-requires
count_runs-longest-requires c = record { n_nonzero = pass_room c.requires _ c.disk_size-n.ensures; by_index = λ i. get_or_zeros 3444 i }

pub sum_files-sums-requires : goal.sum_files-sums-requires
sum_files-sums-requires c = queue_room c.requires

pub returns : goal.returns
returns c = let size = c.disk_size-n.ensures in
    let runs = c.count_runs-longest in
    let long : length runs.new.starts ≡ 3444 = search rules in
    figures_are c.requires _ _ _ (longest_is c.requires _ _ size runs.ensures.longest) (split_are c.requires _ _ size long runs.ensures.counted _ c.sum_files-sums.ensures) (bytes_are c.requires _ _ size long runs.ensures.counted _ c.sum_files-sums.ensures)
