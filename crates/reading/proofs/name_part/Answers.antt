use Prim.Native.Nat.{◌+◌, ◌-◌, ◌/◌, ◌%◌}
use mathlib.Core.Path.{◌≡◌, sym}
use native.Mathlib.Omega.{arith}
use Rattle.disk.specs.Blocks.{block_of}
use Rattle.directory.specs.Entries.{name_length}
use Rattle.reading.proofs.Laws.{named-part}
use Rattle.reading.proofs.name_part.Goals as goal

pub slice_bounds-result-end : goal.slice_bounds-result-end
unfolding name_length
slice_bounds-result-end c = let long : let g = c.args in c.read8.result ≡ name_length (block_of g.image.now (g.start / 512)) (g.start % 512) = rw (c.read8.ensures, c.block_part-block.ensures) in
    omega (arith, long, c.requires.1.in_image)

pub returns-clause-name : goal.returns-clause-name
unfolding name_length
returns-clause-name c = let long : let g = c.args in c.read8.result ≡ name_length (block_of g.image.now (g.start / 512)) (g.start % 512) = rw (c.read8.ensures, c.block_part-block.ensures) in
    let g = c.args in
    let e : g.start + 16 + c.read8.result - (g.start + 16) ≡ name_length (block_of g.image.now (g.start / 512)) (g.start % 512) = omega (arith, long) in
    rw e (sym (named-part _ _ c.requires.1))
