-- An entry of an image whose type and bytes can be read: its place holds its type, and a file's chain has the bytes of its size.
use Rattle.std.specs.Prelude.{ℕ, ◌+◌, ◌/◌, ◌%◌, ◌<◌, ◌≤◌, ◌≡◌, false, cond, List, length, get_or}
use Rattle.disk.specs.Blocks.{block_of}
use Rattle.rules.specs.Anodes.{anodes_of}
use Rattle.rules.specs.Walk.{Entered}
use Rattle.rules.specs.Lookup.{bytes_of}

-- what a comparison asks of an entry
pub record Readable (img : List ℕ) (e : Entered) : Type 0 where
  pub its_type : get_or (block_of img (e.start / 512)) (e.start % 512 + 1) 0 ≡ cond e.dir 2 253
  pub has-bytes : e.dir ≡ false → e.size ≤ length (bytes_of img (anodes_of img) e.anode)
  pub inside : e.start < 33553920
