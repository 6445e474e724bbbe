-- The walk over a formatted image: the root directory alone, with no entry.
use Prim.Native.Nat.{ℕ, zero, suc}
use Rattle.std.specs.Prelude.{◌≡◌, List, [], ◌∷◌}
use Rattle.std.proofs.Math.Path.{refl, ap}
use Rattle.std.proofs.Common.{◌∙◌}
use Rattle.disk.specs.Blocks.{block_of}
use Rattle.rules.specs.Anodes.{Anodes}
use Rattle.rules.specs.Accepted.{disk_size}
use Rattle.rules.specs.Walk.{Dir, root, Item, twins, items_of, scan, done, visited, walk, walk_of}
use Rattle.rules.specs.Format.{formatted}
use Rattle.laws.specs.NewDirectory.{none-new}
use Rattle.format.proofs.Laws.{Taken, block_of-formatted_directory}
use Rattle.format_laws.specs.Anodes.{Laid}
use Rattle.format_laws.specs.Links.{root_is}

-- ---- a walk from a directory with no item

module _ (items : Dir → List Item) where
  walk_empty : (k : ℕ) → walk items k [] [] ≡ done []
  unfolding walk
  walk_empty zero = refl
  walk_empty (suc k) = refl

  walk_alone : (k : ℕ) (d : Dir) → items d ≡ [] → walk items (suc k) (d ∷ []) [] ≡ done (d ∷ [])
  unfolding walk scan visited
  walk_alone k d none = rw (none, walk, walk_empty k)

module _ (img : List ℕ) (last k : ℕ) (name : List ℕ) (day minute tick protection : ℕ) (args : Taken img last k name) where
  abbrev disk : List ℕ
  disk = formatted img last k name day minute tick protection

  module _ (s : Anodes) (m : Laid s (disk_size img) last k) where
    pub no_items : items_of disk s root ≡ []
    unfolding items_of twins
    no_items = ap (twins []) (none-new disk s root (root_is m) m.at_5.count (ap (block_of disk) m.at_5.block ∙ block_of-formatted_directory img last k name day minute tick protection args))

    pub walked : walk_of disk s ≡ done (root ∷ [])
    unfolding walk_of
    walked = walk_alone (items_of disk s) 3443 root no_items
