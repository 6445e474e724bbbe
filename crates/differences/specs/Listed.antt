-- 02, No. 7: the paths of a disk's entries, in the order of its walk.
use Rattle.std.specs.Prelude.{ℕ, zero, suc, cond, ◌&&◌, List, [], ◌∷◌, ◌++◌, map, eqb}
use Rattle.rules.specs.Counting.{gather}
use Rattle.rules.specs.Anodes.{Anodes, limit, anodes_of}
use Rattle.rules.specs.Walk.{Entered, reached_dirs}
use Rattle.rules.specs.Lookup.{entries_of}
use Rattle.rules.specs.Changes.{parent_of}
use Rattle.paths.specs.Paths.{Path}

-- the name of the entry that names the directory h, among those of its parent
unfoldable pub directory_name : ℕ → List Entered → List ℕ
directory_name h [] = []
directory_name h (e ∷ es) = cond (e.dir && eqb e.anode h) e.name (directory_name h es)

-- the path of a reached directory: its parent's, then its own name there; the root's is empty; k directories deep at most
unfoldable pub directory_path : List ℕ → Anodes → ℕ → ℕ → Path
directory_path img s zero h = []
directory_path img s (suc k) h =
    cond (eqb h 5) []
    (directory_path img s k (parent_of (reached_dirs img s) h) ++ (directory_name h (entries_of img s (parent_of (reached_dirs img s) h)) ∷ []))

-- the path of an entry of the directory that h heads; none is deeper than there are anodes
unfoldable pub entry_path : List ℕ → Anodes → ℕ → Entered → Path
entry_path img s h e = directory_path img s limit h ++ (e.name ∷ [])

-- the path of every reached entry: directories as the walk takes them, entries in the order of the directory
unfoldable pub paths : List ℕ → List Path
paths img = gather (λ d. map (entry_path img (anodes_of img) d.head) (entries_of img (anodes_of img) d.head)) (reached_dirs img (anodes_of img))
