-- The entries of a directory block that stands in another place of the disk: the same, each as far into it.
use Rattle.std.specs.Prelude.{ℕ, zero, suc, ◌+◌, ◌-◌, ◌*◌, ◌≡◌, refl, List, map, get_or, Some, None, Ok, Err}
use Rattle.std.proofs.Common.{arith}
use Rattle.directory.specs.Entries.{Walked}
use Rattle.directory.specs.Entries.{name_in, walked_at}
use Rattle.rules.specs.Walk.{Entered, with_rest, entries_from}

-- the same entry, where what was block y is block z
unfoldable pub placed_at : ℕ → ℕ → Entered → Entered
placed_at y z e = record {
  broken = e.broken;
  dir = e.dir;
  anode = e.anode;
  size = e.size;
  name = e.name;
  start = z * 512 + (e.start - y * 512);
}

-- it says what it said
pub placed_fields : (y z : ℕ) (e : Entered) → ((placed_at y z e).broken ≡ e.broken) × ((placed_at y z e).dir ≡ e.dir) × ((placed_at y z e).anode ≡ e.anode) × ((placed_at y z e).name ≡ e.name) × ((placed_at y z e).size ≡ e.size)
unfolding placed_at
placed_fields y z e = (refl, refl, refl, refl, refl)

-- the entries of the same bytes
pub entries_placed : (b : List ℕ) (y z k at : ℕ) → entries_from k b z at ≡ map (placed_at y z) (entries_from k b y at)
unfolding entries_from placed_at
entries_placed b y z zero at = refl
entries_placed b y z (suc k) at = go (walked_at b at) (entries_from k b y (at + get_or b at 0)) (entries_from k b z (at + get_or b at 0)) (entries_placed b y z k (at + get_or b at 0))
  where
    same : z * 512 + at ≡ z * 512 + (y * 512 + at - y * 512)
    same = omega arith

    go : (w : Walked) (rest rest' : List Entered) → rest' ≡ map (placed_at y z) rest → with_rest w (name_in b at) (z * 512 + at) rest' ≡ map (placed_at y z) (with_rest w (name_in b at) (y * 512 + at) rest)
    go (Ok None) rest rest' e = refl
    go (Ok (Some x)) rest rest' e = rw (e, same) refl
    go (Err r) rest rest' e = rw same refl
