-- A planned safe change whose list fits the buffer, and what storing it leaves.
use Rattle.std.specs.Prelude.{ℕ, ◌+◌, ◌*◌, ◌≤◌, ◌≡◌, List, [], ◌∷◌, ◌++◌, length, drop}
use Rattle.rules.specs.Walk.{Entered}
use Rattle.rules.specs.Plans.{Slotted, planned, table_of}
use Rattle.safe_rules.specs.SafePlans.{SafeChange, write_change, safe_steps}
use Rattle.safe_rules.specs.SafeWrites.{new_image}
use Rattle.write_lists.specs.Puts.{with_writes}

-- the steps of a change have left the table t and taken the blocks ys, and the buffer is long enough for the list
abbrev pub ListFits : List ℕ → SafeChange → Slotted → List ℕ → List ℕ → Type 0
ListFits img c t ys out = (safe_steps img c ≡ planned t ys) × ((length ys + 1) * 514 ≤ length out)

-- the same of a write
abbrev pub WriteDone : List ℕ → Entered → ℕ → List ℕ → Slotted → List ℕ → List ℕ → Type 0
WriteDone img e offset bytes t ys out = ListFits img (write_change img (table_of img) e offset bytes) t ys out

-- all is stored in the image, and the list is in the buffer, whose front had been written over before
pub record Committed (img : List ℕ) (c : SafeChange) (t : Slotted) (ys out img' out' : List ℕ) : Type 0 where
  pub image : img' ≡ new_image img c t ys
  pub staged : List ℕ
  pub front : ℕ
  pub long : length staged ≡ length out
  pub behind : drop front staged ≡ drop front out
  pub within : front ≤ (length ys + 1) * 514
  pub listed : out' ≡ with_writes staged 0 (new_image img c t ys) (ys ++ (2 ∷ []))
