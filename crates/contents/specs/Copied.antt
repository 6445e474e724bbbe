-- How far a copy into a lent buffer is.
use Rattle.std.specs.Prelude.{ℕ, ◌≡◌, List, ◌++◌, length, take, drop}
use Rattle.contents.specs.declared.Cursor.{Cursor}

-- the buffer whose first `done` bytes stand, with the source's after them as far as there is room
unfoldable pub filled : List ℕ → ℕ → List ℕ → List ℕ
filled out done source = take (length out) (take done out ++ source)

-- from cursor c on, the bytes were skipped or copied: whatever follows them comes to the same
abbrev pub Copied : Cursor → List ℕ → List ℕ → Cursor → List ℕ → Type 0
Copied c out bytes c' out' = (rest : List ℕ) → filled out' c'.done (drop c'.skip rest) ≡ filled out c.done (drop c.skip (bytes ++ rest))
