-- The exported list hands out no part of the image: its fields say where the name stands.
use Rattle.std.specs.Prelude.{List, ℕ, get_or, take, drop}

-- the bytes of the image at the name's offset, as many as the name's length says
unfoldable pub name_given : List ℕ → List ℕ → List ℕ
name_given img fields = take (get_or fields 8 0) (drop (get_or fields 7 0) img)
