-- 01, "List": the name that a list hands back, a part of the lent image; none after a refusal.
use Rattle.std.specs.Prelude.{ℕ, List, [], Result, Ok, Err}
use Rattle.std.specs.Borrow.{Bor}
use Rattle.disk.specs.declared.Refusal.{Refusal}

-- the bytes of the part, or none
abbrev pub name_handed : Result (Bor (List ℕ)) Refusal → List ℕ
name_handed (Ok part) = part.now
name_handed (Err r) = []
