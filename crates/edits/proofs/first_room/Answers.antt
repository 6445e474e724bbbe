use mathlib.Core.Path.{◌≡◌, refl, sym, ◌∙◌}
use mathlib.Core.Bool.{false≢true, true≢false}
use Rattle.std.specs.Prelude.{ℕ, true, false, is_some, Option, Some, None}
use Rattle.std.proofs.Math.Option as ghost
use Rattle.rules.specs.Changes.{first_room}
use Rattle.rules.specs.Counting.{gather}
use Rattle.edits.specs.Entries.{or_rest, room_of}
use Rattle.edits.proofs.Along.{room_whole}
use Rattle.edits.proofs.first_room.Goals as goal

-- where a room was found, what the blocks behind have does not matter; and where none was, only that
found_here : (r : Option ℕ) (rest : ghost.Option ℕ) → is_some r ≡ true → room_of r ≡ or_rest r rest
found_here (Some start) rest e = refl
found_here None rest e = absurd (false≢true e)

found_later : (r : Option ℕ) (rest : ghost.Option ℕ) → is_some r ≡ false → rest ≡ or_rest r rest
found_later None rest e = refl
found_later (Some start) rest e = absurd (true≢false e)

pub loop-a-init : goal.loop-a-init
loop-a-init c = rw (c.into_iter-a-iterator.ensures.into_iter_gives, c.along-a-items.ensures)

pub returns : goal.returns
unfolding gather first_room
returns c = let l = c.loop-a in
    λ counts one. (rw c.in-None.ensures.steps.0 at l.invariant) ∙ room_whole _ _ counts _ _ _ one

pub returns-then-is_some : goal.returns-then-is_some
unfolding gather
returns-then-is_some c =
    λ counts one. found_here _ _ (sym c.if-is_some.ensures) ∙ c.room_in-found.ensures _ ∙ (rw (c.in-Some.ensures.steps, ← c.entry.ensures) at c.loop-a.invariant) ∙ room_whole _ _ counts _ _ _ one

pub loop-a-preserved : goal.loop-a-preserved
unfolding gather
loop-a-preserved c =
    found_later _ _ (sym c.if-is_some.ensures) ∙ c.room_in-found.ensures _ ∙ rw (c.in-Some.ensures.steps, ← c.entry.ensures) at c.loop-a.invariant
