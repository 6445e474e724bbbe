use mathlib.Core.Path.{sym}
use native.Mathlib.Omega.{arith}
use Rattle.edits.proofs.Along.{room-here, room-later}
use Rattle.edits.proofs.room_in.Goals as goal

pub returns-then-end-gt510 : goal.returns-then-end-gt510
returns-then-end-gt510 c = λ ys. sym (room-later _ _ _ _ _ c.block_part.ensures c.entries_end-end.ensures ys (omega arith))

pub returns-then-end-len : goal.returns-then-end-len
returns-then-end-len c = λ ys. sym (room-later _ _ _ _ _ c.block_part.ensures c.entries_end-end.ensures ys (omega arith))

pub returns : goal.returns
returns c = λ ys. sym (room-here _ _ _ _ _ c.block_part.ensures c.entries_end-end.ensures ys (omega arith))
