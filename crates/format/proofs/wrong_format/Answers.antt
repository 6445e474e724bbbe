use mathlib.Core.Path.{◌≡◌}
use mathlib.Core.Bool.{◌||◌}
use lib.Dec.{eqb, leb, ltb}
use lib.ListN.{length}
use borrow.Author.Tests.{lt-ltb, le-ltb, le-leb, lt-leb, ne_eqb, eq-eqb}
use Rattle.rules.specs.Format.{wrong_format}
use Rattle.format.proofs.wrong_format.Goals as goal

pub returns-then-slots-lt1 : goal.returns-then-slots-lt1
unfolding wrong_format
returns-then-slots-lt1 c = rw (lt-ltb _ 1 c.if-slots-lt1.true)

pub returns-then-slots-gt42 : goal.returns-then-slots-gt42
unfolding wrong_format
returns-then-slots-gt42 c = rw (le-ltb _ 1 c.if-slots-lt1.false, lt-ltb 42 _ c.if-slots-gt42.true)

pub returns-then-last-slots : goal.returns-then-last-slots
unfolding wrong_format
returns-then-last-slots c = rw (le-ltb _ 1 c.if-slots-lt1.false, le-ltb 42 _ c.if-slots-gt42.false, lt-ltb _ _ c.if-last-slots.true)

pub returns-then-disk_size-last : goal.returns-then-disk_size-last
unfolding wrong_format
returns-then-disk_size-last c = let size-left : let g = c.args in wrong_format g.image.now g.last g.slots g.name.now ≡ (leb c.disk_size.result g.last || (eqb (length g.name.now) 0 || ltb 31 (length g.name.now))) = rw (le-ltb _ 1 c.if-slots-lt1.false, le-ltb 42 _ c.if-slots-gt42.false, le-ltb _ _ c.if-last-slots.false, ← c.disk_size.ensures) in
    rw (size-left, le-leb _ _ c.if-disk_size-last.true)

pub returns-then-name-eq0 : goal.returns-then-name-eq0
unfolding wrong_format
returns-then-name-eq0 c = let size-left : let g = c.args in wrong_format g.image.now g.last g.slots g.name.now ≡ (leb c.disk_size.result g.last || (eqb (length g.name.now) 0 || ltb 31 (length g.name.now))) = rw (le-ltb _ 1 c.if-slots-lt1.false, le-ltb 42 _ c.if-slots-gt42.false, le-ltb _ _ c.if-last-slots.false, ← c.disk_size.ensures) in
    rw (size-left, lt-leb _ _ c.if-disk_size-last.false, eq-eqb _ _ c.if-name-eq0.true)

pub returns : goal.returns
unfolding wrong_format
returns c = let size-left : let g = c.args in wrong_format g.image.now g.last g.slots g.name.now ≡ (leb c.disk_size.result g.last || (eqb (length g.name.now) 0 || ltb 31 (length g.name.now))) = rw (le-ltb _ 1 c.if-slots-lt1.false, le-ltb 42 _ c.if-slots-gt42.false, le-ltb _ _ c.if-last-slots.false, ← c.disk_size.ensures) in
    rw (size-left, lt-leb _ _ c.if-disk_size-last.false, ne_eqb _ _ c.if-name-eq0.false)
