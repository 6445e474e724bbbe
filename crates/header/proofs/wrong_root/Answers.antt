use mathlib.Core.Path.{◌≡◌, sym, ◌∙◌}
use mathlib.Core.Bool.{◌||◌}
use lib.Dec.{eqb, leb, ltb}
use Rattle.rules.specs.Accepted.{last_reserved, wrong_root}
use borrow.Author.Tests.{lt-ltb, le-ltb, ne_eqb, eq-eqb, le-leb, lt-leb}
use Rattle.header.proofs.wrong_root.Goals as goal

pub returns-then-root-ne0 : goal.returns-then-root-ne0
unfolding wrong_root
returns-then-root-ne0 c = rw (← c.block_part.ensures, ← c.root_in-root.ensures, ne_eqb _ _ c.if-root-ne0.true)

pub returns-then-last-lt2 : goal.returns-then-last-lt2
unfolding wrong_root last_reserved
returns-then-last-lt2 c = rw (last_reserved, ← c.block_part.ensures, ← c.root_in-root.ensures, eq-eqb _ _ c.if-root-ne0.false, lt-ltb _ 2 c.if-last-lt2.true)

pub returns-then-disk_size-last : goal.returns-then-disk_size-last
unfolding wrong_root last_reserved
returns-then-disk_size-last c = let last-left : let r = c.root_in-root.result in wrong_root c.args.image.now ≡ (leb c.disk_size.result r.last.0 || (eqb r.name 0 || ltb 31 r.name)) = rw (last_reserved, ← c.block_part.ensures, ← c.root_in-root.ensures, eq-eqb _ _ c.if-root-ne0.false, le-ltb _ 2 c.if-last-lt2.false, ← c.disk_size.ensures) in
    sym (last-left ∙ rw (le-leb _ _ c.if-disk_size-last.true))

pub returns-then-root-eq0 : goal.returns-then-root-eq0
unfolding wrong_root last_reserved
returns-then-root-eq0 c = let last-left : let r = c.root_in-root.result in wrong_root c.args.image.now ≡ (leb c.disk_size.result r.last.0 || (eqb r.name 0 || ltb 31 r.name)) = rw (last_reserved, ← c.block_part.ensures, ← c.root_in-root.ensures, eq-eqb _ _ c.if-root-ne0.false, le-ltb _ 2 c.if-last-lt2.false, ← c.disk_size.ensures) in
    sym (last-left ∙ rw (lt-leb _ _ c.if-disk_size-last.false, eq-eqb _ _ c.if-root-eq0.true))

pub returns : goal.returns
unfolding wrong_root last_reserved
returns c = let last-left : let r = c.root_in-root.result in wrong_root c.args.image.now ≡ (leb c.disk_size.result r.last.0 || (eqb r.name 0 || ltb 31 r.name)) = rw (last_reserved, ← c.block_part.ensures, ← c.root_in-root.ensures, eq-eqb _ _ c.if-root-ne0.false, le-ltb _ 2 c.if-last-lt2.false, ← c.disk_size.ensures) in
    sym (last-left ∙ rw (lt-leb _ _ c.if-disk_size-last.false, ne_eqb _ _ c.if-root-eq0.false))
