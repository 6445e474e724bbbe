use mathlib.Core.Path.{sym, ap}
use lib.ListN.{length}
use Rattle.write_lists.proofs.Laws.{no_write}
use native.Mathlib.Omega.{arith}
use Rattle.making.proofs.Steps.{no_block, one_block}
use Rattle.safe_makes.proofs.put_own.Goals as goal

pub returns-then-own-eq0 : goal.returns-then-own-eq0
returns-then-own-eq0 c = let x = c.args in
    let none = no_block x.own.0 c.if-own-eq0.true in
    (sym (no_write x.out.now x.at x.image.now _ none), omega (arith, ap length none))

pub put_write-requires : goal.put_write-requires
put_write-requires c = let s = c in (s.requires.0, omega (arith, s.requires.1, ap length (one_block s.args.own.0 c.if-own-eq0.false)))

pub returns : goal.returns
returns c = let one = one_block c.args.own.0 c.if-own-eq0.false in (rw one c.put_write.ensures.0, omega (arith, c.put_write.ensures.1, ap length one))
