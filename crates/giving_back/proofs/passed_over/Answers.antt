use native.Mathlib.Omega.{arith}
use Rattle.giving_back.proofs.OldTable.{other_64, none_old, one-not-old}
use borrow.Author.Rules.{rules}
use Rattle.giving_back.proofs.passed_over.Goals as goal

pub returns-then-y-ne0 : goal.returns-then-y-ne0
returns-then-y-ne0 c = (omega arith, search rules, one-not-old c.args.blocks.now _ _ _ c.requires.1)

pub returns-then-size-y-lt64 : goal.returns-then-size-y-lt64
returns-then-size-y-lt64 c = (omega arith, search rules, one-not-old c.args.blocks.now _ _ _ c.requires.1)

pub returns-then-moved-y : goal.returns-then-moved-y
returns-then-moved-y c = (omega arith, search rules, one-not-old c.args.blocks.now _ _ _ c.requires.1)

pub returns-then-none_owned : goal.returns-then-none_owned
returns-then-none_owned c = (
  omega arith,
  omega (arith, c.if-size-y-lt64.false),
  none_old c.args.blocks.now _ _ _ _ (c.none_owned.ensures c.if-none_owned.true) (other_64 _ _ c.if-y-ne0.false c.if-moved-y.false),
)

pub returns : goal.returns
returns c = (omega arith, search rules, one-not-old c.args.blocks.now _ _ _ c.requires.1)
