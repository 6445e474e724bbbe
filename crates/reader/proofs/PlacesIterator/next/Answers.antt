use Rattle.std.proofs.Common.{refl, inr, ◌∙◌, sym, arith}
use Rattle.reader.specs.Reads.{place_after}
use Rattle.reader.proofs.PlacesIterator.next.Goals as goal

pub returns-then-behind-at-clause-steps : goal.returns-then-behind-at-clause-steps
unfolding place_after
returns-then-behind-at-clause-steps c = (refl, inr (omega (arith, c.place_after-behind.ensures, c.if-behind-at.true)))

pub returns-clause-steps : goal.returns-clause-steps
unfolding place_after
returns-clause-steps c = record {
  may = omega (arith, c.if-self-eq0.false);
  place = refl;
  some = λ z. c.if-behind-at.false (omega (arith, c.place_after-behind.ensures, z));
  same_block = refl;
  behind = c.place_after-behind.ensures;
}
