use Rattle.laws.specs.OwnerTable.{set_all}
use Rattle.making.proofs.Steps.{no_block, one_block}
use Rattle.making.proofs.note_owner.Goals as goal

pub returns-then-b-eq0 : goal.returns-then-b-eq0
unfolding set_all
returns-then-b-eq0 c = rw (no_block c.args.b.0 c.if-b-eq0.true)

pub returns : goal.returns
unfolding set_all
returns c = rw (one_block c.args.b.0 c.if-b-eq0.false) c.set_entry.ensures
