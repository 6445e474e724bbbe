use Rattle.rules.specs.Format.{first_anodes}
use Rattle.format.proofs.put_first_anodes.Goals as goal

pub returns : goal.returns
unfolding first_anodes
returns c = rw (
  c.put_anode-5.ensures,
  c.put_anode-4.ensures,
  c.put_anode-3.ensures,
  c.put_anode-2.ensures,
  c.put_anode.ensures,
  c.anode.ensures,
  c.anode-directory.ensures,
  c.upper_anode-upper.ensures,
  c.lower_anode-lower.ensures,
  c.list_head-head.ensures,
)
