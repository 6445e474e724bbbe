use Rattle.settings.specs.Files.{key_at}
use Rattle.settings.proofs.key_at.Goals as goal

pub returns : goal.returns
unfolding key_at
returns c = cc
