use Rattle.settings.specs.Files.{seconds_at}
use Rattle.settings.proofs.seconds_at.Goals as goal

pub returns : goal.returns
unfolding seconds_at
returns c = cc
