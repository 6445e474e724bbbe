use Rattle.settings.specs.Laws.{record_stored}
use Rattle.settings.proofs.put_record.Goals as goal

pub returns : goal.returns
returns c = record_stored _ _ _ _ _ _ _ c.put_number.ensures c.put_number-2.ensures c.put_number-3.ensures
