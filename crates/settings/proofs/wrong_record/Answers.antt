use mathlib.Core.Path.{sym}
use Rattle.settings.specs.Files.{mark_at}
use Rattle.settings.specs.Laws.{record_mark, record_first, record_later}
use Rattle.settings.proofs.wrong_record.Goals as goal

pub returns-then-read16-form : goal.returns-then-read16-form
unfolding mark_at
returns-then-read16-form c = sym (record_mark _ _ _ (λ e. c.if-read16-form.true (cc)))

pub returns-then-i-eq0 : goal.returns-then-i-eq0
unfolding mark_at
returns-then-i-eq0 c = sym (record_first _ _ _ (cc) c.if-i-eq0.true)

pub returns : goal.returns
unfolding mark_at
returns c = cc (record_later c.args.form c.args.file.now c.args.i (cc) c.if-i-eq0.false)
