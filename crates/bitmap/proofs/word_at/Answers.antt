use Rattle.bitmap.proofs.word_at.Goals as goal

pub returns-then-p-ne0 : goal.returns-then-p-ne0
returns-then-p-ne0 c = c.requires.carried c.if-p-ne0.true

pub returns : goal.returns
returns c = c.bitmap_word.ensures
