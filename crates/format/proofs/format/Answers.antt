use mathlib.Core.Path.{◌≡◌, sym, ◌∙◌}
use mathlib.Core.Bool.{false}
use Rattle.rules.specs.Accepted.{wrong_size}
use Rattle.rules.specs.Format.{wrong_format, format_answer}
use Rattle.rules.specs.Calls.{format_outcome, done_or}
use Rattle.format.proofs.format.Goals as goal

pub returns-then-wrong_size : goal.returns-then-wrong_size
unfolding format_outcome format_answer done_or
returns-then-wrong_size c = rw (sym c.wrong_size.ensures ∙ c.if-wrong_size.true)

pub returns-then-wrong_format : goal.returns-then-wrong_format
unfolding format_outcome format_answer done_or
returns-then-wrong_format c = let right_size : wrong_size c.args.image.now ≡ false = sym c.wrong_size.ensures ∙ c.if-wrong_size.false in
    rw (right_size, sym c.wrong_format.ensures ∙ c.if-wrong_format.true)

pub make-requires : goal.make-requires
make-requires c = let right_size : wrong_size c.args.image.now ≡ false = sym c.wrong_size.ensures ∙ c.if-wrong_size.false in
    let right-format : let g = c.args in wrong_format g.image.now g.last g.anode_blocks g.name.now ≡ false = sym c.wrong_format.ensures ∙ c.if-wrong_format.false in
    (right_size, right-format)

pub returns : goal.returns
unfolding format_outcome format_answer done_or
returns c = let right_size : wrong_size c.args.image.now ≡ false = sym c.wrong_size.ensures ∙ c.if-wrong_size.false in
    let right-format : let g = c.args in wrong_format g.image.now g.last g.anode_blocks g.name.now ≡ false = sym c.wrong_format.ensures ∙ c.if-wrong_format.false in
    rw (right_size, right-format, c.make.ensures)
