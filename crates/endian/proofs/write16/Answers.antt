use Rattle.std.proofs.Common.{◌≡◌, ◌/◌, ◌%◌, ◌∙◌, arith, sym}
use Rattle.endian.proofs.Laws.{put16-out}
use Rattle.endian.specs.Bytes.{put16}
use Rattle.endian.proofs.write16.Goals as goal

pub returns-then-at-bytes : goal.returns-then-at-bytes
unfolding put16
returns-then-at-bytes c =
    let high : c.args.v / 256 % 256 ≡ c.args.v / 256 = omega (arith, c.ranges.v.fits) in
    c.write8.ensures ∙ rw (c.to_be_bytes.ensures, high)

pub returns-else-at-bytes : goal.returns-else-at-bytes
returns-else-at-bytes c = sym (put16-out _ _ _ c.if-at-bytes.false)
