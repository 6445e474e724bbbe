use Prim.Native.Nat.{◌+◌, ◌-◌}
use mathlib.Core.Path.{◌≡◌, sym, ◌∙◌}
use native.Mathlib.Omega.{arith}
use Rattle.settings.specs.Files.{record_place}
use Rattle.settings.specs.Laws.{place_start, records_none, records_step}
use Rattle.settings.proofs.put_records.Goals as goal

pub loop-i-init : goal.loop-i-init
loop-i-init c = let n = c.args.n in
    let e : n - 0 ≡ n = omega arith in
    rw (place_start c.args.to, e)

pub loop-i-preserved : goal.loop-i-preserved
loop-i-preserved c = let l = c.loop-i in
    let a = c.args in
    let step = records_step a.from a.to a.file.now l.out l.i (a.n - (l.i + 1)) (a.n - l.i) (omega arith) in
    rw (c.put_record.ensures, c.record_place.ensures.0, c.key_at.ensures, c.seconds_at.ensures) (sym step ∙ l.invariant)

pub returns : goal.returns
returns c = let l = c.loop-i in
    let a = c.args in
    let e : a.n - l.i ≡ 0 = omega arith in
    sym (records_none a.from a.to a.file.now l.out (record_place a.to l.i) l.i) ∙ rw e at l.invariant
