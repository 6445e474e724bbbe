use Prim.Native.Nat.{◌+◌}
use lib.ListN.{get_or}
use mathlib.Core.Path.{◌≡◌, sym, ◌∙◌}
use mathlib.Core.Logic.{◌≢◌}
use Rattle.placing.proofs.Cases.{put_empty, put-grown, put_own, put_apart}
use Rattle.placing.proofs.put.Goals as goal
use Rattle.placing.proofs.put.Goals.{else-not-dir-via-then-not-dir+else-end-y, else-not-dir-via-else-not-dir}

pub returns-then-count-eq0-clause-plan : goal.returns-then-count-eq0-clause-plan
returns-then-count-eq0-clause-plan c = rw (c.rewrite.ensures _) (sym (put_empty _ _ _ _ _ _ _ (sym c.entry-count.ensures ∙ c.if-count-eq0.true)))

pub returns-then-end-y-clause-plan : goal.returns-then-end-y-clause-plan
returns-then-end-y-clause-plan c = let full : let g = c.args in get_or g.counts.now g.z.0 0 ≢ 0 = rw c.entry-count.ensures at c.if-count-eq0.false in
    let ends : let g = c.args in get_or g.firsts.now g.z.0 0 + get_or g.counts.now g.z.0 0 ≡ g.y.0 = let e : c.entry-first.result + c.entry-count.result ≡ c.args.y.0 = c.if-end-y.true in
    rw (c.entry-first.ensures, c.entry-count.ensures) at e in
    rw (c.rewrite-then-end-y.ensures _, c.entry-first.ensures, c.entry-count.ensures) (sym (put-grown _ _ _ _ _ _ full _ c.if-not-dir.true ends))

pub returns-clause-plan : goal.returns-clause-plan
returns-clause-plan c = let full : let g = c.args in get_or g.counts.now g.z.0 0 ≢ 0 = rw c.entry-count.ensures at c.if-count-eq0.false in
    c.append.ensures.plan ∙ elim c.else-not-dir.branch [
      | else-not-dir-via-then-not-dir+else-end-y w ↦
          let e : c.entry-first.result + c.entry-count.result ≢ c.args.y.0 = w.if-end-y.false in sym (put_apart _ _ _ _ _ _ full _ (rw (c.entry-first.ensures, c.entry-count.ensures) at e))
      | else-not-dir-via-else-not-dir w ↦ sym (put_own _ _ _ _ _ _ full _ w.if-not-dir.false)
    ]
