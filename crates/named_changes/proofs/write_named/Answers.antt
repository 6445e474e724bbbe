use Rattle.std.proofs.lemmas.Result.{err_from_is_err_and}
use Rattle.named_changes.proofs.Laws.{chain_inside, leaves_unchanged, leaves_named, leaves_written}
use Rattle.change_laws.specs.Answers.{span_late, span_found}
use Rattle.change_laws.specs.Reached.{named-member}
use Rattle.lookup.specs.Answers.{entered}
use Rattle.rules.specs.Changes.{written}
use Rattle.rules.specs.Anodes.{Anodes}
use mathlib.Core.Path.{refl, ap, ◌∙◌}
use Rattle.named_changes.proofs.write_named.Goals as goal

pub find_span-requires : goal.find_span-requires
find_span-requires c = let p = c.requires in (_, p.0, p.1)

pub returns-in_err-e : goal.returns-in_err-e
returns-in_err-e c = let p = err_from_is_err_and c.from_residual.result c.from_residual.ensures.1 in
    λ b a. rw (p.1, p.2) (leaves_unchanged _ _ _ (span_late _ _ _ _ _ _) _ c.in_err-e.ensures b a)

pub write_along-requires : goal.write_along-requires
write_along-requires c = let f = c.in_ok-e.ensures in
    let l = c.requires.1.loaded in
    rw l.is_loaded (chain_inside l (entered c.args.image.now c.in_ok-e.e) (_, (span_found _ _ _ _ _ f.1 _ _ f.0).0, named-member _ _ _ _ _ f.1))

pub returns : goal.returns
returns c = let f = c.in_ok-e.ensures in
    let a = c.args in
    let l = c.requires.1.loaded in
    let e = entered a.image.now c.in_ok-e.e in
    let d = span_found _ _ _ _ _ f.1 _ _ f.0 in
    let is = c.write_along.ensures e refl ∙ ap (λ (s : Anodes). written a.image.now s e a.offset a.bytes.now) l.is_loaded in
    λ b h. leaves_named _ _ _ _ _ f.0 f.1 _ _ _ _ _ _ (leaves_written l e (_, d.0, named-member _ _ _ _ _ f.1) d.1 _ _ _ is b h)
