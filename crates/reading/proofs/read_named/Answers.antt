use Rattle.std.proofs.lemmas.Result.{err_from_is_err_and}
use Rattle.rules.specs.Anodes.{anodes_of}
use Rattle.reading.proofs.Laws.{file_long, bytes-done}
use Rattle.change_laws.specs.Answers.{span_found}
use Rattle.find.proofs.Laws.{refused_some, not_done}
use Rattle.change_laws.specs.Reached.{named-member}
use native.Mathlib.Omega.{arith}
use mathlib.Core.Path.{refl, sym}
use Rattle.reading.proofs.read_named.Goals as goal

pub returns-in_err-e-clause-output : goal.returns-in_err-e-clause-output
returns-in_err-e-clause-output c = let p = err_from_is_err_and c.from_residual.result c.from_residual.ensures.1 in
    rw (p.1, p.2) (sym (not_done _ (refused_some c.in_err-e.field-0.0 _ refl) _ _))

pub copy_out-requires : goal.copy_out-requires
copy_out-requires c = let f = c.in_ok-e.ensures in
    let o = c.requires.1 in
    let s = span_found _ _ _ _ _ f.1 _ _ f.0 in
    rw o.loaded.is_loaded (omega (arith, file_long o _ s.0 _ (named-member _ _ _ _ _ f.1) s.1, s.2))

pub returns-clause-output : goal.returns-clause-output
returns-clause-output c = let a = c.args in
    let f = c.in_ok-e.ensures in
    bytes-done a.image.now (anodes_of a.image.now) _ _ f.1 _ a.out.now _ (span_found _ _ _ _ _ f.1 _ _ f.0).2 (rw c.requires.1.loaded.is_loaded at c.copy_out.ensures)
