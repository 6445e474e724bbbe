use mathlib.Core.Path.{◌≡◌, sym, ◌∙◌}
use mathlib.Core.Bool.{true, false}
use native.Mathlib.Omega.{arith}
use Rattle.directory.specs.Entries.{is_dir}
use Rattle.safe_makes.proofs.new_count.Goals as goal

pub returns-then-is_directory : goal.returns-then-is_directory
returns-then-is_directory c = let e : is_dir c.args.kind ≡ true = sym c.is_directory.ensures ∙ c.if-is_directory.true in
    let u = c.used_slots-used.ensures in
    rw e (omega (arith, u.0), omega (arith, u.1))

pub returns : goal.returns
returns c = let e : is_dir c.args.kind ≡ false = sym c.is_directory.ensures ∙ c.if-is_directory.false in
    let u = c.used_slots-used.ensures in
    rw e (omega (arith, u.0), omega (arith, u.1))
