use mathlib.Core.Path.{◌≡◌}
use mathlib.Core.Logic.{inl}
use Prim.Native.Nat.{ℕ, ◌≤◌}
use native.Mathlib.Omega.{arith}
use lib.ListN.{length, get_or}
use Rattle.std.proofs.lemmas.Iterator.Consumers.{YieldsList-from_first, count_from_yields_List}
use Rattle.rules.specs.Chains.{chain_of}
use Rattle.laws.specs.Chains.{chain_short}
use Rattle.links.specs.Links.{anodes_left}
use Rattle.counterparts.proofs.chain_length.Goals as goal

pub count-requires-clause-fits : goal.count-requires-clause-fits
count-requires-clause-fits c = let short : length (anodes_left c.along.result) ≤ 3444 = rw c.along.ensures (chain_short _ 3444 c.args.head.0) in inl (omega arith)

pub returns : goal.returns
returns c = let next = λ (a : ℕ). get_or c.args.nexts.now a 0 in
    let many : c.count.result ≡ length (chain_of next 3444 c.args.head.0) = count_from_yields_List _ _ c.count.ensures.ran (YieldsList-from_first (λ a. a.0) anodes_left _ c.along.ensures) in
    (many, omega (arith, many, chain_short next 3444 c.args.head.0))
