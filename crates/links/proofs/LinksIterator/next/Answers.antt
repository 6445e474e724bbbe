use Rattle.std.proofs.Common.{◌≡◌, ◌∷◌, arith}
use Prim.Native.Nat.{◌-◌}
use Rattle.laws.specs.Chains.{chain-none, chain-end, chain_step}
use Rattle.links.specs.Links.{follow, anodes_left}
use Rattle.links.proofs.LinksIterator.next.Goals as goal

pub returns-then-self-eq0-clause-steps : goal.returns-then-self-eq0-clause-steps
returns-then-self-eq0-clause-steps c = let e = chain-none _ _ _ c.if-self-eq0.true in (e, e)

pub returns-then-a-eq0-clause-steps : goal.returns-then-a-eq0-clause-steps
returns-then-a-eq0-clause-steps c = let e = chain-end _ _ _ c.if-a-eq0.true in (e, e)

pub returns-clause-steps : goal.returns-clause-steps
unfolding follow
returns-clause-steps c = rw c.after-self.ensures (chain_step _ _ (c.args.self.now.left - 1) _ (omega arith) c.if-a-eq0.false)

pub returns-clause-goes : goal.returns-clause-goes
unfolding follow
returns-clause-goes c =
    let step : let s = c.args.self.now in anodes_left s ≡ s.at.0 ∷ anodes_left (record { nexts = s.nexts; end = s.end; at = c.after-self.result; left = s.left - 1 })
    = rw c.after-self.ensures (chain_step _ _ (c.args.self.now.left - 1) _ (omega arith) c.if-a-eq0.false) in
    record { on = λ _. (tt, tt, rw step (omega arith)); keeps = tt; rests = λ _. tt }
