-- The state that growth leaves: good again, with every chain but the free list as it was.
use Prim.Native.Nat.{ℕ}
use mathlib.Core.Path.{◌≡◌, ap}
use mathlib.Core.Bool.{Bool, true, false}
use mathlib.Core.Option.{none, some}
use native.Mathlib.Omega.{arith}
use Rattle.rules.specs.Counting.{last_of}
use Rattle.rules.specs.Anodes.{limit}
use Rattle.rules.specs.Chains.{chain_of}
use Rattle.rules.specs.Plans.{Slotted, Growth}
use Rattle.rules.specs.Space.{chain_end}
use Rattle.laws.specs.Ownership.{handed}
use Rattle.laws.specs.Moves.{Shift, Grew, Grows, none_grows}
use Rattle.laws.specs.Frame.{shift_chain}
use Rattle.laws.specs.RefusedRuns.{AlwaysSpares, none_spares}
use Rattle.laws.specs.Grown.{grown_grows, grown_spares}
use Rattle.placing.specs.States.{GoodState, Ready}
use Rattle.growing.specs.Grown.{growth_if, GrownTo}

-- what the answer of a growth on tables says
module _ (r : Bool) (growth : Growth) (s t : Slotted) (e : GrownTo r growth s t) where
  pub has-grown : r ≡ true → growth s ≡ some t
  has-grown q = let h : GrownTo true growth s t = rw q at e in h

  pub has-not-grown : r ≡ false → (growth s ≡ none) × (t ≡ s)
  has-not-grown q = let h : GrownTo false growth s t = rw q at e in h

-- what the laws ask of a growth
pub growth-if_grows : (b : Bool) (n last : ℕ) → Grows limit n last (growth_if b)
growth-if_grows true n last = grown_grows n last
growth-if_grows false n last = none_grows limit n last

-- where the slots grow, an anode is free
pub growth-if_spares : (b : Bool) (n last : ℕ) → AlwaysSpares limit n last (growth_if b)
growth-if_spares true n last = grown_spares n last
growth-if_spares false n last = none_spares limit n last

-- slots have grown from a good state s to t
module _ (b : Bool) {last : ℕ} {s t : Slotted} (state : GoodState last s) (e : growth_if b s ≡ some t) where
  -- by a block of the free list
  pub grew : (w : ℕ) × Grew limit state.n last s state.system state.hd w t
  grew = growth-if_grows b state.n last s t state.system state.hd state.sd state.start state.good e

  -- t is good
  unfoldable pub grown_state : GoodState last t
  grown_state = record {
    n = state.n;
    system = handed state.system 1 grew.0;
    hd = grew.1.hd';
    sd = grew.1.sd';
    small = state.small;
    start = λ x l. omega (arith, state.start x l);
    good = grew.1.good;
  }

  -- no chain but the free list is touched
  pub grown_shift : Shift s.anodes state.hd t.anodes grown_state.hd 1 1
  unfolding grown_state grew
  grown_shift = grew.1.shift

-- a head h other than 1
module _ (b : Bool) {last : ℕ} {s t : Slotted} {h : ℕ} (ready : Ready last s h) (e : growth_if b s ≡ some t) where
  -- still heads a chain
  pub grown_ready : Ready last t h
  grown_ready = (grown_state b ready.0 e, ((grown_shift b ready.0 e).stays h ready.1.0, ready.1.1))

  -- of the same anodes
  pub grown-chain : chain_of t.anodes.next limit h ≡ chain_of s.anodes.next limit h
  unfolding grown_state
  grown-chain = shift_chain ready.0.good (grown_state b ready.0 e).good (grown_shift b ready.0 e) h ready.1.0 ready.1.1 ready.1.1

  -- so with the same last one
  pub grown-end : chain_end limit t.anodes h ≡ chain_end limit s.anodes h
  unfolding chain_end
  grown-end = ap (last_of h) grown-chain
