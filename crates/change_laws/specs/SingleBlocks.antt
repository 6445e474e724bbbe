-- The block of an anode that has one: a data block, and no other anode's.
use Rattle.std.specs.Prelude.{ℕ, ◌≡◌, ◌≢◌, Bool, List}
use Rattle.std.proofs.Common.{ap, arith}
use Rattle.rules.specs.Anodes.{Anodes, limit}
use Rattle.rules.specs.Chains.{chain_of, system_owns}
use Rattle.rules.specs.Accepted.{disk_size}
use Rattle.laws.specs.Ownership.{covers_in, disjoint}
use Rattle.laws.specs.Heads.{head_of_is, on_own}
use Rattle.laws.specs.Space.{Good}
use Rattle.laws.specs.Owners.{full_used}
use Rattle.laws.specs.Members.{occurrences-member}
use Rattle.frames.specs.DisjointBlocks.{DataBlock, chain_block}
use Rattle.change_laws.specs.Reached.{block_on}

module _ {ex : ℕ → Bool} {n last : ℕ} {s : Anodes} {system hd sd : ℕ → ℕ} (g : Good limit ex n last s system hd sd) where
  -- it is in use
  pub single_used : (a : ℕ) → s.count a ≡ 1 → s.block a ≢ 0
  single_used a one = full_used g a (omega (arith, one))

  -- two such anodes have different blocks
  pub single_apart : (a : ℕ) → s.count a ≡ 1 → (c : ℕ) → s.count c ≡ 1 → a ≢ c → s.block a ≢ s.block c
  single_apart a one c one-c ne e =
      let below = g.linked.view.below a (single_used a one) in
      omega (
        arith,
        disjoint limit s.count s.block system n g.own a c (s.block a) below (g.linked.view.below c (single_used c one-c)) ne (omega (arith, one, g.own.fits a below (omega (arith, one)))),
        covers_in (s.count a) (s.block a) (s.block a) (omega arith) (omega (arith, one)),
        covers_in (s.count c) (s.block c) (s.block a) (omega (arith, e)) (omega (arith, e, one-c)),
      )

-- its block is a data block
pub single_data : {ex : ℕ → Bool} {last : ℕ} {s : Anodes} {hd sd : ℕ → ℕ} (img : List ℕ) → Good limit ex (disk_size img) last s (system_owns img) hd sd →
    (a : ℕ) → s.count a ≡ 1 → DataBlock img (s.block a)
single_data {s = s} {hd = hd} img g a one =
    let used = single_used g a one in
    let a0 : a ≢ 0 = λ z. omega (arith, one, ap s.count z, g.fixed.count-0) in
    let h = head_of_is g.linked g.heads a a0 used in
    chain_block img g (hd a) h (s.block a) (block_on s (hd a) a (occurrences-member a (chain_of s.next limit (hd a)) (omega (arith, on_own g.linked g.heads a a0 used))) one)
