-- What a change of two chains leaves alone: every other chain is the same list of anodes, with as many blocks.
use Rattle.std.specs.Prelude.{ℕ, ◌<◌, ◌≡◌, ◌≢◌, Bool}
use Rattle.std.proofs.Common.{sym, ap, ◌∙◌}
use Rattle.rules.specs.Counting.{sum_list, occurrences}
use Rattle.rules.specs.Anodes.{limit, Anodes}
use Rattle.rules.specs.Chains.{chain_of, block_count}
use Rattle.laws.specs.Bags.{kept-sum}
use Rattle.laws.specs.Segments.{seg_keep}
use Rattle.laws.specs.Links.{chain_the}
use Rattle.laws.specs.Heads.{Head, head_chain}
use Rattle.laws.specs.Space.{Alike, Good, on_chain_lem}
use Rattle.laws.specs.Moves.{Shift}

-- a chain of the same anodes with the same counts has as many blocks
pub kept-count : (s t : Anodes) (m : ℕ) → chain_of t.next limit m ≡ chain_of s.next limit m → ((a : ℕ) → 0 < occurrences a (chain_of s.next limit m) → t.count a ≡ s.count a) → block_count t m ≡ block_count s m
unfolding block_count
kept-count s t m e h = ap (sum_list t.count) e ∙ kept-sum s.count t.count (chain_of s.next limit m) h

module _ {A : ℕ} {ex : ℕ → Bool} {n last : ℕ} {s : Anodes} {system hd sd : ℕ → ℕ} (g : Good A ex n last s system hd sd) where
  -- what stands on the chain of a head other than k and h is in use, and k and h are not its head
  pub on_other : (m : ℕ) → Head s.next s.block m → {k h : ℕ} → m ≢ k → m ≢ h → (a : ℕ) → 0 < occurrences a (chain_of s.next A m) → (s.block a ≢ 0) × (hd a ≢ k) × (hd a ≢ h)
  on_other m d mk mh a p = let o = on_chain_lem g m d a p in (o.1, λ q. mk (sym o.0 ∙ q), λ q. mh (sym o.0 ∙ q))

  -- no anode but those of the chains of k and h is touched: the chain of another head m
  module _ {t : Anodes} {k h : ℕ} (apart : (a : ℕ) → s.block a ≢ 0 → hd a ≢ k → hd a ≢ h → Alike s t a) (m : ℕ) (d : Head s.next s.block m) (mk : m ≢ k) (mh : m ≢ h) where
    -- its anodes read the same
    pub apart_alike : (a : ℕ) → 0 < occurrences a (chain_of s.next A m) → Alike s t a
    apart_alike a p = let o = on_other m d mk mh a p in apart a o.0 o.1 o.2

    -- and it is the same list of anodes
    pub apart_chain : {ex' : ℕ → Bool} {system' hd' sd' : ℕ → ℕ} → Good A ex' n last t system' hd' sd' → Head t.next t.block m → chain_of t.next A m ≡ chain_of s.next A m
    apart_chain g' d' =
        chain_the g'.linked m (chain_of s.next A m) (λ q. d'.in_use)
        (seg_keep s.next t.next m 0 (chain_of s.next A m) (λ x p. (apart_alike x p).same_next) (head_chain g.linked m d))

  -- and so for steps on these chains
  module _ {t : Anodes} {ex' : ℕ → Bool} {system' hd' sd' : ℕ → ℕ} (g' : Good A ex' n last t system' hd' sd') {k h : ℕ} (shift : Shift s hd t hd' k h) (m : ℕ) (d : Head s.next s.block m) (mk : m ≢ k) (mh : m ≢ h) where
    pub shift_alike : (a : ℕ) → 0 < occurrences a (chain_of s.next A m) → Alike s t a
    shift_alike = apart_alike shift.apart m d mk mh

    pub shift_chain : chain_of t.next A m ≡ chain_of s.next A m
    shift_chain = apart_chain shift.apart m d mk mh g' (shift.stays m d)
