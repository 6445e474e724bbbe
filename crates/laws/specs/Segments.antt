-- Walks along next, and the chains that they find.
use Rattle.std.specs.Prelude.{ℕ, zero, suc, ◌+◌, ◌≤◌, ◌<◌, ◌≡◌, refl, ◌≢◌, List, [], ◌∷◌, ◌++◌, length}
use Rattle.std.proofs.Common.{sym, ◌∙◌, subst, arith}
use Rattle.rules.specs.Counting.{occurrences, last_of}
use Rattle.rules.specs.Chains.{chain_of, followed}
use Rattle.laws.specs.Sums.{one_at_other}
use Rattle.laws.specs.Bags.{occurrences-nil, occurrences-cons, occurrences-here, occurrences-later, last_split}

-- from a, following next, the anodes of l are met, none of them 0, and then z
abbrev pub Seg : (ℕ → ℕ) → ℕ → List ℕ → ℕ → Type 0
Seg next a [] z = a ≡ z
Seg next a (b ∷ l) z = (a ≡ b) × (b ≢ 0) × Seg next (next b) l z

-- and then 0
abbrev pub Chain : (ℕ → ℕ) → ℕ → List ℕ → Type 0
Chain next a l = Seg next a l 0

-- ---- the walk with fuel and the chain

pub followed-zero : (next : ℕ → ℕ) (k : ℕ) → next 0 ≡ 0 → followed next k 0 ≡ 0
unfolding followed
followed-zero next zero z = refl
followed-zero next (suc k) z = rw z (followed-zero next k z)

-- where the walk ends within k steps, `chain_of` with that fuel is the chain
pub chain_of_is : (next : ℕ → ℕ) (k a : ℕ) → followed next k a ≡ 0 → Chain next a (chain_of next k a)
unfolding followed chain_of
chain_of_is next zero a h = h
chain_of_is next (suc k) zero h = refl
chain_of_is next (suc k) (suc a) h = (refl, (λ e. omega arith), chain_of_is next k (next (suc a)) h)

-- a chain is what `chain_of` gives with fuel enough
pub chain_is : (next : ℕ → ℕ) (k a : ℕ) (l : List ℕ) → Chain next a l → length l ≤ k → chain_of next k a ≡ l
unfolding chain_of
chain_is next zero a [] c h = refl
chain_is next zero a (b ∷ l) c h = absurd (omega arith)
chain_is next (suc k) zero [] c h = refl
chain_is next (suc k) zero (b ∷ l) c h = absurd (c.1 (sym c.0))
chain_is next (suc k) (suc a) [] c h = absurd (omega arith)
chain_is next (suc k) (suc a) (b ∷ l) c h = rw (c.0, chain_is next k (next b) l c.2 (omega arith))

pub chain_ends : (next : ℕ → ℕ) (k a : ℕ) (l : List ℕ) → next 0 ≡ 0 → Chain next a l → length l ≤ k → followed next k a ≡ 0
unfolding followed
chain_ends next k a [] z c h = rw c (followed-zero next k z)
chain_ends next zero a (b ∷ l) z c h = absurd (omega arith)
chain_ends next (suc k) a (b ∷ l) z c h = rw c.0 (chain_ends next k (next b) l z c.2 (omega arith))

-- there is one chain from a
pub chain-one : (next : ℕ → ℕ) (a : ℕ) (l m : List ℕ) → Chain next a l → Chain next a m → l ≡ m
chain-one next a l m c d =
    sym (chain_is next (length l + length m) a l c (omega arith)) ∙ chain_is next (length l + length m) a m d (omega arith)

-- ---- parts of a walk

pub seg_append : (next : ℕ → ℕ) (a y z : ℕ) (l m : List ℕ) → Seg next a l y → Seg next y m z → Seg next a (l ++ m) z
seg_append next a y z [] m c d = rw c d
seg_append next a y z (b ∷ l) m c d = (c.0, c.1, seg_append next (next b) y z l m c.2 d)

pub seg_split : (next : ℕ → ℕ) (a z : ℕ) (l m : List ℕ) → Seg next a (l ++ m) z → (y : ℕ) × Seg next a l y × Seg next y m z
seg_split next a z [] m c = (a, refl, c)
seg_split next a z (b ∷ l) m c = let r = seg_split next (next b) z l m c.2 in (r.0, (c.0, c.1, r.1), r.2)

-- a walk whose anodes keep their next is unchanged
pub seg_keep : (next next' : ℕ → ℕ) (a z : ℕ) (l : List ℕ) → ((x : ℕ) → 0 < occurrences x l → next' x ≡ next x) → Seg next a l z → Seg next' a l z
seg_keep next next' a z [] h c = c
seg_keep next next' a z (b ∷ l) h c =
    (c.0, c.1, rw (h b (occurrences-here b l)) (seg_keep next next' (next b) z l (λ x p. h x (occurrences-later x b l p)) c.2))

-- x is not met on a walk along which something stays so that is not so of x
pub seg_avoids : (next : ℕ → ℕ) (x : ℕ) (P : ℕ → Type 0) → ((b : ℕ) → b ≢ 0 → P b → (b ≢ x) × P (next b)) → (a z : ℕ) (l : List ℕ) → P a → Seg next a l z → occurrences x l ≡ 0
seg_avoids next x P step a z [] p c = occurrences-nil x
seg_avoids next x P step a z (b ∷ l) p c =
    let q = step b c.1 (subst P c.0 p) in
    omega (arith, occurrences-cons x b l, one_at_other b x q.0, seg_avoids next x P step (next b) z l q.1 c.2)

-- 0 stands in no walk
pub seg_zero : (next : ℕ → ℕ) (a z : ℕ) (l : List ℕ) → Seg next a l z → occurrences 0 l ≡ 0
seg_zero next a z l c = seg_avoids next 0 (λ b. Unit {0}) (λ b b0 p. (b0, tt)) a z l tt c

-- ---- the end of a walk

-- a walk's last anode has for next what comes after the walk
pub seg_last : (next : ℕ → ℕ) (a z b : ℕ) (l : List ℕ) → Seg next a (b ∷ l) z → next (last_of a (b ∷ l)) ≡ z
unfolding last_of
seg_last next a z b [] c = c.2
seg_last next a z b (x ∷ l) c = seg_last next (next b) z x l c.2

-- a chain's last anode
pub chain-end : (next : ℕ → ℕ) (h : ℕ) (l : List ℕ) → h ≢ 0 → Chain next h l → (pre : List ℕ) × (l ≡ pre ++ (last_of h l ∷ []))
chain-end next h [] h0 c = absurd (h0 c)
chain-end next h (x ∷ l) h0 c = last_split h x l
