-- The extent that a take comes to: the first with a block on the side that is looked at first, else the first on the other side.
use Rattle.std.specs.Prelude.{ℕ, ◌≡◌, ◌⊎◌, Bool, cond}
use Rattle.std.proofs.Math.Path.{refl}
use Rattle.std.proofs.Math.Logic.{inl, inr}
use Rattle.std.proofs.Math.Bool.{true, false}
use Rattle.rules.specs.Anodes.{Anodes}
use Rattle.rules.specs.Chains.{cut, side}
use Rattle.rules.specs.Plans.{Slotted, refused, Growth}
use Rattle.rules.specs.Space.{Found, nowhere, found, first_extent, free_extent, take_from, take_block}
use Rattle.laws.specs.Space.{Good}
use Rattle.laws.specs.Sides.{SideHead, side-chain}
use Rattle.laws.specs.Searches.{FoundIn, one_found, none_found, first_extent-found}

module _ (A : ℕ) (dir : Bool) (s : Anodes) where
  -- x after p is found so on one of the two sides
  pub extent-found : {ex : ℕ → Bool} {n last : ℕ} {system hd sd : ℕ → ℕ} → Good A ex n last s system hd sd → (p x : ℕ) → free_extent A dir s ≡ found p x →
      (m : ℕ) × SideHead m × FoundIn s.count (cut s.next) m (side A s m) 0 p x
  unfolding free_extent
  extent-found g p x e = elim (one_found (first_extent s.count 0 (side A s (cond dir 2 1))) (first_extent s.count 0 (side A s (cond dir 1 2))) p x e) [
    | inl f ↦ (cond dir 2 1, one_side dir, on (cond dir 2 1) (one_side dir) f)
    | inr f ↦ (cond dir 1 2, other_side dir, on (cond dir 1 2) (other_side dir) f)
  ]
    where
      one_side : (b : Bool) → SideHead (cond b 2 1)
      one_side true = inr refl
      one_side false = inl refl

      other_side : (b : Bool) → SideHead (cond b 1 2)
      other_side true = inl refl
      other_side false = inr refl

      on : (m : ℕ) → SideHead m → first_extent s.count 0 (side A s m) ≡ found p x → FoundIn s.count (cut s.next) m (side A s m) 0 p x
      on m o f = first_extent-found s.count (cut s.next) m 0 0 (side A s m) (side-chain g m o) p x f

  -- where it is found on none, neither side has a block
  pub extent_nowhere : free_extent A dir s ≡ nowhere → (m : ℕ) → SideHead m → first_extent s.count 0 (side A s m) ≡ nowhere
  unfolding free_extent
  extent_nowhere e m o =
      let n = none_found (first_extent s.count 0 (side A s (cond dir 2 1))) (first_extent s.count 0 (side A s (cond dir 1 2))) e in
      either dir n.0 n.1 o
    where
      either : (b : Bool) → first_extent s.count 0 (side A s (cond b 2 1)) ≡ nowhere → first_extent s.count 0 (side A s (cond b 1 2)) ≡ nowhere → SideHead m → first_extent s.count 0 (side A s m) ≡ nowhere
      either true p q (inl i) = rw i q
      either true p q (inr i) = rw i p
      either false p q (inl i) = rw i p
      either false p q (inr i) = rw i q

module _ (A : ℕ) (growth : Growth) (dir : Bool) (h : ℕ) (s : Slotted) where
  -- a take without it is refused with 27
  pub take_nowhere : free_extent A dir s.anodes ≡ nowhere → take_block A growth dir h s ≡ refused 27
  unfolding take_block
  take_nowhere e = rw (e, take_block)

  -- and with it takes its first block
  pub take_found : (p x : ℕ) → free_extent A dir s.anodes ≡ found p x → take_block A growth dir h s ≡ take_from A growth dir h p x s
  unfolding take_block
  take_found p x e = rw (e, take_block)

  -- which of the two a take is
  pub take_cases : ((free_extent A dir s.anodes ≡ nowhere) × (take_block A growth dir h s ≡ refused 27))
      ⊎ ((p : ℕ) × (x : ℕ) × (free_extent A dir s.anodes ≡ found p x) × (take_block A growth dir h s ≡ take_from A growth dir h p x s))
  take_cases = go (free_extent A dir s.anodes) refl
    where
      go : (c : Found) → free_extent A dir s.anodes ≡ c → ((free_extent A dir s.anodes ≡ nowhere) × (take_block A growth dir h s ≡ refused 27))
          ⊎ ((p : ℕ) × (x : ℕ) × (free_extent A dir s.anodes ≡ found p x) × (take_block A growth dir h s ≡ take_from A growth dir h p x s))
      go nowhere e = inl (e, take_nowhere e)
      go (found p x) e = inr (p, x, e, take_found p x e)
