-- What the anodes of an image are: as they are stored, missing ones (0, 0, 0); one in use exists, and where 7 finds nothing a block field of 0 means free.
use Rattle.std.specs.Prelude.{ℕ, ◌/◌, ◌≤◌, ◌≡◌, refl, ◌≢◌, true, false, List}
use Rattle.std.proofs.Math.Path.{ap}
use Rattle.std.proofs.Common.{inl, inr, arith}
use borrow.Author.Tests.{ne_eqb}
use Rattle.disk.specs.declared.Anode.{Anode}
use Rattle.disk.specs.Root.{slot_of}
use Rattle.disk.specs.AnodeBlocks.{anode_made, anode_of}
use Rattle.disk.proofs.Laws.{slot_of_high, anode_of_missing}
use Rattle.rules.specs.Counting.{any_below}
use Rattle.rules.specs.Anodes.{limit, fields_of, exists_by, exists, anodes_of}
use Rattle.rules.specs.Accepted.{out_of_range}
use Rattle.laws.specs.Tests.{less?}
use Rattle.laws.specs.TestsPassed.{block_cleared}
use Rattle.laws.specs.Passes.{Reading}

module _ (img : List ℕ) where
  -- the three fields of an anode are those that are stored
  pub read_stored : (a c b m : ℕ) → anode_of img a ≡ anode_made c b m → ((anodes_of img).count a ≡ c) × ((anodes_of img).block a ≡ b) × ((anodes_of img).next a ≡ m)
  unfolding anodes_of fields_of anode_of
  read_stored a c b m e = (ap (λ (x : Anode). x.count) e, ap (λ (x : Anode). x.block.0) e, ap (λ (x : Anode). x.next.0) e)

  -- those of a missing one are 0
  pub read_missing : (a : ℕ) → slot_of img (a / 82) ≡ 0 → ((anodes_of img).count a ≡ 0) × ((anodes_of img).block a ≡ 0) × ((anodes_of img).next a ≡ 0)
  read_missing a z = read_stored a 0 0 0 (anode_of_missing img a z)

  -- a slot that holds 0 has no anode in use
  slot_there : (a : ℕ) → (anodes_of img).block a ≢ 0 → slot_of img (a / 82) ≢ 0
  slot_there a u z = u (read_missing a z).1

  pub slot_exists : (a s : ℕ) → slot_of img (a / 82) ≡ s → s ≢ 0 → exists img a ≡ true
  unfolding exists_by
  slot_exists a s e n = rw (e, ne_eqb s 0 n)

  -- a slot that holds 0 has no anode
  pub slot_missing : (a : ℕ) → slot_of img (a / 82) ≡ 0 → exists img a ≡ false
  unfolding exists_by
  slot_missing a z = rw z

  -- an anode in use is one of the 3,444, and exists; where 7 finds nothing, one whose block field is 0 has no blocks and no next
  pub reading_of : (n : ℕ) → any_below (out_of_range (anodes_of img) n) limit ≡ false → Reading limit (exists img) (anodes_of img)
  reading_of n right = record {
    view = record {
      below = λ a u. elim (less? a limit) [ inl l ↦ l | inr l ↦ absurd (slot_there a u (past a l)) ];
      free-end = λ a z. (cleared a z).1;
    };
    present = record { exist = λ a u. rw (slot_exists a (slot_of img (a / 82)) refl (slot_there a u)) tt; free-none = λ a z. (cleared a z).0 };
  }
    where
      past : (a : ℕ) → limit ≤ a → slot_of img (a / 82) ≡ 0
      past a l = slot_of_high img (a / 82) (omega arith)

      cleared : (a : ℕ) → (anodes_of img).block a ≡ 0 → ((anodes_of img).count a ≡ 0) × ((anodes_of img).next a ≡ 0)
      cleared a z = elim (less? a limit) [
        | inl l ↦ block_cleared (anodes_of img) n right a l z
        | inr l ↦ ((read_missing a (past a l)).0, (read_missing a (past a l)).2)
      ]
