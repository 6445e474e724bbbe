-- A file keeps its head, emptied, and takes all its blocks anew: its chain has exactly those, its old ones are in nobody's chain, and of the others only the free list is touched.
use Rattle.std.specs.Prelude.{ℕ, ◌+◌, ◌≤◌, ◌≡◌, refl, ◌≢◌, length}
use Rattle.std.proofs.Common.{sym, ◌∙◌}
use Rattle.std.proofs.Math.Path.{ap}
use Rattle.std.proofs.Math.Logic.{inl, inr}
use Rattle.std.proofs.Math.Bool.{false}
use mathlib.Core.List.{List, [], ◌∷◌, ◌++◌}
use native.Mathlib.Omega.{arith}
use Rattle.rules.specs.Anodes.{limit, exists_by}
use Rattle.rules.specs.Chains.{blocks_of}
use Rattle.rules.specs.Plans.{Slotted, planned}
use Rattle.rules.specs.Space.{rewritten, dropped}
use Rattle.rules.specs.Changes.{head_made}
use Rattle.laws.specs.Tests.{same?}
use Rattle.laws.specs.Sums.{changed_other}
use Rattle.laws.specs.Heads.{Head, head_while}
use Rattle.laws.specs.Held.{held}
use Rattle.laws.specs.Space.{Good, good-same, FreeAnode, alike_trans}
use Rattle.laws.specs.Owners.{blocks-none}
use Rattle.laws.specs.Moves.{none_grows, Shift, shift_trans}
use Rattle.laws.specs.Take.{StartOwned}
use Rattle.laws.specs.FixedSlots.{none-grown, takes_slots}
use Rattle.laws.specs.ChainBlocks.{length-blocks_of}
use Rattle.laws.specs.Resize.{takes_moved}
use Rattle.laws.specs.TakenBlocks.{takes_blocks}
use Rattle.laws.specs.Whole.{blocks-count}
use Rattle.safe_rules.specs.SafePlans.{chain_zeroed, taken_anew}
use Rattle.safe_laws.specs.Cleared.{cleared_head, cleared-gone}
use Rattle.safe_laws.specs.Taking.{Took, Elsewhere}
use Rattle.safe_laws.specs.OwnChanges.{took_headed, headed_head, headed_system, headed-blocks, took_zeroed, zeroed_system}

-- from s to r the chain of h has the blocks of xs for those that it had
pub record AnewTaken (n last : ℕ) (s : Slotted) (system hd : ℕ → ℕ) (h k : ℕ) (r : Slotted) (xs : List ℕ) : Type 0 where
  pub hd' : ℕ → ℕ
  pub sd' : ℕ → ℕ
  pub good : Good limit (exists_by r.slots) n last r.anodes (λ x. system x + held limit hd s.anodes.count s.anodes.block h x) hd' sd'
  pub shift : Shift s.anodes hd r.anodes hd' 1 h
  pub chain : blocks_of r.anodes h ≡ xs
  pub many : length xs ≡ k

none_of : (ys : List ℕ) → length ys ≡ 0 → ys ≡ []
none_of [] z = refl
none_of (y ∷ ys) z = absurd (omega (arith, z))

module _ {n last : ℕ} (s : Slotted) (system hd sd : ℕ → ℕ) (g : Good limit (exists_by s.slots) n last s.anodes system hd sd) (h : ℕ) (h6 : 6 ≤ h) (d : Head s.anodes.next s.anodes.block h) where
  -- its chain is zeroed
  abbrev z : Slotted
  z = chain_zeroed s h

  pub zeroed : Took n last s system hd (Elsewhere s.anodes hd h) [] (chain_zeroed s h)
  zeroed = took_zeroed s system hd sd g h h6 d

  free : FreeAnode (exists_by s.slots) (dropped limit s.anodes h) h
  free = record { from_6 = h6; unused = cleared_head g h h6 d; there = g.present.exist h d.in_use }

  -- and its head made again, with no block
  abbrev u : Slotted
  u = head_made (chain_zeroed s h) h

  pub emptied : Took n last (chain_zeroed s h) zeroed.system' zeroed.hd' (λ a. (chain_zeroed s h).anodes.block a ≢ 0) [] (head_made (chain_zeroed s h) h)
  emptied = took_headed z zeroed.system' zeroed.hd' zeroed.sd' zeroed.good h (g.linked.view.below h d.in_use) free

  pub emptied_head : Head u.anodes.next u.anodes.block h
  emptied_head = headed_head z zeroed.system' zeroed.hd' zeroed.sd' zeroed.good h (g.linked.view.below h d.in_use) free

  other_block : (m : ℕ) → m ≢ h → u.anodes.block m ≡ (dropped limit s.anodes h).block m
  unfolding rewritten
  other_block m o = changed_other (dropped limit s.anodes h).block h 65535 m o

  emptied_shift : Shift s.anodes hd u.anodes emptied.hd' 1 h
  unfolding rewritten
  emptied_shift = record {
    stays = λ m i. elim (same? m h) [
      | inl e ↦ rw e emptied_head
      | inr o ↦ (let j = (cleared-gone g h h6 d).stays m o i in head_while j (λ q. j.in_use (sym (other_block m o) ∙ q)))
    ];
    no_new = λ m i. elim (same? m h) [
      | inl e ↦ rw e d
      | inr o ↦ ((cleared-gone g h h6 d).was m (head_while i (λ q. i.in_use (other_block m o ∙ q)))).1
    ];
    apart = λ a v q i. alike_trans (zeroed.alone a (v, q, i)).0 (emptied.alone a (still a v q i)).0;
    same_hd = λ a v q i. (emptied.alone a (still a v q i)).1 ∙ (zeroed.alone a (v, q, i)).1;
  }
    where
      still : (a : ℕ) → s.anodes.block a ≢ 0 → hd a ≢ 1 → hd a ≢ h → (chain_zeroed s h).anodes.block a ≢ 0
      still a v q i = rw (zeroed.alone a (v, q, i)).0.same_block v

  -- it has no block then
  emptied-none : blocks_of u.anodes h ≡ []
  unfolding emptied
  emptied-none = none_of (blocks_of u.anodes h) (omega (
    arith,
    length-blocks_of u.anodes h,
    blocks-count emptied.good h emptied_head,
    headed-blocks z zeroed.system' zeroed.hd' zeroed.sd' zeroed.good h (g.linked.view.below h d.in_use) free h,
    blocks-none zeroed.good h (λ i. i.in_use free.unused),
  ))

  pub system_is : (x : ℕ) → emptied.system' x ≡ system x + held limit hd s.anodes.count s.anodes.block h x
  unfolding emptied zeroed
  system_is x = headed_system z zeroed.system' zeroed.hd' zeroed.sd' zeroed.good h (g.linked.view.below h d.in_use) free x ∙ zeroed_system s system hd sd g h h6 d x

  -- THE FILE'S BLOCKS TAKEN ANEW
  pub taken-anew : StartOwned system → (k : ℕ) (r : Slotted) (xs : List ℕ) → taken_anew h k s ≡ planned r xs → AnewTaken n last s system hd h k r xs
  unfolding taken_anew
  taken-anew start k r xs e =
      let from : StartOwned emptied.system' = λ x l. omega (arith, start x l, system_is x) in
      let h1 : h ≢ 1 = λ q. omega (arith, q, h6) in
      let (gs, w, l) = takes_moved (none_grows limit n last) k h h1 false r xs u emptied.system' emptied.hd' emptied.sd' from emptied.good emptied_head e in
      let (c, m) = takes_blocks (none_grows limit n last) k h h1 false r xs u emptied.system' emptied.hd' emptied.sd' from emptied.good emptied_head e in
      let none = none-grown w (takes_slots limit false k h u r xs e) in
      record {
        hd' = w.hd';
        sd' = w.sd';
        good = good-same {hd = w.hd'} {sd = w.sd'} w.good (λ x. omega (arith, none x, system_is x));
        shift = shift_trans {hd'' = w.hd'} emptied_shift w.shift;
        chain = c ∙ ap (λ (l : List ℕ). l ++ xs) emptied-none;
        many = l;
      }
