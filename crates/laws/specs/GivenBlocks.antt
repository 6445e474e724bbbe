-- Giving back takes the last blocks off the giver's chain.
use Rattle.std.specs.Prelude.{ℕ, ◌-◌, ◌≤◌, ◌≡◌, ◌≢◌, Bool, length}
use Rattle.std.proofs.Math.Path.{refl, sym, ap}
use Rattle.std.proofs.Common.{◌∙◌, length-append}
use mathlib.Core.List.{List, [], ◌∷◌, ◌++◌, append-nil, append_assoc}
use native.Mathlib.Omega.{arith}
use Rattle.rules.specs.Counting.{sum_list, occurrences, gather}
use Rattle.rules.specs.Anodes.{Anodes, limit, exists_by}
use Rattle.rules.specs.Chains.{chain_of, run, blocks_of}
use Rattle.rules.specs.Plans.{Slotted, planned, Growth}
use Rattle.rules.specs.Space.{rewritten, unlinked, without_tail, tail_start, found, last_extent, give_run, give_blocks}
use Rattle.laws.specs.Bags.{occurrences-append, none-at, gather_none, gather_skip, gather-last}
use Rattle.laws.specs.LinkChanges.{first, second, third}
use Rattle.laws.specs.Heads.{Head}
use Rattle.laws.specs.Blocks.{blocks}
use Rattle.laws.specs.Space.{Good}
use Rattle.laws.specs.Owners.{full-0}
use Rattle.laws.specs.Searches.{FoundIn, found_after, last_extent_split}
use Rattle.laws.specs.Leaving.{without_run_cases}
use Rattle.laws.specs.Moves.{Grows, with_these}
use Rattle.laws.specs.Take.{StartOwned}
use Rattle.laws.specs.Give.{given-found, released_moved}
use Rattle.laws.specs.GiveRuns.{tail-out, run_released, NextRun, Meets, now, later, next_fits, runs_meet, runs_moved}
use Rattle.laws.specs.ChainBlocks.{extent, extent-here, extent_other, blocks_of_extents, extent_shorter, shift_blocks, stands_once, unlinked-chain}

-- ---- out of the giver's chain

module _ {ex : ℕ → Bool} {n last : ℕ} {s : Anodes} {system hd sd : ℕ → ℕ} (g : Good limit ex n last s system hd sd) (h : ℕ) (d : Head s.next s.block h) (q x : ℕ)
    (e : last_extent s.count 0 (chain_of s.next limit h) ≡ found q x) where
  is_found : FoundIn s.count s.next h (chain_of s.next limit h) 0 q x
  is_found = given-found g h d q x e

  split : (pre : List ℕ) × (post : List ℕ) × (chain_of s.next limit h ≡ pre ++ (x ∷ post)) × (sum_list s.count post ≡ 0)
  split = last_extent_split s.count 0 (chain_of s.next limit h) q x e

  -- its last k blocks
  module _ (k : ℕ) (few : k ≤ s.count x) where
    abbrev gone : List ℕ
    gone = run (tail_start s x k) k

    -- x alone has lost them
    lost : (r : Anodes) → ((a : ℕ) → a ≢ x → extent r a ≡ extent s a) → extent s x ≡ extent r x ++ gone → blocks_of s h ≡ gather (extent r) (split.0 ++ (x ∷ split.1)) ++ gone
    unfolding extent run
    lost r same less =
        let once = stands_once g h d x split.0 split.1 split.2 in
        blocks_of_extents s h ∙ ap (gather (extent s)) split.2
        ∙ gather-last (extent s) (extent r) split.0 split.1 x gone same once.0 once.1 (gather_none (extent s) split.1 (λ a p. rw (none-at s.count split.1 split.3 a p))) less

    rewritten-blocks : (c b : ℕ) → s.count x - k ≡ c → run b c ≡ run (s.block x) c → blocks_of s h ≡ blocks_of (rewritten s x c b) h ++ gone
    unfolding rewritten
    rewritten-blocks c b left keeps =
        let r = rewritten s x c b in
        lost r (extent_other s r x c b refl refl) (extent_shorter s x k few ∙ rw (extent-here s r x c b refl refl, keeps, left))
        ∙ ap (λ (l : List ℕ). l ++ gone) (sym (blocks_of_extents r h ∙ ap (gather (extent r)) split.2))

    -- x, not the head, has left the chain
    unlinked-blocks : x ≢ h → s.count x ≡ k → blocks_of s h ≡ blocks_of (unlinked s q x) h ++ gone
    unfolding unlinked run
    unlinked-blocks xh all =
        let r = unlinked s q x in
        let z : s.count x - k ≡ 0 = omega arith in
        let none : extent r x ≡ [] = extent-here s r x 0 0 refl refl in
        lost r (extent_other s r x 0 0 refl refl) (extent_shorter s x k few ∙ rw (none, z))
        ∙ ap (λ (l : List ℕ). l ++ gone)
        (gather_skip (extent r) split.0 split.1 x none
        ∙ sym (blocks_of_extents r h ∙ ap (gather (extent r)) (unlinked-chain g h d x split.0 split.1 split.2 q (found_after is_found xh) (full-0 g x is_found.full) xh)))

    pub without_tail-blocks : blocks_of s h ≡ blocks_of (without_tail s h q x k) h ++ run (tail_start s x k) k
    unfolding without_tail run
    without_tail-blocks = elim (without_run_cases s h q x k (s.block x)) [
      | first c ↦ rw c.1 (rewritten-blocks (s.count x - k) (s.block x) refl refl)
      | second c ↦ rw c.2 (rewritten-blocks 0 65535 (omega (arith, c.0)) refl)
      | third c ↦ rw c.2 (unlinked-blocks c.1 c.0)
    ]

-- ---- run by run

-- the blocks of the chain of h before, from those after: the last ones, in the chain's order, are those of zs
pub record Shorter (s t : Anodes) (h : ℕ) (zs : List ℕ) : Type 0 where
  pub rest : List ℕ
  pub parted : blocks_of s h ≡ blocks_of t h ++ rest
  pub as_many : length rest ≡ length zs
  pub the_same : (x : ℕ) → occurrences x rest ≡ occurrences x zs

module _ {n last : ℕ} {growth : Growth} (grows : Grows limit n last growth) (h : ℕ) (h1 : h ≢ 1) where
  -- a run takes the last blocks off the giver's chain
  run-blocks : (s : Slotted) {system hd sd : ℕ → ℕ} → StartOwned system → Good limit (exists_by s.slots) n last s.anodes system hd sd → Head s.anodes.next s.anodes.block h →
      {k p x d : ℕ} → NextRun limit last h k s p x d → (t : Slotted) (ys : List ℕ) → give_run limit growth last h p x d s ≡ planned t ys →
      blocks_of s.anodes h ≡ blocks_of t.anodes h ++ ys
  run-blocks s start g dh {p = p} {x} {d} next t ys gives =
      let (some, few, most, one) = next_fits next in
      let out = tail-out g h dh h1 p x d next.is_last most in
      let back = run_released grows s start g h dh h1 p x d next.is_last most one t ys gives in
      without_tail-blocks g h dh p x next.is_last d most
      ∙ ap (λ (l : List ℕ). l ++ run (tail_start s.anodes x d) d) (sym (shift_blocks out.good back.good back.shift h (out.shift.stays h dh) h1 h1))
      ∙ ap (λ (l : List ℕ). blocks_of t.anodes h ++ l) (sym back.handed_are)

  -- and so runs one after the other
  pub meets_blocks : {k j : ℕ} {s r : Slotted} {zs : List ℕ} → Meets limit growth last h k s j r zs → (system hd sd : ℕ → ℕ) → StartOwned system → Good limit (exists_by s.slots) n last s.anodes system hd sd →
      Head s.anodes.next s.anodes.block h → Shorter s.anodes r.anodes h zs
  meets_blocks {s = s} now system hd sd start g dh = record { rest = []; parted = sym (append-nil (blocks_of s.anodes h)); as_many = refl; the_same = λ x. refl }
  meets_blocks (later {k} {j} {s} {t} {r} {zs} p x d ys next gives m) system hd sd start g dh =
      let (some, few, most, one) = next_fits next in
      let back = run_released grows s start g h dh h1 p x d next.is_last most one t ys gives in
      let w = released_moved (tail-out g h dh h1 p x d next.is_last most) back in
      let b = meets_blocks m (with_these system back.gs) w.hd' w.sd' (λ x l. omega (arith, start x l)) w.good (w.shift.stays h dh) in
      record {
        rest = b.rest ++ ys;
        parted = run-blocks s start g dh next t ys gives ∙ ap (λ (l : List ℕ). l ++ ys) b.parted ∙ append_assoc (blocks_of r.anodes h) b.rest ys;
        as_many = omega (arith, length-append b.rest ys, length-append ys zs, b.as_many);
        the_same = λ x. omega (arith, occurrences-append x b.rest ys, occurrences-append x ys zs, b.the_same x);
      }

  -- k blocks of a chain that has as many go back: the last k of its blocks
  pub runs_blocks : (k : ℕ) (t : Slotted) (zs : List ℕ) (s : Slotted) (system hd sd : ℕ → ℕ) → StartOwned system → Good limit (exists_by s.slots) n last s.anodes system hd sd →
      Head s.anodes.next s.anodes.block h → k ≤ blocks limit hd s.anodes.count h → give_blocks limit growth last k h s ≡ planned t zs →
      (rest : List ℕ) × (blocks_of s.anodes h ≡ blocks_of t.anodes h ++ rest) × (length rest ≡ k) × ((x : ℕ) → occurrences x rest ≡ occurrences x zs)
  unfolding give_blocks
  runs_blocks k t zs s system hd sd start g dh few e =
      let b = meets_blocks (runs_meet limit growth last k k h (omega arith) s t zs e).1 system hd sd start g dh in
      (b.rest, b.parted, b.as_many ∙ (runs_moved grows h h1 k t zs s system hd sd start g dh few e).2, b.the_same)
