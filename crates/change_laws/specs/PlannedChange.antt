-- A change of an entry of an accepted image with its plan, as a resize and a removal have it: what is known of the entry, of its chain and of its block.
use Rattle.std.specs.Prelude.{ℕ, ◌/◌, ◌<◌, ◌≡◌, refl, ◌≢◌, List}
use Rattle.std.proofs.Common.{◌∙◌, arith}
use Rattle.rules.specs.Counting.{occurrences}
use Rattle.rules.specs.Anodes.{Anodes, anodes_of}
use Rattle.rules.specs.Chains.{blocks_of}
use Rattle.rules.specs.Walk.{Entered}
use Rattle.rules.specs.Plans.{Slotted, Plan, refused, planned}
use Rattle.rules.specs.Changes.{Left, left, left_by}
use Rattle.laws.specs.Heads.{Head}
use Rattle.frames.specs.DisjointBlocks.{chains_apart}
use Rattle.change_laws.specs.Image.{AcceptedWhole, AcceptedImage, accepted_whole}
use Rattle.change_laws.specs.Reached.{EntryIn, EntryFacts, entry-not-1, block_on, reached_head, entry-facts}
use Rattle.change_laws.specs.SingleBlocks.{single_apart}

-- what a change leaves, by the two ways that its plan can end
pub left_cases : (P : Left → Type 0) (img : List ℕ) (f : Slotted → List ℕ → List ℕ) (plan : Plan Slotted) → ((k : ℕ) → plan ≡ refused k → P (left k img)) →
    ((t : Slotted) (ys : List ℕ) → plan ≡ planned t ys → P (left 0 (f t ys))) → P (left_by plan img (λ t ys. left 0 (f t ys)))
left_cases P img f (refused k) stopped done = stopped k refl
left_cases P img f (planned t ys) stopped done = done t ys refl

-- Plans: what is known of the plan
pub record PlannedChange (img : List ℕ) (e : Entered) (Plans : Type 0) : Type 0 where
  -- the directory that has the entry
  pub home : ℕ
  pub entry : EntryIn img home e
  pub plan : Plans

module _ {img : List ℕ} {e : Entered} {Plans : Type 0} (p : PlannedChange img e Plans) where
  abbrev s : Anodes
  s = anodes_of img

  abbrev pub image : AcceptedImage img
  image = p.entry.directory.image

  pub w : AcceptedWhole img
  w = accepted_whole image

  -- what is known of the entry
  abbrev pub facts : EntryFacts img p.home e
  facts = entry-facts p.entry

  pub not-1 : e.anode ≢ 1
  not-1 = entry-not-1 facts

  pub home_head : Head s.next s.block p.home
  home_head = reached_head p.entry.directory

  -- the block that the entry stands in is of its own directory's chain alone
  pub off_chain : (m : ℕ) → Head s.next s.block m → m ≢ p.home → (z : ℕ) → 0 < occurrences z (blocks_of s m) → z ≢ e.start / 512
  off_chain m d apart z q i =
      omega (arith, chains_apart w.good m p.home d home_head apart z q, rw (← (i ∙ facts.in_block_lem)) at (block_on s p.home facts.a₀ facts.member-chain facts.block_facts.one))

  -- and no other anode's that has one block
  pub off_anode : (a : ℕ) → s.count a ≡ 1 → a ≢ facts.a₀ → s.block a ≢ e.start / 512
  off_anode a one n i = single_apart w.good a one facts.a₀ facts.block_facts.one n (i ∙ facts.in_block_lem)
