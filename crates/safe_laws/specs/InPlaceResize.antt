-- The image that a resize in place leaves: the file's entry has the new size where it stands, its blocks the bytes that a resize leaves there, and nothing else is changed. So it holds the new tree.
use Rattle.std.specs.Prelude.{ℕ, ◌*◌, ◌/◌, ◌≤◌, ◌≡◌, List, length}
use Rattle.std.proofs.Math.Path.{sym}
use Rattle.std.proofs.Common.{◌∙◌, arith}
use Rattle.std.proofs.Math.Logic.{inl, inr}
use Rattle.std.proofs.Math.Option.{some}
use Rattle.rules.specs.Anodes.{anodes_of}
use Rattle.rules.specs.Walk.{Entered, blocks_for}
use Rattle.rules.specs.Lookup.{entry_named, bytes_of, contents}
use Rattle.rules.specs.Plans.{Slotted}
use Rattle.rules.specs.Changes.{resized_image}
use Rattle.laws.specs.Tests.{less?}
use Rattle.change_laws.specs.PlannedChange.{facts}
use Rattle.change_laws.specs.Read.{bytes_long}
use Rattle.change_laws.specs.ResizeContents.{contents-resized_other, bytes_shrunk, bytes-grown}
use Rattle.change_laws.specs.ResizeEntries.{home_block}
use Rattle.change_laws.specs.ResizeStores.{PlannedResize, dir_same, other_block, resized-disk}
use Rattle.safe_rules.specs.SafePlans.{resized_bytes}
use Rattle.safe_rules.specs.SafeCalls.{safe_resize}
use Rattle.safe_laws.specs.Claims.{NewTree}
use Rattle.safe_laws.specs.RelocatedEntries.{chain_stays}
use Rattle.safe_laws.specs.ResizedBytes.{resized_shorter, resized-longer}
use Rattle.safe_laws.specs.SizedTree.{FileSized, sized_tree}

module _ {img : List ℕ} {e : Entered} {new : ℕ} {u : Slotted} {ys : List ℕ} (p : PlannedResize img e new u ys) where
  -- the bytes of the file's blocks before
  abbrev held : List ℕ
  held = bytes_of img (anodes_of img) e.anode

  -- the size is within them
  within : e.size ≤ length held
  unfolding blocks_for
  within = omega (arith, bytes_long p.entry p.plan.file)

  -- a file that does not grow has as many blocks already
  enough : new ≤ e.size → blocks_for new * 512 ≤ length held
  unfolding blocks_for
  enough less = omega (arith, less, bytes_long p.entry p.plan.file)

  -- the bytes of its blocks afterwards
  bytes-here : bytes_of (resized_image img (anodes_of img) e new u ys) u.anodes e.anode ≡ resized_bytes (bytes_of img (anodes_of img) e.anode) e.size new
  unfolding contents
  bytes-here = elim (less? e.size new) [
    | inl more ↦ bytes-grown p more ∙ sym (resized-longer held e.size new within more)
    | inr less ↦ bytes_shrunk p less ∙ sym (resized_shorter held e.size new within less (enough less))
  ]

  -- the file is resized where it is, and nothing else is changed
  pub resized-here : FileSized img (resized_image img (anodes_of img) e new u ys) u.anodes p.entry new (e.start / 512)
  resized-here = record {
    entries = record {
      anodes = (resized-disk p).anodes;
      chains = λ k r o. chain_stays (dir_same p r) (facts p).a₀ (e.start / 512) (sym (facts p).in_block_lem);
      blocks-kept = λ k r o a on n. other_block p r a on n;
      block_now = home_block p;
      files = λ k x n file o. contents-resized_other p n file o;
    };
    bytes-now = bytes-here;
  }

  -- THE NEW TREE OF A RESIZE IN PLACE
  pub resize_tree : (name : List ℕ) → entry_named img (anodes_of img) p.home name ≡ some e → NewTree img (safe_resize p.home name new) (resized_image img (anodes_of img) e new u ys)
  resize_tree = sized_tree resized-here p.plan.file
