-- The image that a safe resize to another size leaves: the file's entry has that size, its block is in its new place, the file's bytes are in its new blocks, and nothing else is changed. So it is sound and holds the new tree.
use Rattle.std.specs.Prelude.{ℕ, ◌/◌, ◌≡◌, refl, ◌≢◌, List}
use Rattle.std.proofs.Common.{sym, ◌∙◌}
use Rattle.std.proofs.Math.Option.{some}
use Rattle.rules.specs.Anodes.{Anodes, limit, anodes_of}
use Rattle.rules.specs.Chains.{chain_of}
use Rattle.rules.specs.Walk.{Entered, entries_in, is_block_of}
use Rattle.rules.specs.Lookup.{entry_named}
use Rattle.rules.specs.Plans.{Slotted, table_of}
use Rattle.rules.specs.Totals.{Sound}
use Rattle.laws.specs.Heads.{Head}
use Rattle.laws.specs.Members.{occurrences-member}
use Rattle.laws.specs.Space.{on_chain_lem}
use Rattle.change_laws.specs.Image.{accepted_whole, disk_right, whole_accepted}
use Rattle.change_laws.specs.KeptChains.{block_same, contents-same}
use Rattle.change_laws.specs.Reached.{entry-facts, entry-not-1, reached_head, reached-not-1, not-file, member-reached}
use Rattle.safe_rules.specs.SafePlans.{resize_change}
use Rattle.safe_rules.specs.SafeWrites.{new_image}
use Rattle.safe_rules.specs.SafeCalls.{safe_resize}
use Rattle.safe_laws.specs.Claims.{NewTree}
use Rattle.safe_laws.specs.CutOff.{accepted_sound}
use Rattle.safe_laws.specs.RelocatedEntries.{MovedChain, chain_unmoved}
use Rattle.safe_laws.specs.SafeResized.{resized-table, resized_anodes, resized-count, resized_block, resized-home, resized_whole}
use Rattle.safe_laws.specs.ResizedImage.{ResizeDone, image, facts, place_now, place_bytes, resized-bytes, resized-kept, resized-disk}
use Rattle.safe_laws.specs.PlacedEntries.{placed_if, if_fields}
use Rattle.safe_laws.specs.SizedEntries.{entries_now, marks_now}
use Rattle.safe_laws.specs.SizedTree.{FileSized, sized_tree}

module _ {img : List ℕ} {k : ℕ} {e : Entered} {new : ℕ} {t : Slotted} {ys : List ℕ} (p : ResizeDone img k e new t ys) where
  -- the old anodes
  abbrev s : Anodes
  s = anodes_of img

  -- the image that it leaves
  abbrev j : List ℕ
  j = new_image img (resize_change img (table_of img) e new) t ys

  -- a chain that is neither 1's nor the file's has its anodes and extents, but for the moved block
  moved-chain : (h : ℕ) → Head s.next s.block h → h ≢ 1 → h ≢ e.anode → MovedChain (anodes_of img) t.anodes (facts p).a₀ (place_now p) h
  moved-chain h head h1 o = record {
    same_anodes = resized_anodes p.entry new p.differs t ys p.steps h head h1 o;
    same_counts = resized-count p.entry new p.differs t ys p.steps h head h1 o;
    same_blocks = resized_block p.entry new p.differs t ys p.steps h head h1 o;
    own_block = λ on. resized-home p.entry new p.differs t ys p.steps h head h1 o (facts p).a₀ on refl;
  }

  -- the file has its new size and bytes, and nothing else is changed
  pub resized-anew : FileSized img (new_image img (resize_change img (table_of img) e new) t ys) t.anodes p.entry new (place_now p)
  resized-anew = record {
    entries = record {
      anodes = (resized-disk p).anodes;
      chains = λ h r o. moved-chain h (reached_head r) (reached-not-1 r) o;
      blocks-kept = λ h r o a on n. block_same r j (resized-kept p h (reached_head r) (reached-not-1 r)) a on;
      block_now = place_bytes p;
      files = λ h x n file o. let g = entry-facts n in
          contents-same img j x (chain_unmoved (moved-chain x.anode g.head (entry-not-1 g) o)
          (λ on. not-file p.entry.directory g file (sym (facts p).block_facts.on_chain_lem ∙ (on_chain_lem (accepted_whole (image p)).good x.anode g.head (facts p).a₀ on).0)))
          (resized-kept p x.anode g.head (entry-not-1 g));
    };
    bytes-now = resized-bytes p;
  }

  -- THE IMAGE THAT A SAFE RESIZE LEAVES IS SOUND
  pub resized_sound : Sound (new_image img (resize_change img (table_of img) e new) t ys)
  resized_sound = accepted_sound (record {
    blocks = (image p).blocks;
    anodes = (image p).anodes;
    accepted = whole_accepted (resized-disk p)
        (resized_whole p.entry new p.differs t ys p.steps p.file (placed_if (e.start / 512) (place_now p)) (if_fields (e.start / 512) (place_now p)) (entries_in j) (is_block_of j) (λ b in_tree a on.
        let r = member-reached (image p) b in_tree in let at = occurrences-member a (chain_of s.next limit b.head) on in
        (entries_now new resized-anew.entries p.file r a at, marks_now new resized-anew.entries p.file r a at b)))
        (disk_right (image p) (resized-table p.entry new p.differs t ys p.steps).table);
  })

  -- THE NEW TREE OF A SAFE RESIZE
  pub resized_tree : (name : List ℕ) → entry_named img (anodes_of img) k name ≡ some e → NewTree img (safe_resize k name new) (new_image img (resize_change img (table_of img) e new) t ys)
  resized_tree = sized_tree resized-anew p.file
