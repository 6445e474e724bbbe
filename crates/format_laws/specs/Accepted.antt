-- The check accepts a formatted image, and what its summary says.
use Rattle.std.specs.Prelude.{ℕ, ◌+◌, ◌-◌, ◌≤◌, ◌<◌, ◌≡◌, false, List, [], ◌∷◌, leb}
use Rattle.std.proofs.Common.{ap, leb-true}
use Rattle.rules.specs.Counting.{gather}
use Rattle.rules.specs.Anodes.{Anodes, limit, anodes_of}
use Rattle.rules.specs.Chains.{system_owns, block_count}
use Rattle.rules.specs.Walk.{root, reached, reached_dirs, fault_in}
use Rattle.rules.specs.Accepted.{disk_size, wrong_size, unnamed_chain, check_answer}
use Rattle.rules.specs.Format.{wrong_format, formatted}
use Rattle.counting.specs.Laws.{none-and, any_below-all}
use Rattle.laws.specs.Acceptance.{Passed, passed-accepted, Tested, passes_tested}
use Rattle.format.proofs.Laws.{Taken, taken}
use Rattle.format_laws.specs.Anodes.{Laid, laid}
use Rattle.format_laws.specs.Links.{laid_cleared, no_head, free-blocks}
use Rattle.format_laws.specs.Owners.{system_owns_lem}
use Rattle.format_laws.specs.Passes.{laid_passes}
use Rattle.format_laws.specs.Blocks.{disk_size_lem, size_right, tables_long, type_right, last_is, root_right, slots_right}
use Rattle.format_laws.specs.Walk.{walked, no_items}

module _ (img : List ℕ) (last k : ℕ) (name : List ℕ) (day minute tick protection : ℕ) (size : wrong_size img ≡ false) (good : wrong_format img last k name ≡ false) where
  abbrev disk : List ℕ
  disk = formatted img last k name day minute tick protection

  abbrev s : Anodes
  s = anodes_of disk

  args : Taken img last k name
  args = taken img last k name size good

  anodes_laid : Laid s (disk_size img) last k
  anodes_laid = laid img last k name day minute tick protection args

  tested : Tested s (disk_size img) last (system_owns disk)
  tested = passes_tested s (disk_size img) last (system_owns disk) (laid_cleared anodes_laid)
      (laid_passes anodes_laid (system_owns disk) (system_owns_lem img last k name day minute tick protection args))

  named : (x : ℕ) → x < limit → unnamed_chain disk s x ≡ false
  unfolding unnamed_chain
  named x l = none-and (leb 6 x) _ (λ h. rw (no_head anodes_laid x (leb-true 6 x h)))

  passed : (blocks anodes : ℕ) → disk_size img ≤ blocks → limit ≤ anodes → Passed disk blocks anodes
  passed blocks anodes b a = record {
    size_right = size_right img last k name day minute tick protection size;
    tables_long = tables_long img last k name day minute tick protection blocks anodes b a;
    type_right = type_right img last k name day minute tick protection args;
    root_right = root_right img last k name day minute tick protection args;
    slots_right = slots_right img last k name day minute tick protection args;
    tested = rw (disk_size_lem img last k name day minute tick protection, last_is img last k name day minute tick protection args) tested;
    walked = ap fault_in (walked img last k name day minute tick protection args s anodes_laid);
    all_named = any_below-all (unnamed_chain disk s) limit named;
  }

  -- lent tables that are long enough, the check answers 0
  pub formatted-accepted : (blocks anodes : ℕ) → disk_size img ≤ blocks → limit ≤ anodes → check_answer disk blocks anodes ≡ 0
  formatted-accepted blocks anodes b a = passed-accepted disk blocks anodes (passed blocks anodes b a)

  -- ---- what its summary says

  -- the blocks from 4 + k on are free
  pub formatted-free : block_count s 1 ≡ disk_size img - (4 + k)
  formatted-free = free-blocks anodes_laid

  -- the root directory alone
  pub formatted-dirs : reached_dirs disk s ≡ root ∷ []
  unfolding reached_dirs
  formatted-dirs = rw (walked img last k name day minute tick protection args s anodes_laid)

  -- no file and no other directory
  pub formatted-items : reached disk s ≡ []
  unfolding reached gather
  formatted-items = rw (formatted-dirs, no_items img last k name day minute tick protection args s anodes_laid)
