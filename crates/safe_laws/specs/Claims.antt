-- 02, No. 8: what is claimed of safe updates. A host does the writes of a done safe call, in the list's order, on the old image; cut off after any number of whole block writes,
-- the image is sound, and holds the old tree as long as the root block is unwritten, the new tree once it is written.
-- Not covered: a block cut off inside its 512 bytes; writes that a drive reorders, drops or puts elsewhere; a list replayed on another image than the one it was made for.
use Rattle.std.specs.Prelude.{ℕ, suc, ◌*◌, ◌≤◌, ◌<◌, ◌≡◌, ◌≢◌, Bool, false, cond, ◌&&◌, List, [], ◌++◌, eqb, length, take, drop, replicate}
use Rattle.std.proofs.Math.Option.{Option, none, some}
use Rattle.endian.specs.Bytes.{be16, stored}
use Rattle.rules.specs.Counting.{occurrences, same_bytes}
use Rattle.rules.specs.Folding.{folded}
use Rattle.rules.specs.Anodes.{anodes_of}
use Rattle.rules.specs.Chains.{system_owns, blocks_of}
use Rattle.rules.specs.Walk.{Entered}
use Rattle.rules.specs.Accepted.{check_answer}
use Rattle.rules.specs.Lookup.{entry_named, of_entry, bytes_of}
use Rattle.rules.specs.Totals.{Sound, free_blocks}
use Rattle.rules.specs.Plans.{Slotted, refused, planned}
use Rattle.rules.specs.Calls.{Outcome, make_outcome, resize_outcome, write_outcome, remove_outcome}
use Rattle.laws.specs.Heads.{Head}
use Rattle.paths.specs.Paths.{Path, Site, site, site_from, of_site}
use Rattle.paths.specs.Facts.{Facts, facts_of, facts_at, SameTree}
use Rattle.safe_rules.specs.SafePlans.{SafeChange, new_blocks, safe_steps}
use Rattle.safe_rules.specs.SafeWrites.{replayed}
use Rattle.safe_rules.specs.SafeCalls.{SafeCall, safe_make, safe_resize, safe_write, safe_remove, safe_refusal, safe_change, SafeOutcome, safe_outcome}

-- ---- the new tree: what 01 says of each change, by paths alone

-- the site that a safe call names
abbrev pub site_of : SafeCall → Site
site_of (safe_make h type name comment day minute tick protection) = site h name
site_of (safe_resize h name new) = site h name
site_of (safe_write h name offset bytes) = site h name
site_of (safe_remove h name) = site h name

-- both are one directory's, and their names are alike after folding
unfoldable pub same_spot : Site → Site → Bool
same_spot p q = eqb p.directory q.directory && same_bytes (folded p.name) (folded q.name)

-- a path leads to a site
unfoldable pub leads_to : List ℕ → Path → Site → Bool
leads_to img path q = of_site (site_from img (anodes_of img) 5 path) (λ p. same_spot p q) false

-- the facts with another size and other bytes
unfoldable pub with_contents : Facts → ℕ → List ℕ → Facts
with_contents f size bytes = record {
  type = f.type;
  name = f.name;
  comment = f.comment;
  day = f.day;
  minute = f.minute;
  tick = f.tick;
  protection = f.protection;
  size = size;
  bytes = bytes;
}

-- f of the facts of the entry at a site
unfoldable pub facts_changed : List ℕ → Site → (Facts → Facts) → Option Facts
facts_changed img p f = of_entry (entry_named img (anodes_of img) p.directory p.name) (λ e. some (f (facts_of img e))) none

-- a new entry's facts: the caller's, with size 0
unfoldable pub new_facts : ℕ → List ℕ → List ℕ → ℕ → ℕ → ℕ → ℕ → Facts
new_facts type name comment day minute tick protection = record {
  type = type;
  name = name;
  comment = comment;
  day = day;
  minute = minute;
  tick = tick;
  protection = protection;
  size = 0;
  bytes = [];
}

-- what stands at that site after the call: make's new entry; a resized file's bytes, cut off or with zeros behind them; a written file's; nothing
unfoldable pub facts_after : List ℕ → SafeCall → Option Facts
facts_after img (safe_make h type name comment day minute tick protection) = some (new_facts type name comment day minute tick protection)
facts_after img (safe_resize h name new) = facts_changed img (site h name) (λ f. with_contents f new (take new (f.bytes ++ replicate new 0)))
facts_after img (safe_write h name offset bytes) = facts_changed img (site h name) (λ f. with_contents f f.size (stored f.bytes offset bytes))
facts_after img (safe_remove h name) = none

-- the new tree: that at every path that leads to the site, and at every other path what was there
unfoldable pub tree_after : List ℕ → SafeCall → Path → Option Facts
tree_after img call path = cond (leads_to img path (site_of call)) (facts_after img call) (facts_at img path)

-- an image holds the new tree
abbrev pub NewTree : List ℕ → SafeCall → List ℕ → Type 0
NewTree img call j = (path : Path) → facts_at j path ≡ tree_after img call path

-- ---- a cut

-- the k-th block number of a list in a buffer
abbrev pub block_at : List ℕ → ℕ → ℕ
block_at buffer k = be16 (drop (k * 514) buffer) 0

-- some blocks are distinct blocks of the old image's free list: they stand there at least as often, and there each stands once
abbrev pub OldFree : List ℕ → List ℕ → Type 0
OldFree img ys = (y : ℕ) → occurrences y ys ≤ occurrences y (blocks_of (anodes_of img) 1)

-- nobody owns block y outside the free list: not the system, and no chain that 1 does not head
pub record NotOwned (img : List ℕ) (y : ℕ) : Type 0 where
  pub not_system : system_owns img y ≡ 0
  pub not-chain : (h : ℕ) → Head (anodes_of img).next (anodes_of img).block h → h ≢ 1 → occurrences y (blocks_of (anodes_of img) h) ≡ 0

-- what holds of a done call on an accepted image
pub record CrashSafe (img : List ℕ) (call : SafeCall) (o : SafeOutcome) : Type 0 where
  -- the root block is written last
  pub last : ℕ
  pub count : o.count ≡ suc last
  pub root-last : block_at o.buffer last ≡ 2
  -- every write before it lands on a block of the old image's free list, and so on none that the old image owns outside it
  pub on_free : (k : ℕ) → k < last → 0 < occurrences (block_at o.buffer k) (blocks_of (anodes_of img) 1)
  pub spares : (k : ℕ) → k < last → NotOwned img (block_at o.buffer k)
  -- each block is written once
  pub once : (k l : ℕ) → k < suc last → l < suc last → block_at o.buffer k ≡ block_at o.buffer l → k ≡ l
  -- cut off before the root's write: sound, with the old tree
  pub old_sound : (k : ℕ) → k < suc last → Sound (replayed k img o.buffer)
  pub old_tree : (k : ℕ) → k < suc last → SameTree img (replayed k img o.buffer)
  -- all writes done: the image that the call left, which is sound, with the new tree
  pub all_done : replayed (suc last) img o.buffer ≡ o.image
  pub new_sound : Sound o.image
  pub new_tree : NewTree img call o.image

-- THE CRASH THEOREM, for every image that the check accepts with the tables that it is lent
abbrev pub CrashTheorem : Type 0
CrashTheorem = (img blocks anodes buffer : List ℕ) (call : SafeCall) → check_answer img (length blocks) (length anodes) ≡ 0 →
    (safe_outcome img blocks anodes buffer call).answer ≡ 0 → CrashSafe img call (safe_outcome img blocks anodes buffer call)

-- ---- 27

-- if there are enough free blocks, no step runs out of them: the only refusal left is 28, and the plan has as many blocks as were counted
pub record CountedSteps (img : List ℕ) (c : SafeChange) : Type 0 where
  pub only_28 : (n : ℕ) → safe_steps img c ≡ refused n → n ≡ 28
  pub as_many : (t : Slotted) (ys : List ℕ) → safe_steps img c ≡ planned t ys → length ys ≡ new_blocks img c

-- 27 is given exactly if the old image's free blocks are fewer than the new blocks
pub record CountHolds (img blocks anodes buffer : List ℕ) (call : SafeCall) : Type 0 where
  pub few_27 : free_blocks (anodes_of img) < new_blocks img (safe_change img call) → (safe_outcome img blocks anodes buffer call).answer ≡ 27
  pub 27-few : (safe_outcome img blocks anodes buffer call).answer ≡ 27 → free_blocks (anodes_of img) < new_blocks img (safe_change img call)

-- THE THEOREM OF 27, for every image that the check accepts and a call that its own table, 20 to 26, does not refuse
abbrev pub CountTheorem : Type 0
CountTheorem = (img blocks anodes buffer : List ℕ) (call : SafeCall) → check_answer img (length blocks) (length anodes) ≡ 0 → safe_refusal img call ≡ 0 → CountHolds img blocks anodes buffer call

-- ---- beside the call in place

-- 01's call of the same arguments
abbrev pub in_place : List ℕ → List ℕ → List ℕ → SafeCall → Outcome
in_place img blocks anodes (safe_make h type name comment day minute tick protection) = make_outcome img blocks anodes h type name comment day minute tick protection
in_place img blocks anodes (safe_resize h name new) = resize_outcome img blocks anodes h name new
in_place img blocks anodes (safe_write h name offset bytes) = write_outcome img blocks anodes h name offset bytes
in_place img blocks anodes (safe_remove h name) = remove_outcome img blocks anodes h name

-- the entry at a site has the same bytes in the blocks of its chain, those behind its size included
abbrev pub SameChainBytes : List ℕ → List ℕ → List ℕ → ℕ → List ℕ → Type 0
SameChainBytes img i j h name = (e : Entered) → entry_named img (anodes_of img) h name ≡ some e → bytes_of j (anodes_of j) e.anode ≡ bytes_of i (anodes_of i) e.anode

-- of a resize and a write: a made entry has no such chain before, a removed one none after
abbrev pub BytesAlike : List ℕ → SafeCall → List ℕ → List ℕ → Type 0
BytesAlike img (safe_make h type name comment day minute tick protection) i j = Unit {0}
BytesAlike img (safe_resize h name new) i j = SameChainBytes img i j h name
BytesAlike img (safe_write h name offset bytes) i j = SameChainBytes img i j h name
BytesAlike img (safe_remove h name) i j = Unit {0}

-- where both are done, both images hold the same tree, and the blocks of the file that is named the same bytes
pub record LikeInPlace (img blocks anodes buffer : List ℕ) (call : SafeCall) : Type 0 where
  pub same_tree : SameTree (in_place img blocks anodes call).image (safe_outcome img blocks anodes buffer call).image
  pub same_bytes : BytesAlike img call (in_place img blocks anodes call).image (safe_outcome img blocks anodes buffer call).image

-- THE THEOREM OF THE SAME EFFECT
abbrev pub EffectTheorem : Type 0
EffectTheorem = (img blocks anodes buffer : List ℕ) (call : SafeCall) → check_answer img (length blocks) (length anodes) ≡ 0 →
    (in_place img blocks anodes call).answer ≡ 0 → (safe_outcome img blocks anodes buffer call).answer ≡ 0 → LikeInPlace img blocks anodes buffer call
