-- What a done change makes of the blocks that are used in the directories of an accepted image; a write makes nothing of them.
use Rattle.std.specs.Prelude.{ℕ, ◌+◌, ◌≤◌, ◌≡◌, refl, false, eqb}
use Rattle.std.proofs.Common.{sym, ◌∙◌, inl, inr, arith}
use Rattle.std.proofs.Math.Path.{ap, fun_ext}
use Rattle.std.proofs.Math.Bool.{cond}
use mathlib.Core.List.{List}
use Rattle.disk.specs.Root.{slot_of}
use Rattle.rules.specs.Counting.{one_at, sum_below, sum_list}
use Rattle.rules.specs.Anodes.{Anodes, anodes_of}
use Rattle.rules.specs.Chains.{block_count}
use Rattle.rules.specs.Walk.{Dir, Entered, entries_in, is_block_of, items_by, reached_dirs}
use Rattle.rules.specs.Accepted.{disk_size}
use Rattle.rules.specs.Lookup.{entries_of}
use Rattle.rules.specs.Totals.{free_blocks, anode_blocks}
use Rattle.rules.specs.Changes.{parent_of, written}
use Rattle.laws.specs.Sums.{one_at_cases, one_at-same}
use Rattle.laws.specs.Items.{names-sum, named_in}
use Rattle.laws.specs.Frame.{kept-count}
use Rattle.laws.specs.Members.{Member, member-sum, member_congr}
use Rattle.frames.specs.Kept.{disk_size-kept, slot_of-kept}
use Rattle.change_laws.specs.Image.{AcceptedImage, accepted_whole, reached-headed, ReachedDir}
use Rattle.change_laws.specs.KeptChains.{SameChain}
use Rattle.change_laws.specs.Reached.{EntryIn, member-reached, reached_dir}
use Rattle.change_laws.specs.Write.{written-disk, written_entries, written-dirs, write_accepted}
use Rattle.share_rules.specs.Shares.{lies_in, blocks_at, used_in}
use Rattle.share_laws.specs.Parents.{entries_weight}
use Rattle.share_laws.specs.KeptWays.{IsReached, walked_dirs, SameParents, two_heads}

-- a change in the directory h brought `taken` blocks there and gave back `given`
pub record ChangedUse (img j : List ℕ) (h taken given : ℕ) : Type 0 where
  pub image' : AcceptedImage j
  pub same_size : disk_size j ≡ disk_size img
  pub parents : SameParents img j
  -- what is used in a directory that is reached before and after changes by these if h lies in it
  pub used : (top : ℕ) → IsReached img top → IsReached j top →
      used_in j (anodes_of j) top + cond (lies_in (walked_dirs img) top h) given 0 ≡ used_in img (anodes_of img) top + cond (lies_in (walked_dirs img) top h) taken 0
  -- the free blocks and the anode blocks pay for it
  pub paid : free_blocks (anodes_of j) + anode_blocks j + taken ≡ free_blocks (anodes_of img) + anode_blocks img + given

-- ---- chains and entries

-- a chain that stays has as many blocks
pub chain-count : {s t : Anodes} {h : ℕ} → SameChain s t h → block_count t h ≡ block_count s h
chain-count {s} {t} {h} c = kept-count s t h c.same_anodes (λ a p. (c.same_extents a p).0)

-- the anode blocks where slots stay
pub same_anode_blocks : (img j : List ℕ) → slot_of j ≡ slot_of img → anode_blocks j ≡ anode_blocks img
unfolding anode_blocks
same_anode_blocks img j e = ap (λ (f : ℕ → ℕ). sum_below (λ k. cond (eqb (f k) 0) 0 1) 42) e

module _ {img : List ℕ} (image : AcceptedImage img) {h : ℕ} {e : Entered} (m : EntryIn img h e) where
  abbrev s : Anodes
  s = anodes_of img

  -- how often the entries of directory x name its chain
  abbrev names_it : ℕ → ℕ
  names_it x = sum_list (λ c. one_at c.anode e.anode) (entries_of img s x)

  all-names : sum_list (λ d. names_it d.head) (walked_dirs img) ≤ 1
  all-names = omega (
    arith,
    member_congr (λ d. names_it d.head) (named_in (items_by (entries_in img) (is_block_of img) s) e.anode) (walked_dirs img)
        (λ d n. sym (entries_weight image (λ b a. one_at a e.anode) d n) ∙ sym (names-sum e.anode (items_by (entries_in img) (is_block_of img) s d))),
    (accepted_whole image).tree.once e.anode,
  )

  at_home : 1 ≤ names_it h
  at_home = omega (arith, member-sum (λ (c : Entered). one_at c.anode e.anode) e (entries_of img s h) m.member, one_at-same e.anode e.anode refl)

  -- once in its own directory and in no other
  pub names-its : (x : ℕ) → IsReached img x → sum_list (λ c. one_at c.anode e.anode) (entries_of img (anodes_of img) x) ≡ one_at x h
  names-its x r =
      let there : ReachedDir img x = record { image = image; reached = r } in
      let home = reached-headed m.directory in
      let (d, n, is) = reached_dir there in
      let small = member-sum {X = Dir} (λ d. names_it d.head) d (walked_dirs img) n in
      elim (one_at_cases x h) [
        | inl c ↦ omega (arith, c.1, all-names, small, ap names_it is, at_home, ap names_it c.0)
        | inr c ↦ omega (arith, c.1, two_heads image names_it x h c.0 (reached-headed there) home, all-names, at_home)
      ]

-- ---- a write

module _ {img : List ℕ} {h : ℕ} {e : Entered} (m : EntryIn img h e) (file : e.dir ≡ false) (offset : ℕ) (bytes : List ℕ) where
  abbrev j : List ℕ
  j = written img (anodes_of img) e offset bytes

  abbrev image : AcceptedImage img
  image = m.directory.image

  same_anodes : anodes_of j ≡ anodes_of img
  same_anodes = (written-disk m file offset bytes).anodes

  same-dirs : walked_dirs j ≡ walked_dirs img
  same-dirs = ap (reached_dirs j) same_anodes ∙ written-dirs m file offset bytes

  same_at : (d : Dir) → Member d (walked_dirs img) → blocks_at j (anodes_of j) d.head ≡ blocks_at img (anodes_of img) d.head
  unfolding blocks_at
  same_at d n = rw (same_anodes, written_entries m file offset bytes (member-reached image d n))

  same_used : (top : ℕ) → used_in j (anodes_of j) top ≡ used_in img (anodes_of img) top
  unfolding used_in
  same_used top =
      ap (λ (l : List Dir). sum_list (λ d. cond (lies_in l top d.head) (blocks_at j (anodes_of j) d.head) 0) l) same-dirs
      ∙ member_congr (λ d. cond (lies_in (walked_dirs img) top d.head) (blocks_at j (anodes_of j) d.head) 0) (λ d. cond (lies_in (walked_dirs img) top d.head) (blocks_at img (anodes_of img) d.head) 0) (walked_dirs img)
      (λ d n. ap (λ (k : ℕ). cond (lies_in (walked_dirs img) top d.head) k 0) (same_at d n))

  pub write_use : ChangedUse img j h 0 0
  write_use = record {
    image' = record { blocks = image.blocks; anodes = image.anodes; accepted = write_accepted m file offset bytes };
    same_size = disk_size-kept (written-disk m file offset bytes).same.kept;
    parents = λ x a b. ap (λ (l : List Dir). parent_of l x) same-dirs;
    used = λ top a b. omega (arith, same_used top);
    paid = omega (arith, ap free_blocks same_anodes, same_anode_blocks img j (fun_ext (λ k. slot_of-kept (written-disk m file offset bytes).same.kept refl k)));
  }
