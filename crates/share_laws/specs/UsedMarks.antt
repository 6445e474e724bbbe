-- The use of a directory as one pass over the block table finds it, where each chain of what lies there is marked.
use Rattle.std.specs.Prelude.{ℕ, ◌+◌, ◌*◌, ◌≤◌, ◌<◌, ◌≡◌, ◌≢◌, Bool, eqb, leb, get_or}
use Rattle.std.proofs.Math.Path.{refl, sym, ap}
use Rattle.std.proofs.Common.{◌∙◌, inl, inr, true≢false, add-mul, eq-eqb, ne_eqb, leb-true, leb-false}
use Rattle.std.proofs.Math.Bool.{true, false, cond}
use mathlib.Core.List.{List, ◌++◌}
use native.Mathlib.Omega.{arith}
use Rattle.rules.specs.Counting.{one_at, sum_below, sum_list, occurrences}
use Rattle.rules.specs.Anodes.{Anodes, limit, anodes_of}
use Rattle.rules.specs.Chains.{blocks_of, block_count}
use Rattle.rules.specs.Walk.{Dir, Entered, entries_in, is_block_of, items_by}
use Rattle.rules.specs.Accepted.{disk_size}
use Rattle.rules.specs.Lookup.{entries_of}
use Rattle.rules.specs.Tables.{block_table}
use Rattle.laws.specs.Tests.{less?, not_above}
use Rattle.laws.specs.Sums.{one_at_cases, one_at-same, one_at_some, one_at_other, sum_congr, sum-zero, sum-add, sum_swap, sum_pick}
use Rattle.laws.specs.Bags.{list_zero, list_add, list_mono, list_scale, list_some, list_swap, list_length, sum_by_occurrences}
use Rattle.laws.specs.Heads.{Head}
use Rattle.laws.specs.ChainBlocks.{length-blocks_of}
use Rattle.laws.specs.Items.{names-sum, named_in, headed}
use Rattle.laws.specs.Members.{Member, member-sum, member_congr}
use Rattle.frames.specs.DisjointBlocks.{chain_once, chain_block}
use Rattle.table_laws.specs.ShownOwners.{shown_on}
use Rattle.change_laws.specs.Image.{AcceptedImage, accepted_whole, headed-reached, ReachedDir, reached-headed}
use Rattle.change_laws.specs.Reached.{EntryIn, entry-facts, member-reached, reached_dir, reached_head, not-file}
use Rattle.share_rules.specs.Shares.{lies_in, blocks_at, used_in}
use Rattle.share_laws.specs.Parents.{entries_weight}
use Rattle.share_laws.specs.KeptWays.{IsReached, walked_dirs, head_sum}

-- exactly the directories that lie in top are marked, and the files that they name
pub record MarksOf (img : List ℕ) (top : ℕ) (mark : ℕ → Bool) : Type 0 where
  pub of_directory : (x : ℕ) → IsReached img x → mark x ≡ lies_in (walked_dirs img) top x
  pub of_file : (h : ℕ) (e : Entered) → EntryIn img h e → e.dir ≡ false → mark e.anode ≡ lies_in (walked_dirs img) top h
  pub no_other : (x : ℕ) → (IsReached img x → ⊥) → ((h : ℕ) (e : Entered) → EntryIn img h e → e.dir ≡ false → e.anode ≢ x) → mark x ≡ false

module _ {img : List ℕ} (image : AcceptedImage img) {top : ℕ} {mark : ℕ → Bool} (marks : MarksOf img top mark) where
  abbrev s : Anodes
  s = anodes_of img

  abbrev dirs : List Dir
  dirs = walked_dirs img

  -- the blocks of a marked chain
  abbrev marked : ℕ → ℕ
  marked x = cond (mark x) (block_count s x) 0

  -- 1 where a file's entry names x
  abbrev its : ℕ → Entered → ℕ
  its x e = cond e.dir 0 (one_at e.anode x)

  abbrev file_names : ℕ → ℕ
  file_names x = sum_list (λ d. sum_list (its x) (entries_of img s d.head)) dirs

  entry_of : (d : Dir) → Member d dirs → (e : Entered) → Member e (entries_of img s d.head) → EntryIn img d.head e
  entry_of d m e n = record { directory = member-reached image d m; member = n }

  -- ---- directory by directory

  one_dir : (d : Dir) → Member d dirs → cond (lies_in dirs top d.head) (blocks_at img s d.head) 0 ≡ marked d.head + sum_list (λ e. cond e.dir 0 (marked e.anode)) (entries_of img s d.head)
  unfolding blocks_at
  one_dir d m =
      let l = entries_of img s d.head in
      let r = (member-reached image d m).reached in
      omega (
        arith,
        ap (λ (b : Bool). cond b (block_count s d.head) 0) (marks.of_directory d.head r),
        split (lies_in dirs top d.head) (block_count s d.head) (λ e. cond e.dir 0 (block_count s e.anode)) l,
        member_congr (λ e. cond (lies_in dirs top d.head) (cond e.dir 0 (block_count s e.anode)) 0) (λ e. cond e.dir 0 (marked e.anode)) l (λ e n. at e n e.dir refl),
      )
    where
      split : (b : Bool) (k : ℕ) (f : Entered → ℕ) (l : List Entered) → cond b (k + sum_list f l) 0 ≡ cond b k 0 + sum_list (λ e. cond b (f e) 0) l
      split true k f l = refl
      split false k f l = omega (arith, list_zero {X = Entered} (λ e. 0) l (λ e. refl))

      at : (e : Entered) → Member e (entries_of img s d.head) → (b : Bool) → e.dir ≡ b → cond (lies_in dirs top d.head) (cond b 0 (block_count s e.anode)) 0 ≡ cond b 0 (marked e.anode)
      at e n true q = none (lies_in dirs top d.head)
        where
          none : (b : Bool) → cond {A = ℕ} b 0 0 ≡ 0
          none true = refl
          none false = refl
      at e n false q = ap (λ (b : Bool). cond b (block_count s e.anode) 0) (sym (marks.of_file d.head e (entry_of d m e n) q))

  -- ---- chain by chain

  one-file : (d : Dir) → Member d dirs → (e : Entered) → Member e (entries_of img s d.head) → cond e.dir 0 (marked e.anode) ≡ sum_below (λ x. its x e * marked x) limit
  one-file d m e n = go e.dir
    where
      go : (b : Bool) → cond b 0 (marked e.anode) ≡ sum_below (λ x. cond b 0 (one_at e.anode x) * marked x) limit
      go true = sym (sum-zero (λ x. 0 * marked x) limit (λ x l. omega arith))
      go false = sym (sum_pick marked e.anode limit (entry-facts (entry_of d m e n)).below)

  all-files : sum_list (λ d. sum_list (λ e. cond e.dir 0 (marked e.anode)) (entries_of img s d.head)) dirs ≡ sum_below (λ x. file_names x * marked x) limit
  all-files =
      member_congr (λ d. sum_list (λ e. cond e.dir 0 (marked e.anode)) (entries_of img s d.head)) (λ d. sum_below (λ x. sum_list (its x) (entries_of img s d.head) * marked x) limit) dirs
      (λ d m. let l = entries_of img s d.head in
      member_congr (λ e. cond e.dir 0 (marked e.anode)) (λ e. sum_below (λ x. its x e * marked x) limit) l (one-file d m)
      ∙ list_swap (λ e x. its x e * marked x) l limit ∙ sum_congr (λ x. sum_list (λ e. its x e * marked x) l) (λ x. sum_list (its x) l * marked x) limit (λ x q. list_scale (its x) (marked x) l))
      ∙ list_swap (λ (d : Dir) x. sum_list (its x) (entries_of img s d.head) * marked x) dirs limit
      ∙ sum_congr (λ x. sum_list (λ d. sum_list (its x) (entries_of img s d.head) * marked x) dirs) (λ x. file_names x * marked x) limit (λ x q. list_scale (λ (d : Dir). sum_list (its x) (entries_of img s d.head)) (marked x) dirs)

  -- a chain is a directory's, or a file names it once, or it is not marked
  names_few : (x : ℕ) → file_names x ≤ 1
  names_few x = omega (
    arith,
    list_mono (λ d. sum_list (its x) (entries_of img s d.head)) (λ d. sum_list (λ e. one_at e.anode x) (entries_of img s d.head)) dirs (λ d. list_mono (its x) (λ e. one_at e.anode x) (entries_of img s d.head) (λ e. le e.dir (one_at e.anode x))),
    member_congr (λ d. sum_list (λ e. one_at e.anode x) (entries_of img s d.head)) (named_in (items_by (entries_in img) (is_block_of img) s) x) dirs
        (λ d m. sym (entries_weight image (λ b a. one_at a x) d m) ∙ sym (names-sum x (items_by (entries_in img) (is_block_of img) s d))),
    (accepted_whole image).tree.once x,
  )
    where
      le : (b : Bool) (k : ℕ) → cond b 0 k ≤ k
      le true k = omega arith
      le false k = omega arith

  -- a file that names it
  named_by : (x : ℕ) → 0 < file_names x → (h : ℕ) × (e : Entered) × EntryIn img h e × (e.dir ≡ false) × (e.anode ≡ x)
  named_by x p =
      let (d, m, q) = list_some (λ (d : Dir). sum_list (its x) (entries_of img s d.head)) dirs p in
      let (e, n, k) = list_some (its x) (entries_of img s d.head) q in
      let (file, is) = one e.dir e.anode k in
      (d.head, e, entry_of d m e n, file, is)
    where
      one : (b : Bool) (a : ℕ) → 0 < cond b 0 (one_at a x) → (b ≡ false) × (a ≡ x)
      one true a q = absurd (omega arith)
      one false a q = (refl, one_at_some a x q)

  names_it : (x h : ℕ) (e : Entered) → EntryIn img h e → e.dir ≡ false → e.anode ≡ x → 0 < file_names x
  names_it x h e n file is =
      let (d, m, at) = reached_dir n.directory in
      omega (
        arith,
        member-sum {X = Dir} (λ d. sum_list (its x) (entries_of img s d.head)) d dirs m,
        ap (λ (k : ℕ). sum_list (its x) (entries_of img s k)) at,
        member-sum (its x) e (entries_of img s h) n.member,
        ap (λ (b : Bool). cond b 0 (one_at e.anode x)) file,
        one_at-same e.anode x is,
      )

  counted_once : (x : ℕ) → (headed x dirs + file_names x) * marked x ≡ marked x
  counted_once x = elim (less? 0 (headed x dirs)) [
    | inl p ↦ (let r : ReachedDir img x = record { image = image; reached = headed-reached img s x p } in
        let none : file_names x ≡ 0 = not_above (file_names x) (λ q. let (h, e, n, file, is) = named_by x q in not-file r (entry-facts n) file (sym is)) in
        let one : headed x dirs + file_names x ≡ 1 = omega (arith, reached-headed r, none) in
        rw one (omega arith))
    | inr p ↦ elim (less? 0 (file_names x)) [
      | inl q ↦ (let one : headed x dirs + file_names x ≡ 1 = omega (arith, names_few x) in rw one (omega arith))
      | inr q ↦ rw (marks.no_other x (λ r. let there : ReachedDir img x = record { image = image; reached = r } in omega (arith, p, reached-headed there)) (λ h e n file is. omega (arith, q, names_it x h e n file is))) (omega arith)
    ]
  ]

  -- WHAT IS USED IN top are the blocks of the marked chains
  pub used_marked : used_in img (anodes_of img) top ≡ sum_below (λ x. cond (mark x) (block_count (anodes_of img) x) 0) limit
  unfolding used_in
  used_marked =
      member_congr (λ d. cond (lies_in dirs top d.head) (blocks_at img s d.head) 0) (λ d. marked d.head + sum_list (λ e. cond e.dir 0 (marked e.anode)) (entries_of img s d.head)) dirs one_dir
      ∙ omega (
        arith,
        list_add (λ (d : Dir). marked d.head) (λ d. sum_list (λ e. cond e.dir 0 (marked e.anode)) (entries_of img s d.head)) dirs,
        head_sum image marked,
        all-files,
        sum-add (λ x. headed x dirs * marked x) (λ x. file_names x * marked x) limit,
        sum_congr (λ x. headed x dirs * marked x + file_names x * marked x) marked limit (λ x l. sym (add-mul (headed x dirs) (file_names x) (marked x)) ∙ counted_once x),
      )

  -- ---- block by block

  -- a marked chain has a head
  mark_head : (x : ℕ) → mark x ≡ true → Head s.next s.block x
  mark_head x e = elim (less? 0 (headed x dirs)) [
    | inl p ↦ (let r : ReachedDir img x = record { image = image; reached = headed-reached img s x p } in reached_head r)
    | inr p ↦ elim (less? 0 (file_names x)) [
      | inl q ↦ (let (h, c, n, file, is) = named_by x q in rw is at (entry-facts n).head)
      | inr q ↦ absurd (true≢false (sym e ∙ marks.no_other x (λ r. let there : ReachedDir img x = record { image = image; reached = r } in omega (arith, p, reached-headed there)) (λ h c n file is. omega (arith, q, names_it x h c n file is))))
    ]
  ]

  module _ (table rest : List ℕ) (is : table ≡ block_table img (anodes_of img) ++ rest) where
    -- the blocks of a chain, by the table
    chain_shown : (x : ℕ) → Head s.next s.block x → block_count s x ≡ sum_below (λ y. one_at (get_or table y 0) x) (disk_size img)
    chain_shown x d =
        let g = (accepted_whole image).good in
        sym (length-blocks_of s x) ∙ sym (list_length (blocks_of s x))
        ∙ sum_by_occurrences (λ y. 1) (blocks_of s x) (disk_size img) (λ y l. not_above (occurrences y (blocks_of s x)) (λ p. omega (arith, l, (chain_block img g x d y p).below)))
        ∙ sum_congr (λ y. occurrences y (blocks_of s x) * 1) (λ y. one_at (get_or table y 0) x) (disk_size img) (λ y l. shown (get_or table y 0) (occurrences y (blocks_of s x)) (chain_once g x d y) (shown_on img image.blocks image.anodes image.accepted x d table rest is y l))
      where
        shown : (a k : ℕ) → k ≤ 1 → eqb a x ≡ leb 1 k → k * 1 ≡ one_at a x
        shown a k few e = elim (one_at_cases a x) [
          | inl c ↦ omega (arith, c.1, few, leb-true 1 k (sym e ∙ eq-eqb a x c.0))
          | inr c ↦ omega (arith, c.1, leb-false 1 k (sym e ∙ ne_eqb a x c.0))
        ]

    -- a block with a marked owner
    one_block : (a : ℕ) → sum_below (λ x. one_at a x * cond (mark x) 1 0) limit ≡ cond (mark a) 1 0
    one_block a = elim (less? a limit) [
      | inl l ↦ sum_pick (λ x. cond (mark x) 1 0) a limit l
      | inr l ↦ sum-zero (λ x. one_at a x * cond (mark x) 1 0) limit (λ x q. rw (one_at_other a x (λ i. omega (arith, i, l, q))) (omega arith)) ∙ sym (beyond (mark a) refl l)
    ]
      where
        beyond : (b : Bool) → mark a ≡ b → limit ≤ a → cond {A = ℕ} b 1 0 ≡ 0
        beyond true e l = absurd (omega (arith, (accepted_whole image).good.linked.view.below a (mark_head a e).in_use, l))
        beyond false e l = refl

    -- ONE PASS over the block table counts them: the blocks whose owner is marked
    pub used_shown : used_in img (anodes_of img) top ≡ sum_below (λ y. cond (mark (get_or table y 0)) 1 0) (disk_size img)
    used_shown =
        used_marked
        ∙ sum_congr marked (λ x. sum_below (λ y. one_at (get_or table y 0) x * cond (mark x) 1 0) (disk_size img)) limit (λ x l. each x (mark x) refl)
        ∙ sum_swap (λ x y. one_at (get_or table y 0) x * cond (mark x) 1 0) limit (disk_size img)
        ∙ sum_congr (λ y. sum_below (λ x. one_at (get_or table y 0) x * cond (mark x) 1 0) limit) (λ y. cond (mark (get_or table y 0)) 1 0) (disk_size img) (λ y l. one_block (get_or table y 0))
      where
        each : (x : ℕ) (b : Bool) → mark x ≡ b → cond b (block_count s x) 0 ≡ sum_below (λ y. one_at (get_or table y 0) x * cond b 1 0) (disk_size img)
        each x true e = chain_shown x (mark_head x e) ∙ sum_congr (λ y. one_at (get_or table y 0) x) (λ y. one_at (get_or table y 0) x * 1) (disk_size img) (λ y l. omega arith)
        each x false e = sym (sum-zero (λ y. one_at (get_or table y 0) x * 0) (disk_size img) (λ y l. omega arith))
