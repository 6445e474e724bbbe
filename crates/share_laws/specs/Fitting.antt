-- What 30 and 29 come to: the parties' trees have no directory in common, so what is free and what both use fits the disk; where neither number is given, the blocks that a call needs are free.
use Prim.Native.Nat.{ℕ, zero, suc, ◌+◌, ◌≤◌}
use Rattle.std.specs.Prelude.{◌≡◌, ◌≢◌, ◌⊎◌, Bool, not, ◌&&◌, ◌||◌, List, [], ◌∷◌, ltb}
use Rattle.std.proofs.Math.Path.{refl, sym, ap}
use Rattle.std.proofs.Common.{◌∙◌, inl, inr, true≢false}
use Rattle.std.proofs.Math.Bool.{true, false, cond}
use native.Mathlib.Omega.{arith}
use Rattle.std.proofs.Math.Dec.{eqb, eqb→eq}
use borrow.Author.Tests.{eq-eqb, ltb-false, le-ltb, not-false}
use Rattle.rules.specs.Counting.{sum_list, any_in}
use Rattle.rules.specs.Anodes.{Anodes, limit, anodes_of}
use Rattle.rules.specs.Chains.{block_count}
use Rattle.rules.specs.Walk.{Dir, Item, Entered, entries_in, is_block_of, items_by, reached_dirs}
use Rattle.rules.specs.Accepted.{disk_size}
use Rattle.rules.specs.Lookup.{entries_of}
use Rattle.rules.specs.Changes.{parent_of}
use Rattle.rules.specs.Totals.{free_blocks, file_blocks, directory_blocks, total_in, total}
use Rattle.counting.specs.Laws.{neither, none_or}
use Rattle.laws.specs.Tests.{both}
use Rattle.laws.specs.Bags.{list_add, list_mono, list_congr, gather-sum}
use Rattle.laws.specs.Items.{below, below-items}
use Rattle.laws.specs.Members.{Member, no_member, member-first, member-later, member-cons, member_congr}
use Rattle.change_laws.specs.Image.{AcceptedImage, AcceptedWhole, accepted_whole, accepted-reached, ReachedDir}
use Rattle.change_laws.specs.Reached.{member-reached, reached_dir}
use Rattle.change_laws.specs.Totals.{accepted-total}
use Rattle.share_rules.specs.Shares.{Shares, way_up, lies_in, blocks_at, used_in, used_else, used_by, share_of, over_share, is_top, wrong_tops, unfit}
use Rattle.share_laws.specs.Parents.{entries_weight, its-parent, root-parent}
use Rattle.share_laws.specs.Ways.{not_both, lies_on}

-- ---- tests as facts

-- some element of a list that passes
any_member {ℓ} : {X : Type ℓ} (test : X → Bool) (l : List X) → any_in test l ≡ true → (x : X) × Member x l × (test x ≡ true)
unfolding any_in
any_member test [] e = absurd (true≢false (sym e))
any_member {X = X} test (x ∷ l) e = go (test x) refl e (any_member test l)
  where
    go : (t : Bool) → test x ≡ t → (t || any_in test l) ≡ true → (any_in test l ≡ true → (y : X) × Member y l × (test y ≡ true)) → (y : X) × Member y (x ∷ l) × (test y ≡ true)
    go true i q more = (x, member-first x l, i)
    go false i q more = let r = more q in (r.0, member-later r.0 x l r.1, r.2)

member_any {ℓ} : {X : Type ℓ} (test : X → Bool) (x : X) (l : List X) → Member x l → test x ≡ true → any_in test l ≡ true
unfolding any_in
member_any test x [] m e = absurd (no_member x m)
member_any {X = X} test x (y ∷ l) m e = go (test y) refl (member-cons x y l m) (member_any test x l)
  where
    go : (t : Bool) → test y ≡ t → (x ≡ y) ⊎ Member x l → (Member x l → test x ≡ true → any_in test l ≡ true) → (t || any_in test l) ≡ true
    go true i q rest = refl
    go false i (inl q) rest = absurd (true≢false (sym e ∙ ap test q ∙ i))
    go false i (inr q) rest = rest q e

-- what is used, as sums
module _ (img : List ℕ) (s : Anodes) (sh : Shares) where
  -- what is free and what both parties use fits the disk
  abbrev pub DisjointUse : Type 0
  DisjointUse = free_blocks s + used_in img s sh.first + used_in img s sh.second ≤ disk_size img

  -- a party with so many blocks more is within its share
  abbrev pub WithinShare : ℕ → ℕ → Type 0
  WithinShare party more = used_by img s sh party + more ≤ share_of img sh party

  -- as 29 tests it
  pub not_over : (party more : ℕ) → over_share img s sh party more ≡ false → WithinShare party more
  unfolding over_share
  not_over party more e = ltb-false (share_of img sh party) (used_by img s sh party + more) e

  pub within_share : (party more : ℕ) → WithinShare party more → over_share img s sh party more ≡ false
  unfolding over_share
  within_share party more l = le-ltb (share_of img sh party) (used_by img s sh party + more) l

  -- what fitting shares say
  pub record Fitting : Type 0 where
    pub tops : wrong_tops img s sh ≡ false
    pub first_within : used_in img s sh.first ≤ sh.first_share
    pub second_within : used_in img s sh.second ≤ sh.second_share
    pub all_fit : sh.first_share + sh.second_share + used_else img s sh ≤ disk_size img

  abbrev none-fits : Bool
  none-fits = ltb (disk_size img) (sh.first_share + sh.second_share + used_else img s sh)

  pub fitting_of : unfit img s sh ≡ false → Fitting
  unfolding unfit used_by share_of
  fitting_of e =
      let a = neither (wrong_tops img s sh) (over_share img s sh 1 0 || (over_share img s sh 2 0 || none-fits)) e in
      let b = neither (over_share img s sh 1 0) (over_share img s sh 2 0 || none-fits) a.1 in
      let c = neither (over_share img s sh 2 0) none-fits b.1 in
      record {
        tops = a.0;
        first_within = omega (arith, not_over 1 0 b.0);
        second_within = omega (arith, not_over 2 0 c.0);
        all_fit = ltb-false (disk_size img) (sh.first_share + sh.second_share + used_else img s sh) c.1;
      }

  pub fitting-fit : Fitting → unfit img s sh ≡ false
  unfolding unfit used_by share_of
  fitting-fit f =
      none_or (wrong_tops img s sh) (over_share img s sh 1 0 || (over_share img s sh 2 0 || none-fits)) f.tops
      (none_or (over_share img s sh 1 0) (over_share img s sh 2 0 || none-fits) (within_share 1 0 (omega (arith, f.first_within)))
      (none_or (over_share img s sh 2 0) none-fits (within_share 2 0 (omega (arith, f.second_within))) (le-ltb (disk_size img) (sh.first_share + sh.second_share + used_else img s sh) f.all_fit)))

  -- a party within its share, with what it needs, finds that many free blocks
  pub needs_free : (party more : ℕ) → DisjointUse → Fitting → over_share img s sh party more ≡ false → more ≤ free_blocks s
  unfolding used_else used_by share_of
  needs_free zero more apart fit e = omega (arith, apart, fit.first_within, fit.second_within, fit.all_fit, not_over 0 more e)
  needs_free (suc zero) more apart fit e = omega (arith, apart, fit.second_within, fit.all_fit, not_over 1 more e)
  needs_free (suc (suc p)) more apart fit e = omega (arith, apart, fit.first_within, fit.all_fit, not_over (suc (suc p)) more e)

-- two different directories of the root
pub record TwoTops (img : List ℕ) (s : Anodes) (sh : Shares) : Type 0 where
  pub first_top : is_top img s sh.first ≡ true
  pub second_top : is_top img s sh.second ≡ true
  pub differ : sh.first ≢ sh.second

pub tops_of : (img : List ℕ) (s : Anodes) (sh : Shares) → wrong_tops img s sh ≡ false → TwoTops img s sh
unfolding wrong_tops
tops_of img s sh e =
    let a = neither (not (is_top img s sh.first)) (not (is_top img s sh.second) || eqb sh.first sh.second) e in
    let b = neither (not (is_top img s sh.second)) (eqb sh.first sh.second) a.1 in
    record { first_top = not-false _ a.0; second_top = not-false _ b.0; differ = λ i. true≢false (sym (eq-eqb sh.first sh.second i) ∙ b.1) }

-- ---- in an accepted image

module _ {img : List ℕ} (image : AcceptedImage img) where
  abbrev s : Anodes
  s = anodes_of img

  abbrev dirs : List Dir
  dirs = reached_dirs img s

  abbrev items : Dir → List Item
  items = items_by (entries_in img) (is_block_of img) s

  w : AcceptedWhole img
  w = accepted_whole image

  -- a directory of the root is reached, and its parent is 5
  pub top_reached : (h : ℕ) → is_top img (anodes_of img) h ≡ true → ReachedDir img h × (parent_of (reached_dirs img (anodes_of img)) h ≡ 5)
  unfolding is_top
  top_reached h e =
      let (d, m, t) = any_member (λ d. eqb d.head h && eqb d.parent 5) dirs e in
      let q = both (eqb d.head h) (eqb d.parent 5) (rw t tt) in
      let is : d.head ≡ h = eqb→eq d.head h q.0 in
      (rw is at (member-reached image d m), rw is at (its-parent image d m) ∙ eqb→eq d.parent 5 q.1)

  pub reached_top : {h : ℕ} → ReachedDir img h → parent_of (reached_dirs img (anodes_of img)) h ≡ 5 → is_top img (anodes_of img) h ≡ true
  unfolding is_top
  reached_top {h} r p =
      let (d, m, is) = reached_dir r in
      let q : d.parent ≡ 5 = sym (its-parent image d m) ∙ ap (parent_of dirs) is ∙ p in
      member_any (λ d. eqb d.head h && eqb d.parent 5) d dirs m (rw (eq-eqb d.head h is, eq-eqb d.parent 5 q))

  -- so it is not the root
  pub top_not-root : (h : ℕ) → is_top img (anodes_of img) h ≡ true → h ≢ 5
  top_not-root h e i = absurd (omega (arith, rw i at (top_reached h e).1, root-parent image))

  -- all directories and the files that they name
  all_used : sum_list (λ d. blocks_at img s d.head) dirs ≡ directory_blocks img s + file_blocks img s
  unfolding blocks_at directory_blocks file_blocks
  all_used =
      let own : Dir → ℕ = λ d. block_count s d.head in
      let files : Entered → ℕ = λ e. cond e.dir 0 (block_count s e.anode) in
      let files_at : Item → ℕ = λ i. cond i.dir 0 (block_count s i.anode) in
      let dirs_at : Item → ℕ = λ i. cond i.dir (block_count s i.anode) 0 in
      omega (
        arith,
        list_add own (λ d. sum_list files (entries_of img s d.head)) dirs,
        member_congr (λ d. sum_list files (entries_of img s d.head)) (λ d. sum_list files_at (items d)) dirs (λ d m. sym (entries_weight image (λ b a. cond b 0 (block_count s a)) d m)),
        gather-sum items files_at dirs,
        ap (sum_list files_at) (accepted-reached image),
        w.tree.exact own,
        list_congr (below items own) (λ d. sum_list dirs_at (items d)) dirs (λ d. below-items items own d),
        gather-sum items dirs_at dirs,
        ap (sum_list dirs_at) (accepted-reached image),
      )

  module _ (sh : Shares) (two : TwoTops img (anodes_of img) sh) where
    -- no directory lies in both tops
    pub one_party : (h : ℕ) → lies_in (reached_dirs img (anodes_of img)) sh.first h ≡ true → lies_in (reached_dirs img (anodes_of img)) sh.second h ≡ true → ⊥
    unfolding way_up
    one_party h a b = not_both (parent_of dirs) 5 sh.first sh.second (root-parent image)
        (top_reached sh.first two.first_top).1 (top_reached sh.second two.second_top).1 (top_not-root sh.first two.first_top) (top_not-root sh.second two.second_top) two.differ
        limit h (lies_on dirs sh.first h a) (lies_on dirs sh.second h b)

    used_both : used_in img s sh.first + used_in img s sh.second ≤ sum_list (λ d. blocks_at img s d.head) dirs
    unfolding used_in
    used_both =
        let in1 : Dir → ℕ = λ d. cond (lies_in dirs sh.first d.head) (blocks_at img s d.head) 0 in
        let in2 : Dir → ℕ = λ d. cond (lies_in dirs sh.second d.head) (blocks_at img s d.head) 0 in
        omega (
          arith,
          list_add in1 in2 dirs,
          list_mono (λ d. in1 d + in2 d) (λ d. blocks_at img s d.head) dirs (λ d. one (lies_in dirs sh.first d.head) (lies_in dirs sh.second d.head) (blocks_at img s d.head) (one_party d.head)),
        )
      where
        one : (t u : Bool) (k : ℕ) → (t ≡ true → u ≡ true → ⊥) → cond t k 0 + cond u k 0 ≤ k
        one true true k h = absurd (h refl refl)
        one true false k h = omega arith
        one false true k h = omega arith
        one false false k h = omega arith

    pub disjoint_use : DisjointUse img (anodes_of img) sh
    unfolding total total_in
    disjoint_use = omega (arith, accepted-total image, all_used, used_both)

  -- THE ARITHMETIC OF "27 never comes": where neither 30 nor 29 is given, the blocks that a call needs are free
  pub enough_free : (sh : Shares) (p more : ℕ) → unfit img (anodes_of img) sh ≡ false → over_share img (anodes_of img) sh p more ≡ false → more ≤ free_blocks (anodes_of img)
  enough_free sh p more e o = let f = fitting_of img s sh e in needs_free img s sh p more (disjoint_use sh (tops_of img s sh f.tops)) f o
