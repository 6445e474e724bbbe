-- The parents of the directories of an accepted image: found in the walk's list, and named by an entry there.
use Prim.Native.Nat.{ℕ, ◌*◌, ◌≤◌, ◌<◌}
use Rattle.std.specs.Prelude.{◌≡◌, refl, ◌≢◌, Bool, true, false, cond, List, [], ◌∷◌}
use Rattle.std.proofs.Math.Path.{sym, ap}
use Rattle.std.proofs.Common.{◌∙◌, inl, inr, arith, eq-eqb, ne_eqb}
use Rattle.rules.specs.Counting.{one_at, sum_list}
use Rattle.rules.specs.Anodes.{Anodes, limit, anodes_of}
use Rattle.rules.specs.Chains.{chain_of}
use Rattle.rules.specs.Walk.{Dir, Entered, Item, entries_in, is_block_of, item_of, items_at, items_by, reached_dirs}
use Rattle.rules.specs.Lookup.{entries_of}
use Rattle.rules.specs.Changes.{parent_of}
use Rattle.laws.specs.Tests.{same?}
use Rattle.laws.specs.Sums.{one_at_cases, one_at-same, one_at_some, one_at_other}
use Rattle.laws.specs.Bags.{list_nil, list_cons, list_some, list_congr, gather-sum, map-sum}
use Rattle.laws.specs.Items.{below, below-items, headed}
use Rattle.laws.specs.Entries.{item_anode, item_dir, items-sum}
use Rattle.laws.specs.Members.{Member, no_member, member-cons, member-sum, member_congr}
use Rattle.change_laws.specs.Image.{AcceptedImage, AcceptedWhole, accepted_whole, headed-reached, ReachedDir, reached-headed}
use Rattle.change_laws.specs.Reached.{its-items, EntryIn, member-reached}
use Rattle.paths.specs.Reached.{dir_weight}

-- ---- in any list of directories

-- no directory has the head h: its parent is 0
pub unheaded_parent : (h : ℕ) (l : List Dir) → headed h l ≡ 0 → parent_of l h ≡ 0
unfolding parent_of
unheaded_parent h [] z = refl
unheaded_parent h (x ∷ l) z = elim (one_at_cases x.head h) [
  | inl c ↦ absurd (omega (arith, z, list_cons {X = Dir} (λ d. one_at d.head h) x l, c.1))
  | inr c ↦ rw (ne_eqb x.head h c.0) (unheaded_parent h l (omega (arith, z, list_cons {X = Dir} (λ d. one_at d.head h) x l)))
]

-- where no more than one has it, that one's parent counts
pub parent-sum : (h : ℕ) (l : List Dir) → headed h l ≤ 1 → parent_of l h ≡ sum_list (λ d. one_at d.head h * d.parent) l
unfolding parent_of
parent-sum h [] one = sym (list_nil {X = Dir} (λ d. one_at d.head h * d.parent))
parent-sum h (x ∷ l) one =
    let heads = list_cons {X = Dir} (λ d. one_at d.head h) x l in
    let all = list_cons {X = Dir} (λ d. one_at d.head h * d.parent) x l in
    elim (one_at_cases x.head h) [
      | inl c ↦ rw (eq-eqb x.head h c.0) (omega (
        arith,
        all,
        ap (λ (k : ℕ). k * x.parent) c.1,
        parent-sum h l (omega (arith, one, heads)),
        unheaded_parent h l (omega (arith, one, heads, c.1)),
      ))
      | inr c ↦ rw (ne_eqb x.head h c.0) (omega (arith, all, ap (λ (k : ℕ). k * x.parent) c.1, parent-sum h l (omega (arith, one, heads))))
    ]

-- the parent of the one that has the head h
pub parent-found : (h : ℕ) (l : List Dir) (d : Dir) → headed h l ≤ 1 → Member d l → d.head ≡ h → parent_of l h ≡ d.parent
unfolding parent_of
parent-found h [] d one m e = absurd (no_member d m)
parent-found h (x ∷ l) d one m e =
    let heads = list_cons {X = Dir} (λ y. one_at y.head h) x l in
    elim (same? x.head h) [
      | inl i ↦ elim (member-cons d x l m) [
        | inl q ↦ rw (eq-eqb x.head h i) (ap (λ (y : Dir). y.parent) (sym q))
        | inr q ↦ absurd (omega (arith, one, heads, one_at-same x.head h i, member-sum {X = Dir} (λ y. one_at y.head h) d l q, one_at-same d.head h e))
      ]
      | inr i ↦ elim (member-cons d x l m) [
        | inl q ↦ absurd (i (ap (λ (y : Dir). y.head) (sym q) ∙ e))
        | inr q ↦ rw (ne_eqb x.head h i) (parent-found h l d (omega (arith, one, heads)) q e)
      ]
    ]

-- ---- in an accepted image

module _ {img : List ℕ} (image : AcceptedImage img) where
  abbrev s : Anodes
  s = anodes_of img

  abbrev dirs : List Dir
  dirs = reached_dirs img s

  abbrev items : Dir → List Item
  items = items_by (entries_in img) (is_block_of img) s

  w : AcceptedWhole img
  w = accepted_whole image

  -- what a directory's items name is what its entries name
  pub entries_weight : (F : Bool → ℕ → ℕ) (d : Dir) → Member d (reached_dirs img (anodes_of img)) →
      sum_list (λ i. F i.dir i.anode) (items_by (entries_in img) (is_block_of img) (anodes_of img) d) ≡ sum_list (λ e. F e.dir e.anode) (entries_of img (anodes_of img) d.head)
  unfolding entries_of
  entries_weight F d m =
      let f : Item → ℕ = λ i. F i.dir i.anode in
      let g : Entered → ℕ = λ e. F e.dir e.anode in
      let chain = chain_of s.next limit d.head in
      items-sum (entries_in img) (is_block_of img) s d f
      ∙ member_congr (λ a. sum_list f (items_at (entries_in img) (is_block_of img) s d a)) (λ a. sum_list g (entries_in img (s.block a))) chain
      (λ a on. ap (sum_list f) (its-items w d m a on).2 ∙ map-sum (item_of s) f (entries_in img (s.block a))
      ∙ list_congr (λ e. f (item_of s e)) g (entries_in img (s.block a)) (λ e. rw (item_dir s e, item_anode s e)))
      ∙ sym (gather-sum (λ a. entries_in img (s.block a)) g chain)

  pub reached_once : (h : ℕ) → headed h (reached_dirs img (anodes_of img)) ≤ 1
  reached_once h = elim (same? (headed h dirs) 0) [
    | inl z ↦ omega (arith, z)
    | inr z ↦ (let r : ReachedDir img h = record { image = image; reached = headed-reached img s h (omega (arith, z)) } in omega (arith, reached-headed r))
  ]

  -- the parent of a member
  pub its-parent : (d : Dir) → Member d (reached_dirs img (anodes_of img)) → parent_of (reached_dirs img (anodes_of img)) d.head ≡ d.parent
  its-parent d m = parent-found d.head dirs d (reached_once d.head) m refl

  -- the root's is 0
  pub root-parent : parent_of (reached_dirs img (anodes_of img)) 5 ≡ 0
  root-parent =
      let at : Dir → ℕ = λ d. one_at d.head 5 * one_at d.parent 0 in
      let (d, m, q) = list_some at dirs (omega (arith, w.tree.exact at, top)) in
      let (h, p) = both d q in
      parent-found 5 dirs d (reached_once 5) m h ∙ p
    where
      top : one_at 5 5 * one_at 0 0 ≡ 1
      top = rw (one_at-same 5 5 refl, one_at-same 0 0 refl) (omega arith)

      both : (d : Dir) → 0 < one_at d.head 5 * one_at d.parent 0 → (d.head ≡ 5) × (d.parent ≡ 0)
      both d q = elim (one_at_cases d.head 5) [
        | inl a ↦ (a.0, one_at_some d.parent 0 (omega (arith, rw a.1 at q)))
        | inr a ↦ absurd (omega (arith, rw a.1 at q))
      ]

  -- an entry of a directory that names another is in its parent
  pub entry-parent : {h : ℕ} {e : Entered} → EntryIn img h e → e.dir ≡ true → parent_of (reached_dirs img (anodes_of img)) e.anode ≡ h
  entry-parent {h} {e} n dir =
      let at : Dir → ℕ = λ d. one_at d.head e.anode * one_at d.parent h in
      let (d, m, q) = list_some at dirs (omega (arith, dir_weight n dir at, here)) in
      let (i, p) = both d q in
      parent-found e.anode dirs d (reached_once e.anode) m i ∙ p
    where
      here : one_at e.anode e.anode * one_at h h ≡ 1
      here = rw (one_at-same e.anode e.anode refl, one_at-same h h refl) (omega arith)

      both : (d : Dir) → 0 < one_at d.head e.anode * one_at d.parent h → (d.head ≡ e.anode) × (d.parent ≡ h)
      both d q = elim (one_at_cases d.head e.anode) [
        | inl a ↦ (a.0, one_at_some d.parent h (omega (arith, rw a.1 at q)))
        | inr a ↦ absurd (omega (arith, rw a.1 at q))
      ]

  -- every reached directory but the root is named by an entry of its parent, which is reached
  pub parent-entry : {h : ℕ} → ReachedDir img h → h ≢ 5 → (e : Entered) × EntryIn img (parent_of (reached_dirs img (anodes_of img)) h) e × (e.dir ≡ true) × (e.anode ≡ h)
  parent-entry {h} r off =
      let at : Dir → ℕ = λ d. one_at d.head h in
      let one = reached-headed r in
      let (p, m, q) = list_some (below items at) dirs (omega (arith, w.tree.exact at, one, one_at_other 5 h (λ i. off (sym i)))) in
      let F : Bool → ℕ → ℕ = λ b a. cond b (one_at a h) 0 in
      let (e, n, t) = list_some (λ (e : Entered). F e.dir e.anode) (entries_of img s p.head) (omega (arith, q, below-items items at p, entries_weight F p m)) in
      let (dir, is) = named e.dir e.anode t in
      let in_p : EntryIn img p.head e = record { directory = member-reached image p m; member = n } in
      (e, moved h p.head e in_p dir is, dir, is)
    where
      moved : (h p : ℕ) (e : Entered) → EntryIn img p e → e.dir ≡ true → e.anode ≡ h → EntryIn img (parent_of (reached_dirs img (anodes_of img)) h) e
      moved h p e n dir is = rw (ap (parent_of (reached_dirs img (anodes_of img))) (sym is) ∙ entry-parent n dir) n

      named : (b : Bool) (a : ℕ) → 0 < cond b (one_at a h) 0 → (b ≡ true) × (a ≡ h)
      named true a q = (refl, one_at_some a h q)
      named false a q = absurd (omega arith)

  pub parent-reached : {h : ℕ} → ReachedDir img h → h ≢ 5 → ReachedDir img (parent_of (reached_dirs img (anodes_of img)) h)
  parent-reached r off = (parent-entry r off).1.directory
