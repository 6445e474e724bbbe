-- A file of an accepted image resized: the image is accepted again, and of its directories the entry's size alone has changed.
use Rattle.std.specs.Prelude.{ℕ, ◌/◌, ◌%◌, ◌≡◌, refl, ◌≢◌, ◌⊎◌, Bool, true, false, cond, eqb}
use Rattle.std.proofs.Common.{sym, ap₂, ◌∙◌, arith, eq-eqb, ne_eqb}
use Rattle.std.proofs.Math.Path.{ap}
use Rattle.std.proofs.Math.Logic.{inl, inr}
use mathlib.Core.List.{List, ◌∷◌, ◌++◌, map, map-append}
use Rattle.disk.specs.Blocks.{block_of}
use Rattle.rules.specs.Anodes.{Anodes, limit, anodes_of}
use Rattle.rules.specs.Chains.{chain_of}
use Rattle.rules.specs.Walk.{Dir, Entered, entries_in, is_block_of, blocks_for, items_for, items_at, items_by, reached_dirs}
use Rattle.rules.specs.Accepted.{disk_size, last_reserved}
use Rattle.rules.specs.Plans.{Slotted, table_of, Plan, Growth}
use Rattle.rules.specs.Changes.{resize_plan, resized_image, resized}
use Rattle.laws.specs.Tests.{same?}
use Rattle.laws.specs.Resize as Laws
use Rattle.laws.specs.Moves.{Grows}
use Rattle.laws.specs.Members.{Member, member-occurrences, gather_congr, map-kept}
use Rattle.change_laws.specs.Answers.{StepsAnswer}
use Rattle.change_laws.specs.Image.{WholeWith, WholeOn, StillAccepted, accepted_whole, disk_at, disk_right, disk_whole, whole_accepted, ReachedDir}
use Rattle.change_laws.specs.Reached.{member-reached, EntryIn, entry-not-1, dir_block, entry-facts}
use Rattle.change_laws.specs.NamedOnce.{only_here, only_this}
use Rattle.change_laws.specs.SameItems.{whole_same}
use Rattle.change_laws.specs.NewSize.{sized, head_sized, entries_sized}
use Rattle.change_laws.specs.ResizePlan.{plan_refused}
use Rattle.change_laws.specs.PlannedChange.{left_cases, image, w, facts}
use Rattle.change_laws.specs.ResizeStores.{PlannedResize, steps, table, dir_same, other_block, this_block, resized-disk}

-- ---- the entries

-- the new size in the entries that name h
unfoldable pub resized_entry : ℕ → ℕ → Entered → Entered
resized_entry h new x = cond (eqb x.anode h) (sized new x) x

pub resized_it : (h new : ℕ) (x : Entered) → x.anode ≡ h → resized_entry h new x ≡ sized new x
unfolding resized_entry
resized_it h new x e = rw (eq-eqb x.anode h e)

pub resized_other : (h new : ℕ) (x : Entered) → x.anode ≢ h → resized_entry h new x ≡ x
unfolding resized_entry
resized_other h new x n = rw (ne_eqb x.anode h n)

pub resized_fields : (h new : ℕ) (x : Entered) → ((resized_entry h new x).broken ≡ x.broken) × ((resized_entry h new x).dir ≡ x.dir) × ((resized_entry h new x).anode ≡ x.anode) × ((resized_entry h new x).name ≡ x.name)
unfolding resized_entry
resized_fields h new x = go (eqb x.anode h)
  where
    go : (t : Bool) → ((cond t (sized new x) x).broken ≡ x.broken) × ((cond t (sized new x) x).dir ≡ x.dir) × ((cond t (sized new x) x).anode ≡ x.anode) × ((cond t (sized new x) x).name ≡ x.name)
    go true = (refl, refl, refl, refl)
    go false = (refl, refl, refl, refl)

-- entries that do not name h stay
pub others_stay : (h new : ℕ) (l : List Entered) → ((x : Entered) → Member x l → x.anode ≢ h) → map (resized_entry h new) l ≡ l
others_stay h new l n = map-kept (resized_entry h new) l (λ x m. resized_other h new x (n x m))

pub one-resized : (h new : ℕ) (before : List Entered) (e : Entered) (after : List Entered) → e.anode ≡ h → ((x : Entered) → Member x before ⊎ Member x after → x.anode ≢ h) →
    map (resized_entry h new) (before ++ (e ∷ after)) ≡ before ++ (sized new e ∷ after)
one-resized h new before e after i n =
    map-append (resized_entry h new) before (e ∷ after)
    ∙ ap₂ ◌++◌ (others_stay h new before (λ x m. n x (inl m))) (ap₂ ◌∷◌ (resized_it h new e i) (others_stay h new after (λ x m. n x (inr m))))

-- ---- the directories

module _ {img : List ℕ} {e : Entered} {new : ℕ} {u : Slotted} {ys : List ℕ} (p : PlannedResize img e new u ys) where
  abbrev s : Anodes
  s = anodes_of img

  abbrev t : Anodes
  t = u.anodes

  abbrev dirs : List Dir
  dirs = reached_dirs img s

  -- the image that a resize leaves
  abbrev j : List ℕ
  j = resized_image img s e new u ys

  module _ (d : Dir) (in_tree : Member d dirs) (a : ℕ) (on : Member a (chain_of s.next limit d.head)) where
    abbrev r : ReachedDir img d.head
    r = member-reached (image p) d in_tree

    other_entries : a ≢ (facts p).a₀ → entries_in j (s.block a) ≡ entries_in img (s.block a)
    unfolding entries_in
    other_entries n = rw (other_block p r a on n)

    this_entries : a ≡ (facts p).a₀ → (before after : List Entered) → entries_in img (s.block a) ≡ before ++ (e ∷ after) → entries_in j (s.block a) ≡ before ++ (sized new e ∷ after)
    unfolding entries_in
    this_entries i before after parted =
        let y = s.block a in
        let its_own : e.start / 512 ≡ y = (facts p).in_block_lem ∙ ap s.block (sym i) in
        let here = dir_block r a on in
        rw (this_block p r a on i) (entries_sized (block_of img y) y (e.start % 512) new here.whole e after (omega arith) before 28 16 parted
        here.unbroken)

    -- its entries: the size is new where the file is named
    pub block_left : entries_in j (s.block a) ≡ map (resized_entry e.anode new) (entries_in img (s.block a))
    block_left = elim (same? a (facts p).a₀) [
      | inr n ↦ other_entries n ∙ sym (others_stay e.anode new (entries_in img (s.block a)) (only_here (image p) (facts p) d in_tree a on n))
      | inl i ↦ (let m : Member e (entries_in img (s.block a)) = rw i (facts p).member in
          this_entries i m.0 m.1 m.2
          ∙ sym (rw m.2 (one-resized e.anode new m.0 e m.1 refl (only_this (image p) (facts p) m.0 m.1 (ap (λ (c : ℕ). entries_in img (s.block c)) (sym i) ∙ m.2)))))
    ]

    marks_left : is_block_of j d (s.block a) ≡ is_block_of img d (s.block a)
    unfolding is_block_of
    marks_left = elim (same? a (facts p).a₀) [
      | inr n ↦ rw (other_block p r a on n)
      | inl i ↦ rw (this_block p r a on i, head_sized (block_of img (s.block a)) (e.start % 512) new (facts p).from_16)
    ]

    items_left : items_at (entries_in j) (is_block_of j) t d a ≡ items_at (λ y. map (resized_entry e.anode new) (entries_in img y)) (is_block_of img) t d a
    unfolding items_for
    items_left = rw (((dir_same p r).same_extents a (member-occurrences a (chain_of s.next limit d.head) on)).1, marks_left, block_left)

  -- the state after the steps is whole where the entries have the new size
  sizes_whole : WholeWith (disk_at img u) t (steps p).moves.hd' (steps p).moves.sd' (λ y. map (resized_entry e.anode new) (entries_in img y)) (is_block_of img) dirs
  sizes_whole = disk_whole (image p) (table p) (Laws.resized (w p) e.anode ((facts p).file p.plan.file) (steps p).moves (steps p).has (resized_entry e.anode new) (λ y. map (resized_entry e.anode new) (entries_in img y)) (is_block_of img)
      (record { keeps = resized_fields e.anode new; other = λ x n. ap (λ (c : Entered). c.size) (resized_other e.anode new x n); there = λ a c q r. (refl, λ d. refl) })
      (λ x i. ap (λ (c : Entered). blocks_for c.size) (resized_it e.anode new x i)))

  pub still_whole : WholeOn (disk_at img u) j u.anodes (steps p).moves.hd' (steps p).moves.sd' dirs
  unfolding items_by
  still_whole = whole_same sizes_whole (entries_in j) (is_block_of j) (λ d m.
      gather_congr (items_at (entries_in j) (is_block_of j) t d) (items_at (λ y. map (resized_entry e.anode new) (entries_in img y)) (is_block_of img) t d) (chain_of t.next limit d.head)
      (λ a on. items_left d m a (rw (dir_same p (member-reached (image p) d m)).same_anodes at on)))

  resized-accepted : StillAccepted (image p) j
  resized-accepted = whole_accepted (resized-disk p) still_whole (disk_right (image p) (table p))

-- growth: how slots grow
module _ {img : List ℕ} {growth : Growth} (grows : Grows limit (disk_size img) (last_reserved img) growth) {h : ℕ} {e : Entered} (m : EntryIn img h e) (new : ℕ) where
  abbrev plan : Plan Slotted
  plan = resize_plan growth (last_reserved img) (table_of img) e.anode (blocks_for new)

  -- what a resize leaves of an accepted image is accepted
  pub resize_accepted : e.dir ≡ false → StillAccepted m.directory.image (resized growth img (table_of img) e new).image
  unfolding resized
  resize_accepted file =
      let a = m.directory.image in
      left_cases (λ l. StillAccepted a l.image) img (resized_image img (anodes_of img) e new) plan (λ k q. a.accepted)
      (λ t ys q. resized-accepted (record { home = h; entry = m; plan = record { file = file; growth = growth; grows = grows; steps = q } }))

  -- it answers 0, 27 or 28
  pub resize_answers : StepsAnswer (resized growth img (table_of img) e new).answer
  unfolding resized
  resize_answers =
      let f = entry-facts m in
      left_cases (λ l. StepsAnswer l.answer) img (resized_image img (anodes_of img) e new) plan
      (λ k q. inr (plan_refused img grows (accepted_whole m.directory.image).good e.anode f.head (entry-not-1 f) (blocks_for new) k q)) (λ t ys q. inl refl)
