-- The anodes that a make plans: a fresh head, a block of its own for a directory, and a block for the parent where it has no room. Slots may grow before each.
use Rattle.std.specs.Prelude.{ℕ, ◌+◌, ◌<◌, ◌≡◌, ◌≢◌, Bool, T, length}
use Rattle.std.proofs.Math.Path.{refl, sym, ap}
use Rattle.std.proofs.Common.{◌∙◌, true≢false}
use Rattle.std.proofs.Math.Logic.{inl, inr}
use Rattle.std.proofs.Math.Bool.{true, false, cond}
use mathlib.Core.List.{List, [], ◌∷◌, ◌++◌, map, append-nil}
use Rattle.std.proofs.Math.Option.{Option}
use native.Mathlib.Omega.{arith}
use Rattle.std.proofs.Math.ListN.{length-append}
use Rattle.rules.specs.Counting.{occurrences, changed}
use Rattle.rules.specs.Anodes.{Anodes, limit, exists_by, exists, anodes_of}
use Rattle.rules.specs.Chains.{chain_of, blocks_of, system_by, system_owns}
use Rattle.disk.specs.Root.{slot_of}
use Rattle.rules.specs.Walk.{Dir, Entered, Item, entries_in, is_block_of, items_by, reached_dirs}
use Rattle.rules.specs.Accepted.{disk_size, last_reserved}
use Rattle.rules.specs.Plans.{Slotted, slotted, table_of, planned, Growth}
use Rattle.rules.specs.Space.{rewritten, lowest_free, with_spare}
use Rattle.rules.specs.Totals.{free_blocks}
use Rattle.rules.specs.Changes.{first_room, no_room, head_made, needed_block}
use Rattle.laws.specs.Tests.{same?, not_above}
use Rattle.laws.specs.Sums.{one_at_cases, one_at-same, one_at_other, one_at-le, changed-same, changed_other}
use Rattle.laws.specs.Bags.{occurrences-nil, occurrences-cons, occurrences-append}
use Rattle.laws.specs.Heads.{Head, head_of_is, occurrences_on_chain}
use Rattle.laws.specs.Blocks.{blocks_fresh}
use Rattle.laws.specs.Space.{Good, good-same, FreeAnode}
use Rattle.laws.specs.Owners.{full_used}
use Rattle.laws.specs.Plans.{planned_same}
use Rattle.laws.specs.Take.{StartOwned, Takes, take_steps, takes_moved}
use Rattle.laws.specs.Moves.{with_these, SlotsGrew, slots_grown_trans, Grows, Moved, moved_none}
use Rattle.laws.specs.Frame.{shift_chain}
use Rattle.laws.specs.Each.{Each}
use Rattle.laws.specs.OwnBlock.{own_filled}
use Rattle.laws.specs.Orphan.{Orphaned, orphan_good, not_dir, orphan_changed}
use Rattle.laws.specs.DirectoryTakes.{find_headed, dir_head, dir_not-1, dir_taken, directory_takes}
use Rattle.laws.specs.Spare.{Spared, spare-moved}
use Rattle.laws.specs.FixedSlots.{start_owned}
use Rattle.laws.specs.Whole.{Whole, change_free}
use Rattle.laws.specs.Make.{SameContents, contents_unchanged, fresh_stays, fresh_chain, fresh_orphan}
use Rattle.laws.specs.Items.{headed}
use Rattle.change_laws.specs.Totals.{free-count}
use Rattle.change_laws.specs.Image.{head_in, AcceptedWhole, AcceptedImage, accepted_whole, disk_at, TableFor, disk_size_lem, disk-last, disk_slots, ReachedDir}

-- anodes t on the disk of img, where no entry names the chain of f, and the names are those of the items `old`
abbrev pub OrphanedOn : List ℕ → ℕ → (Dir → List Item) → Anodes → (ℕ → ℕ) → (ℕ → ℕ) → (ℕ → List Entered) → (Dir → ℕ → Bool) → List Dir → Type 0
OrphanedOn img f old t hd sd entries marked dirs = Orphaned (exists img) (disk_size img) (last_reserved img) f old t (system_owns img) hd sd entries marked dirs

-- such a state of a table that may be stored in img is one of the disk with its slots
pub disk_orphan : {img : List ℕ} → AcceptedImage img → {t : Slotted} {hd sd : ℕ → ℕ} → TableFor img t hd sd → {ex : ℕ → Bool} {f : ℕ} {old : Dir → List Item} {system hd' sd' : ℕ → ℕ} {entries : ℕ → List Entered} {marked : Dir → ℕ → Bool} {dirs : List Dir} →
    Orphaned ex (disk_size img) (last_reserved img) f old t.anodes system hd' sd' entries marked dirs → OrphanedOn (disk_at img t) f old t.anodes hd sd entries marked dirs
disk_orphan a p o = rw (disk_slots a p, disk_size_lem a p, disk-last a p) (orphan_good p.good o)

-- h heads a reached directory of an accepted image; q is its state with an anode to be had, and f the lowest one
pub record Fresh (img : List ℕ) (growth : Growth) (h : ℕ) (q : Slotted) (f : ℕ) : Type 0 where
  pub parent : ReachedDir img h
  pub spares : with_spare limit growth (table_of img) ≡ planned q []
  pub lowest : lowest_free limit (exists_by q.slots) q.anodes ≡ f

-- that state, where the slots may have grown
module _ {img : List ℕ} {growth : Growth} (grows : Grows limit (disk_size img) (last_reserved img) growth) {h : ℕ} {q : Slotted} {f : ℕ} (x : Fresh img growth h q f) where
  w : AcceptedWhole img
  w = accepted_whole x.parent.image

  spared : (gs : List ℕ) × Moved limit (disk_size img) (last_reserved img) (table_of img) (system_owns img) (head_in img) 1 1 1 [] gs q × Spared limit q × (◌≡◌ {A = List ℕ} [] [])
  spared = spare-moved grows (start_owned (slot_of img)) w.good q [] x.spares

  -- from the image to it the free list alone has changed
  pub fresh_moved : (gs : List ℕ) × Moved limit (disk_size img) (last_reserved img) (table_of img) (system_owns img) (head_in img) 1 1 1 [] gs q
  fresh_moved = (spared.0, spared.1)

  -- f can be had in it
  pub fresh_below : f < limit
  fresh_below = rw x.lowest at spared.2.below

  pub fresh_free : FreeAnode (exists_by q.slots) q.anodes f
  fresh_free = rw x.lowest at spared.2.is_free

  -- so it is whole
  pub fresh_whole : Whole (exists_by q.slots) (disk_size img) (last_reserved img) q.anodes (with_these (system_owns img) fresh_moved.0) fresh_moved.1.hd' fresh_moved.1.sd' (entries_in img) (is_block_of img) (reached_dirs img (anodes_of img))
  fresh_whole = change_free w fresh_moved.1.good fresh_moved.1.shift

  pub fresh_start : StartOwned (with_these (system_owns img) fresh_moved.0)
  fresh_start y l = omega (arith, start_owned (slot_of img) y l)

-- the steps of a make that is planned, from the state q: f is the fresh head, ys its own block, zs the block that the parent h takes where it has no room
pub record MakeSteps (img : List ℕ) (growth : Growth) (q : Slotted) (dir : Bool) (len h f : ℕ) (room : Option ℕ) (ys : List ℕ) (t : Slotted) (zs : List ℕ) : Type 0 where
  pub between : Slotted
  pub own : needed_block growth dir f (head_made q f) ≡ planned between ys
  pub roomy : first_room img len (blocks_of (anodes_of img) h) ≡ room
  pub parent : needed_block growth (no_room room) h between ≡ planned t zs

-- what changes hands where the chain of h takes a block if it needs one
pub needed_moved : {n last : ℕ} {growth : Growth} → Grows limit n last growth → {s : Slotted} {system hd sd : ℕ → ℕ} → StartOwned system → Good limit (exists_by s.slots) n last s.anodes system hd sd → (h : ℕ) → Head s.anodes.next s.anodes.block h → h ≢ 1 →
    (needed : Bool) (t : Slotted) (ys : List ℕ) → needed_block growth needed h s ≡ planned t ys → (gs : List ℕ) × Moved limit n last s system hd 1 h h ys gs t
unfolding needed_block
needed_moved grows start g h d h1 true t ys e = let k = take_steps grows start g h true t ys e in (k.gs, takes_moved h d h1 k)
needed_moved grows {s} start g h d h1 false t ys e = let p = planned_same s t [] ys e in rw (sym p.0, p.1) ([], moved_none g 1 h h)

-- what steps from s to t have made of the chain of the parent h, and of the others: zs is the block that it took where it needed one
pub record ParentGrown (s : Anodes) (hd : ℕ → ℕ) (h : ℕ) (needed : Bool) (zs : List ℕ) (t : Anodes) : Type 0 where
  -- the parent's new anode, if any
  pub new : List ℕ
  pub chain : chain_of t.next limit h ≡ chain_of s.next limit h ++ new
  pub ones : (a : ℕ) → 0 < occurrences a new → t.count a ≡ 1
  pub blocks : zs ≡ map t.block new
  pub took : needed ≡ true → (y : ℕ) × (zs ≡ y ∷ [])
  -- the new anode was free, or the free list's
  pub apart : (a : ℕ) → 0 < occurrences a new → s.block a ≢ 0 → hd a ≢ 1 → ⊥
  -- no anode but the free list's gets other blocks, and every other chain stays
  pub kept : (a : ℕ) → s.block a ≢ 0 → hd a ≢ 1 → (t.count a ≡ s.count a) × (t.block a ≡ s.block a)
  pub stays : (m : ℕ) → Head s.next s.block m → Head t.next t.block m
  pub others : (m : ℕ) → Head s.next s.block m → m ≢ 1 → m ≢ h → chain_of t.next limit m ≡ chain_of s.next limit m

-- what the steps of a make leave from s to t, where f is the fresh head and ys its own block; the blocks of gs have gone from the free list to the system
pub record MadePlan (n last : ℕ) (s : Slotted) (system hd : ℕ → ℕ) (f h : ℕ) (dir needed : Bool) (ys zs : List ℕ) (t : Slotted) : Type 0 where
  pub hd' : ℕ → ℕ
  pub sd' : ℕ → ℕ
  pub gs : List ℕ
  pub good : Good limit (exists_by t.slots) n last t.anodes (with_these system gs) hd' sd'
  pub system_got : (x : ℕ) → system_by t.slots x ≡ system_by s.slots x + occurrences x gs
  pub slots_grew : SlotsGrew n s.slots t.slots
  -- the free blocks, those that the system got and those that the steps took, the own and the parent's, are the free ones of before
  pub steps_sum : free_blocks t.anodes + length gs + (length ys + length zs) ≡ free_blocks s.anodes
  pub own_chain : chain_of t.anodes.next limit f ≡ f ∷ []
  pub own_count : t.anodes.count f ≡ cond dir 1 0
  pub own_blocks : ys ≡ cond dir (t.anodes.block f ∷ []) []
  pub grown : ParentGrown s.anodes hd h needed zs t.anodes
  pub not_own : (a : ℕ) → 0 < occurrences a grown.new → a ≢ f
  -- the fresh head was free, or the free list's
  pub was_free : (a : ℕ) → s.anodes.block a ≢ 0 → hd a ≢ 1 → a ≢ f

-- slots may have grown before, and the free list alone have changed, from s to q
module _ {n last : ℕ} {s q : Slotted} {system hd sd : ℕ → ℕ} {hs : List ℕ} (g : Good limit (exists_by s.slots) n last s.anodes system hd sd) (v : Moved limit n last s system hd 1 1 1 [] hs q) where
  -- an anode in use, not the free list's
  before-kept : (a : ℕ) → s.anodes.block a ≢ 0 → hd a ≢ 1 → (q.anodes.count a ≡ s.anodes.count a) × (q.anodes.block a ≡ s.anodes.block a) × (v.hd' a ≡ hd a)
  before-kept a u i = let x = v.shift.apart a u i i in (x.same_count, x.same_block, v.shift.same_hd a u i i)

  module _ {h : ℕ} (d : Head s.anodes.next s.anodes.block h) (h1 : h ≢ 1) where
    grown-before : {needed : Bool} {zs : List ℕ} {t : Anodes} → ParentGrown q.anodes v.hd' h needed zs t → ParentGrown s.anodes hd h needed zs t
    grown-before p = record {
      new = p.new;
      chain = p.chain ∙ ap (λ (l : List ℕ). l ++ p.new) (shift_chain g v.good v.shift h d h1 h1);
      ones = p.ones;
      blocks = p.blocks;
      took = p.took;
      apart = λ a m u i. let c = before-kept a u i in p.apart a m (λ z. u (sym c.1 ∙ z)) (λ z. i (sym c.2 ∙ z));
      kept = λ a u i. let c = before-kept a u i in let y = p.kept a (λ z. u (sym c.1 ∙ z)) (λ z. i (sym c.2 ∙ z)) in (y.0 ∙ c.0, y.1 ∙ c.1);
      stays = λ m e. p.stays m (v.shift.stays m e);
      others = λ m e m1 mh. p.others m (v.shift.stays m e) m1 mh ∙ shift_chain g v.good v.shift m e m1 m1;
    }

    -- what a make leaves from s then
    pub plan-before : {f : ℕ} {dir needed : Bool} {ys zs : List ℕ} {t : Slotted} → MadePlan n last q (with_these system hs) v.hd' f h dir needed ys zs t → MadePlan n last s system hd f h dir needed ys zs t
    unfolding grown-before
    plan-before p = record {
      hd' = p.hd';
      sd' = p.sd';
      gs = hs ++ p.gs;
      good = good-same p.good (λ x. omega (arith, occurrences-append x hs p.gs));
      system_got = λ x. omega (arith, v.system_got x, p.system_got x, occurrences-append x hs p.gs);
      slots_grew = slots_grown_trans v.slots_grew p.slots_grew;
      steps_sum = omega (arith, p.steps_sum, rw (one_at-same 1 1 refl) at (v.moved 1), free-count g, free-count v.good, length-append hs p.gs);
      own_chain = p.own_chain;
      own_count = p.own_count;
      own_blocks = p.own_blocks;
      grown = grown-before p.grown;
      not_own = p.not_own;
      was_free = λ a u i. let c = before-kept a u i in p.was_free a (λ z. u (sym c.1 ∙ z)) (λ z. i (sym c.2 ∙ z));
    }

-- the steps from a state q with an anode f to be had
module _ {n last : ℕ} {growth : Growth} (grows : Grows limit n last growth) (q : Slotted) {system hd sd : ℕ → ℕ} (start : StartOwned system) {entries : ℕ → List Entered} {marked : Dir → ℕ → Bool} {dirs : List Dir}
    (w : Whole (exists_by q.slots) n last q.anodes system hd sd entries marked dirs) (f : ℕ) (f_a : f < limit) (is_free : FreeAnode (exists_by q.slots) q.anodes f) where
  abbrev s : Anodes
  s = q.anodes

  abbrev begun : Anodes
  begun = rewritten s f 0 65535

  -- it is not the head of the free list
  fresh_not-1 : f ≢ 1
  fresh_not-1 e = omega (arith, is_free.from_6, e)

  -- the fresh head, while the directories stay as they are
  orphan : Orphaned (exists_by q.slots) n last f (items_by entries marked s) begun system (changed hd f f) (changed sd f f) entries marked dirs
  orphan = fresh_orphan w f f_a is_free entries marked (contents_unchanged s hd entries marked)

  -- ---- the own block

  -- the fresh head alone in its chain, with a block if it is a directory's
  record OwnStep (dir : Bool) (t : Slotted) (ys : List ℕ) : Type 0 where
    gs : List ℕ
    moves : Moved limit n last (slotted begun q.slots) system (changed hd f f) 1 f f ys gs t
    chain : chain_of t.anodes.next limit f ≡ f ∷ []
    count : t.anodes.count f ≡ cond dir 1 0
    blocks : ys ≡ cond dir (t.anodes.block f ∷ []) []

  own_none : OwnStep false (slotted begun q.slots) []
  unfolding rewritten
  own_none = record {
    gs = [];
    moves = moved_none orphan.good 1 f f;
    chain = fresh_chain w f f_a is_free;
    count = changed-same s.count f 0;
    blocks = refl;
  }

  own_step : (dir : Bool) (t : Slotted) (ys : List ℕ) → needed_block growth dir f (head_made q f) ≡ planned t ys → OwnStep dir t ys
  unfolding needed_block
  own_step true t ys e =
      let k = take_steps grows start orphan.good f true t ys e in
      let o = own_filled orphan.good f orphan.head fresh_not-1 k own_none.chain own_none.count in
      record {
        gs = k.gs;
        moves = takes_moved f orphan.head fresh_not-1 k;
        chain = o.2.chain;
        count = o.2.one;
        blocks = o.1 ∙ ap (λ (y : ℕ). y ∷ []) (sym o.2.at);
      }
  own_step false t ys e = let p = planned_same (slotted begun q.slots) t [] ys e in rw (sym p.0, p.1) own_none

  -- the fresh head takes none of the free blocks
  begun-free : free_blocks begun ≡ free_blocks s
  unfolding rewritten
  begun-free =
      let none : s.count f ≡ 0 = not_above (s.count f) (λ p. full_used w.good f p is_free.unused) in
      omega (arith, free-count orphan.good, free-count w.good, blocks_fresh limit hd s.count f f 0 f_a none 1)

  -- ---- the parent's block

  module _ (h : ℕ) (reached : headed h dirs ≡ 1) (dir : Bool) (R : Slotted) (ys : List ℕ) (own : needed_block growth dir f (head_made q f) ≡ planned R ys) where
    abbrev r : Anodes
    r = R.anodes

    step : OwnStep dir R ys
    step = own_step dir R ys own

    -- the system's blocks then
    abbrev system₁ : ℕ → ℕ
    system₁ = with_these system step.gs

    abbrev hd₁ : ℕ → ℕ
    hd₁ = step.moves.hd'

    owned : (entries' : ℕ → List Entered) (marked' : Dir → ℕ → Bool) → SameContents s hd entries marked entries' marked' →
        Orphaned (exists_by R.slots) n last f (items_by entries marked s) r system₁ hd₁ step.moves.sd' entries' marked' dirs
    owned entries' marked' cont = orphan_changed (fresh_orphan w f f_a is_free entries' marked' cont) is_free.from_6 step.moves.good step.moves.shift

    o : Orphaned (exists_by R.slots) n last f (items_by entries marked s) r system₁ hd₁ step.moves.sd' entries marked dirs
    o = owned entries marked (contents_unchanged s hd entries marked)

    parent-none : ParentGrown r hd₁ h false [] r
    parent-none = record {
      new = [];
      chain = sym (append-nil (chain_of r.next limit h));
      ones = λ a p. absurd (omega (arith, p, occurrences-nil a));
      blocks = refl;
      took = λ e. absurd (true≢false (sym e));
      apart = λ a p u i. absurd (omega (arith, p, occurrences-nil a));
      kept = λ a u i. (refl, refl);
      stays = λ m d. d;
      others = λ m d m1 mh. refl;
    }

    -- the block that it takes
    parent_takes : (t : Slotted) (zs : List ℕ) → needed_block growth true h R ≡ planned t zs → Takes limit n last R system₁ hd₁ true h t zs
    unfolding needed_block
    parent_takes t zs e = take_steps grows (λ x l. omega (arith, start x l)) o.good h true t zs e

    -- what changes hands, where it needs one and where not
    parent-moved : (needed : Bool) (t : Slotted) (zs : List ℕ) → needed_block growth needed h R ≡ planned t zs → (gs : List ℕ) × Moved limit n last R system₁ hd₁ 1 h h zs gs t
    parent-moved = needed_moved grows (λ x l. omega (arith, start x l)) o.good h (dir_head o h reached) (dir_not-1 o h reached)

    parent-grown : (needed : Bool) (t : Slotted) (zs : List ℕ) → needed_block growth needed h R ≡ planned t zs → ParentGrown r hd₁ h needed zs t.anodes
    unfolding needed_block
    parent-grown false t zs e = let p = planned_same R t [] zs e in rw (p.1, sym p.0) parent-none
    parent-grown true t zs e =
        let x = dir_taken o h reached (parent_takes t zs e) in
        let m = (parent-moved true t zs e).1 in
        let sh = m.shift in
        record {
          new = x.2.anode ∷ [];
          chain = x.2.chain;
          ones = λ a p. elim (one_at_cases x.2.anode a) [
            | inl c ↦ ap t.anodes.count (sym c.0) ∙ x.2.one
            | inr c ↦ absurd (omega (arith, p, occurrences-cons a x.2.anode [], occurrences-nil a, c.1))
          ];
          blocks = x.1 ∙ ap (λ (y : ℕ). y ∷ []) (sym x.2.at);
          took = λ n. (x.0, x.1);
          apart = λ a p u not-1.
              let now = occurrences_on_chain m.good.linked m.good.heads h (sh.stays h (dir_head o h reached)) a in
              let twice = ap (occurrences a) x.2.chain ∙ occurrences-append a (chain_of r.next limit h) (x.2.anode ∷ []) in
              elim (same? (hd₁ a) h) [
                | inl i ↦ omega (
                  arith,
                  p,
                  now,
                  twice,
                  one_at-le (m.hd' a) h,
                  occurrences_on_chain o.good.linked o.good.heads h (dir_head o h reached) a,
                  one_at-same (hd₁ a) h i,
                )
                | inr i ↦ omega (arith, p, now, twice, one_at_other (m.hd' a) h (λ k. i (sym (sh.same_hd a u not-1 i) ∙ k)))
              ];
          kept = λ a u not-1. elim (same? (hd₁ a) h) [
            | inl i ↦ x.2.kept a (omega (arith, occurrences_on_chain o.good.linked o.good.heads h (dir_head o h reached) a, one_at-same (hd₁ a) h i))
            | inr i ↦ (let l = sh.apart a u not-1 i in (l.same_count, l.same_block))
          ];
          stays = sh.stays;
          others = λ k d k1 kh. shift_chain o.good m.good sh k d k1 kh;
        }

    -- ---- both

    not_own : h ≢ f
    not_own = let d = find_headed (λ d. d.head ≢ f) h dirs (not_dir orphan is_free.from_6) (omega (arith, reached)) in λ e. d.2 (d.1 ∙ e)

    own_head : Head r.next r.block f
    own_head = step.moves.shift.stays f orphan.head

    own_not-1 : hd₁ f ≢ 1
    own_not-1 e = fresh_not-1 (sym (step.moves.good.heads.at_head f own_head) ∙ e)

    own_kept : (m : ℕ) → Head begun.next begun.block m → m ≢ 1 → m ≢ f → chain_of r.next limit m ≡ chain_of s.next limit m
    unfolding rewritten
    own_kept m d m1 mf = shift_chain orphan.good step.moves.good step.moves.shift m d m1 mf

    -- the head of an anode in use is not the fresh one
    head_used : (a : ℕ) → s.block a ≢ 0 → hd a ≢ f
    head_used a u e = elim (same? a 0) [
      | inl z ↦ omega (arith, is_free.from_6, e, ap hd z, w.good.heads.off_zero)
      | inr z ↦ (head_of_is w.good.linked w.good.heads a z u).in_use (ap s.block e ∙ is_free.unused)
    ]

    not_fresh : (a : ℕ) → s.block a ≢ 0 → a ≢ f
    not_fresh a u i = u (ap s.block i ∙ is_free.unused)

    -- an anode in use, not the free list's, through the first steps
    through : (a : ℕ) → s.block a ≢ 0 → hd a ≢ 1 → (r.count a ≡ s.count a) × (r.block a ≡ s.block a) × (hd₁ a ≡ hd a)
    unfolding rewritten
    through a u i =
        let af = not_fresh a u in
        let b = changed_other s.block f 65535 a af in
        let k = changed_other hd f f a af in
        let used : begun.block a ≢ 0 = λ z. u (sym b ∙ z) in
        let not-1 : changed hd f f a ≢ 1 = λ j. i (sym k ∙ j) in
        let not_f : changed hd f f a ≢ f = λ j. head_used a u (sym k ∙ j) in
        let x = step.moves.shift.apart a used not-1 not_f in
        (x.same_count ∙ changed_other s.count f 0 a af, x.same_block ∙ b, step.moves.shift.same_hd a used not-1 not_f ∙ k)

    pub made-plan : (needed : Bool) (t : Slotted) (zs : List ℕ) → needed_block growth needed h R ≡ planned t zs → MadePlan n last q system hd f h dir needed ys zs t
    unfolding rewritten
    made-plan needed t zs e =
        let p = parent-grown needed t zs e in
        let (hs, v) = parent-moved needed t zs e in
        let m = step.moves in
        let mine = p.kept f own_head.in_use own_not-1 in
        record {
          hd' = v.hd';
          sd' = v.sd';
          gs = step.gs ++ hs;
          good = good-same v.good (λ x. omega (arith, occurrences-append x step.gs hs));
          system_got = λ x. omega (arith, m.system_got x, v.system_got x, occurrences-append x step.gs hs);
          slots_grew = slots_grown_trans m.slots_grew v.slots_grew;
          steps_sum = omega (
            arith,
            begun-free,
            rw (one_at-same 1 1 refl, one_at_other f 1 fresh_not-1) at (m.moved 1),
            rw (one_at-same 1 1 refl, one_at_other h 1 (dir_not-1 o h reached)) at (v.moved 1),
            free-count orphan.good,
            free-count m.good,
            free-count v.good,
            length-append step.gs hs,
          );
          own_chain = p.others f own_head fresh_not-1 (λ i. not_own (sym i)) ∙ step.chain;
          own_count = mine.0 ∙ step.count;
          own_blocks = step.blocks ∙ ap (λ (y : ℕ). cond dir (y ∷ []) []) (sym mine.1);
          grown = record {
            new = p.new;
            chain = p.chain ∙ ap (λ (l : List ℕ). l ++ p.new) (own_kept h (dir_head orphan h reached) (dir_not-1 orphan h reached) not_own);
            ones = p.ones;
            blocks = p.blocks;
            took = p.took;
            apart = λ a j u i. let c = through a u i in p.apart a j (λ z. u (sym c.1 ∙ z)) (λ z. i (sym c.2 ∙ z));
            kept = λ a u i. let c = through a u i in let y = p.kept a (λ z. u (sym c.1 ∙ z)) (λ z. i (sym c.2 ∙ z)) in (y.0 ∙ c.0, y.1 ∙ c.1);
            stays = λ k d. p.stays k (m.shift.stays k (fresh_stays w f f_a is_free k d));
            others = λ k d k1 kh. let d' = fresh_stays w f f_a is_free k d in
                p.others k (m.shift.stays k d') k1 kh ∙ own_kept k d' k1 (not_fresh k d.in_use);
          };
          not_own = λ a j i. p.apart a j (rw i own_head.in_use) (λ z. own_not-1 (ap hd₁ (sym i) ∙ z));
          was_free = λ a u i. not_fresh a u;
        }

    -- the chain of f is not named yet
    pub made_orphan : (needed : Bool) (t : Slotted) (zs : List ℕ) → needed_block growth needed h R ≡ planned t zs → (entries' : ℕ → List Entered) (marked' : Dir → ℕ → Bool) →
        SameContents s hd entries marked entries' marked' →
        ((y : ℕ) → zs ≡ y ∷ [] → entries' y ≡ []) → ((y : ℕ) → zs ≡ y ∷ [] → Each (λ d. d.head ≡ h → T (marked' d y)) dirs) →
        (system' : ℕ → ℕ) × (hd' : ℕ → ℕ) × (sd' : ℕ → ℕ) × Orphaned (exists_by t.slots) n last f (items_by entries marked s) t.anodes system' hd' sd' entries' marked' dirs
    unfolding needed_block
    made_orphan false t zs e entries' marked' same empty its = (system₁, hd₁, step.moves.sd', rw (sym (planned_same R t [] zs e).0) (owned entries' marked' same))
    made_orphan true t zs e entries' marked' same empty its =
        let k = parent_takes t zs e in
        let o' = owned entries' marked' same in
        let v = takes_moved h (dir_head o' h reached) (dir_not-1 o' h reached) k in
        (with_these system₁ k.gs, v.hd', v.sd', directory_takes o' h reached k empty its)
