-- What a make makes of the blocks that are used in the directories of an accepted image.
use Prim.Native.Nat.{ℕ, ◌+◌, ◌*◌}
use Rattle.std.specs.Prelude.{◌≡◌, ◌≢◌, Bool}
use Rattle.std.proofs.Math.Path.{refl, sym, ap}
use Rattle.std.proofs.Common.{◌∙◌}
use Rattle.std.proofs.Math.Logic.{inl, inr}
use Rattle.std.proofs.Math.Bool.{true, false, cond}
use mathlib.Core.List.{List, [], ◌∷◌}
use Rattle.std.proofs.Math.Option.{Option, none}
use native.Mathlib.Omega.{arith}
use Rattle.std.proofs.Math.ListN.{length, length-map}
use Rattle.directory.specs.declared.Kind.TheVariants.{File, Directory}
use Rattle.directory.specs.Entries.{is_dir}
use Rattle.rules.specs.Counting.{one_at, sum_list, occurrences, gather}
use Rattle.rules.specs.Anodes.{Anodes, limit, anodes_of}
use Rattle.rules.specs.Chains.{chain_of, block_count}
use Rattle.rules.specs.Walk.{Dir, Entered, entries_in}
use Rattle.rules.specs.Lookup.{entries_of, entry_named}
use Rattle.rules.specs.Plans.{Slotted, planned, Growth}
use Rattle.rules.specs.Changes.{NewEntry, no_room, room_for, needed_block, parent_of, entry_of, made_image}
use Rattle.laws.specs.Tests.{same?, not_above}
use Rattle.laws.specs.Sums.{one_at_cases, one_at-same, one_at_other}
use Rattle.laws.specs.Bags.{list_nil, list_append, list_cons, list_one, list_length, kept-sum, occurrences-nil, occurrences-cons, gather_none}
use Rattle.laws.specs.Heads.{Head}
use Rattle.laws.specs.Space.{on_chain_lem}
use Rattle.laws.specs.Frame.{kept-count}
use Rattle.laws.specs.Items.{headed}
use Rattle.laws.specs.Plans.{planned_same}
use Rattle.laws.specs.NewDirectory.{entries_new}
use Rattle.laws.specs.Members.{Member, member_congr}
use Rattle.frames.specs.Kept.{disk_size-kept}
use Rattle.change_laws.specs.Image.{AcceptedImage, disk_right, disk_size_lem, whole_accepted, headed-reached, ReachedDir}
use Rattle.change_laws.specs.Reached.{EntryIn, entry-facts, entry-not-1, member-reached, reached_head, reached-not-1, not-file}
use Rattle.change_laws.specs.MadeImage.{Making, parent, w, once, spare, plan, grown, not_fresh, table, entered, made-disk, made-sum}
use Rattle.change_laws.specs.Make.{own_stored, made_whole, made-dirs}
use Rattle.change_laws.specs.MakeEffects.{entry_added, reached-kept, new-reached, entries_kept}
use Rattle.share_rules.specs.Shares.{way_up, lies_in, blocks_at, used_in}
use Rattle.share_rules.specs.SharedCalls.{make_needs}
use Rattle.share_laws.specs.Parents.{unheaded_parent, parent-sum, reached_once}
use Rattle.share_laws.specs.Ways.{way_up_lem}
use Rattle.share_laws.specs.KeptWays.{IsReached, walked_dirs, SameParents, lies_kept, lying_changed}
use Rattle.share_laws.specs.ChangedUse.{ChangedUse}

-- a block that is not needed is not taken
none_needed : (growth : Growth) (h : ℕ) (s t : Slotted) (zs : List ℕ) → needed_block growth false h s ≡ planned t zs → zs ≡ []
unfolding needed_block
none_needed growth h s t zs e = (planned_same s t [] zs e).1

module _ {img : List ℕ} {h : ℕ} {new : NewEntry} {f : ℕ} {room : Option ℕ} {ys : List ℕ} {u : Slotted} {zs : List ℕ} (m : Making img h new f room ys u zs) where
  abbrev s : Anodes
  s = anodes_of img

  abbrev t : Anodes
  t = u.anodes

  abbrev j : List ℕ
  j = made_image img s h new f room ys u zs

  -- ---- how many blocks are taken

  own_blocks : length ys ≡ cond new.dir 1 0
  own_blocks = ap length (plan m).own_blocks ∙ go new.dir
    where
      go : (b : Bool) → length (cond b (t.block f ∷ []) []) ≡ cond b 1 0
      go true = refl
      go false = refl

  parent-blocks : length zs ≡ cond (no_room room) 1 0
  parent-blocks = go (no_room room) refl
    where
      go : (b : Bool) → no_room room ≡ b → length zs ≡ cond b 1 0
      go true e = ap length ((grown m).took e).1
      go false e = ap length (none_needed m.growth h m.steps.between u zs (rw e at m.steps.parent))

  -- ---- the chains

  others_count : (k : ℕ) → Head s.next s.block k → k ≢ 1 → k ≢ h → block_count t k ≡ block_count s k
  others_count k d k1 kh = kept-count s t k ((grown m).others k d k1 kh) (λ a q. let c = on_chain_lem (w m).good k d a q in ((grown m).kept a c.1 (λ i. k1 (sym c.0 ∙ i))).0)

  parent-count : block_count t h ≡ block_count s h + length zs
  unfolding block_count
  parent-count =
      let r = parent m in
      let old = chain_of s.next limit h in
      omega (
        arith,
        ap (sum_list t.count) (grown m).chain,
        list_append t.count old (grown m).new,
        kept-sum s.count t.count old (λ a q. let c = on_chain_lem (w m).good h (reached_head r) a q in ((grown m).kept a c.1 (λ i. reached-not-1 r (sym c.0 ∙ i))).0),
        kept-sum (λ a. 1) t.count (grown m).new (grown m).ones,
        list_length (grown m).new,
        ap length (grown m).blocks,
        length-map (grown m).new t.block,
      )

  own_count : block_count t f ≡ cond new.dir 1 0
  unfolding block_count
  own_count = ap (sum_list t.count) (plan m).own_chain ∙ list_one t.count f ∙ (plan m).own_count

  -- ---- the entries

  is_new : (x : ℕ) → IsReached img x → x ≢ f
  is_new x r = let there : ReachedDir img x = record { image = (parent m).image; reached = r } in not_fresh m x (reached_head there) (reached-not-1 there)

  -- a file that was there has the blocks that it had
  one_entry : (x : ℕ) (c : Entered) → EntryIn img x c → cond c.dir 0 (block_count t c.anode) ≡ cond c.dir 0 (block_count s c.anode)
  one_entry x c n = go c.dir refl
    where
      go : (b : Bool) → c.dir ≡ b → cond b 0 (block_count t c.anode) ≡ cond b 0 (block_count s c.anode)
      go true q = refl
      go false q = let g = entry-facts n in others_count c.anode g.head (entry-not-1 g) (λ i. not-file (parent m) g q (sym i))

  -- the new one is a directory, or has no block
  new_none : cond (entered m).dir 0 (block_count t (entered m).anode) ≡ 0
  unfolding entry_of
  new_none = go new.dir own_count
    where
      go : (b : Bool) → block_count t f ≡ cond b 1 0 → cond (is_dir (cond b Directory File)) 0 (block_count t f) ≡ 0
      go true q = refl
      go false q = q

  abbrev files : Entered → ℕ
  files c = cond c.dir 0 (block_count t c.anode)

  same-files : (x : ℕ) → IsReached img x → sum_list files (entries_of j (anodes_of j) x) ≡ sum_list (λ c. cond c.dir 0 (block_count s c.anode)) (entries_of img s x)
  same-files x r =
      let there : ReachedDir img x = record { image = (parent m).image; reached = r } in
      let old = member_congr files (λ c. cond c.dir 0 (block_count s c.anode)) (entries_of img s x) (λ c n. one_entry x c (record { directory = there; member = n })) in
      elim (same? x h) [
        | inl i ↦ (let (front, back, were, are) = entry_added m in
            omega (
              arith,
              old,
              ap (λ (k : ℕ). sum_list files (entries_of j (anodes_of j) k)) i,
              ap (λ (k : ℕ). sum_list files (entries_of img s k)) i,
              ap (sum_list files) are,
              list_append files front (entered m ∷ back),
              list_cons files (entered m) back,
              ap (sum_list files) were,
              list_append files front back,
              new_none,
            ))
        | inr i ↦ ap (sum_list files) (entries_kept m there i) ∙ old
      ]

  changed-at : (x : ℕ) → IsReached img x → blocks_at j (anodes_of j) x + one_at x h * 0 ≡ blocks_at img s x + one_at x h * length zs
  unfolding blocks_at
  changed-at x r =
      let there : ReachedDir img x = record { image = (parent m).image; reached = r } in
      let own : block_count (anodes_of j) x ≡ block_count s x + one_at x h * length zs = rw (made-disk m).anodes (elim (one_at_cases x h) [
        | inl c ↦ rw (c.1, c.0) (omega (arith, parent-count))
        | inr c ↦ rw c.1 (omega (arith, others_count x (reached_head there) (reached-not-1 there) c.0))
      ]) in
      omega (arith, own, ap (λ (a : Anodes). sum_list (λ c. cond c.dir 0 (block_count a c.anode)) (entries_of j (anodes_of j) x)) (made-disk m).anodes, same-files x r)

  -- the new directory has its own block alone
  new_entries : new.dir ≡ true → entries_of j (anodes_of j) f ≡ []
  unfolding entries_of entries_in gather
  new_entries d =
      ap (λ (a : Anodes). gather (λ b. entries_in j (a.block b)) (chain_of a.next limit f)) (made-disk m).anodes
      ∙ ap (gather (λ b. entries_in j (t.block b))) (plan m).own_chain
      ∙ gather_none (λ b. entries_in j (t.block b)) (f ∷ []) (λ b q. elim (one_at_cases f b) [
        | inl c ↦ rw (← c.0, own_stored m d) (entries_new f h (t.block f))
        | inr c ↦ absurd (omega (arith, q, c.1, occurrences-cons b f [], occurrences-nil b))
      ])

  new-at : new.dir ≡ true → blocks_at j (anodes_of j) f ≡ 1
  unfolding blocks_at
  new-at d = omega (
    arith,
    ap (λ (a : Anodes). block_count a f) (made-disk m).anodes,
    own_count,
    ap (λ (b : Bool). cond {A = ℕ} b 1 0) d,
    ap (sum_list (λ c. cond c.dir 0 (block_count (anodes_of j) c.anode))) (new_entries d),
    list_nil (λ (c : Entered). cond c.dir 0 (block_count (anodes_of j) c.anode)),
  )

  -- ---- the directories, where the name was not there

  module _ (unused : entry_named img (anodes_of img) h new.name ≡ none) where
    left-image : AcceptedImage j
    left-image = record { blocks = (parent m).image.blocks; anodes = (parent m).image.anodes; accepted = whole_accepted (made-disk m) (made_whole m unused) (disk_right (parent m).image (table m)) }

    same-reached : (x : ℕ) → IsReached img x → IsReached j x
    same-reached x r = reached-kept m unused x (is_new x r) ∙ r

    parent-now : (x : ℕ) → parent_of (walked_dirs j) x ≡ parent_of (walked_dirs img) x + cond new.dir (one_at f x * h) 0
    parent-now x =
        parent-sum x (walked_dirs j) (reached_once left-image x) ∙ made-dirs m unused (λ d. one_at d.head x * d.parent)
        ∙ ap (λ (k : ℕ). k + cond new.dir (one_at f x * h) 0) (sym (parent-sum x (walked_dirs img) (reached_once (parent m).image x)))

    same_parents : SameParents img j
    same_parents x a b = omega (arith, parent-now x, none new.dir)
      where
        none : (b : Bool) → cond b (one_at f x * h) 0 ≡ 0
        none true = rw (one_at_other f x (λ i. is_new x a (sym i))) (omega arith)
        none false = refl

    -- the new directory lies where its parent does
    new_lies : new.dir ≡ true → (top : ℕ) → IsReached img top → lies_in (walked_dirs j) top f ≡ lies_in (walked_dirs img) top h
    unfolding lies_in
    new_lies d top r =
        let there : ReachedDir j f = record { image = left-image; reached = new-reached m unused d } in
        let off : headed f (walked_dirs img) ≡ 0 = not_above (headed f (walked_dirs img)) (λ q. is_new f (headed-reached img s f q) refl) in
        let up : parent_of (walked_dirs j) f ≡ h = omega (arith, parent-now f, unheaded_parent f (walked_dirs img) off, ap (λ (b : Bool). cond b (one_at f f * h) 0) d, ap (λ (k : ℕ). k * h) (one_at-same f f refl)) in
        let way : way_up (walked_dirs j) f ≡ f ∷ way_up (walked_dirs j) h = way_up_lem left-image there (λ i. omega (arith, i, (spare m).from_6)) ∙ ap (λ (k : ℕ). f ∷ way_up (walked_dirs j) k) up in
        let count : occurrences top (way_up (walked_dirs j) f) ≡ occurrences top (way_up (walked_dirs j) h) = omega (arith, ap (occurrences top) way, occurrences-cons top f (way_up (walked_dirs j) h), one_at_other f top (λ i. is_new top r (sym i))) in
        rw count (lies_kept (parent m).image left-image same_parents top h (parent m).reached (same-reached h (parent m).reached))

    changed_used : (top : ℕ) → IsReached img top → used_in j (anodes_of j) top ≡ used_in img s top + cond (lies_in (walked_dirs img) top h) (length ys + length zs) 0
    unfolding used_in
    changed_used top r =
        let D = walked_dirs img in
        let weight : ℕ → ℕ = λ x. cond (lies_in (walked_dirs j) top x) (blocks_at j (anodes_of j) x) 0 in
        let reach : (d : Dir) → Member d D → IsReached img d.head = λ d n. (member-reached (parent m).image d n).reached in
        omega (
          arith,
          made-dirs m unused (λ d. weight d.head),
          lying_changed D h 0 (length zs) (lies_in D top) (lies_in (walked_dirs j) top) (blocks_at img s) (blocks_at j (anodes_of j)) (once m)
              (λ d n. lies_kept (parent m).image left-image same_parents top d.head (reach d n) (same-reached d.head (reach d n))) (λ d n. changed-at d.head (reach d n)),
          own new.dir refl (lies_in D top h) refl,
          split (lies_in D top h),
        )
      where
        own : (b : Bool) → new.dir ≡ b → (l : Bool) → lies_in (walked_dirs img) top h ≡ l → cond b (cond (lies_in (walked_dirs j) top f) (blocks_at j (anodes_of j) f) 0) 0 ≡ cond l (length ys) 0
        own true d l q = rw (new_lies d top r, q, new-at d, own_blocks, d)
        own false d true q = sym (own_blocks ∙ ap (λ (b : Bool). cond {A = ℕ} b 1 0) d)
        own false d false q = refl

        split : (l : Bool) → cond l (length ys + length zs) 0 + cond l 0 0 ≡ cond l (length ys) 0 + cond l (length zs) 0
        split true = omega arith
        split false = refl

    needs_are : make_needs img h new ≡ length ys + length zs
    unfolding make_needs room_for
    needs_are = rw m.steps.roomy (omega (arith, own_blocks, parent-blocks))

    -- the blocks that a make needs are taken
    pub make_use : ChangedUse img (made_image img (anodes_of img) h new f room ys u zs) h (make_needs img h new) 0
    make_use = rw needs_are (record {
      image' = left-image;
      same_size = disk_size-kept (made-disk m).same.kept ∙ disk_size_lem (parent m).image (table m);
      parents = same_parents;
      used = λ top a b. omega (arith, changed_used top a, none (lies_in (walked_dirs img) top h));
      paid = omega (arith, made-sum m);
    })
      where
        none : (l : Bool) → cond {A = ℕ} l 0 0 ≡ 0
        none true = refl
        none false = refl
