-- What a safe make stores: the new directory's block and the block that has the entry.
use Rattle.std.specs.Prelude.{ℕ, ◌+◌, ◌*◌, ◌≤◌, ◌<◌, ◌≡◌, ◌≢◌, Bool, take}
use Rattle.std.proofs.Math.Path.{refl, sym, ap}
use Rattle.std.proofs.Common.{◌∙◌, true≢false, take_all}
use Rattle.std.proofs.Math.Logic.{inl, inr}
use Rattle.std.proofs.Math.Bool.{true, false, cond}
use mathlib.Core.List.{List, [], ◌∷◌, ◌++◌, append-nil, head-eq_of_cons-eq, tail-eq_of_cons-eq}
use Rattle.std.proofs.Math.Option.{Option, none, some}
use native.Mathlib.Omega.{arith}
use Rattle.std.proofs.Math.ListN.{length, length-take, length-append}
use Rattle.std.proofs.lemmas.List.{take-append-le}
use Rattle.disk.specs.Blocks.{block_of}
use Rattle.disk.specs.Root.{slot_of}
use Rattle.disk.proofs.Laws.{length-block_of}
use Rattle.rules.specs.Counting.{occurrences, gather}
use Rattle.rules.specs.Anodes.{limit, exists_by, exists, anodes_of}
use Rattle.rules.specs.Chains.{system_owns}
use Rattle.rules.specs.Accepted.{disk_size, last_reserved}
use Rattle.rules.specs.Plans.{Slotted, planned, table_of}
use Rattle.rules.specs.Space.{lowest_free}
use Rattle.rules.specs.Table.{with_table}
use Rattle.rules.specs.Format.{new_directory_block}
use Rattle.rules.specs.Changes.{NewEntry, no_room, room_for, spread}
use Rattle.laws.specs.Sums.{one_at_cases}
use Rattle.laws.specs.Bags.{occurrences-nil, occurrences-cons, occurrences-append, occurrences-here}
use Rattle.laws.specs.Space.{Good, head_1}
use Rattle.laws.specs.NewDirectory.{length-new}
use Rattle.frames.specs.Kept.{Kept}
use Rattle.frames.specs.StoredBlocks.{spread-kept}
use Rattle.frames.specs.StoredBytes.{gather-spread}
use Rattle.frames.specs.DisjointBlocks.{DataBlock, chain_once}
use Rattle.change_laws.specs.Image.{AcceptedWhole, accepted_whole, DiskWith, disk_at, disk-good, stored-kept, disk-stored, disk_then, not_among, ReachedDir}
use Rattle.change_laws.specs.SingleBlocks.{single_used, single_data}
use Rattle.change_laws.specs.MadeImage.{Making, spare, plan, table, spot, orphan}
use Rattle.change_laws.specs.Make.{not_spot, own_one}
use Rattle.safe_rules.specs.SafePlans.{SafeChange, entry_block, room_block, make_in, make_change, safe_steps}
use Rattle.safe_rules.specs.SafeWrites.{new_image}
use Rattle.safe_laws.specs.OwnMake.{entry_whole, make_own}
use Rattle.safe_laws.specs.LeftImage.{free, data_block}
use Rattle.safe_laws.specs.SafeMade.{spot_used, spot_away, MakeLeaves}
use Rattle.safe_laws.specs.MadeChains.{now_block, now-count, now_other}

-- two lists in one, part by part
parts_same : (a b c d : List ℕ) → a ++ b ≡ c ++ d → length a ≡ length c → (a ≡ c) × (b ≡ d)
parts_same [] b [] d e l = (refl, e)
parts_same [] b (y ∷ c) d e l = absurd (omega (arith, l))
parts_same (x ∷ a) b [] d e l = absurd (omega (arith, l))
parts_same (x ∷ a) b (y ∷ c) d e l =
    let (p, q) = parts_same a b c d (tail-eq_of_cons-eq e) (omega (arith, l)) in
    (ap (λ (v : List ℕ). x ∷ v) p ∙ ap (λ (v : ℕ). v ∷ c) (head-eq_of_cons-eq e), q)

module _ {img : List ℕ} {h : ℕ} (r : ReachedDir img h) (new : NewEntry) (t : Slotted) (ws : List ℕ) (steps : safe_steps img (make_change img (table_of img) h new) ≡ planned t ws)
    (l : MakeLeaves img h new (lowest_free limit (exists_by (slot_of img)) (anodes_of img)) (room_for img (anodes_of img) h new) t ws) where
  abbrev f : ℕ
  f = lowest_free limit (exists_by (slot_of img)) (anodes_of img)

  abbrev room : Option ℕ
  room = room_for img (anodes_of img) h new

  abbrev c : SafeChange
  c = make_change img (table_of img) h new

  abbrev j : List ℕ
  j = new_image img c t ws

  w : AcceptedWhole img
  w = accepted_whole r.image

  abbrev m : Making img h new f room l.ys l.u l.zs
  m = l.making

  -- the block that has the entry
  abbrev x : ℕ
  x = t.anodes.block (spot m).anode

  -- the blocks that are stored
  own_blocks : List ℕ
  own_blocks = cond new.dir (l.u.anodes.block f ∷ []) []

  -- they are the first that were taken
  taken_are : l.ys ++ (l.zs ++ l.vs) ≡ own_blocks ++ (x ∷ [])
  unfolding own_blocks
  taken_are = ap (λ (k : List ℕ). k ++ (l.zs ++ l.vs)) (plan m).own_blocks ∙ ap (λ (k : List ℕ). own_blocks ++ k) (l.moved.taken ∙ ap (λ (y : ℕ). y ∷ []) (sym (now_block m l.moved l.left (spot m).anode (spot_used m) (spot_away m))))

  -- the new directory has one of them
  own_long : length own_blocks ≡ cond new.dir 1 0
  unfolding own_blocks
  own_long = go new.dir
    where
      go : (b : Bool) → length (cond b (l.u.anodes.block f ∷ []) []) ≡ cond b 1 0
      go true = refl
      go false = refl

  -- the entry's is the other
  one_block : (o : Option ℕ) → cond (no_room o) 1 0 + length (room_block o) ≡ 1
  one_block none = refl
  one_block (some at) = refl

  -- they are as many as were counted
  many : c.takes + length c.changing ≡ length (own_blocks ++ (x ∷ []))
  unfolding make_change make_in
  many = omega (arith, own_long, length-append own_blocks (x ∷ []), one_block room)

  -- they stand first among all that were taken
  taken-first : take (c.takes + length c.changing) ws ≡ own_blocks ++ (x ∷ [])
  taken-first =
      let n = c.takes + length c.changing in
      ap (take n) (l.are ∙ ap (λ (k : List ℕ). k ++ l.us) taken_are) ∙ take-append-le n (own_blocks ++ (x ∷ [])) l.us (omega (arith, many)) ∙ take_all n (own_blocks ++ (x ∷ [])) (omega (arith, many))

  -- and so are among them
  among : (y : ℕ) → occurrences y (own_blocks ++ (x ∷ [])) ≤ occurrences y ws
  among y = omega (arith, ap (occurrences y) (l.are ∙ ap (λ (k : List ℕ). k ++ l.us) taken_are), occurrences-append y (own_blocks ++ (x ∷ [])) l.us)

  -- what is stored there
  bytes_are : length c.bytes ≡ length (own_blocks ++ (x ∷ [])) * 512
  unfolding make_change make_in
  bytes_are = omega (arith, length-append (cond new.dir (new_directory_block f h) []) (entry_block img (anodes_of img) h new f room), entry_whole r new room refl, own_bytes new.dir, own_long, length-append own_blocks (x ∷ []))
    where
      own_bytes : (b : Bool) → length (cond b (new_directory_block f h) []) ≡ cond b 1 0 * 512
      own_bytes true = length-new f h
      own_bytes false = refl

  -- all other blocks stay
  stores_kept : Kept (λ y. occurrences y (own_blocks ++ (x ∷ [])) ≡ 0) (with_table img t) (new_image img (make_change img (table_of img) h new) t ws)
  unfolding new_image
  stores_kept = rw (← taken-first) (spread-kept (with_table img t) (take (c.takes + length c.changing) ws) c.bytes
      (omega (arith, bytes_are, many, length-take (c.takes + length c.changing) ws)))

  -- the image with the table is as long as the old one
  table_long : length (with_table img t) ≡ length img
  table_long = (stored-kept r.image l.left.table).length-kept

  -- what stands in them then
  stored-all : gather (block_of j) (own_blocks ++ (x ∷ [])) ≡ c.bytes
  unfolding new_image
  stored-all =
      ap (λ (k : List ℕ). gather (block_of (spread (with_table img t) k c.bytes)) (own_blocks ++ (x ∷ []))) taken-first
      ∙ gather-spread (with_table img t) (own_blocks ++ (x ∷ [])) c.bytes bytes_are
      (λ y p. omega (arith, table_long, (data_block r.image (make_own r new) t ws steps y (omega (arith, p, among y))).inside))
      (λ y. omega (arith, among y, free r.image (make_own r new) t ws steps y, chain_once w.good 1 (head_1 w.good) y))

  -- the image is as long as the old one
  image_long : length (new_image img (make_change img (table_of img) h new) t ws) ≡ length img
  image_long = stores_kept.length-kept ∙ table_long

  -- the new directory's block is one of them
  own_in : new.dir ≡ true → 0 < occurrences (l.u.anodes.block f) (own_blocks ++ (x ∷ []))
  unfolding own_blocks
  own_in d = omega (
    arith,
    occurrences-append (l.u.anodes.block f) own_blocks (x ∷ []),
    ap (λ (b : Bool). occurrences (l.u.anodes.block f) (cond b (l.u.anodes.block f ∷ []) [])) d,
    occurrences-here (l.u.anodes.block f) [],
  )

  -- it is a whole one
  own_whole : new.dir ≡ true → length (block_of j (l.u.anodes.block f)) ≡ 512
  own_whole d = length-block_of j (l.u.anodes.block f) (omega (arith, image_long, (data_block r.image (make_own r new) t ws steps (l.u.anodes.block f) (omega (arith, own_in d, among (l.u.anodes.block f)))).inside))

  -- part by part
  stored-parts : ((new.dir ≡ true) → block_of j (l.u.anodes.block f) ≡ new_directory_block f h) × (block_of j x ≡ entry_block img (anodes_of img) h new f room)
  unfolding make_change make_in own_blocks gather
  stored-parts = go new.dir refl stored-all
    where
      go : (b : Bool) → new.dir ≡ b → gather (block_of j) (cond b (l.u.anodes.block f ∷ []) [] ++ (x ∷ [])) ≡ cond b (new_directory_block f h) [] ++ entry_block img (anodes_of img) h new f room →
          ((new.dir ≡ true) → block_of j (l.u.anodes.block f) ≡ new_directory_block f h) × (block_of j x ≡ entry_block img (anodes_of img) h new f room)
      go true d e =
          let (p, q) = parts_same (block_of j (l.u.anodes.block f)) (block_of j x ++ []) (new_directory_block f h) (entry_block img (anodes_of img) h new f room) e (own_whole d ∙ sym (length-new f h)) in
          (λ z. p, sym (append-nil (block_of j x)) ∙ q)
      go false d e = (λ z. absurd (true≢false (sym z ∙ d)), sym (append-nil (block_of j x)) ∙ e)

  -- the new directory's block
  pub own_now : new.dir ≡ true → block_of (new_image img (make_change img (table_of img) h new) t ws) (l.u.anodes.block (lowest_free limit (exists_by (slot_of img)) (anodes_of img))) ≡ new_directory_block (lowest_free limit (exists_by (slot_of img)) (anodes_of img)) h
  own_now = stored-parts.0

  -- the block that has the entry
  pub spot_now : block_of (new_image img (make_change img (table_of img) h new) t ws) (t.anodes.block (spot l.making).anode)
      ≡ entry_block img (anodes_of img) h new (lowest_free limit (exists_by (slot_of img)) (anodes_of img)) (room_for img (anodes_of img) h new)
  spot_now = stored-parts.1

  -- ---- the disk

  -- the anodes are good on the disk with the new slots
  t-good : Good limit (exists (disk_at img t)) (disk_size (disk_at img t)) (last_reserved (disk_at img t)) t.anodes (system_owns (disk_at img t)) l.left.hd' l.left.sd'
  t-good = disk-good r.image l.left.table

  -- the entry's block is a data block there
  spot_data : DataBlock (disk_at img t) x
  spot_data = single_data (disk_at img t) t-good (spot m).anode (now-count m l.moved l.left (spot m).anode (spot_used m) (spot_away m) ∙ (spot m).one)

  -- so is the new directory's
  own_data : new.dir ≡ true → DataBlock (disk_at img t) (l.u.anodes.block f)
  own_data d =
      let used = single_used (table m).good f (own_one m d) in
      let away : (plan m).hd' f ≢ 1 = λ i. omega (arith, (spare m).from_6, sym ((table m).good.heads.at_head f (orphan m).head) ∙ i) in
      rw (now_other m l.moved l.left f used away (not_spot m)) at (single_data (disk_at img t) t-good f (now-count m l.moved l.left f used away ∙ own_one m d))

  -- so is each that is stored
  stored_data : (y : ℕ) → 0 < occurrences y (own_blocks ++ (x ∷ [])) → DataBlock (disk_at img t) y
  unfolding own_blocks
  stored_data y p = elim (one_at_cases x y) [
    | inl e ↦ rw (← e.0) spot_data
    | inr e ↦ go new.dir refl (omega (arith, p, occurrences-append y own_blocks (x ∷ []), occurrences-cons y x [], occurrences-nil y, e.1))
  ]
    where
      go : (b : Bool) → new.dir ≡ b → 0 < occurrences y (cond b (l.u.anodes.block f ∷ []) []) → DataBlock (disk_at img t) y
      go true d q = elim (one_at_cases (l.u.anodes.block f) y) [
        | inl e ↦ rw (← e.0) (own_data d)
        | inr e ↦ absurd (omega (arith, q, occurrences-cons y (l.u.anodes.block f) [], occurrences-nil y, e.1))
      ]
      go false d q = absurd (omega (arith, q, occurrences-nil y))

  -- the image is the old one's disk with the new slots and anodes
  pub make_disk : DiskWith (disk_at img t) t.anodes (new_image img (make_change img (table_of img) h new) t ws)
  make_disk = disk_then (disk-stored r.image l.left.table) stores_kept (not_among (own_blocks ++ (x ∷ [])) stored_data)
