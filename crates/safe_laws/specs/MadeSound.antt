-- The image that a safe make leaves is sound.
use Rattle.std.specs.Prelude.{ℕ, ◌<◌, ◌≡◌, ◌≢◌, cond, List, ◌∷◌, map}
use Rattle.std.proofs.Common.{sym, ap, ◌∙◌, inl, inr}
use Rattle.std.proofs.Math.Option.{Option, none}
use Rattle.disk.specs.Root.{slot_of}
use Rattle.rules.specs.Counting.{occurrences}
use Rattle.rules.specs.Anodes.{Anodes, limit, exists_by, exists, anodes_of}
use Rattle.rules.specs.Chains.{chain_of, system_owns}
use Rattle.rules.specs.Walk.{Dir, dir_made, entries_in, is_block_of, reached_dirs}
use Rattle.rules.specs.Accepted.{disk_size, last_reserved}
use Rattle.rules.specs.Lookup.{entry_named}
use Rattle.rules.specs.Plans.{Slotted, planned, table_of}
use Rattle.rules.specs.Space.{lowest_free}
use Rattle.rules.specs.Changes.{NewEntry, room_for, made_image}
use Rattle.rules.specs.Totals.{Sound}
use Rattle.laws.specs.Tests.{same?}
use Rattle.laws.specs.Moves.{with_these}
use Rattle.laws.specs.Members.{Member, occurrences-member}
use Rattle.laws.specs.Whole.{Whole, change_free, blocks-moved}
use Rattle.change_laws.specs.Image.{disk_at, disk_right, disk_size_lem, disk-last, disk_whole, whole_accepted, WholeWith, ReachedDir}
use Rattle.change_laws.specs.MadeImage.{Making, plan, table, spot}
use Rattle.change_laws.specs.Make.{made_whole}
use Rattle.safe_rules.specs.SafePlans.{room_block, make_change, safe_steps}
use Rattle.safe_rules.specs.SafeWrites.{new_image}
use Rattle.safe_laws.specs.CutOff.{accepted_sound}
use Rattle.safe_laws.specs.PlacedEntries.{placed_if, if_fields, entries_relocated, marks_relocated}
use Rattle.safe_laws.specs.SafeMade.{spot_used, spot_away, MakeLeaves}
use Rattle.safe_laws.specs.MadeChains.{out_alike, now_block, chain_used, out-chain}
use Rattle.safe_laws.specs.MadeStores.{make_disk}
use Rattle.safe_laws.specs.MadeBlocks.{made_head, made-placed, made_block_now}

module _ {img : List ℕ} {h : ℕ} (p : ReachedDir img h) (new : NewEntry) (unused : entry_named img (anodes_of img) h new.name ≡ none) (t : Slotted) (ws : List ℕ) (steps : safe_steps img (make_change img (table_of img) h new) ≡ planned t ws)
    (l : MakeLeaves img h new (lowest_free limit (exists_by (slot_of img)) (anodes_of img)) (room_for img (anodes_of img) h new) t ws) where
  abbrev f : ℕ
  f = lowest_free limit (exists_by (slot_of img)) (anodes_of img)

  abbrev room : Option ℕ
  room = room_for img (anodes_of img) h new

  abbrev m : Making img h new f room l.ys l.u l.zs
  m = l.making

  abbrev u : Anodes
  u = l.u.anodes

  abbrev i : List ℕ
  i = made_image img (anodes_of img) h new f room l.ys l.u l.zs

  abbrev j : List ℕ
  j = new_image img (make_change img (table_of img) h new) t ws

  abbrev dirs : List Dir
  dirs = cond new.dir (dir_made f h ∷ reached_dirs img (anodes_of img)) (reached_dirs img (anodes_of img))

  -- what the make in place leaves
  made : Whole (exists (disk_at img l.u)) (disk_size img) (last_reserved img) u (system_owns (disk_at img l.u)) (plan m).hd' (plan m).sd' (entries_in i) (is_block_of i) dirs
  made = rw (disk_size_lem p.image (table m), disk-last p.image (table m)) at (made_whole m unused)

  -- a block is out of the free list
  out_whole : Whole (exists_by l.u.slots) (disk_size img) (last_reserved img) l.moved.between l.moved.system' l.moved.hd' l.moved.sd' (entries_in i) (is_block_of i) dirs
  out_whole = change_free made l.moved.out-good l.moved.out

  -- an anode in use stays so
  still_used : (a : ℕ) → l.moved.between.block a ≢ 0 → l.r.anodes.block a ≢ 0
  still_used a used z = elim (same? a (spot m).anode) [
    | inl e ↦ l.moved.spot_used (ap l.r.anodes.block (sym e) ∙ z)
    | inr o ↦ used (sym (l.moved.others a o) ∙ z)
  ]

  -- and was so
  was_used : (a : ℕ) → l.r.anodes.block a ≢ 0 → l.moved.between.block a ≢ 0
  was_used a used z = elim (same? a (spot m).anode) [
    | inl e ↦ spot_used m (sym (out_alike m l.moved l.left (spot m).anode (spot_used m) (spot_away m)).same_block ∙ ap l.moved.between.block (sym e) ∙ z)
    | inr o ↦ used (l.moved.others a o ∙ z)
  ]

  -- the block of a directory, in its place or its new one
  there : (d : Dir) → Member d dirs → (a : ℕ) → 0 < occurrences a (chain_of l.moved.between.next limit d.head) → l.moved.between.count a ≡ 1 →
      (entries_in j (l.r.anodes.block a) ≡ map (placed_if l.moved.y l.moved.z) (entries_in i (l.moved.between.block a))) × (is_block_of j d (l.r.anodes.block a) ≡ is_block_of i d (l.moved.between.block a))
  there d q a on one =
      let (head, not-1) = made_head p new unused t ws steps l d q in
      let here : 0 < occurrences a (chain_of u.next limit d.head) = rw (out-chain m l.moved l.left d.head head not-1) at on in
      let member = occurrences-member a (chain_of u.next limit d.head) here in
      let (used, away, own) = chain_used m l.moved l.left d.head head not-1 a here in
      let block = made_block_now p new unused t ws steps l d q a member in
      rw (← (now_block m l.moved l.left a used away), (out_alike m l.moved l.left a used away).same_block)
      (entries_relocated i j l.moved.y l.moved.z (u.block a) (t.anodes.block a) block (made-placed p new unused t ws steps l d q a member), marks_relocated i j (u.block a) (t.anodes.block a) block d)

  -- it has the entry
  moved_whole : Whole (exists_by l.r.slots) (disk_size img) (last_reserved img) l.r.anodes (with_these (system_owns img) (room_block room)) l.moved.hd' l.moved.sd' (entries_in j) (is_block_of j) dirs
  moved_whole = blocks-moved out_whole l.moved.good l.moved.next l.moved.count still_used was_used (placed_if l.moved.y l.moved.z) (if_fields l.moved.y l.moved.z) (entries_in j) (is_block_of j) there

  -- and all others have moved
  left_whole : WholeWith (disk_at img t) t.anodes l.left.hd' l.left.sd' (entries_in j) (is_block_of j) dirs
  left_whole = disk_whole p.image l.left.table (change_free moved_whole l.left.table.good l.left.shift)

  -- THE IMAGE THAT A SAFE MAKE LEAVES IS SOUND
  pub made_sound : Sound (new_image img (make_change img (table_of img) h new) t ws)
  made_sound = accepted_sound (record { blocks = p.image.blocks; anodes = p.image.anodes; accepted = whole_accepted (make_disk p new t ws steps l) left_whole (disk_right p.image l.left.table) })
