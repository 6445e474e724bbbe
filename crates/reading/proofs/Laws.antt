-- What a read and a list leave in what they are lent, from what the search found.
use Prim.Native.Nat.{ℕ, zero, suc, ◌+◌, ◌*◌, ◌/◌, ◌%◌, ◌≤◌, ◌<◌}
use mathlib.Core.Path.{◌≡◌, refl, sym, ap, ◌∙◌}
use mathlib.Core.Bool.{false}
use mathlib.Core.List.{List, [], ◌∷◌}
use mathlib.Core.Option.{Option, some}
use native.Mathlib.Omega.{arith}
use lib.ListN.{length, take, drop}
use lib.Seq.{drop-drop}
use Rattle.disk.specs.Blocks.{block_of}
use Rattle.directory.specs.Entries.{name_in, name_length, entry_length}
use Rattle.rules.specs.Anodes.{Anodes, anodes_of}
use Rattle.rules.specs.Walk.{Entered, blocks_for}
use Rattle.rules.specs.Accepted.{disk_size}
use Rattle.rules.specs.Lookup.{no_directory, entries_of, entry_named, nth, name_at, bytes_of, contents}
use Rattle.rules.specs.Calls.{done_or, bytes_read, list_refusal}
use Rattle.laws.specs.Acceptance.{size_bounds}
use Rattle.laws.specs.Each.{Member}
use Rattle.looks.specs.Laws.{find_reached}
use Rattle.change_laws.specs.Answers.{list_reached, search_number}
use Rattle.change_laws.specs.Image.{accepted_own, image-passed}
use Rattle.change_laws.specs.FoundEntries.{standing_found}
use Rattle.change_laws.specs.Reached.{EntryIn, entry-facts, nth-member, named-member}
use Rattle.change_laws.specs.Read.{bytes_long}
use Rattle.find.specs.Open.{Open}
use Rattle.reading.specs.Parts.{NameStands}

-- a part within the first bytes of a list
pub take_within : {X : Type 0} (size offset len : ℕ) (l : List X) → offset + len ≤ size → take len (drop offset (take size l)) ≡ take len (drop offset l)
take_within size offset zero l e = refl
take_within zero offset (suc len) l e = absurd (omega arith)
take_within (suc size) offset (suc len) [] e = refl
take_within (suc size) zero (suc len) (x ∷ l) e = ap (λ (m : List _). x ∷ m) (take_within size 0 len l (omega arith))
take_within (suc size) (suc offset) (suc len) (x ∷ l) e = take_within size offset (suc len) l (omega arith)

-- the name of an entry stands whole
pub name_standing : {img : List ℕ} {h : ℕ} {e : Entered} → EntryIn img h e → NameStands img e.start
unfolding entry_length disk_size
name_standing entry =
    let f = entry-facts entry in
    let w = standing_found f.stands in
    record {
      in_block_lem = omega (arith, w.exact, w.room);
      in_image = omega (arith, w.exact, w.room, f.in_block_lem, f.block_facts.is_data.below);
    }

-- and is then a part of the image
pub named-part : (img : List ℕ) (start : ℕ) → NameStands img start → name_at img start ≡ take (name_length (block_of img (start / 512)) (start % 512)) (drop (start + 16) img)
unfolding name_at name_in block_of
named-part img start stands =
    let e : start / 512 * 512 + (start % 512 + 16) ≡ start + 16 = omega arith in
    take_within 512 (start % 512 + 16) (name_length (block_of img (start / 512)) (start % 512)) (drop (start / 512 * 512) img) (omega (arith, stands.in_block_lem))
    ∙ ap (take (name_length (block_of img (start / 512)) (start % 512))) (drop-drop (start % 512 + 16) (start / 512 * 512) img ∙ ap (λ (n : ℕ). drop n img) e)

-- an entry stands on the disk
pub start_low : {img : List ℕ} {h : ℕ} {e : Entered} → EntryIn img h e → e.start < 65536 * 512
start_low {img} entry =
    let f = entry-facts entry in
    omega (arith, f.in_block_lem, f.block_facts.is_data.below, (size_bounds img (image-passed entry.directory.image).size_right).1)

module _ {img counts firsts nexts queue parents heads : List ℕ} {dirs : ℕ} (o : Open img counts firsts nexts queue parents heads dirs)
    (h : ℕ) (reached : no_directory img (anodes_of img) h ≡ false) (e : Entered) (member : Member e (entries_of img (anodes_of img) h)) where
  -- an entry of a reached directory
  pub open_entry : EntryIn img h e
  open_entry = record { directory = record { image = accepted_own img o.loaded.accepted; reached = reached }; member = member }

  -- a file's blocks hold its bytes
  pub file_long : e.dir ≡ false → e.size ≤ length (bytes_of img (anodes_of img) e.anode)
  unfolding blocks_for
  file_long f = omega (arith, bytes_long open_entry f)

module _ {img counts firsts nexts queue parents heads : List ℕ} {dirs : ℕ} (o : Open img counts firsts nexts queue parents heads dirs) (h : ℕ) (e : Entered) where
  -- an entry that a list finds
  pub listed-entry : (n : ℕ) → list_refusal img (anodes_of img) h n ≡ 0 → nth (entries_of img (anodes_of img) h) n ≡ some e → EntryIn img h e
  listed-entry n z is = open_entry o h (list_reached img (anodes_of img) h n z) e (nth-member _ _ _ is)

  -- or a name
  pub named_entry : (name : List ℕ) → search_number (no_directory img (anodes_of img) h) (entry_named img (anodes_of img) h name) ≡ 0 → entry_named img (anodes_of img) h name ≡ some e → EntryIn img h e
  named_entry name z is = open_entry o h (find_reached img (anodes_of img) h name z) e (named-member _ _ _ _ _ is)

-- ---- a done read

-- fills the buffer with the file's bytes
pub bytes-done : (img : List ℕ) (s : Anodes) (o : Option Entered) (x : Entered) → o ≡ some x → (offset : ℕ) (out new : List ℕ) → offset + length out ≤ x.size →
    new ≡ take (length out) (drop offset (bytes_of img s x.anode)) → new ≡ bytes_read 0 img s o offset out
unfolding done_or contents
bytes-done img s o x is offset out new l e = rw is (e ∙ sym (take_within x.size offset (length out) (bytes_of img s x.anode) l))
