-- 02, No. 9: the six calls that name a directory, with party and shares. A shared call is 01's call with the tests of shares among its own, and with growth of the anode table where that is allowed.
use Rattle.std.specs.Prelude.{ℕ, ◌+◌, ◌-◌, Bool, false, cond, not, ◌&&◌, ◌||◌, List, [], length, eqb}
use Rattle.rules.specs.Counting.{◌if◌else◌, first_of}
use Rattle.rules.specs.Anodes.{anodes_of}
use Rattle.rules.specs.Chains.{block_count}
use Rattle.rules.specs.Walk.{Entered, blocks_for}
use Rattle.rules.specs.Lookup.{entries_of, entry_named, nth, of_entry}
use Rattle.rules.specs.Plans.{table_of, Growth, no_growth}
use Rattle.rules.specs.Changes.{Left, left, NewEntry, new_entry, no_room, room_for, resized, made, written, removed, usual_growth}
use Rattle.rules.specs.Calls.{Outcome, settled, left_after, checked_first, span_refusal, resize_refusal, remove_refusal, make_refusal, list_refusal, bytes_read, fields_listed, name_listed}
use Rattle.share_rules.specs.Shares.{Shares, over_share, wrong_shares, not_own}

-- each call that names a directory, with all that it is lent or handed but the image, the tables, party and shares
pub data SharedCall : Type 0 where
  shared_read : (directory : ℕ) (name : List ℕ) (offset : ℕ) (out : List ℕ) → SharedCall
  shared_list : (directory place : ℕ) → SharedCall
  shared_make : (directory type : ℕ) (name comment : List ℕ) (day minute tick protection : ℕ) → SharedCall
  shared_resize : (directory : ℕ) (name : List ℕ) (size : ℕ) → SharedCall
  shared_write : (directory : ℕ) (name : List ℕ) (offset : ℕ) (bytes : List ℕ) → SharedCall
  shared_remove : (directory : ℕ) (name : List ℕ) → SharedCall

-- the directory that it names
abbrev pub named_directory : SharedCall → ℕ
named_directory (shared_read h name offset out) = h
named_directory (shared_list h place) = h
named_directory (shared_make h type name comment day minute tick protection) = h
named_directory (shared_resize h name new) = h
named_directory (shared_write h name offset bytes) = h
named_directory (shared_remove h name) = h

-- ---- 01's call

-- its own refusals, 20 to 26
abbrev pub unshared_refusal : List ℕ → SharedCall → ℕ
unshared_refusal img (shared_read h name offset out) = span_refusal img (anodes_of img) h name offset (length out)
unshared_refusal img (shared_list h place) = list_refusal img (anodes_of img) h place
unshared_refusal img (shared_make h type name comment day minute tick protection) = make_refusal img (anodes_of img) h type name comment
unshared_refusal img (shared_resize h name new) = resize_refusal img (anodes_of img) h name
unshared_refusal img (shared_write h name offset bytes) = span_refusal img (anodes_of img) h name offset (length bytes)
unshared_refusal img (shared_remove h name) = remove_refusal img (anodes_of img) h name

-- a change of the entry of that name in the directory that h heads (22, were there none)
abbrev pub of_named : List ℕ → ℕ → List ℕ → (Entered → Left) → Left
of_named img h name f = of_entry (entry_named img (anodes_of img) h name) f (left 22 img)

-- what it answers and leaves where those refuse nothing, if slots grow so; read and list leave the image
abbrev pub unshared_left : Growth → List ℕ → SharedCall → Left
unshared_left growth img (shared_read h name offset out) = left 0 img
unshared_left growth img (shared_list h place) = left 0 img
unshared_left growth img (shared_make h type name comment day minute tick protection) =
    made growth img (table_of img) h (new_entry (eqb type 2) name comment day minute tick protection)
unshared_left growth img (shared_resize h name new) = of_named img h name (λ e. resized growth img (table_of img) e new)
unshared_left growth img (shared_write h name offset bytes) = of_named img h name (λ e. left 0 (written img (anodes_of img) e offset bytes))
unshared_left growth img (shared_remove h name) = of_named img h name (λ e. removed growth img (table_of img) e)

-- what it hands out, where the tests come to the number n: a read's bytes, a list's fields
abbrev pub handed_back : ℕ → List ℕ → SharedCall → List ℕ
handed_back n img (shared_read h name offset out) = bytes_read n img (anodes_of img) (entry_named img (anodes_of img) h name) offset out
handed_back n img (shared_list h place) = fields_listed n img (nth (entries_of img (anodes_of img) h) place)
handed_back n img (shared_make h type name comment day minute tick protection) = []
handed_back n img (shared_resize h name new) = []
handed_back n img (shared_write h name offset bytes) = []
handed_back n img (shared_remove h name) = []

-- and a list's name
abbrev pub name_back : ℕ → List ℕ → SharedCall → List ℕ
name_back n img (shared_read h name offset out) = []
name_back n img (shared_list h place) = name_listed n (nth (entries_of img (anodes_of img) h) place)
name_back n img (shared_make h type name comment day minute tick protection) = []
name_back n img (shared_resize h name new) = []
name_back n img (shared_write h name offset bytes) = []
name_back n img (shared_remove h name) = []

-- its outcome, where the tests come to the number n: refused by that, else what it answers and leaves
unfoldable pub outcome_after : Growth → ℕ → List ℕ → List ℕ → List ℕ → SharedCall → Outcome
outcome_after growth n img blocks anodes call =
    settled (left_after n img (unshared_left growth img call)) blocks anodes (handed_back n img call) (name_back n img call)

-- 01's own: the check, then 20 to 26, then the steps
unfoldable pub unshared_outcome : Growth → List ℕ → List ℕ → List ℕ → SharedCall → Outcome
unshared_outcome growth img blocks anodes call = outcome_after growth (checked_first img blocks anodes (unshared_refusal img call)) img blocks anodes call

-- ---- the tests of shares

-- the blocks that a make needs: one for a directory, one where the parent has no room
unfoldable pub make_needs : List ℕ → ℕ → NewEntry → ℕ
make_needs img h new = cond new.dir 1 0 + cond (no_room (room_for img (anodes_of img) h new)) 1 0

-- the blocks that a resize needs: its new blocks less its old ones
unfoldable pub resize_needs : List ℕ → ℕ → List ℕ → ℕ → ℕ
resize_needs img h name new = of_entry (entry_named img (anodes_of img) h name) (λ e. blocks_for new - block_count (anodes_of img) e.anode) 0

-- the blocks that a call would bring its party, growth not counted
abbrev pub blocks_needed : List ℕ → SharedCall → ℕ
blocks_needed img (shared_read h name offset out) = 0
blocks_needed img (shared_list h place) = 0
blocks_needed img (shared_make h type name comment day minute tick protection) = make_needs img h (new_entry (eqb type 2) name comment day minute tick protection)
blocks_needed img (shared_resize h name new) = resize_needs img h name new
blocks_needed img (shared_write h name offset bytes) = 0
blocks_needed img (shared_remove h name) = 0

-- the name stands for a top directory
unfoldable pub names_top : List ℕ → Shares → ℕ → List ℕ → Bool
names_top img sh h name = of_entry (entry_named img (anodes_of img) h name) (λ e. e.dir && (eqb e.anode sh.first || eqb e.anode sh.second)) false

-- the keeper removing a top directory: both are in the root, which is the keeper's
abbrev pub removes_top : List ℕ → Shares → SharedCall → Bool
removes_top img sh (shared_read h name offset out) = false
removes_top img sh (shared_list h place) = false
removes_top img sh (shared_make h type name comment day minute tick protection) = false
removes_top img sh (shared_resize h name new) = false
removes_top img sh (shared_write h name offset bytes) = false
removes_top img sh (shared_remove h name) = names_top img sh h name

-- after the check: 30; 20; 21 by whose directory it is; 22; the keeper's 30; what else the call tries up to 26; 29
unfoldable pub shared_refusal : List ℕ → ℕ → Shares → SharedCall → ℕ
shared_refusal img party sh call =
    30 if wrong_shares img (anodes_of img) party sh
    else 20 if eqb (unshared_refusal img call) 20
    else 21 if not_own img (anodes_of img) party sh (named_directory call)
    else 22 if eqb (unshared_refusal img call) 22
    else 30 if removes_top img sh call
    else first_of (unshared_refusal img call) (29 if over_share img (anodes_of img) sh party (blocks_needed img call) else 0)

-- the number before any step
unfoldable pub shared_answer : List ℕ → List ℕ → List ℕ → ℕ → Shares → SharedCall → ℕ
shared_answer img blocks anodes party sh call = checked_first img blocks anodes (shared_refusal img party sh call)

-- ---- growth

-- the image that the call leaves if it grows the pool
abbrev pub grown_image : List ℕ → SharedCall → List ℕ
grown_image img call = (unshared_left usual_growth img call).image

-- with growth the call is done and the keeper ends within its share, growth counted
unfoldable pub grows_within : List ℕ → Shares → SharedCall → Bool
grows_within img sh call =
    eqb (unshared_left usual_growth img call).answer 0
    && not (over_share (grown_image img call) (anodes_of (grown_image img call)) sh 0 0)

-- only a keeper's call that ends within its share may grow the pool
unfoldable pub growth_for : List ℕ → ℕ → Shares → SharedCall → Growth
growth_for img party sh call = cond (eqb party 0 && grows_within img sh call) usual_growth no_growth

-- A SHARED CALL: 01's call behind these tests and with that growth
unfoldable pub shared_outcome : List ℕ → List ℕ → List ℕ → ℕ → Shares → SharedCall → Outcome
shared_outcome img blocks anodes party sh call =
    outcome_after (growth_for img party sh call) (shared_answer img blocks anodes party sh call) img blocks anodes call
