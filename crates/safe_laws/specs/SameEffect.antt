-- THE THEOREM OF THE SAME EFFECT, call by call: where a safe call and 01's call in place are both done, both images hold the new tree, and so the same one; a file that is resized or written has the same bytes in its blocks.
use Rattle.std.specs.Prelude.{ℕ, ◌≡◌, false, length}
use Rattle.std.proofs.Common.{sym, ◌∙◌, inl, inr}
use Rattle.std.proofs.Math.Path.{ap, subst}
use Rattle.std.proofs.Math.Bool.{cond}
use mathlib.Core.List.{List}
use Rattle.std.proofs.Math.Option.{Option, some}
use Rattle.rules.specs.Anodes.{anodes_of}
use Rattle.rules.specs.Walk.{Entered}
use Rattle.rules.specs.Accepted.{check_answer}
use Rattle.rules.specs.Lookup.{no_directory, entry_named, of_entry, bytes_of}
use Rattle.rules.specs.Plans.{Slotted, table_of, planned}
use Rattle.rules.specs.Changes.{usual_growth}
use Rattle.rules.specs.Calls.{span_refusal, resize_refusal, remove_refusal}
use Rattle.laws.specs.Tests.{same?}
use Rattle.change_laws.specs.Answers.{span_found, file-found, removable_found}
use Rattle.change_laws.specs.Image.{AcceptedImage}
use Rattle.change_laws.specs.Reached.{EntryIn}
use Rattle.change_laws.specs.ResizeStores.{PlannedResize}
use Rattle.paths.specs.Paths.{site}
use Rattle.paths.specs.Facts.{facts_at}
use Rattle.paths.specs.Reached.{found_in}
use Rattle.safe_rules.specs.SafePlans.{SafeChange, resized_bytes, resize_change, write_change, safe_steps}
use Rattle.safe_rules.specs.SafeWrites.{new_image}
use Rattle.safe_rules.specs.SafeCalls.{SafeCall, safe_make, safe_resize, safe_write, safe_remove, missing_entry, safe_outcome}
use Rattle.safe_laws.specs.Claims.{leads_to, new_facts, facts_after, tree_after, NewTree, CrashSafe, in_place, SameChainBytes, BytesAlike, LikeInPlace, EffectTheorem}
use Rattle.safe_laws.specs.Theorems.{search-passed}
use Rattle.safe_laws.specs.WrittenTree as Written
use Rattle.safe_laws.specs.SizedTree as Sized
use Rattle.safe_laws.specs.ResizedTree.{resized-anew}
use Rattle.safe_laws.specs.SameSize.{same_size_bytes}
use Rattle.safe_laws.specs.MadeTree as Made
use Rattle.safe_laws.specs.RemovedInPlace.{in_place_tree}
use Rattle.safe_laws.specs.CrashTheorem.{passed, done-image}
use Rattle.safe_laws.specs.CrashWrite.{crash_write}
use Rattle.safe_laws.specs.CrashResize.{crash_resize}
use Rattle.safe_laws.specs.CrashRemove.{none_below, crash_remove}
use Rattle.safe_laws.specs.CrashMake.{make_asks, crash_make}
use Rattle.safe_laws.specs.InPlaceWrite.{written-here, write_tree}
use Rattle.safe_laws.specs.InPlaceResize.{resized-here, resize_tree}
use Rattle.safe_laws.specs.InPlaceCalls.{usual_grows, write_left, resize_left, remove_left, make_left}

-- the bytes in the blocks of a file that is resized safely
safely_sized : {img : List ℕ} {k : ℕ} {e : Entered} (m : EntryIn img k e) → e.dir ≡ false → (new : ℕ) (t : Slotted) (ys : List ℕ) → safe_steps img (resize_change img (table_of img) e new) ≡ planned t ys →
    bytes_of (new_image img (resize_change img (table_of img) e new) t ys) (anodes_of (new_image img (resize_change img (table_of img) e new) t ys)) e.anode ≡ resized_bytes (bytes_of img (anodes_of img) e.anode) e.size new
safely_sized {e = e} m file new t ys plan = elim (same? e.size new) [
  | inl same ↦ same_size_bytes m file new same t ys plan
  | inr differs ↦ Sized.bytes-there (resized-anew (record { entry = m; file = file; differs = differs; steps = plan }))
]

module _ (img blocks anodes buffer : List ℕ) where
  -- an accepted image
  abbrev accepted : check_answer img (length blocks) (length anodes) ≡ 0 → AcceptedImage img
  accepted ok = record { blocks = length blocks; anodes = length anodes; accepted = ok }

  -- both images hold the new tree
  like_by : (call : SafeCall) → NewTree img call (in_place img blocks anodes call).image → CrashSafe img call (safe_outcome img blocks anodes buffer call) →
      BytesAlike img call (in_place img blocks anodes call).image (safe_outcome img blocks anodes buffer call).image → LikeInPlace img blocks anodes buffer call
  like_by call here safe alike = record { same_tree = λ path. here path ∙ sym (safe.new_tree path); same_bytes = alike }

  -- ---- resize

  module _ (h : ℕ) (name : List ℕ) (new : ℕ) (ok : check_answer img (length blocks) (length anodes) ≡ 0) (here : (in_place img blocks anodes (safe_resize h name new)).answer ≡ 0)
      (done : (safe_outcome img blocks anodes buffer (safe_resize h name new)).answer ≡ 0) where
    -- its own table refuses nothing
    may_resize : resize_refusal img (anodes_of img) h name ≡ 0
    may_resize = passed img blocks anodes buffer (safe_resize h name new) ok done

    -- the image in place holds the new tree
    resize_new : NewTree img (safe_resize h name new) (in_place img blocks anodes (safe_resize h name new)).image
    unfolding resize_refusal
    resize_new =
        let (reached, (e, named)) = search-passed (no_directory img (anodes_of img) h) (entry_named img (anodes_of img) h name) _ may_resize in
        let (there, file) = file-found img (anodes_of img) h name e named may_resize in
        let m = found_in (record { image = accepted ok; reached = there }) name e named in
        let (t, ys, plan, is) = resize_left img blocks anodes ok h name m named new may_resize here in
        subst (λ (i : List ℕ). NewTree img (safe_resize h name new) i) (sym is)
        (resize_tree (record { home = h; entry = m; plan = record { file = file; growth = usual_growth; grows = usual_grows img; steps = plan } }) name named)

    -- both have the file's bytes, cut off or with zeros behind them
    resize_alike : SameChainBytes img (in_place img blocks anodes (safe_resize h name new)).image (safe_outcome img blocks anodes buffer (safe_resize h name new)).image h name
    resize_alike e named =
        let (there, file) = file-found img (anodes_of img) h name e named may_resize in
        let m = found_in (record { image = accepted ok; reached = there }) name e named in
        let (u, zs, steps, left) = resize_left img blocks anodes ok h name m named new may_resize here in
        let (t, ys, plan, is) = done-image img blocks anodes buffer (safe_resize h name new) ok done in
        let change = ap (λ (o : Option Entered). of_entry o (λ x. resize_change img (table_of img) x new) missing_entry) named in
        let p : PlannedResize img e new u zs = record { home = h; entry = m; plan = record { file = file; growth = usual_growth; grows = usual_grows img; steps = steps } } in
        ap (λ (j : List ℕ). bytes_of j (anodes_of j) e.anode) (is ∙ ap (λ (c : SafeChange). new_image img c t ys) change)
        ∙ safely_sized m file new t ys (ap (safe_steps img) (sym change) ∙ plan)
        ∙ sym (ap (λ (j : List ℕ). bytes_of j (anodes_of j) e.anode) left ∙ Sized.bytes-there (resized-here p))

    -- THE SAME EFFECT OF A RESIZE
    pub like_resize : LikeInPlace img blocks anodes buffer (safe_resize h name new)
    like_resize = like_by (safe_resize h name new) resize_new (crash_resize img blocks anodes buffer h name new ok done) resize_alike

  -- ---- write

  module _ (h : ℕ) (name : List ℕ) (offset : ℕ) (bytes : List ℕ) (ok : check_answer img (length blocks) (length anodes) ≡ 0) (here : (in_place img blocks anodes (safe_write h name offset bytes)).answer ≡ 0)
      (done : (safe_outcome img blocks anodes buffer (safe_write h name offset bytes)).answer ≡ 0) where
    -- its own table refuses nothing
    may_write : span_refusal img (anodes_of img) h name offset (length bytes) ≡ 0
    may_write = passed img blocks anodes buffer (safe_write h name offset bytes) ok done

    -- the image in place holds the new tree
    write_new : NewTree img (safe_write h name offset bytes) (in_place img blocks anodes (safe_write h name offset bytes)).image
    unfolding span_refusal
    write_new =
        let (reached, (e, named)) = search-passed (no_directory img (anodes_of img) h) (entry_named img (anodes_of img) h name) _ may_write in
        let (there, file, within) = span_found img (anodes_of img) h name e named offset (length bytes) may_write in
        subst (λ (i : List ℕ). NewTree img (safe_write h name offset bytes) i) (sym (write_left img blocks anodes ok h name offset bytes may_write e named))
        (write_tree (found_in (record { image = accepted ok; reached = there }) name e named) file offset bytes name named within)

    -- both have the file's bytes with the new ones stored
    write_alike : SameChainBytes img (in_place img blocks anodes (safe_write h name offset bytes)).image (safe_outcome img blocks anodes buffer (safe_write h name offset bytes)).image h name
    write_alike e named =
        let (there, file, within) = span_found img (anodes_of img) h name e named offset (length bytes) may_write in
        let m = found_in (record { image = accepted ok; reached = there }) name e named in
        let (t, ys, plan, is) = done-image img blocks anodes buffer (safe_write h name offset bytes) ok done in
        let change = ap (λ (o : Option Entered). of_entry o (λ x. write_change img (table_of img) x offset bytes) missing_entry) named in
        ap (λ (j : List ℕ). bytes_of j (anodes_of j) e.anode) (is ∙ ap (λ (c : SafeChange). new_image img c t ys) change)
        ∙ Written.bytes-there (Written.written-anew m file offset bytes t ys (ap (safe_steps img) (sym change) ∙ plan))
        ∙ sym (ap (λ (j : List ℕ). bytes_of j (anodes_of j) e.anode) (write_left img blocks anodes ok h name offset bytes may_write e named) ∙ Written.bytes-there (written-here m file offset bytes))

    -- THE SAME EFFECT OF A WRITE
    pub like_write : LikeInPlace img blocks anodes buffer (safe_write h name offset bytes)
    like_write = like_by (safe_write h name offset bytes) write_new (crash_write img blocks anodes buffer h name offset bytes ok done) write_alike

  -- ---- remove

  module _ (h : ℕ) (name : List ℕ) (ok : check_answer img (length blocks) (length anodes) ≡ 0) (here : (in_place img blocks anodes (safe_remove h name)).answer ≡ 0) (done : (safe_outcome img blocks anodes buffer (safe_remove h name)).answer ≡ 0) where
    -- the image in place holds the new tree
    remove_new : NewTree img (safe_remove h name) (in_place img blocks anodes (safe_remove h name)).image
    unfolding remove_refusal
    remove_new =
        let z = passed img blocks anodes buffer (safe_remove h name) ok done in
        let (reached, (e, named)) = search-passed (no_directory img (anodes_of img) h) (entry_named img (anodes_of img) h name) _ z in
        let (there, may) = removable_found img (anodes_of img) h name e named z in
        let m = found_in (record { image = accepted ok; reached = there }) name e named in
        let (t, ys, plan, is) = remove_left img blocks anodes ok h name m named z here in
        subst (λ (i : List ℕ). NewTree img (safe_remove h name) i) (sym is)
        (in_place_tree (record { home = h; entry = m; plan = record { growth = usual_growth; grows = usual_grows img; steps = plan } }) (none_below img (anodes_of img) e may) name named)

    -- THE SAME EFFECT OF A REMOVE
    pub like_remove : LikeInPlace img blocks anodes buffer (safe_remove h name)
    like_remove = like_by (safe_remove h name) remove_new (crash_remove img blocks anodes buffer h name ok done) tt

  -- ---- make

  module _ (h type : ℕ) (name comment : List ℕ) (day minute tick protection : ℕ) (ok : check_answer img (length blocks) (length anodes) ≡ 0)
      (here : (in_place img blocks anodes (safe_make h type name comment day minute tick protection)).answer ≡ 0) (done : (safe_outcome img blocks anodes buffer (safe_make h type name comment day minute tick protection)).answer ≡ 0) where
    -- the image in place holds the new tree
    make_new : NewTree img (safe_make h type name comment day minute tick protection) (in_place img blocks anodes (safe_make h type name comment day minute tick protection)).image
    unfolding tree_after facts_after
    make_new path =
        let z = passed img blocks anodes buffer (safe_make h type name comment day minute tick protection) ok done in
        let (kind, named, commented, there, unused) = make_asks img h type name comment z in
        let (f, room, ys, t, zs, m, is) = make_left img blocks anodes ok h type name comment day minute tick protection z here in
        ap (λ (i : List ℕ). facts_at i path) is ∙ Made.in_place_tree m unused path
        ∙ ap (λ (k : ℕ). cond (leads_to img path (site h name)) (some (new_facts k name comment day minute tick protection)) (facts_at img path)) kind

    -- THE SAME EFFECT OF A MAKE
    pub like_make : LikeInPlace img blocks anodes buffer (safe_make h type name comment day minute tick protection)
    like_make = like_by (safe_make h type name comment day minute tick protection) make_new (crash_make img blocks anodes buffer h type name comment day minute tick protection ok done) tt

-- ---- all calls

-- THE THEOREM OF THE SAME EFFECT
pub effect_theorem : EffectTheorem
effect_theorem img blocks anodes buffer (safe_make h type name comment day minute tick protection) = like_make img blocks anodes buffer h type name comment day minute tick protection
effect_theorem img blocks anodes buffer (safe_resize h name new) = like_resize img blocks anodes buffer h name new
effect_theorem img blocks anodes buffer (safe_write h name offset bytes) = like_write img blocks anodes buffer h name offset bytes
effect_theorem img blocks anodes buffer (safe_remove h name) = like_remove img blocks anodes buffer h name
