-- THE CRASH THEOREM of a safe make, whole.
use Rattle.std.specs.Prelude.{ℕ, ◌≡◌, refl, Bool, true, false, cond, not, ◌||◌, List, eqb, length}
use Rattle.std.proofs.Common.{sym, ap, ◌∙◌, true≢false, arith, eqb-true}
use Rattle.std.proofs.Math.Option.{none, some}
use Rattle.directory.specs.declared.Kind.TheVariants.{File, Directory}
use Rattle.directory.specs.Entries.{type_of, good_name, good_comment}
use Rattle.rules.specs.Anodes.{anodes_of}
use Rattle.rules.specs.Accepted.{check_answer}
use Rattle.rules.specs.Lookup.{no_directory, entry_named, is_there}
use Rattle.rules.specs.Changes.{new_entry}
use Rattle.rules.specs.Calls.{make_refusal, wrong_entry}
use Rattle.laws.specs.Tests.{if-zero}
use Rattle.change_laws.specs.Answers.{not_there}
use Rattle.change_laws.specs.Image.{AcceptedImage, ReachedDir}
use Rattle.paths.specs.Paths.{site}
use Rattle.paths.specs.Facts.{facts_at}
use Rattle.safe_rules.specs.SafeWrites.{new_image}
use Rattle.safe_rules.specs.SafeCalls.{safe_make, safe_refusal, safe_change, safe_outcome}
use Rattle.safe_laws.specs.Claims.{leads_to, new_facts, facts_after, tree_after, CrashSafe}
use Rattle.safe_laws.specs.PlacedEntries.{placed_if}
use Rattle.safe_laws.specs.SafeMade.{make_leaves}
use Rattle.safe_laws.specs.MadeTree.{made-at_tree}
use Rattle.safe_laws.specs.MadeBlocks.{made_at}
use Rattle.safe_laws.specs.MadeSound.{made_sound}
use Rattle.safe_laws.specs.CrashTheorem.{LeftRight, passed, crash_but_left}

-- what a make asks of its type, name and comment
entry_right : (type : ℕ) (name comment : List ℕ) → wrong_entry type name comment ≡ false → (type_of (cond (eqb type 2) Directory File) ≡ type) × (good_name name ≡ true) × (good_comment comment ≡ true)
unfolding wrong_entry
entry_right type name comment e = go (eqb type 253) (eqb type 2) (good_name name) (good_comment comment) refl refl refl refl e
  where
    go : (a b c d : Bool) → eqb type 253 ≡ a → eqb type 2 ≡ b → good_name name ≡ c → good_comment comment ≡ d → not (a || b) || (not c || not d) ≡ false →
        (type_of (cond b Directory File) ≡ type) × (good_name name ≡ true) × (good_comment comment ≡ true)
    go a true true true p q r s e = (sym (eqb-true type 2 q), r, s)
    go true false true true p q r s e = (sym (eqb-true type 253 p), r, s)
    go true true true false p q r s e = absurd (true≢false e)
    go true true false d p q r s e = absurd (true≢false e)
    go true false true false p q r s e = absurd (true≢false e)
    go true false false d p q r s e = absurd (true≢false e)
    go false true true false p q r s e = absurd (true≢false e)
    go false true false d p q r s e = absurd (true≢false e)
    go false false c d p q r s e = absurd (true≢false e)

-- what its own table asks: these by the rules, a reached directory, and no entry of that name
pub make_asks : (img : List ℕ) (h type : ℕ) (name comment : List ℕ) → make_refusal img (anodes_of img) h type name comment ≡ 0 →
    (type_of (cond (eqb type 2) Directory File) ≡ type) × (good_name name ≡ true) × (good_comment comment ≡ true) × (no_directory img (anodes_of img) h ≡ false) × (entry_named img (anodes_of img) h name ≡ none)
unfolding make_refusal
make_asks img h type name comment z =
    let (right, rest) = if-zero 20 (wrong_entry type name comment) _ (omega arith) z in
    let (reached, last) = if-zero 21 (no_directory img (anodes_of img) h) _ (omega arith) rest in
    let (kind, named, commented) = entry_right type name comment right in
    (kind, named, commented, reached, not_there (entry_named img (anodes_of img) h name) (if-zero 23 (is_there (entry_named img (anodes_of img) h name)) 0 (omega arith) last).0)

-- the image that its plan leaves is sound, with the new tree
make_right : {img : List ℕ} → AcceptedImage img → (h type : ℕ) (name comment : List ℕ) (day minute tick protection : ℕ) → safe_refusal img (safe_make h type name comment day minute tick protection) ≡ 0 →
    LeftRight img (safe_make h type name comment day minute tick protection) (safe_change img (safe_make h type name comment day minute tick protection))
unfolding tree_after facts_after
make_right {img} image h type name comment day minute tick protection z t ws steps =
    let (kind, named, commented, reached, unused) = make_asks img h type name comment z in
    let new = new_entry (eqb type 2) name comment day minute tick protection in
    let p : ReachedDir img h = record { image = image; reached = reached } in
    let l = make_leaves p new named commented t ws steps in (
      made_sound p new unused t ws steps l,
      λ path. made-at_tree l.making unused (new_image img (safe_change img (safe_make h type name comment day minute tick protection)) t ws) t.anodes (placed_if l.moved.y l.moved.z) (made_at p new unused t ws steps l) path
          ∙ ap (λ (k : ℕ). cond (leads_to img path (site h name)) (some (new_facts k name comment day minute tick protection)) (facts_at img path)) kind,
    )

-- THE CRASH THEOREM OF A SAFE MAKE
pub crash_make : (img blocks anodes buffer : List ℕ) (h type : ℕ) (name comment : List ℕ) (day minute tick protection : ℕ) → check_answer img (length blocks) (length anodes) ≡ 0 →
    (safe_outcome img blocks anodes buffer (safe_make h type name comment day minute tick protection)).answer ≡ 0 →
    CrashSafe img (safe_make h type name comment day minute tick protection) (safe_outcome img blocks anodes buffer (safe_make h type name comment day minute tick protection))
crash_make img blocks anodes buffer h type name comment day minute tick protection ok done =
    let call = safe_make h type name comment day minute tick protection in
    crash_but_left img blocks anodes buffer call ok done
    (make_right (record { blocks = length blocks; anodes = length anodes; accepted = ok }) h type name comment day minute tick protection (passed img blocks anodes buffer call ok done))
