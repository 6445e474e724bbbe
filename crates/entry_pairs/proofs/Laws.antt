-- Laws of two entries of one path. Assumes nothing.
use Prim.Native.Nat.{ℕ, ◌≤◌}
use mathlib.Core.Path.{◌≡◌, refl, sym, ap, ◌∙◌}
use mathlib.Core.Logic.{◌⊎◌, inl, inr}
use mathlib.Core.Bool.{Bool, true, false, cond, ◌&&◌, true≢false}
use mathlib.Core.List.{List, [], ◌∷◌}
use mathlib.Core.Option.{none, some}
use lib.ListN.{length, take}
use lib.Dec.{eqb}
use Rattle.rules.specs.Counting.{sum_below}
use Rattle.rules.specs.Anodes.{anodes_of}
use Rattle.rules.specs.Walk.{Entered}
use Rattle.rules.specs.Lookup.{bytes_of, contents}
use Rattle.anodes.specs.Loaded.{Loaded, anodes_from}
use Rattle.paths.specs.Facts.{Facts, facts_in, facts_of}
use Rattle.byte_differences.specs.declared.Differing.{Differing}
use Rattle.byte_differences.specs.Differing.{differing_made, first_bytes}
use Rattle.differences.specs.Fields.{longer_length, bytes_differing, first_byte_differing, fields_differing, compared_bytes}
use Rattle.differences.specs.Differences.{Difference, differing, differing_in, in_both}
use Rattle.differences.specs.Handing.{Handing, hand_all, hand_out}
use Rattle.differences.specs.Pairs.{partner_of}
use Rattle.entry_pairs.specs.Readable.{Readable}
use Rattle.entry_pairs.specs.Bytes.{differing_bytes}

-- the type of an entry that can be read is its kind's
type_is : (img : List ℕ) (e : Entered) → Readable img e → (facts_of img e).type ≡ cond e.dir 2 253
unfolding facts_of facts_in
type_is img e r = r.its_type

-- what is compared of two entries, by their types and bytes
compared_by : (f g : Facts) (a b : Bool) → f.type ≡ cond a 2 253 → g.type ≡ cond b 2 253 → (a ≡ true → f.bytes ≡ []) → (a ≡ true) ⊎ (b ≡ true) → compared_bytes f g ≡ []
unfolding compared_bytes
compared_by f g true true p q bare o = rw (p, q) (bare refl)
compared_by f g true false p q bare o = rw (p, q)
compared_by f g false true p q bare o = rw (p, q)
compared_by f g false false p q bare (inl e) = absurd (true≢false (sym e))
compared_by f g false false p q bare (inr e) = absurd (true≢false (sym e))

-- of one type: the bytes of the one
compared_same : (f g : Facts) → f.type ≡ 253 → g.type ≡ 253 → compared_bytes f g ≡ f.bytes
unfolding compared_bytes
compared_same f g p q = rw (p, q)

-- a directory has no bytes
no_bytes : (img : List ℕ) (e : Entered) → e.dir ≡ true → (facts_of img e).bytes ≡ []
unfolding facts_of facts_in
no_bytes img e d = rw d

-- a file has those of its chain, up to its size
file-bytes : (img : List ℕ) (e : Entered) → e.dir ≡ false → (facts_of img e).bytes ≡ take e.size (bytes_of img (anodes_of img) e.anode)
unfolding facts_of facts_in contents
file-bytes img e d = rw d

module _ (img j : List ℕ) (e f : Entered) (r : Readable img e) (q : Readable j f) where
  -- where one of them is a directory, no bytes are compared
  compared-none : (e.dir ≡ true) ⊎ (f.dir ≡ true) → compared_bytes (facts_of img e) (facts_of j f) ≡ []
  compared-none o = compared_by (facts_of img e) (facts_of j f) e.dir f.dir (type_is img e r) (type_is j f q) (no_bytes img e) o

  -- else those of the first file
  compared-files : e.dir ≡ false → f.dir ≡ false → compared_bytes (facts_of img e) (facts_of j f) ≡ take e.size (bytes_of img (anodes_of img) e.anode)
  compared-files a b = compared_same (facts_of img e) (facts_of j f) (type_is img e r ∙ ap (λ (d : Bool). cond d 2 253) a) (type_is j f q ∙ ap (λ (d : Bool). cond d 2 253) b) ∙ file-bytes img e a

-- where nothing is compared, nothing differs
none_differ : (l m : List ℕ) → l ≡ [] → m ≡ [] → differing_made 0 0 ≡ differing_made (first_byte_differing l m) (bytes_differing l m)
unfolding first_byte_differing bytes_differing longer_length sum_below
none_differ l m p q = rw (p, q)

module _ (img j : List ℕ) (e f : Entered) (r : Readable img e) (q : Readable j f) where
  -- a directory among them
  pub bytes-none : (e.dir ≡ true) ⊎ (f.dir ≡ true) → differing_made 0 0 ≡ differing_bytes img j e f
  unfolding differing_bytes
  bytes-none (inl a) = none_differ _ _ (compared-none img j e f r q (inl a)) (compared-none j img f e q r (inr a))
  bytes-none (inr a) = none_differ _ _ (compared-none img j e f r q (inr a)) (compared-none j img f e q r (inl a))

  -- two files
  pub bytes-files : (c b n d x y : List ℕ) → Loaded img c b n → Loaded j d x y → e.dir ≡ false → f.dir ≡ false → (z : Differing) →
      z ≡ differing_made (first_byte_differing (first_bytes img c b n e.anode e.size) (first_bytes j d x y f.anode f.size)) (bytes_differing (first_bytes img c b n e.anode e.size) (first_bytes j d x y f.anode f.size)) →
      z ≡ differing_bytes img j e f
  unfolding differing_bytes
  bytes-files c b n d x y l m a o z is =
      is ∙ rw (compared-files img j e f r q a o, compared-files j img f e q r o a, l.is_loaded, m.is_loaded) refl

-- the bytes of a file are there
pub file-there : (img c b n : List ℕ) (e : Entered) → Loaded img c b n → Readable img e → e.dir ≡ false → e.size ≤ length (bytes_of img (anodes_from c b n) e.anode)
file-there img c b n e l r a = rw l.is_loaded (r.has-bytes a)

-- ---- handing out

pub hand_empty : (h : Handing) (ds : List Difference) → ds ≡ [] → h ≡ hand_all h ds
unfolding hand_all
hand_empty h ds e = rw e

pub hand_single : (h : Handing) (ds : List Difference) (d : Difference) → ds ≡ d ∷ [] → hand_out h d ≡ hand_all h ds
unfolding hand_all
hand_single h ds d e = rw e

module _ (img j : List ℕ) (e f : Entered) (fields : ℕ) (bytes : Differing) (its_fields : fields ≡ fields_differing (facts_of img e) (facts_of j f)) (its-bytes : bytes ≡ differing_bytes img j e f) where
  many_is : bytes_differing (compared_bytes (facts_of img e) (facts_of j f)) (compared_bytes (facts_of j f) (facts_of img e)) ≡ bytes.many
  unfolding differing_bytes
  many_is = ap (λ (d : Differing). d.many) (sym its-bytes)

  first_is : first_byte_differing (compared_bytes (facts_of img e) (facts_of j f)) (compared_bytes (facts_of j f) (facts_of img e)) ≡ bytes.first
  unfolding differing_bytes
  first_is = ap (λ (d : Differing). d.first) (sym its-bytes)

  -- all fields and bytes are the same
  pub both_same : (eqb fields 0 && eqb bytes.many 0) ≡ true → in_both img j e f ≡ []
  unfolding in_both differing_in
  both_same z = rw (← its_fields, many_is, z)

  -- or they are not
  pub both_differ : (eqb fields 0 && eqb bytes.many 0) ≡ false → in_both img j e f ≡ differing e.start f.start fields bytes.first bytes.many ∷ []
  unfolding in_both differing_in
  both_differ z = rw (← its_fields, many_is, first_is, z)

-- ---- pairs

-- where both name directories
pub partner_both : (e f : Entered) → e.dir ≡ true → f.dir ≡ true → f.anode ≡ partner_of e (some f)
unfolding partner_of
partner_both e f a b = go e.dir f.dir a b
  where
    go : (x y : Bool) → x ≡ true → y ≡ true → f.anode ≡ cond (x && y) f.anode 0
    go true true p q = refl
    go true false p q = absurd (true≢false (sym q))
    go false y p q = absurd (true≢false (sym p))

-- where one of them does not
pub partner_none : (e f : Entered) → (e.dir ≡ false) ⊎ (f.dir ≡ false) → 0 ≡ partner_of e (some f)
unfolding partner_of
partner_none e f o = go e.dir f.dir o
  where
    go : (x y : Bool) → (x ≡ false) ⊎ (y ≡ false) → 0 ≡ cond (x && y) f.anode 0
    go true true (inl q) = absurd (true≢false q)
    go true true (inr q) = absurd (true≢false q)
    go true false o = refl
    go false y o = refl

pub partner_missing : (e : Entered) → 0 ≡ partner_of e none
unfolding partner_of
partner_missing e = refl
