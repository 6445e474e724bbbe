-- What a safe change leaves, refused or done.
use Prim.Native.Nat.{ℕ, ◌+◌, ◌-◌, ◌*◌, ◌≤◌, ◌<◌}
use mathlib.Core.Path.{◌≡◌, refl, sym, ap, ◌∙◌}
use mathlib.Core.List.{List, [], ◌∷◌, ◌++◌}
use native.Mathlib.Omega.{arith}
use lib.ListN.{length, drop, length-append}
use lib.Seq.{sets-eq, drop-drop}
use borrow.Author.Tests.{lt-ltb, le-ltb}
use Rattle.std.specs.Prelude.{Ok, Err}
use Rattle.endian.specs.Bytes.{stored}
use Rattle.disk.specs.declared.Refusal.{Refusal}
use Rattle.disk.specs.declared.Refusal.TheVariants.{NoFreeBlock, ShortWriteList}
use Rattle.disk.specs.Refusals.{number_of}
use Rattle.rules.specs.Anodes.{anodes_of}
use Rattle.rules.specs.Totals.{free_blocks}
use Rattle.rules.specs.Plans.{Slotted, refused, planned}
use Rattle.laws.specs.Chains.{Inside}
use Rattle.safe_rules.specs.SafePlans.{SafeChange, new_blocks, safe_steps, safe_plan}
use Rattle.safe_rules.specs.SafeWrites.{applied, new_image, writes_of, list_of, list_bytes, buffer_after}
use Rattle.safe_rules.specs.SafeCalls.{safe_settled, safe_refused, list_or32}
use Rattle.write_lists.specs.Puts.{with_writes}
use Rattle.write_lists.proofs.Laws.{length-listed}
use Rattle.safe_laws.specs.Crash.{length_writes}
use Rattle.safe_stores.specs.Leaves.{LeftAs, SafeLeaves}

-- bytes stored over the front of a buffer that had been written over before them
over_front : (staged out : List ℕ) (k : ℕ) → length staged ≡ length out → drop k staged ≡ drop k out → (l : List ℕ) (n : ℕ) → length l ≡ n → k ≤ n → n ≤ length out → stored staged 0 l ≡ l ++ drop n out
unfolding stored
over_front staged out k long behind l n is low fits =
    let m : 0 + length l ≡ k + (n - k) = omega (arith, is, low) in
    let d : k + (n - k) ≡ n = omega (arith, low) in
    sets-eq l staged 0 (omega (arith, is, long, fits))
    ∙ ap (λ (i : ℕ). l ++ drop i staged) m
    ∙ ap (λ (q : List ℕ). l ++ q) (sym (drop-drop (n - k) k staged) ∙ ap (drop (n - k)) behind ∙ drop-drop (n - k) k out)
    ∙ ap (λ (i : ℕ). l ++ drop i out) d

-- refused
pub left_refused : (img blocks anodes out : List ℕ) (why : Refusal) → LeftAs (safe_refused img blocks anodes out (number_of why)) (Err why) img out
unfolding safe_settled
left_refused img blocks anodes out why = record { number = refl; image = refl; buffer = refl; count = refl }

module _ (img out : List ℕ) (c : SafeChange) where
  -- too few free blocks
  few_plan : free_blocks (anodes_of img) < new_blocks img c → safe_plan img (anodes_of img) c ≡ refused 27
  unfolding safe_plan
  few_plan l = rw (lt-ltb (free_blocks (anodes_of img)) (new_blocks img c) l)

  -- enough
  enough_plan : new_blocks img c ≤ free_blocks (anodes_of img) → safe_plan img (anodes_of img) c ≡ safe_steps img c
  unfolding safe_plan
  enough_plan l = rw (le-ltb (free_blocks (anodes_of img)) (new_blocks img c) l)

  -- the plan is refused
  pub leaves_refused : (why : Refusal) → safe_plan img (anodes_of img) c ≡ refused (number_of why) → SafeLeaves img out c (Err why) img out
  leaves_refused why e = λ blocks anodes. rw e (left_refused img blocks anodes out why)

  -- 27
  pub leaves_few : free_blocks (anodes_of img) < new_blocks img c → SafeLeaves img out c (Err NoFreeBlock) img out
  leaves_few l = leaves_refused NoFreeBlock (few_plan l)

  module _ (enough : new_blocks img c ≤ free_blocks (anodes_of img)) where
    -- the steps are refused
    pub leaves_stopped : (why : Refusal) → safe_steps img c ≡ refused (number_of why) → SafeLeaves img out c (Err why) img out
    leaves_stopped why e = leaves_refused why (enough_plan enough ∙ e)

    module _ (t : Slotted) (ys : List ℕ) (done : safe_steps img c ≡ planned t ys) where
      -- the image with all done
      abbrev j : List ℕ
      j = new_image img c t ys

      -- the blocks written
      abbrev ns : List ℕ
      ns = ys ++ (2 ∷ [])

      many : length (list_of img c t ys) ≡ length ys + 1
      unfolding list_of
      many = length_writes j ns ∙ omega (arith, length-append ys (2 ∷ []))

      -- the buffer is too short
      pub leaves_short : length out < (length ys + 1) * 514 → SafeLeaves img out c (Err ShortWriteList) img out
      unfolding list_or32
      leaves_short l = λ blocks anodes. rw (enough_plan enough ∙ done, many, lt-ltb (length out) ((length ys + 1) * 514) l) (left_refused img blocks anodes out ShortWriteList)

      -- the list is in the buffer, which had been written over in its first `staged` bytes, and the image has the writes done
      pub leaves_done : (length ys + 1) * 514 ≤ length out → applied img (list_of img c t ys) ≡ new_image img c t ys → Inside (new_image img c t ys) (ys ++ (2 ∷ [])) → (staged : List ℕ) (k : ℕ) → length staged ≡ length out → drop k staged ≡ drop k out → k ≤ (length ys + 1) * 514 →
          (img' out' : List ℕ) → img' ≡ new_image img c t ys → out' ≡ with_writes staged 0 (new_image img c t ys) (ys ++ (2 ∷ [])) → (count : ℕ) → count ≡ length ys + 1 → SafeLeaves img out c (Ok count) img' out'
      unfolding list_or32 safe_settled with_writes buffer_after list_of
      leaves_done fits is inside staged k long behind low img' out' e i count b = λ blocks anodes. rw (enough_plan enough ∙ done, many, le-ltb (length out) ((length ys + 1) * 514) fits) (record {
        number = refl;
        image = e ∙ sym is;
        buffer = i ∙ front;
        count = b;
      })
        where
          front : stored staged 0 (list_bytes (writes_of j ns)) ≡ list_bytes (writes_of j ns) ++ drop ((length ys + 1) * 514) out
          front = over_front staged out k long behind (list_bytes (writes_of j ns)) ((length ys + 1) * 514) (length-listed j ns inside ∙ omega (arith, length-append ys (2 ∷ []))) low fits
