-- The fields of an anode, and the tables with one more of them: `c`, `b` and `n` are those of counts, of first blocks and of nexts. Assumes nothing.
use mathlib.Core.Path.{◌≡◌, refl, sym, ap, ◌∙◌}
use mathlib.Core.Logic.{⊎_elim}
use Prim.Native.Nat.{ℕ, ◌+◌, ◌*◌, ◌/◌, ◌%◌, ◌-◌, ◌<◌, ◌≤◌}
use mathlib.Core.List.{List, ◌++◌, append_assoc}
use native.Mathlib.Omega.{arith}
use native.Mathlib.Nat.{not-suc-le-zero}
use lib.ListN.{length, get_or, set, take, drop, replicate, length-replicate, get_or-append, get_or-eq_default}
use lib.Seq.{get_or-take, get_or-append-add, length-take-le}
use borrow.Rule.Slice.PartMut.{put_mid}
use Rattle.endian.proofs.Laws.{less?, get_or_zeros}
use Rattle.disk.specs.declared.Anode.{Anode}
use Rattle.disk.specs.Root.{slot_of}
use Rattle.disk.specs.Blocks.{block_of}
use Rattle.disk.specs.AnodeBlocks.{anode_made, anode_in, anode_of}
use Rattle.disk.proofs.Laws.{slot_of_high, anode_of_missing, anode_of-there}
use Rattle.rules.specs.Anodes.{Anodes, fields_of, anodes_of}
use Rattle.tables.specs.Held.{HeldBelow, zeroed_first}
use Rattle.tables.proofs.Laws.{held_more}
use Rattle.anodes.specs.Loaded.{anodes_from, LoadedBelow}

-- ---- the anodes of a slot

pub in_block_lem : (img : List ℕ) (s p b : ℕ) → p < 82 → slot_of img s ≡ b → (b ≡ 0 → ⊥) → anode_in (block_of img b) p ≡ anode_of img (s * 82 + p)
in_block_lem img s p b h e n =
    let q : (s * 82 + p) / 82 ≡ s = omega arith in
    let r : (s * 82 + p) % 82 ≡ p = omega arith in
    sym (anode_of-there img (s * 82 + p) b (rw q e) n ∙ rw r)

-- ---- the fields of an anode

pub read_fields : (img : List ℕ) (a : ℕ) (x : Anode) → x ≡ anode_of img a → (x.count ≡ (anodes_of img).count a) × (x.block.0 ≡ (anodes_of img).block a) × (x.next.0 ≡ (anodes_of img).next a)
unfolding anodes_of fields_of anode_of
read_fields img a x e = rw e (refl, refl, refl)

-- and all three are 0 where its slot holds 0 or is missing
missing_fields : (img : List ℕ) (a : ℕ) → slot_of img (a / 82) ≡ 0 → (0 ≡ (anodes_of img).count a) × (0 ≡ (anodes_of img).block a) × (0 ≡ (anodes_of img).next a)
missing_fields img a e = read_fields img a (anode_made 0 0 0) (sym (anode_of_missing img a e))

-- ---- the tables

module _ (s : Anodes) (c b n : List ℕ) where
  pub loaded_none : LoadedBelow s c b n 0
  loaded_none = record { counts = λ a h. absurd (not-suc-le-zero h); blocks = λ a h. absurd (not-suc-le-zero h); nexts = λ a h. absurd (not-suc-le-zero h) }

  pub loaded_more : (k : ℕ) (x : Anode) → k < length c → k < length b → k < length n → LoadedBelow s c b n k
      → (x.count ≡ s.count k) × (x.block.0 ≡ s.block k) × (x.next.0 ≡ s.next k)
      → LoadedBelow s (set c k x.count) (set b k x.block.0) (set n k x.next.0) (k + 1)
  loaded_more k x p q r l e = record {
    counts = held_more s.count c k x.count p l.counts e.0;
    blocks = held_more s.block b k x.block.0 q l.blocks e.1;
    nexts = held_more s.next n k x.next.0 r l.nexts e.2;
  }

-- the part of a list from k up to e, with its first 82 numbers zeroed
abbrev zeroed : List ℕ → ℕ → ℕ → List ℕ
zeroed l k e = zeroed_first 82 (take (e - k) (drop k l))

-- a list that holds f below k, where f is 0 from there to e, with that part back and zeroed
held-zeroed : (f : ℕ → ℕ) (l new : List ℕ) (k e : ℕ) → e ≡ k + 82 → e ≤ length l → new ≡ zeroed l k e
    → HeldBelow f l k → ((a : ℕ) → k ≤ a → a < k + 82 → 0 ≡ f a) → HeldBelow f (put_mid k (e - k) l new) (k + 82)
held-zeroed f l new k e end room is held out a h =
    let m : length (take k l) ≡ k = length-take-le k l (omega arith) in
    let z = length-replicate {A = ℕ} 82 0 in
    let d = drop 82 (take (e - k) (drop k l)) in
    let r = drop (e - k) (drop k l) in
    ⊎_elim
    (λ p. get_or-append (take k l) (new ++ r) 0 a (omega arith) ∙ get_or-take k l a 0 p ∙ held a p)
    (λ p.
    let w : a - k < length (replicate {A = ℕ} 82 0) = omega arith in
    let q : a ≡ length (take k l) + (a - k) = omega arith in
    ap (λ (i : ℕ). get_or (put_mid k (e - k) l new) i 0) q
    ∙ get_or-append-add (take k l) (new ++ r) (a - k) 0
    ∙ rw (is, append_assoc (replicate 82 0) d r) (get_or-append (replicate 82 0) (d ++ r) 0 (a - k) w ∙ get_or_zeros 82 (a - k) ∙ out a p h))
    (less? a k)

-- the tables with the anodes of a slot that holds 0
pub loaded_missing : (img c b n c' b' n' : List ℕ) (s e : ℕ) → slot_of img s ≡ 0 → LoadedBelow (anodes_of img) c b n (s * 82)
    → e ≡ s * 82 + 82 → e ≤ length c → e ≤ length b → e ≤ length n
    → c' ≡ zeroed c (s * 82) e → b' ≡ zeroed b (s * 82) e → n' ≡ zeroed n (s * 82) e
    → LoadedBelow (anodes_of img) (put_mid (s * 82) (e - s * 82) c c') (put_mid (s * 82) (e - s * 82) b b') (put_mid (s * 82) (e - s * 82) n n') (s * 82 + 82)
loaded_missing img c b n c' b' n' s e none l end p q r x y z =
    let slot : (a : ℕ) → s * 82 ≤ a → a < s * 82 + 82 → slot_of img (a / 82) ≡ 0 = λ a h k. (let i : a / 82 ≡ s = omega arith in rw i none) in
    record {
      counts = held-zeroed (anodes_of img).count c c' (s * 82) e end p x l.counts (λ a h k. (missing_fields img a (slot a h k)).0);
      blocks = held-zeroed (anodes_of img).block b b' (s * 82) e end q y l.blocks (λ a h k. (missing_fields img a (slot a h k)).1);
      nexts = held-zeroed (anodes_of img).next n n' (s * 82) e end r z l.nexts (λ a h k. (missing_fields img a (slot a h k)).2);
    }

-- anodes with the same fields are the same
same_anodes : (s t : Anodes) → ((a : ℕ) → s.count a ≡ t.count a) → ((a : ℕ) → s.block a ≡ t.block a) → ((a : ℕ) → s.next a ≡ t.next a) → s ≡ t
same_anodes s t p q r = λ i. record { count = λ a. p a i; block = λ a. q a i; next = λ a. r a i }

-- a list that holds f below its length, where f is 0 from there on
held_all : (f : ℕ → ℕ) (l : List ℕ) → length l ≡ 3444 → HeldBelow f l 3444 → ((a : ℕ) → 3444 ≤ a → f a ≡ 0)
    → (a : ℕ) → get_or l a 0 ≡ f a
held_all f l e held out a =
    ⊎_elim (λ h. held a h) (λ h. get_or-eq_default l 0 (rw e h) ∙ sym (out a h)) (less? a 3444)

pub loaded_all : (img : List ℕ) (c b n : List ℕ) → length c ≡ 3444 → length b ≡ 3444 → length n ≡ 3444
    → LoadedBelow (anodes_of img) c b n 3444 → anodes_from c b n ≡ anodes_of img
unfolding anodes_from
loaded_all img c b n p q r l =
    let high : (a : ℕ) → 3444 ≤ a → slot_of img (a / 82) ≡ 0 = λ a h. slot_of_high img (a / 82) (omega arith) in
    same_anodes (anodes_from c b n) (anodes_of img)
    (held_all (anodes_of img).count c p l.counts (λ a h. sym (missing_fields img a (high a h)).0))
    (held_all (anodes_of img).block b q l.blocks (λ a h. sym (missing_fields img a (high a h)).1))
    (held_all (anodes_of img).next n r l.nexts (λ a h. sym (missing_fields img a (high a h)).2))
