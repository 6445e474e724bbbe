-- The facts of an entry that stands at another place or in another block, where at most its size field, bytes 4 to 7 of it, has changed: they are the same.
use Rattle.std.specs.Prelude.{ℕ, ◌+◌, ◌≤◌, ◌<◌, ◌≡◌, ◌⊎◌, List, length, get_or}
use Rattle.std.proofs.Common.{◌∙◌, inl, inr}
use native.Mathlib.Omega.{arith}
use Rattle.std.proofs.Math.Nat.{add_assoc}
use Rattle.endian.specs.Bytes.{be16, put32}
use Rattle.endian.proofs.Laws.{be16-bytes, part_same, length-put32, get_or-put32_other}
use Rattle.directory.specs.Entries.{entry_length, name_length, comment_length, name_in}
use Rattle.directory.proofs.Laws.{FoundAt}
use Rattle.paths.specs.Facts.{comment_in, facts_in}

module _ (b b' : List ℕ) (at at' : ℕ) (whole : length b ≡ 512) (whole' : length b' ≡ 512) (f : FoundAt b at) (room' : at' + get_or b at 0 ≤ 510)
    (same : (i : ℕ) → i < get_or b at 0 → (i < 4) ⊎ (8 ≤ i) → get_or b' (at' + i) 0 ≡ get_or b (at + i) 0) where
  -- behind the size
  behind : (i : ℕ) → i < get_or b at 0 → 8 ≤ i → get_or b' (at' + i) 0 ≡ get_or b (at + i) 0
  behind i l q = same i l (inr q)

  -- the numbers there
  behind16 : (i : ℕ) → 8 ≤ i → i < 17 → be16 b' (at' + i) ≡ be16 b (at + i)
  behind16 i q l = be16-bytes b' b (at' + i) (at + i) (behind i (omega (arith, f.long)) q) (rw (add_assoc at' i 1, add_assoc at i 1) (behind (i + 1) (omega (arith, f.long)) (omega arith)))

  -- the length of its name
  same_name : name_length b' at' ≡ name_length b at
  unfolding name_length
  same_name = behind 15 (omega (arith, f.long)) (omega arith)

  -- the length of its comment
  same_comment : comment_length b' at' ≡ comment_length b at
  unfolding comment_length entry_length
  same_comment = rw (same_name, add_assoc at' 16 (name_length b at), add_assoc at 16 (name_length b at)) (behind (16 + name_length b at) (omega (arith, f.exact)) (omega arith))

  -- its name
  same-name_in : name_in b' at' ≡ name_in b at
  unfolding name_in entry_length
  same-name_in = rw same_name
      (part_same b' b (at' + 16) (at + 16) (name_length b at) (omega (arith, f.exact, room')) (omega (arith, f.exact, f.room))
      (λ i l. rw (add_assoc at' 16 i, add_assoc at 16 i) (behind (16 + i) (omega (arith, f.exact)) (omega arith))))

  -- its comment
  same-comment_in : comment_in b' at' ≡ comment_in b at
  unfolding comment_in entry_length
  same-comment_in = let n = name_length b at in rw (same_comment, same_name)
      (part_same b' b (at' + 17 + n) (at + 17 + n) (comment_length b at) (omega (arith, f.exact, room')) (omega (arith, f.exact, f.room))
      (λ i l. let p : at' + 17 + n + i ≡ at' + (17 + n + i) = omega arith in let q : at + 17 + n + i ≡ at + (17 + n + i) = omega arith in
      rw (p, q) (behind (17 + n + i) (omega (arith, f.exact)) (omega arith))))

  -- its facts, with any size and bytes
  pub facts-same : (size : ℕ) (bytes : List ℕ) → facts_in b' at' size bytes ≡ facts_in b at size bytes
  unfolding facts_in
  facts-same size bytes = rw (
    same 1 (omega (arith, f.long)) (inl (omega arith)),
    same-name_in,
    same-comment_in,
    behind16 8 (omega arith) (omega arith),
    behind16 10 (omega arith) (omega arith),
    behind16 12 (omega arith) (omega arith),
    behind 14 (omega (arith, f.long)) (omega arith),
  )

-- where another size is stored in an entry of the block
module _ (b : List ℕ) (pos new : ℕ) (whole : length b ≡ 512) where
  -- the block is as long
  long : length (put32 b (pos + 4) new) ≡ 512
  long = length-put32 b (pos + 4) new ∙ whole

  -- that entry
  pub facts-sized : FoundAt b pos → (size : ℕ) (bytes : List ℕ) → facts_in (put32 b (pos + 4) new) pos size bytes ≡ facts_in b pos size bytes
  facts-sized f = facts-same b (put32 b (pos + 4) new) pos pos whole long f f.room (λ i l q. get_or-put32_other b (pos + 4) new (pos + i) (elim q [ inl o ↦ inl (omega arith) | inr o ↦ inr (omega arith) ]))

  -- and another one
  pub facts_beside : (at : ℕ) → FoundAt b at → (at + get_or b at 0 ≤ pos) ⊎ (pos + 8 ≤ at) → (size : ℕ) (bytes : List ℕ) → facts_in (put32 b (pos + 4) new) at size bytes ≡ facts_in b at size bytes
  facts_beside at f apart = facts-same b (put32 b (pos + 4) new) at at whole long f f.room (λ i l q. get_or-put32_other b (pos + 4) new (at + i) (elim apart [ inl o ↦ inl (omega arith) | inr o ↦ inr (omega arith) ]))
