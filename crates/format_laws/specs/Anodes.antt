-- The anodes of a formatted image: in use are 0, 1, 2, 5 and, where blocks lie above last reserved, 6.
use Rattle.std.specs.Prelude.{ℕ, ◌+◌, ◌-◌, ◌≤◌, ◌<◌, ◌≡◌, ◌≢◌, ◌⊎◌, List}
use Rattle.std.proofs.Common.{◌∙◌, arith, eq-eqb, ne_eqb}
use Rattle.std.proofs.Math.Logic.{inl, inr}
use Rattle.disk.specs.AnodeBlocks.{anode_made, anode_of}
use Rattle.rules.specs.Anodes.{Anodes, anodes_of}
use Rattle.rules.specs.Accepted.{disk_size}
use Rattle.rules.specs.Format.{lower_anode, upper_anode, list_head, formatted}
use Rattle.laws.specs.Tests.{same?}
use Rattle.laws.specs.ImageAnodes.{read_stored}
use Rattle.format.proofs.Laws.{Taken, anode_of-formatted-0, anode_of-formatted-1, anode_of-formatted-2, anode_of-formatted-5, anode_of-formatted-6, anode_of-formatted_other}

-- the three fields of an anode
pub record At (s : Anodes) (a c b m : ℕ) : Type 0 where
  pub count : s.count a ≡ c
  pub block : s.block a ≡ b
  pub next : s.next a ≡ m

-- an anode that may be in use, by its number, or a free one
pub data Which (s : Anodes) : ℕ → Type 0 where
  is_0 : Which s 0
  is_1 : Which s 1
  is_2 : Which s 2
  is_5 : Which s 5
  is_6 : Which s 6
  free : (a : ℕ) → At s a 0 0 0 → Which s a

-- an anode that may have blocks
pub data Full : ℕ → Type 0 where
  full-2 : Full 2
  full-5 : Full 5
  full-6 : Full 6

-- 1 links to 2 and 6 is free, or 1 links to 6 and that to 2
pub data Linking (s : Anodes) : Type 0 where
  direct : At s 1 0 65535 2 → At s 6 0 0 0 → Linking s
  through_6 : At s 1 0 65535 6 → s.block 6 ≢ 0 → s.next 6 ≡ 2 → Linking s

-- an anode owns c blocks, from b on where there are any
pub record Owns (s : Anodes) (a c b : ℕ) : Type 0 where
  pub count : s.count a ≡ c
  pub start : 0 < s.count a → s.block a ≡ b

-- what the anodes of a formatted image are: free blocks are 2's and 6's, the root directory's is 5's
pub record Laid (s : Anodes) (n last k : ℕ) : Type 0 where
  pub room : 3 + k ≤ last
  pub there : last < n
  pub at-0 : At s 0 0 65535 0
  pub owns_2 : Owns s 2 (last - (3 + k)) (4 + k)
  pub block_2 : s.block 2 ≢ 0
  pub next_2 : s.next 2 ≡ 0
  pub at_5 : At s 5 1 (3 + k) 0
  pub owns_6 : Owns s 6 (n - (last + 1)) (last + 1)
  pub linking : Linking s
  pub which : (a : ℕ) → Which s a

-- ---- the fields by what is stored

at_stored : (img : List ℕ) (a c b m : ℕ) → anode_of img a ≡ anode_made c b m → At (anodes_of img) a c b m
at_stored img a c b m e = let r = read_stored img a c b m e in record { count = r.0; block = r.1; next = r.2 }

module _ (img : List ℕ) (last k : ℕ) (name : List ℕ) (day minute tick protection : ℕ) (args : Taken img last k name) where
  abbrev disk : List ℕ
  disk = formatted img last k name day minute tick protection

  -- anode 2, without and with blocks
  lower : (At (anodes_of disk) 2 0 65535 0 × (last ≡ 3 + k)) ⊎ At (anodes_of disk) 2 (last - (3 + k)) (4 + k) 0
  unfolding lower_anode
  lower =
      let e = anode_of-formatted-2 img last k name day minute tick protection args in
      elim (same? last (3 + k)) [
        | inl q ↦ inl (at_stored disk 2 0 65535 0 (e ∙ rw (eq-eqb last (3 + k) q)), q)
        | inr q ↦ inr (at_stored disk 2 (last - (3 + k)) (4 + k) 0 (e ∙ rw (ne_eqb last (3 + k) q)))
      ]

  -- anodes 1 and 6, without and with blocks above last reserved
  upper : (At (anodes_of disk) 1 0 65535 2 × At (anodes_of disk) 6 0 0 0 × (last + 1 ≡ disk_size img))
      ⊎ (At (anodes_of disk) 1 0 65535 6 × At (anodes_of disk) 6 (disk_size img - (last + 1)) (last + 1) 2)
  unfolding upper_anode list_head
  upper =
      let e = anode_of-formatted-1 img last k name day minute tick protection args in
      let f = anode_of-formatted-6 img last k name day minute tick protection args in
      elim (same? (last + 1) (disk_size img)) [
        | inl q ↦ inl (
          at_stored disk 1 0 65535 2 (e ∙ rw (eq-eqb (last + 1) (disk_size img) q)),
          at_stored disk 6 0 0 0 (f ∙ rw (eq-eqb (last + 1) (disk_size img) q)),
          q,
        )
        | inr q ↦ inr (
          at_stored disk 1 0 65535 6 (e ∙ rw (ne_eqb (last + 1) (disk_size img) q)),
          at_stored disk 6 (disk_size img - (last + 1)) (last + 1) 2 (f ∙ rw (ne_eqb (last + 1) (disk_size img) q)),
        )
      ]

  which : (a : ℕ) → Which (anodes_of disk) a
  which a = elim (same? a 0) [
    | inl e ↦ rw e is_0
    | inr n0 ↦ elim (same? a 1) [
      | inl e ↦ rw e is_1
      | inr n1 ↦ elim (same? a 2) [
        | inl e ↦ rw e is_2
        | inr n2 ↦ elim (same? a 5) [
          | inl e ↦ rw e is_5
          | inr n5 ↦ elim (same? a 6) [
            | inl e ↦ rw e is_6
            | inr n6 ↦ free a (at_stored disk a 0 0 0 (anode_of-formatted_other img last k name day minute tick protection args a n0 n1 n2 n5 n6))
          ]
        ]
      ]
    ]
  ]

  pub laid : Laid (anodes_of disk) (disk_size img) last k
  laid = record {
    room = args.room;
    there = args.there;
    at-0 = at_stored disk 0 0 65535 0 (anode_of-formatted-0 img last k name day minute tick protection args);
    owns_2 = elim lower [
      | inl e ↦ record { count = omega (arith, e.0.count, e.1); start = λ p. absurd (omega (arith, p, e.0.count)) }
      | inr e ↦ record { count = e.count; start = λ p. e.block }
    ];
    block_2 = elim lower [ inl e ↦ rw e.0.block (omega arith) | inr e ↦ rw e.block (omega arith) ];
    next_2 = elim lower [ inl e ↦ e.0.next | inr e ↦ e.next ];
    at_5 = at_stored disk 5 1 (3 + k) 0 (anode_of-formatted-5 img last k name day minute tick protection args);
    owns_6 = elim upper [
      | inl e ↦ record { count = omega (arith, e.1.count, e.2); start = λ p. absurd (omega (arith, p, e.1.count)) }
      | inr e ↦ record { count = e.1.count; start = λ p. e.1.block }
    ];
    linking = elim upper [
      | inl e ↦ direct e.0 e.1
      | inr e ↦ through_6 e.0 (rw e.1.block (omega arith)) e.1.next
    ];
    which = which;
  }
