-- 01, "Worked values": W1 to W11, and names of 02, No. 5, one table under one statement.
use Rattle.std.specs.Prelude.{ℕ, ◌≡◌, refl, false, cond, List, [], ◌∷◌, map}
use Rattle.disk.specs.AnodeBlocks.{anode_byte, slot_for, place_for}
use Rattle.directory.specs.Entries.{entry_length}
use Rattle.rules.specs.Counting.{◌if◌else◌, one_at, sum_below, any_below, any_in, sum_list, occurrences, changed, same_bytes}
use Rattle.rules.specs.Folding.{fold, folded}
use Rattle.rules.specs.Chains.{chain_of, followed, preds, cut, side}
use Rattle.rules.specs.Anodes.{Anodes, is_free}
use Rattle.rules.specs.Walk.{blocks_for, Item, as_twin, twins}
use Rattle.rules.specs.Accepted.{end_of, wrong_fixed, half_cleared, wrong_extent, out_of_range, wrong_link, wrong_at, has_pred, wrong_links, not_above, not_up_to, wrong_free_list, anode_fault}
use Rattle.rules.specs.Lookup.{is_named}

-- a row: what the definitions give, and what the paper states
pub record Row : Type 0 where
  pub given : List ℕ
  pub stated : List ℕ

abbrev row : List ℕ → List ℕ → Row
row given stated = record { given = given; stated = stated }

-- a disk's fixed anodes, 0 and 1, 2 and 5, and anode 6 with c blocks from b upward
abbrev one_extent : ℕ → ℕ → Anodes
one_extent c b = record {
  count = changed (changed (λ a. 0) 5 1) 6 c;
  block = changed (changed (changed (changed (changed (λ a. 0) 0 65535) 1 65535) 2 65535) 5 4) 6 b;
  next = changed (λ a. 0) 1 2;
}

-- the end of anode 6, and what the table answers for these anodes on a disk of n blocks, last reserved 63: 0 where none of 6 to 9 is found
abbrev extent : ℕ → ℕ → ℕ → List ℕ
extent c b n = end_of (one_extent c b) 6 ∷ anode_fault (one_extent c b) n 63 0 ∷ []

-- an item of the walk with this early number and name
abbrev named : ℕ → List ℕ → Item
named early name = record { early = early; late = 0; dir = false; anode = 6; name = folded name; start = 0 }

-- whether a lookup of the second name finds an entry of the first: 1 or 0
abbrev finds : List ℕ → List ℕ → ℕ
finds stored name = cond (is_named name (record { broken = false; dir = false; anode = 6; size = 0; name = stored; start = 0 })) 1 0

-- the rows, by the definitions
abbrev pub rows : List Row
rows =
    -- W1 to W3: the length of an entry with name and comment of 1 and 0, 4 and 0, 107 and 79 bytes
    row (entry_length 1 0 ∷ []) (18 ∷ [])
    ∷ row (entry_length 4 0 ∷ []) (22 ∷ [])
    ∷ row (entry_length 107 79 ∷ []) (204 ∷ [])
    -- W4, W5: block 65,530 with count 10 ends at 65,540 and is refused with 7 on 65,535 blocks; with count 5 it is in range
    ∷ row (extent 10 65530 65535) (65540 ∷ 7 ∷ [])
    ∷ row (extent 5 65530 65535) (65535 ∷ 0 ∷ [])
    -- W6 to W8: the blocks of sizes 0, 512, 513
    ∷ row (blocks_for 0 ∷ []) (0 ∷ [])
    ∷ row (blocks_for 512 ∷ []) (1 ∷ [])
    ∷ row (blocks_for 513 ∷ []) (2 ∷ [])
    -- W9 to W11: slot and byte of anodes 81 and 82, slot and place of anode 3,443
    ∷ row (slot_for 81 ∷ anode_byte (place_for 81) ∷ []) (0 ∷ 502 ∷ [])
    ∷ row (slot_for 82 ∷ anode_byte (place_for 82) ∷ []) (1 ∷ 16 ∷ [])
    ∷ row (slot_for 3443 ∷ place_for 3443 ∷ []) (41 ∷ 81 ∷ [])
    -- 02, No. 5: bytes 64, A, Z, 91 and 196 folded; a lookup of `BATCH7` finds `Batch7`, one of `{` not `[`, one of `ab` not `a`
    ∷ row (folded (64 ∷ 65 ∷ 90 ∷ 91 ∷ 196 ∷ [])) (64 ∷ 97 ∷ 122 ∷ 91 ∷ 196 ∷ [])
    ∷ row (finds (66 ∷ 97 ∷ 116 ∷ 99 ∷ 104 ∷ 55 ∷ []) (66 ∷ 65 ∷ 84 ∷ 67 ∷ 72 ∷ 55 ∷ []) ∷ finds (91 ∷ []) (123 ∷ []) ∷ finds (97 ∷ []) (97 ∷ 98 ∷ []) ∷ []) (1 ∷ 0 ∷ 0 ∷ [])
    -- entries named a, b, A and B of one directory, where 0, 0, 12 and 13 would be tried before 14
    ∷ row (map (λ i. i.early) (twins [] (named 0 (97 ∷ []) ∷ named 0 (98 ∷ []) ∷ named 12 (65 ∷ []) ∷ named 13 (66 ∷ []) ∷ []))) (0 ∷ 0 ∷ 12 ∷ 17 ∷ [])
    ∷ []

-- they give what the paper states
pub worked_values : map (λ r. r.given) rows ≡ map (λ r. r.stated) rows
unfolding fold folded same_bytes as_twin twins is_named entry_length changed blocks_for one_at sum_below any_below any_in sum_list occurrences chain_of followed preds cut side is_free wrong_fixed half_cleared wrong_extent out_of_range wrong_link wrong_at has_pred wrong_links not_above not_up_to wrong_free_list
worked_values = refl
