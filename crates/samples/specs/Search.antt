-- The search for a free anode: what it finds and how many anodes it has read, by the plain definition and slot by slot.
use Rattle.std.specs.Prelude.{ℕ, ◌≡◌, refl, List, [], ◌∷◌, ◌++◌, get_or, replicate}
use Rattle.rules.specs.Anodes.{Anodes, limit, exists_by}
use Rattle.rules.specs.Searched.{searched, searched_by_slots}
use Rattle.rules.specs.Everything.{everything}

-- anodes with these block fields
abbrev having : List ℕ → Anodes
having firsts = record { count = λ a. 0; block = λ a. get_or firsts a 0; next = λ a. 0 }

-- a table of slots
abbrev held : List ℕ → ℕ → ℕ
held slots k = get_or slots k 0

-- anode and number read, by both
unfoldable search : List ℕ → List ℕ → List ℕ
search slots firsts =
    (searched limit (exists_by (held slots)) (having firsts)).anode
    ∷ (searched limit (exists_by (held slots)) (having firsts)).read
    ∷ (searched_by_slots (held slots) (having firsts)).anode
    ∷ (searched_by_slots (held slots) (having firsts)).read
    ∷ []

-- the formatted disk of 20 blocks, last reserved 9: 6 is read, 7 is found
first-free : search (3 ∷ []) (65535 ∷ 65535 ∷ 5 ∷ 0 ∷ 0 ∷ 4 ∷ 10 ∷ []) ≡ 7 ∷ 2 ∷ 7 ∷ 2 ∷ []
unfolding everything search
first-free = refl

-- all of slot 0 in use, and no other slot: none of the 76
none_free : search (3 ∷ []) (replicate 82 1) ≡ 3444 ∷ 76 ∷ 3444 ∷ 76 ∷ []
unfolding everything search
none_free = refl

-- the same with slot 2 used too: its first anode
next_slot : search (3 ∷ 0 ∷ 8 ∷ []) (replicate 82 1) ≡ 164 ∷ 77 ∷ 164 ∷ 77 ∷ []
unfolding everything search
next_slot = refl

-- the only free anode is the last one of slot 41, and slots 1 to 40 are empty
last_slot : search (3 ∷ (replicate 40 0 ++ (8 ∷ []))) (replicate 82 1 ++ (replicate 3280 0 ++ replicate 81 1)) ≡ 3443 ∷ 158 ∷ 3443 ∷ 158 ∷ []
unfolding everything search
last_slot = refl
