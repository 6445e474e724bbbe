-- 01, "Anodes, chains, free list": predecessors, chains, heads and owners, over count, block and next as functions of the anode's number.
use Rattle.std.specs.Prelude.{ℕ, zero, suc, ◌+◌, ◌*◌, cond, not, ◌&&◌, List, [], ◌∷◌, eqb, leb, ltb}
use Rattle.disk.specs.Root.{slot_of}
use Rattle.rules.specs.Counting.{one_at, sum_below, sum_list, occurrences, gather}
use Rattle.rules.specs.Anodes.{Anodes, limit}

-- a chain follows next until 0; with at most so many anodes
unfoldable pub chain_of : (ℕ → ℕ) → ℕ → ℕ → List ℕ
chain_of next zero a = []
chain_of next (suc k) zero = []
chain_of next (suc k) (suc a) = suc a ∷ chain_of next k (next (suc a))

-- next followed k times
unfoldable pub followed : (ℕ → ℕ) → ℕ → ℕ → ℕ
followed next zero a = a
followed next (suc k) a = followed next k (next a)

-- how many anodes below A have x for next; free anodes have none, and 0 is asked of nobody
unfoldable pub preds : ℕ → (ℕ → ℕ) → ℕ → ℕ
preds A next x = sum_below (λ p. one_at (next p) x) A

-- 1 for a head of a chain: in use, not 0, and with no predecessor; else 0
unfoldable pub one_if_head : ℕ → (ℕ → ℕ) → (ℕ → ℕ) → ℕ → ℕ
one_if_head A next block h = cond (not (eqb h 0) && (not (eqb (block h) 0) && eqb (preds A next h) 0)) 1 0

-- the head of a's chain: the sum over all heads of the head, as often as a stands on its chain
unfoldable pub head_of : ℕ → (ℕ → ℕ) → (ℕ → ℕ) → ℕ → ℕ
head_of A next block a = sum_below (λ h. one_if_head A next block h * (occurrences a (chain_of next A h) * h)) A

-- 1 where block x is one of the c blocks from b upward; the end is the whole-number sum
unfoldable pub one_if_covers : ℕ → ℕ → ℕ → ℕ
one_if_covers c b x = cond (leb b x && ltb x (b + c)) 1 0

-- 1 where slot k holds block x
unfoldable pub one_if_holds : (ℕ → ℕ) → ℕ → ℕ → ℕ
one_if_holds slots x k = cond (eqb (slots k) 0) 0 (one_at (slots k) x)

-- the system owns blocks 0 to 2 and the anode blocks
unfoldable pub system_by : (ℕ → ℕ) → ℕ → ℕ
system_by slots x = cond (ltb x 3) 1 (sum_below (one_if_holds slots x) 42)

-- the blocks that the system owns in an image
abbrev pub system_owns : List ℕ → ℕ → ℕ
system_owns img = system_by (slot_of img)

-- how many owners a block has: the system, and each anode that covers it
unfoldable pub owners : ℕ → (ℕ → ℕ) → (ℕ → ℕ) → (ℕ → ℕ) → ℕ → ℕ
owners A count block system x = system x + sum_below (λ a. one_if_covers (count a) (block a) x) A

-- the c blocks from b upward
unfoldable pub run : ℕ → ℕ → List ℕ
run b zero = []
run b (suc c) = b ∷ run (suc b) c

-- the blocks of h's chain, in order
unfoldable pub blocks_of : Anodes → ℕ → List ℕ
blocks_of s h = gather (λ a. run (s.block a) (s.count a)) (chain_of s.next limit h)

-- how many they are
unfoldable pub block_count : Anodes → ℕ → ℕ
block_count s h = sum_list s.count (chain_of s.next limit h)

-- next without the link to anode 2: from 1 it goes through the anodes after 1 and before 2
unfoldable pub cut : (ℕ → ℕ) → ℕ → ℕ
cut next a = cond (eqb (next a) 2) 0 (next a)

-- a side of the free list: from 1 the one above last reserved, from 2 the one up to it
unfoldable pub side : ℕ → Anodes → ℕ → List ℕ
side A s m = chain_of (cut s.next) A m
