-- 01, "The changes", Take a block, and 02, No. 3, Whole runs go back: steps on the anodes and the slots. A step that is refused answers 27 or 28.
use Rattle.std.specs.Prelude.{ℕ, zero, suc, ◌+◌, ◌-◌, Bool, cond, not, ◌&&◌, List, [], ◌∷◌, eqb, leb, ltb}
use Rattle.rules.specs.Counting.{least, sum_list, occurrences, last_of, changed}
use Rattle.rules.specs.Anodes.{Anodes}
use Rattle.rules.specs.Chains.{chain_of, run, side}
use Rattle.rules.specs.Plans.{Slotted, slotted, Plan, refused, planned, ◌and_then◌, repeated, at_slots, Growth, afresh}

-- ---- what a step makes of the anodes

-- the anodes with other fields in one of them
unfoldable pub rewritten : Anodes → ℕ → ℕ → ℕ → Anodes
rewritten s a c b = record { count = changed s.count a c; block = changed s.block a b; next = s.next }

-- a in the chain behind p, with c blocks from b upward
unfoldable pub inserted_after : Anodes → ℕ → ℕ → ℕ → ℕ → Anodes
inserted_after s p a c b = record {
  count = changed s.count a c;
  block = changed s.block a b;
  next = changed (changed s.next a (s.next p)) p a;
}

-- a, next of p, unlinked and zeroed
unfoldable pub unlinked : Anodes → ℕ → ℕ → Anodes
unlinked s p a = record {
  count = changed s.count a 0;
  block = changed s.block a 0;
  next = changed (changed s.next p (s.next a)) a 0;
}

-- an emptied anode that stays: (0, 65535, next)
unfoldable pub emptied : Anodes → ℕ → Anodes
emptied s a = rewritten s a 0 65535

-- anode x, after p, with d blocks less, its first block then b: emptied, `kept` becomes (0, 65535, next), any other is unlinked and zeroed
unfoldable pub without_run : Anodes → ℕ → ℕ → ℕ → ℕ → ℕ → Anodes
without_run s kept p x d b = cond (eqb (s.count x) d) (cond (eqb x kept) (emptied s x) (unlinked s p x)) (rewritten s x (s.count x - d) b)

-- anode x of the free list, after p, without its first block: an emptied one from 6 up is unlinked and zeroed, an emptied 2 becomes (0, 65535, next)
unfoldable pub without_first : Anodes → ℕ → ℕ → Anodes
without_first s p x = without_run s 2 p x 1 (s.block x + 1)

-- anode x of h's chain, after p, without its last d blocks: an emptied one becomes (0, 65535, next) at the head, elsewhere it is unlinked and zeroed
unfoldable pub without_tail : Anodes → ℕ → ℕ → ℕ → ℕ → Anodes
without_tail s h p x d = without_run s h p x d (s.block x)

-- the first of them
abbrev pub tail_start : Anodes → ℕ → ℕ → ℕ
tail_start s x d = s.block x + (s.count x - d)

-- ---- the two runs of an extent of c blocks from b upward (last: last reserved)

-- it crosses last reserved
unfoldable pub crosses : ℕ → ℕ → ℕ → Bool
crosses last c b = leb b last && ltb (last + 1) (b + c)

-- how many blocks its upper run has: those above last reserved if it crosses, else all
unfoldable pub upper_run : ℕ → ℕ → ℕ → ℕ
upper_run last c b = cond (crosses last c b) (b + c - (last + 1)) c

-- and its lower run: those up to last reserved if it crosses, else all
unfoldable pub lower_run : ℕ → ℕ → ℕ → ℕ
lower_run last c b = cond (crosses last c b) (last + 1 - b) c

-- how many of the k blocks that are to go are in the upper run
unfoldable pub run_length : ℕ → ℕ → ℕ → ℕ → ℕ
run_length last k c b = cond (leb k (upper_run last c b)) k (upper_run last c b)

-- ---- the searches

-- an anode with a block, and the one before it, of a list
pub data Found : Type 0 where
  nowhere : Found
  found : ℕ → ℕ → Found

-- anode a, after p, if it has a block
unfoldable pub extent_at : (ℕ → ℕ) → ℕ → ℕ → Found
extent_at count p a = elim (count a) [ zero ↦ nowhere | suc c ↦ found p a ]

-- the first of two searches that finds one
unfoldable pub first_found : Found → Found → Found
first_found nowhere b = b
first_found (found p x) b = found p x

-- the first anode of a list that has a block; p stands before the list
unfoldable pub first_extent : (ℕ → ℕ) → ℕ → List ℕ → Found
first_extent count p [] = nowhere
first_extent count p (a ∷ l) = first_found (extent_at count p a) (first_extent count a l)

-- the last that has one
unfoldable pub last_extent : (ℕ → ℕ) → ℕ → List ℕ → Found
last_extent count p [] = nowhere
last_extent count p (a ∷ l) = first_found (last_extent count a l) (extent_at count p a)

-- the first non-empty extent of the free list: data looks above last reserved first, directories (dir) up to it first, then the other side
unfoldable pub free_extent : ℕ → Bool → Anodes → Found
free_extent A dir s = first_found (first_extent s.count 0 (side A s (cond dir 2 1))) (first_extent s.count 0 (side A s (cond dir 1 2)))

-- the side of a block: that of anode 1 above last reserved, else that of anode 2
unfoldable pub side_of : ℕ → ℕ → ℕ
side_of last y = cond (ltb last y) 1 2

-- an anode to be had: from 6 up, free, existing
unfoldable pub free : (ℕ → Bool) → Anodes → ℕ → Bool
free ex s a = leb 6 a && (eqb (s.block a) 0 && ex a)

-- ---- a run of c blocks from b upward, now nobody's, comes to anode z

-- an empty z becomes (c, b, next)
unfoldable pub fill_or : Anodes → ℕ → ℕ → ℕ → Plan Anodes → Plan Anodes
fill_or s z c b other = cond (eqb (s.count z) 0) (planned (rewritten s z c b) (run b c)) other

-- z grows if the run starts at its end
unfoldable pub grow_or : Anodes → ℕ → ℕ → ℕ → Plan Anodes → Plan Anodes
grow_or s z c b other = cond (eqb (s.block z + s.count z) b) (planned (rewritten s z (s.count z + c) (s.block z)) (run b c)) other

-- z grows if the run ends at its start
unfoldable pub grow_before_or : Anodes → ℕ → ℕ → ℕ → Plan Anodes → Plan Anodes
grow_before_or s z c b other = cond (eqb (b + c) (s.block z)) (planned (rewritten s z (s.count z + c) b) (run b c)) other

-- the run joins z, unless that is anode 1: by filling an empty one, after its end, or before its start; otherwise it goes as `other` says
unfoldable pub join_or : Anodes → ℕ → ℕ → ℕ → Plan Anodes → Plan Anodes
join_or s z c b other = cond (eqb z 1) other (fill_or s z c b (grow_or s z c b (grow_before_or s z c b other)))

-- the run joins z; otherwise anode x, zeroed before, has it behind z
unfoldable pub join_with : ℕ → ℕ → ℕ → ℕ → Anodes → Plan Anodes
join_with x z c b s = join_or s z c b (planned (inserted_after s z x c b) (run b c))

-- A: how many anodes there may be
module _ (A : ℕ) where
  -- the last anode of h's chain
  unfoldable pub chain_end : Anodes → ℕ → ℕ
  chain_end s h = last_of h (chain_of s.next A h)

  -- the last anode of the side of block b (last: last reserved)
  unfoldable pub side_end : ℕ → Anodes → ℕ → ℕ
  side_end last s b = last_of (side_of last b) (side A s (side_of last b))

  -- ex: the anodes that exist
  module _ (ex : ℕ → Bool) where
    -- the lowest free anode from 6 up, or A where there is none
    unfoldable pub lowest_free : Anodes → ℕ
    lowest_free s = least (free ex s) A

    -- the run in the lowest free anode, behind anode z; 28 if there is none
    unfoldable pub append : Anodes → ℕ → ℕ → ℕ → Plan Anodes
    append s z c b = cond (ltb (lowest_free s) A) (planned (inserted_after s z (lowest_free s) c b) (run b c)) (refused 28)

  -- an anode is needed, and nothing else
  unfoldable pub need_anode : (ℕ → Bool) → Anodes → Plan Anodes
  need_anode ex s = cond (ltb (lowest_free ex s) A) (planned s []) (refused 28)

  -- block y to the taker's last anode z: an empty one is filled, one grows if the block is its end, else an anode is appended; directory blocks (dir) get an anode of their own
  unfoldable pub put : Bool → ℕ → ℕ → (ℕ → Bool) → Anodes → Plan Anodes
  put dir z y ex s = fill_or s z 1 y (cond dir (append ex s z 1 y) (grow_or s z 1 y (append ex s z 1 y)))

  -- a run to the last anode z of its side; otherwise it goes in an anode behind it
  unfoldable pub join : ℕ → ℕ → ℕ → (ℕ → Bool) → Anodes → Plan Anodes
  join z c b ex s = join_or s z c b (append ex s z c b)

-- ---- a chain that goes

-- anode a is in h's chain
unfoldable pub on_chain : ℕ → Anodes → ℕ → ℕ → Bool
on_chain A s h a = leb 1 (occurrences a (chain_of s.next A h))

-- the anodes of h's chain zeroed
unfoldable pub dropped : ℕ → Anodes → ℕ → Anodes
dropped A s h = record {
  count = λ a. cond (on_chain A s h a) 0 (s.count a);
  block = λ a. cond (on_chain A s h a) 0 (s.block a);
  next = λ a. cond (on_chain A s h a) 0 (s.next a);
}

-- ---- the steps

-- last: last reserved
module _ (A last : ℕ) where
  -- a run of c blocks from b, now nobody's, joins its side, or goes there with anode x, zeroed before
  unfoldable pub move_back : ℕ → ℕ → ℕ → Slotted → Plan Slotted
  move_back x c b s = at_slots s.slots (join_with x (side_end A last s.anodes b) c b s.anodes)

  -- the end of a removal: the anodes still in the chain of h are zeroed, and the run that the head still has, if any, goes back with the head itself
  unfoldable pub head_back : ℕ → Slotted → Plan Slotted
  head_back h s =
      cond (eqb (s.anodes.count h) 0)
      (planned (slotted (dropped A s.anodes h) s.slots) [])
      (move_back h (s.anodes.count h) (s.anodes.block h) (slotted (dropped A s.anodes h) s.slots))

  -- how many blocks of the chain of h go back before it: all but the head's, or but its lower run where it crosses
  unfoldable pub before_head : Anodes → ℕ → ℕ
  before_head s h = sum_list s.count (chain_of s.next A h) - lower_run last (s.count h) (s.block h)

module _ (A : ℕ) (growth : Growth) where
  -- a state with an anode to be had
  unfoldable pub with_spare : Slotted → Plan Slotted
  with_spare s = afresh growth (need_anode A) s

  -- block y, now nobody's, goes to the chain of h
  unfoldable pub put_to : Bool → ℕ → ℕ → Slotted → Plan Slotted
  put_to dir h y s = afresh growth (λ ex t. put A dir (chain_end A t h) y ex t) s

  -- the first block of x, after p on the free list, goes to the chain of h
  unfoldable pub take_from : Bool → ℕ → ℕ → ℕ → Slotted → Plan Slotted
  take_from dir h p x s = put_to dir h (s.anodes.block x) (slotted (without_first s.anodes p x) s.slots)

  -- TAKE A BLOCK into h's chain: the first block of the first non-empty extent; 27 if no free block is left
  unfoldable pub take_block : Bool → ℕ → Slotted → Plan Slotted
  take_block dir h s = elim (free_extent A dir s.anodes) [ nowhere ↦ refused 27 | found p x ↦ take_from dir h p x s ]

  -- k takes
  unfoldable pub take_many : Bool → ℕ → ℕ → Slotted → Plan Slotted
  take_many dir k h s = repeated (take_block dir h) k s

  -- last: last reserved
  module _ (last : ℕ) where
    -- a run of c blocks from b, now nobody's, joins its side
    unfoldable pub release : ℕ → ℕ → Slotted → Plan Slotted
    release c b s = afresh growth (λ ex t. join A (side_end A last t b) c b ex t) s

    -- the last d blocks of x, after p on the chain of h, go back: a whole extent goes with its anode; a cut piece, an upper part and the run of a head that stays are released
    unfoldable pub give_run : ℕ → ℕ → ℕ → ℕ → Slotted → Plan Slotted
    give_run h p x d s =
        cond (eqb (s.anodes.count x) d && not (eqb x h))
        (move_back A last x d (tail_start s.anodes x d) (slotted (without_tail s.anodes h p x d) s.slots))
        (release d (tail_start s.anodes x d) (slotted (without_tail s.anodes h p x d) s.slots))

    -- k blocks of the chain of h go back run by run, last first, in at most f runs
    unfoldable pub give_runs : ℕ → ℕ → ℕ → Slotted → Plan Slotted
    give_runs zero k h s = planned s []
    give_runs (suc f) zero h s = planned s []
    give_runs (suc f) (suc k) h s = elim (last_extent s.anodes.count 0 (chain_of s.anodes.next A h)) [
      | nowhere ↦ planned s []
      | found p x ↦ give_run h p x (run_length last (suc k) (s.anodes.count x) (s.anodes.block x)) s
          and_then give_runs f (suc k - run_length last (suc k) (s.anodes.count x) (s.anodes.block x)) h
    ]

    -- GIVE BACK k blocks of the chain of h: a run has one at least, so no more runs than blocks
    unfoldable pub give_blocks : ℕ → ℕ → Slotted → Plan Slotted
    give_blocks k h s = give_runs k k h s

    -- GIVE BACK the whole chain of h, as a removal does
    unfoldable pub give_all : ℕ → Slotted → Plan Slotted
    give_all h s = give_blocks (before_head A last s.anodes h) h s and_then head_back A last h
