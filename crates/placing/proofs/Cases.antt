-- The steps, by the tests of the code, on the anodes in three tables. Assumes nothing.
use Prim.Native.Nat.{ℕ, ◌+◌, ◌≤◌, ◌<◌}
use mathlib.Core.Path.{◌≡◌}
use mathlib.Core.Logic.{◌≢◌}
use mathlib.Core.Bool.{Bool, true, false}
use mathlib.Core.List.{List}
use lib.Dec.{eqb}
use lib.ListN.{get_or}
use borrow.Author.Tests.{lt-ltb, le-ltb, eq-eqb, ne_eqb}
use Rattle.rules.specs.Anodes.{Anodes}
use Rattle.rules.specs.Chains.{run}
use Rattle.rules.specs.Plans.{Plan, refused, planned}
use Rattle.rules.specs.Space.{rewritten, inserted_after, fill_or, grow_or, grow_before_or, join_or, lowest_free, append, put, join, join_with}
use Rattle.anodes.specs.Loaded.{anodes_from}
use Rattle.placing.specs.Steps.{Grows}

module _ (ex : ℕ → Bool) (c f n : List ℕ) where
  abbrev s : Anodes
  s = anodes_from c f n

  -- ---- a run behind anode z

  module _ (z k b : ℕ) where
    pub append-none : (a : ℕ) → a ≡ lowest_free 3444 ex s → 3444 ≤ a → append 3444 ex s z k b ≡ refused 28
    unfolding append
    append-none a e h = rw (← e, le-ltb a 3444 h)

    pub append_some : (a : ℕ) → a ≡ lowest_free 3444 ex s → a < 3444 → append 3444 ex s z k b ≡ planned (inserted_after s z a k b) (run b k)
    unfolding append
    append_some a e h = rw (← e, lt-ltb a 3444 h)

  -- ---- a block behind the blocks of a chain whose last anode is z

  module _ (z y : ℕ) where
    pub put_empty : (dir : Bool) → get_or c z 0 ≡ 0 → put 3444 dir z y ex s ≡ planned (rewritten s z 1 y) (run y 1)
    unfolding put fill_or anodes_from
    put_empty dir e = rw (eq-eqb (get_or c z 0) 0 e)

    module _ (some : get_or c z 0 ≢ 0) where
      pub put-grown : (dir : Bool) → dir ≡ false → get_or f z 0 + get_or c z 0 ≡ y → put 3444 dir z y ex s ≡ planned (rewritten s z (get_or c z 0 + 1) (get_or f z 0)) (run y 1)
      unfolding put fill_or grow_or anodes_from
      put-grown dir o e = rw (o, ne_eqb (get_or c z 0) 0 some, eq-eqb (get_or f z 0 + get_or c z 0) y e)

      pub put_own : (dir : Bool) → dir ≡ true → put 3444 dir z y ex s ≡ append 3444 ex s z 1 y
      unfolding put fill_or grow_or anodes_from
      put_own dir o = rw (o, ne_eqb (get_or c z 0) 0 some)

      pub put_apart : (dir : Bool) → get_or f z 0 + get_or c z 0 ≢ y → put 3444 dir z y ex s ≡ append 3444 ex s z 1 y
      unfolding put fill_or grow_or anodes_from
      put_apart true e = rw (ne_eqb (get_or c z 0) 0 some)
      put_apart false e = rw (ne_eqb (get_or c z 0) 0 some, ne_eqb (get_or f z 0 + get_or c z 0) y e)

-- ---- a run to the last anode z of its side

module _ (c f n : List ℕ) (z k b : ℕ) (other : Plan Anodes) where
  abbrev grown : Plan Anodes
  grown = fill_or (anodes_from c f n) z k b (grow_or (anodes_from c f n) z k b (grow_before_or (anodes_from c f n) z k b other))

  pub grow_empty : get_or c z 0 ≡ 0 → grown ≡ planned (rewritten (anodes_from c f n) z k b) (run b k)
  unfolding fill_or anodes_from
  grow_empty e = rw (eq-eqb (get_or c z 0) 0 e)

  module _ (some : get_or c z 0 ≢ 0) where
    pub grow_end : get_or f z 0 + get_or c z 0 ≡ b → grown ≡ planned (rewritten (anodes_from c f n) z (get_or c z 0 + k) (get_or f z 0)) (run b k)
    unfolding fill_or grow_or anodes_from
    grow_end e = rw (ne_eqb (get_or c z 0) 0 some, eq-eqb (get_or f z 0 + get_or c z 0) b e)

    module _ (apart : get_or f z 0 + get_or c z 0 ≢ b) where
      pub grow_start : b + k ≡ get_or f z 0 → grown ≡ planned (rewritten (anodes_from c f n) z (get_or c z 0 + k) b) (run b k)
      unfolding fill_or grow_or grow_before_or anodes_from
      grow_start e = rw (ne_eqb (get_or c z 0) 0 some, ne_eqb (get_or f z 0 + get_or c z 0) b apart, eq-eqb (b + k) (get_or f z 0) e)

      pub grow_not : b + k ≢ get_or f z 0 → grown ≡ other
      unfolding fill_or grow_or grow_before_or anodes_from
      grow_not e = rw (ne_eqb (get_or c z 0) 0 some, ne_eqb (get_or f z 0 + get_or c z 0) b apart, ne_eqb (b + k) (get_or f z 0) e)

module _ (ex : ℕ → Bool) (s : Anodes) (z k b : ℕ) where
  pub join_one : z ≡ 1 → join 3444 z k b ex s ≡ append 3444 ex s z k b
  unfolding join join_or
  join_one e = rw (eq-eqb z 1 e)

  pub join_other : z ≢ 1 → join 3444 z k b ex s ≡ fill_or s z k b (grow_or s z k b (grow_before_or s z k b (append 3444 ex s z k b)))
  unfolding join join_or
  join_other e = rw (ne_eqb z 1 e)

-- ---- a run to the last anode z of its side, with anode x

module _ (s : Anodes) (x z k b : ℕ) where
  -- anode 1 is not joined
  pub with-one : eqb z 1 ≡ true → join_with x z k b s ≡ planned (inserted_after s z x k b) (run b k)
  unfolding join_with join_or
  with-one e = rw e

  -- any other is, where it can have the run
  pub with_other : eqb z 1 ≡ false → join_with x z k b s ≡ fill_or s z k b (grow_or s z k b (grow_before_or s z k b (planned (inserted_after s z x k b) (run b k))))
  unfolding join_with join_or
  with_other e = rw e

-- what it means that an anode could have a run, or could not
module _ (r : Bool) (s : Anodes) (z k b : ℕ) (t : Anodes) (g : Grows r s z k b t) where
  pub could : r ≡ true → (other : Plan Anodes) → fill_or s z k b (grow_or s z k b (grow_before_or s z k b other)) ≡ planned t (run b k)
  could e = let h : Grows true s z k b t = rw e at g in h

  pub could_not : r ≡ false → ((other : Plan Anodes) → fill_or s z k b (grow_or s z k b (grow_before_or s z k b other)) ≡ other) × (t ≡ s)
  could_not e = let h : Grows false s z k b t = rw e at g in h
