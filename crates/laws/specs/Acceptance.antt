-- The check's table: its answer is 0 exactly if every test fails, and what the tests 6 to 11 say in numbers.
use Rattle.std.specs.Prelude.{ℕ, ◌+◌, ◌%◌, ◌≤◌, ◌<◌, ◌≡◌, refl, ◌≢◌, Bool, not, ◌&&◌, ◌||◌, List, [], ◌∷◌, leb, length}
use Rattle.std.proofs.Common.{inl, inr}
use Rattle.std.proofs.Math.Bool.{false}
use native.Mathlib.Omega.{arith}
use Rattle.std.proofs.Math.Dec.{eqb, ltb}
use borrow.Author.Tests.{ltb-true, ltb-false, leb-false, eqb-true, eqb-false, not-true, lt-ltb, le-ltb, lt-leb, eq-eqb, ne_eqb}
use Rattle.rules.specs.Counting.{any_below, any_in, occurrences}
use Rattle.rules.specs.Anodes.{Anodes, limit, anodes_of, is_free}
use Rattle.rules.specs.Chains.{chain_of, followed, preds, owners, side, system_owns}
use Rattle.rules.specs.Walk.{walk_of, fault_in}
use Rattle.rules.specs.Accepted.{disk_size, wrong_size, short_tables, wrong_type, last_reserved, wrong_root, wrong_slots, wrong_fixed, half_cleared, wrong_extent, out_of_range, wrong_link, wrong_at, has_pred, wrong_links, not_above, not_up_to, wrong_free_list, owners_of, two_owners, no_owner, unnamed_chain, tree_fault, damage_in, check_answer}
use Rattle.counting.specs.Laws.{neither, none_or, and_none, none-and, any_below_each, any_below-all}
use Rattle.laws.specs.Each.{Each}
use Rattle.laws.specs.Bags.{each_at}
use Rattle.laws.specs.Tests.{same, if-zero, first_of-zero, first_of-none}
use Rattle.laws.specs.Members.{none_pass, member-occurrences}
use Rattle.laws.specs.TestsPassed.{zero_anode, fixed_anodes, extent_inside, tested_checked}
use Rattle.laws.specs.Links.{View}
use Rattle.laws.specs.Space.{FixedHead}
use Rattle.laws.specs.Passes.{Passes}

-- no number of a list passes
in_none : (test : ℕ → Bool) (l : List ℕ) → any_in test l ≡ false → (x : ℕ) → 0 < occurrences x l → test x ≡ false
unfolding any_in
in_none test l e = each_at (λ x. test x ≡ false) l (each l e)
  where
    each : (l : List ℕ) → any_in test l ≡ false → Each (λ x. test x ≡ false) l
    each [] e = tt
    each (y ∷ l) e = let o = neither (test y) (any_in test l) e in (o.0, each l o.1)

none_in : (test : ℕ → Bool) (l : List ℕ) → ((x : ℕ) → 0 < occurrences x l → test x ≡ false) → any_in test l ≡ false
none_in test l f = none_pass test l (λ x m. f x (member-occurrences x l m))

-- ---- 6 to 11

-- an anode whose block field is 0 has all three fields 0
abbrev pub Cleared : Anodes → Type 0
Cleared s = (a : ℕ) → s.block a ≡ 0 → (s.count a ≡ 0) × (s.next a ≡ 0)

module _ (s : Anodes) (n last : ℕ) (system : ℕ → ℕ) where
  -- the tests as they are computed
  pub record Tested : Type 0 where
    pub fixed_right : wrong_fixed s ≡ false
    pub in_range : any_below (out_of_range s n) limit ≡ false
    pub links_right : wrong_links s ≡ false
    pub free_right : wrong_free_list s last ≡ false
    pub none_twice : any_below (λ x. ltb 1 (owners limit s.count s.block system x)) n ≡ false
    pub all_owned : any_below (λ x. eqb (owners limit s.count s.block system x) 0) n ≡ false

  -- where no test holds, the same is true in numbers, and what is proved of accepted images stands on that form
  pub tested_passes : View limit s.next s.block → Tested → Passes limit n last s system
  unfolding wrong_links has_pred wrong_free_list not_above not_up_to
  tested_passes v t = record {
    fixed = fixed_anodes s t.fixed_right n t.in_range;
    next_0 = (zero_anode s t.fixed_right).2;
    links = tested_checked s t.fixed_right v n t.in_range t.links_right;
    first = first;
    two_on = positive _ (eqb-false _ 0 w.0);
    high = λ a p c. leb-false _ last (and_none _ _ (in_none (not_above s last) (side limit s 1) w1.0 a p) (lt-ltb 0 _ c));
    low = λ a p c. omega (arith, ltb-false (last + 1) _ (and_none _ _ (in_none (not_up_to s last) (chain_of s.next limit 2) w1.1 a p) (lt-ltb 0 _ c)));
    own = record {
      not-two = λ x l. ltb-false 1 _ (any_below_each (λ x. ltb 1 (owners limit s.count s.block system x)) x n l t.none_twice);
      not_none = λ x l. positive _ (eqb-false _ 0 (any_below_each (λ x. eqb (owners limit s.count s.block system x) 0) x n l t.all_owned));
      fits = extent_inside s t.fixed_right n t.in_range;
    };
  }
    where
      positive : (k : ℕ) → k ≢ 0 → 1 ≤ k
      positive k p = omega arith

      p1 : (has_pred s 1 ≡ false) × ((has_pred s 3 || (has_pred s 4 || has_pred s 5)) ≡ false)
      p1 = neither _ _ (neither (any_below (wrong_at s) limit) _ t.links_right).1

      p3 : (has_pred s 3 ≡ false) × ((has_pred s 4 || has_pred s 5) ≡ false)
      p3 = neither _ _ p1.1

      p4 : (has_pred s 4 ≡ false) × (has_pred s 5 ≡ false)
      p4 = neither _ _ p3.1

      none_before : (a : ℕ) → has_pred s a ≡ false → preds limit s.next a ≡ 0
      none_before a e = omega (arith, ltb-false 0 (preds limit s.next a) e)

      first : (m : ℕ) → FixedHead m → preds limit s.next m ≡ 0
      first m (inl e) = rw e (none_before 1 p1.0)
      first m (inr (inl e)) = rw e (none_before 3 p3.0)
      first m (inr (inr (inl e))) = rw e (none_before 4 p4.0)
      first m (inr (inr (inr e))) = rw e (none_before 5 p4.1)

      w : (eqb (occurrences 2 (chain_of s.next limit 1)) 0 ≡ false) × ((any_in (not_above s last) (side limit s 1) || any_in (not_up_to s last) (chain_of s.next limit 2)) ≡ false)
      w = neither _ _ t.free_right

      w1 : (any_in (not_above s last) (side limit s 1) ≡ false) × (any_in (not_up_to s last) (chain_of s.next limit 2) ≡ false)
      w1 = neither _ _ w.1

  -- and where it is true in numbers, and a free anode is cleared, no test holds
  pub passes_tested : Cleared s → Passes limit n last s system → Tested
  unfolding wrong_fixed is_free out_of_range half_cleared wrong_extent wrong_links wrong_at wrong_link has_pred wrong_free_list not_above not_up_to
  passes_tested free p = record {
    fixed_right = rw (eq-eqb (s.count 0) 0 p.fixed.count-0, eq-eqb (s.block 0) 65535 p.fixed.block_0, eq-eqb (s.next 0) 0 p.next_0, eq-eqb (s.count 1) 0 p.fixed.count-1, eq-eqb (s.block 1) 65535 p.fixed.block_1, ne_eqb (s.block 2) 0 p.fixed.block_2, ne_eqb (s.block 5) 0 p.fixed.block_5)
        (none_or _ _ (none-and (eqb (s.count 2) 0) false (λ e. refl)) (none-and (eqb (s.count 5) 0) false (λ e. refl)));
    in_range = any_below-all (out_of_range s n) limit range;
    links_right = none_or _ _ (any_below-all (wrong_at s) limit link)
        (none_or _ _ (le-ltb 0 _ (none 1 (inl refl))) (none_or _ _ (le-ltb 0 _ (none 3 (inr (inl refl)))) (none_or _ _ (le-ltb 0 _ (none 4 (inr (inr (inl refl))))) (le-ltb 0 _ (none 5 (inr (inr (inr refl))))))));
    free_right = none_or _ _ (ne_eqb (occurrences 2 (chain_of s.next limit 1)) 0 (λ e. omega (arith, e, p.two_on)))
        (none_or _ _ (none_in (not_above s last) (side limit s 1) above) (none_in (not_up_to s last) (chain_of s.next limit 2) up_to));
    none_twice = any_below-all (λ x. ltb 1 (owners limit s.count s.block system x)) n (λ x l. le-ltb 1 _ (p.own.not-two x l));
    all_owned = any_below-all (λ x. eqb (owners limit s.count s.block system x) 0) n (λ x l. ne_eqb (owners limit s.count s.block system x) 0 (λ e. omega (arith, e, p.own.not_none x l)));
  }
    where
      none : (m : ℕ) → FixedHead m → preds limit s.next m ≤ 0
      none m f = omega (arith, p.first m f)

      whole : (a : ℕ) → half_cleared s a ≡ false
      whole a = none-and (eqb (s.block a) 0) (not (is_free s a)) (λ e.
          let z = eqb-true (s.block a) 0 e in
          rw (eq-eqb (s.count a) 0 (free a z).0, e, eq-eqb (s.next a) 0 (free a z).1))

      range : (a : ℕ) → a < limit → out_of_range s n a ≡ false
      range a l = none_or (half_cleared s a) (wrong_extent s n a) (whole a) (
          none-and (not (eqb a 0)) (ltb 0 (s.count a) && ltb n (s.block a + s.count a) || not (eqb (s.next a) 0) && eqb (s.block (s.next a)) 0) (λ e.
          none_or (ltb 0 (s.count a) && ltb n (s.block a + s.count a)) (not (eqb (s.next a) 0) && eqb (s.block (s.next a)) 0)
          (none-and (ltb 0 (s.count a)) (ltb n (s.block a + s.count a)) (λ c. le-ltb n (s.block a + s.count a) (p.own.fits a l (ltb-true 0 (s.count a) c))))
          (none-and (not (eqb (s.next a) 0)) (eqb (s.block (s.next a)) 0) (λ c. ne_eqb (s.block (s.next a)) 0 (p.links.closed a (eqb-false (s.next a) 0 (not-true (eqb (s.next a) 0) c)))))))

      link : (a : ℕ) → a < limit → wrong_at s a ≡ false
      link a l =
          none-and (not (eqb a 0)) (not (eqb (s.block a) 0) && wrong_link s a) (λ e.
          none-and (not (eqb (s.block a) 0)) (wrong_link s a) (λ u.
          none_or (ltb 1 (preds limit s.next a)) (not (eqb (followed s.next limit a) 0))
          (le-ltb 1 (preds limit s.next a) (p.links.one_pred a (eqb-false a 0 (not-true (eqb a 0) e)) (eqb-false (s.block a) 0 (not-true (eqb (s.block a) 0) u))))
          (same (followed s.next limit a) 0 (p.links.ends a (eqb-false (s.block a) 0 (not-true (eqb (s.block a) 0) u))))))

      above : (a : ℕ) → 0 < occurrences a (side limit s 1) → not_above s last a ≡ false
      above a q = none-and (ltb 0 (s.count a)) (leb (s.block a) last) (λ c. lt-leb (s.block a) last (p.high a q (ltb-true 0 (s.count a) c)))

      up_to : (a : ℕ) → 0 < occurrences a (chain_of s.next limit 2) → not_up_to s last a ≡ false
      up_to a q =
          none-and (ltb 0 (s.count a)) (ltb (last + 1) (s.block a + s.count a)) (λ c.
          le-ltb (last + 1) (s.block a + s.count a) (omega (arith, p.low a q (ltb-true 0 (s.count a) c))))

-- ---- the table

-- a disk has 5 to 65,535 blocks
pub size_bounds : (img : List ℕ) → wrong_size img ≡ false → (5 ≤ disk_size img) × (disk_size img ≤ 65535)
unfolding wrong_size
size_bounds img right =
    let size = neither (not (eqb (length img % 512) 0)) (ltb (disk_size img) 5 || ltb 65535 (disk_size img)) right in
    let ends = neither (ltb (disk_size img) 5) (ltb 65535 (disk_size img)) size.1 in
    (ltb-false (disk_size img) 5 ends.0, ltb-false 65535 (disk_size img) ends.1)

-- no test of the table holds
pub record Passed (img : List ℕ) (blocks anodes : ℕ) : Type 0 where
  pub size_right : wrong_size img ≡ false
  pub tables_long : short_tables img blocks anodes ≡ false
  pub type_right : wrong_type img ≡ false
  pub root_right : wrong_root img ≡ false
  pub slots_right : wrong_slots img ≡ false
  pub tested : Tested (anodes_of img) (disk_size img) (last_reserved img) (system_owns img)
  pub walked : fault_in (walk_of img (anodes_of img)) ≡ 0
  pub all_named : any_below (unnamed_chain img (anodes_of img)) limit ≡ false

-- where the check answers 0, no test holds
pub passed_of : (img : List ℕ) (blocks anodes : ℕ) → check_answer img blocks anodes ≡ 0 → Passed img blocks anodes
unfolding check_answer damage_in tree_fault two_owners no_owner owners_of
passed_of img blocks anodes e =
    let r1 = if-zero 1 (wrong_size img) _ (omega arith) e in
    let r2 = if-zero 2 (short_tables img blocks anodes) _ (omega arith) r1.1 in
    let r3 = if-zero 3 (wrong_type img) _ (omega arith) r2.1 in
    let r4 = if-zero 4 (wrong_root img) _ (omega arith) r3.1 in
    let r5 = if-zero 5 (wrong_slots img) _ (omega arith) r4.1 in
    let r6 = if-zero 6 (wrong_fixed (anodes_of img)) _ (omega arith) r5.1 in
    let r7 = if-zero 7 (any_below (out_of_range (anodes_of img) (disk_size img)) limit) _ (omega arith) r6.1 in
    let r8 = if-zero 8 (wrong_links (anodes_of img)) _ (omega arith) r7.1 in
    let r9 = if-zero 9 (wrong_free_list (anodes_of img) (last_reserved img)) _ (omega arith) r8.1 in
    let r10 = if-zero 10 (two_owners img (anodes_of img)) _ (omega arith) r9.1 in
    let r11 = if-zero 11 (no_owner img (anodes_of img)) _ (omega arith) r10.1 in
    let r12 = first_of-zero (fault_in (walk_of img (anodes_of img))) _ r11.1 in
    let r16 = if-zero 16 (any_below (unnamed_chain img (anodes_of img)) limit) 0 (omega arith) r12.1 in
    record {
      size_right = r1.0;
      tables_long = r2.0;
      type_right = r3.0;
      root_right = r4.0;
      slots_right = r5.0;
      tested = record { fixed_right = r6.0; in_range = r7.0; links_right = r8.0; free_right = r9.0; none_twice = r10.0; all_owned = r11.0 };
      walked = r12.0;
      all_named = r16.0;
    }

-- where no test holds, the check answers 0
pub passed-accepted : (img : List ℕ) (blocks anodes : ℕ) → Passed img blocks anodes → check_answer img blocks anodes ≡ 0
unfolding check_answer damage_in tree_fault two_owners no_owner owners_of
passed-accepted img blocks anodes p =
    let t = p.tested in
    rw (p.size_right, p.tables_long, p.type_right, p.root_right, p.slots_right, t.fixed_right, t.in_range, t.links_right, t.free_right, t.none_twice, t.all_owned, p.all_named)
    (first_of-none (fault_in (walk_of img (anodes_of img))) 0 p.walked)
