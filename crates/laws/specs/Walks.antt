-- What the walk over the directories finds.
use Prim.Native.Nat.{ℕ, zero, suc, ◌+◌, ◌≤◌}
use Rattle.std.specs.Prelude.{◌≡◌, leb}
use Rattle.std.proofs.Math.Path.{refl, ap}
use Rattle.std.proofs.Common.{sym, ◌∙◌, inl, inr, arith, leb-false}
use mathlib.Core.List.{List, [], ◌∷◌, ◌++◌, append_assoc, append-nil}
use Rattle.std.proofs.lemmas.Bool.{lt-leb}
use Rattle.rules.specs.Counting.{◌if◌else◌, first_of, sum_list, occurrences, gather}
use Rattle.rules.specs.Walk.{Dir, Item, sub_dirs, fault_of, Scanned, faulty, fine, scan, Walk, fault, done, visited, walk}
use Rattle.laws.specs.Sums.{one_at_cases, one_at-same}
use Rattle.laws.specs.Bags.{list_nil, list_cons, list_append, gather-sum, occurrences-nil, occurrences-cons}
use Rattle.laws.specs.Tests.{if-zero, first_of-zero}
use Rattle.laws.specs.Items.{wrong, names, subs, below, named_in, faults}
use Rattle.laws.specs.Members.{Member, member-first, member-later}

-- ---- one directory

-- the anodes of these items, named after those of s
unfoldable pub named_after : List Item → List ℕ → List ℕ
named_after [] s = s
named_after (i ∷ is) s = named_after is (i.anode ∷ s)

fault_none : (i : Item) (s : List ℕ) → fault_of i s ≡ 0 → (wrong i ≡ 0) × (occurrences i.anode s ≡ 0)
unfolding fault_of wrong
fault_none i s h =
    let f = first_of-zero i.early (14 if leb 1 (occurrences i.anode s) else i.late) h in
    let late = if-zero 14 (leb 1 (occurrences i.anode s)) i.late (omega arith) f.1 in
    (omega (arith, f.0, late.1), omega (arith, leb-false 1 (occurrences i.anode s) late.0))

none_fault : (i : Item) (s : List ℕ) → wrong i ≡ 0 → occurrences i.anode s ≡ 0 → fault_of i s ≡ 0
unfolding fault_of first_of wrong
none_fault i s w c =
    let e : i.early ≡ 0 = omega arith in
    rw (e, lt-leb 1 (occurrences i.anode s) (omega arith)) (omega arith)

pub scan_next : (d : Dir) (i : Item) (is : List Item) (q : List Dir) (s : List ℕ) → fault_of i s ≡ 0 →
    scan d (i ∷ is) q s ≡ scan d is (q ++ sub_dirs d i) (i.anode ∷ s)
unfolding scan
scan_next d i is q s e = rw (e, scan)

pub scan_stops : (d : Dir) (i : Item) (is : List Item) (q : List Dir) (s : List ℕ) (n : ℕ) → fault_of i s ≡ suc n → scan d (i ∷ is) q s ≡ faulty (suc n)
unfolding scan
scan_stops d i is q s n e = rw (e, scan)

faulty≢fine : (n : ℕ) (q : List Dir) (s : List ℕ) → faulty n ≡ fine q s → ⊥
faulty≢fine n q s e = let z : ◌≡◌ {A = ℕ} 0 1 = cc in omega arith

pub occurrences-named_after : (x : ℕ) (is : List Item) (s : List ℕ) → occurrences x (named_after is s) ≡ occurrences x s + occurrences x (names is)
unfolding named_after
occurrences-named_after x [] s = omega (arith, occurrences-nil x)
occurrences-named_after x (i ∷ is) s = omega (arith, occurrences-named_after x is (i.anode ∷ s), occurrences-cons x i.anode s, occurrences-cons x i.anode (names is))

-- where nothing is wrong and no anode is named twice, the scan goes through
scan_runs : (d : Dir) (is : List Item) (q : List Dir) (s : List ℕ) → sum_list wrong is ≡ 0 → ((x : ℕ) → occurrences x s + occurrences x (names is) ≤ 1) →
    scan d is q s ≡ fine (q ++ gather (sub_dirs d) is) (named_after is s)
unfolding gather named_after scan
scan_runs d [] q s w o = rw append-nil
scan_runs d (i ∷ is) q s w o =
    let wi : wrong i + sum_list wrong is ≡ 0 = sym (list_cons wrong i is) ∙ w in
    scan_next d i is q s (none_fault i s (omega arith) (omega (arith, o i.anode, occurrences-cons i.anode i.anode (names is), one_at-same i.anode i.anode refl)))
    ∙ scan_runs d is (q ++ sub_dirs d i) (i.anode ∷ s) (omega arith) (λ x. omega (arith, o x, occurrences-cons x i.anode s, occurrences-cons x i.anode (names is)))
    ∙ ap (λ (l : List Dir). fine l (named_after is (i.anode ∷ s))) (append_assoc q (sub_dirs d i) (gather (sub_dirs d) is))

-- what a scan that goes through has found
pub record ScanFound (d : Dir) (is : List Item) (q : List Dir) (s : List ℕ) (q' : List Dir) (s' : List ℕ) : Type 0 where
  pub queue : q' ≡ q ++ gather (sub_dirs d) is
  pub seen : (x : ℕ) → occurrences x s' ≡ occurrences x s + occurrences x (names is)
  pub faultless : sum_list wrong is ≡ 0
  pub once : (x : ℕ) → occurrences x s ≤ 1 → occurrences x s' ≤ 1

scan-found : (d : Dir) (is : List Item) (q : List Dir) (s : List ℕ) (q' : List Dir) (s' : List ℕ) → scan d is q s ≡ fine q' s' → ScanFound d is q s q' s'
unfolding gather scan
scan-found d [] q s q' s' e = record {
  queue = let f : q ≡ q' = cc in sym f ∙ sym (append-nil q);
  seen = λ x. let f : s ≡ s' = cc in omega (arith, occurrences-nil x, ap (occurrences x) f);
  faultless = list_nil wrong;
  once = λ x h. let f : s ≡ s' = cc in omega (arith, ap (occurrences x) f);
}
scan-found d (i ∷ is) q s q' s' e = go (fault_of i s) refl (scan-found d is (q ++ sub_dirs d i) (i.anode ∷ s) q' s')
  where
    go : (n : ℕ) → fault_of i s ≡ n → (scan d is (q ++ sub_dirs d i) (i.anode ∷ s) ≡ fine q' s' → ScanFound d is (q ++ sub_dirs d i) (i.anode ∷ s) q' s') →
        ScanFound d (i ∷ is) q s q' s'
    go (suc n) f r = absurd (faulty≢fine (suc n) q' s' (sym (scan_stops d i is q s n f) ∙ e))
    go zero f r =
        let c = fault_none i s f in
        let t = r (sym (scan_next d i is q s f) ∙ e) in
        record {
          queue = t.queue ∙ append_assoc q (sub_dirs d i) (gather (sub_dirs d) is);
          seen = λ x. omega (arith, t.seen x, occurrences-cons x i.anode s, occurrences-cons x i.anode (names is));
          faultless = omega (arith, c.0, list_cons wrong i is, t.faultless);
          once = λ x h. t.once x (elim (one_at_cases i.anode x) [
            | inl y ↦ omega (arith, occurrences-cons x i.anode s, c.1, ap (λ (z : ℕ). occurrences z s) y.0)
            | inr y ↦ omega (arith, occurrences-cons x i.anode s)
          ]);
        }

-- ---- the whole walk

module _ (items : Dir → List Item) where
  walk_next : (k : ℕ) (d : Dir) (q : List Dir) (s : List ℕ) (q' : List Dir) (s' : List ℕ) → scan d (items d) q s ≡ fine q' s' →
      walk items (suc k) (d ∷ q) s ≡ visited d (walk items k q' s')
  unfolding walk
  walk_next k d q s q' s' e = rw (e, walk)

  walk_stops : (k : ℕ) (d : Dir) (q : List Dir) (s : List ℕ) (n : ℕ) → scan d (items d) q s ≡ faulty n → walk items (suc k) (d ∷ q) s ≡ fault n
  unfolding walk
  walk_stops k d q s n e = rw (e, walk)

  fault≢done : (n : ℕ) (l : List Dir) → fault n ≡ done l → ⊥
  fault≢done n l e = let z : ◌≡◌ {A = ℕ} 0 1 = cc in omega arith

  -- Q is taken from the queue q in this order
  abbrev pub Order : List Dir → List Dir → Type 0
  Order q [] = q ≡ []
  Order q (d ∷ Q) = (q' : List Dir) × (q ≡ d ∷ q') × Order (q' ++ subs items d) Q

  -- what a walk that goes through has found
  pub record WalkFound (q : List Dir) (s : List ℕ) (Q : List Dir) : Type 0 where
    pub order : Order q Q
    pub faultless : sum_list (faults items) Q ≡ 0
    pub once : (x : ℕ) → occurrences x s ≤ 1 → occurrences x s + sum_list (named_in items x) Q ≤ 1

  nothing : (s : List ℕ) (Q : List Dir) → [] ≡ Q → WalkFound [] s Q
  unfolding gather
  nothing s Q e = rw (← e) (record { order = refl; faultless = list_nil (faults items); once = λ x h. omega (arith, list_nil (named_in items x)) })

  after-scan : (d : Dir) (q : List Dir) (s : List ℕ) (q' : List Dir) (s' : List ℕ) (Q : List Dir) → ScanFound d (items d) q s q' s' →
      (o : Walk) → visited d o ≡ done Q → ((Q : List Dir) → o ≡ done Q → WalkFound q' s' Q) → WalkFound (d ∷ q) s Q
  unfolding visited gather subs
  after-scan d q s q' s' Q c (fault n) e r = absurd (fault≢done n Q e)
  after-scan d q s q' s' Q c (done Q') e r =
      let w = r Q' refl in
      let eq : d ∷ Q' ≡ Q = cc in
      rw (← eq) (record {
        order = (q, refl, rw c.queue at w.order);
        faultless = omega (arith, list_cons (faults items) d Q', w.faultless, c.faultless);
        once = λ x h. omega (arith, w.once x (c.once x h), c.seen x, list_cons (named_in items x) d Q');
      })

  pub walk-found : (k : ℕ) (q : List Dir) (s : List ℕ) (Q : List Dir) → walk items k q s ≡ done Q → WalkFound q s Q
  unfolding walk
  walk-found zero [] s Q e = nothing s Q (cc)
  walk-found zero (d ∷ q) s Q e = absurd (fault≢done 14 Q e)
  walk-found (suc k) [] s Q e = nothing s Q (cc)
  walk-found (suc k) (d ∷ q) s Q e = go (scan d (items d) q s) refl (walk-found k)
    where
      go : (c : Scanned) → scan d (items d) q s ≡ c → ((q : List Dir) (s : List ℕ) (Q : List Dir) → walk items k q s ≡ done Q → WalkFound q s Q) → WalkFound (d ∷ q) s Q
      go (faulty n) f r = absurd (fault≢done n Q (sym (walk_stops k d q s n f) ∙ e))
      go (fine q' s') f r = after-scan d q s q' s' Q (scan-found d (items d) q s q' s' f) (walk items k q' s') (sym (walk_next k d q s q' s' f) ∙ e) (r q' s')

  -- a directory with nothing wrong in it, which names what is not named yet, is gone through
  pub walk_through : (k : ℕ) (d : Dir) (q : List Dir) (s : List ℕ) (Q : List Dir) → faults items d ≡ 0 → ((x : ℕ) → occurrences x s + named_in items x d ≤ 1) →
      walk items k (q ++ subs items d) (named_after (items d) s) ≡ done Q → walk items (suc k) (d ∷ q) s ≡ done (d ∷ Q)
  unfolding visited subs
  walk_through k d q s Q w o e = walk_next k d q s (q ++ subs items d) (named_after (items d) s) (scan_runs d (items d) q s w o) ∙ ap (visited d) e

  -- so Q is q and what Q names
  order_list : (Q q : List Dir) → Order q Q → Q ≡ q ++ gather (subs items) Q
  unfolding gather
  order_list [] q r = rw r refl
  order_list (d ∷ Q) q r = rw r.1 (ap (λ (l : List Dir). d ∷ l) (order_list Q (r.0 ++ subs items d) r.2 ∙ append_assoc r.0 (subs items d) (gather (subs items) Q)))

  pub order_sum : (Q q : List Dir) → Order q Q → (w : Dir → ℕ) → sum_list w Q ≡ sum_list w q + sum_list (below items w) Q
  order_sum Q q r w = ap (sum_list w) (order_list Q q r) ∙ list_append w q (gather (subs items) Q) ∙ ap (λ (n : ℕ). sum_list w q + n) (gather-sum (subs items) w Q)

-- ---- the same items

visited-done : (d : Dir) (o : Walk) (Q : List Dir) → visited d o ≡ done Q → (R : List Dir) × (o ≡ done R) × (Q ≡ d ∷ R)
unfolding visited
visited-done d (fault n) Q e = absurd (let z : ◌≡◌ {A = ℕ} 0 1 = cc in omega arith)
visited-done d (done R) Q e = (R, refl, cc)

-- where the directories that are visited have the same items, the walk goes the same way
pub walk_same : (items items' : Dir → List Item) (k : ℕ) (q : List Dir) (named : List ℕ) (Q : List Dir) → walk items k q named ≡ done Q →
    ((d : Dir) → Member d Q → items' d ≡ items d) → walk items' k q named ≡ done Q
unfolding walk visited
walk_same items items' zero [] named Q e f = e
walk_same items items' zero (d ∷ q) named Q e f = e
walk_same items items' (suc k) [] named Q e f = e
walk_same items items' (suc k) (d ∷ q) named Q e f = go (scan d (items d) q named) refl e (walk_same items items' k)
  where
    go : (c : Scanned) → scan d (items d) q named ≡ c → elim c [ faulty n ↦ fault n | fine r l ↦ visited d (walk items k r l) ] ≡ done Q →
        ((q : List Dir) (named : List ℕ) (Q : List Dir) → walk items k q named ≡ done Q → ((d : Dir) → Member d Q → items' d ≡ items d) → walk items' k q named ≡ done Q) →
        elim (scan d (items' d) q named) [ faulty n ↦ fault n | fine r l ↦ visited d (walk items' k r l) ] ≡ done Q
    go (faulty n) c e rest = absurd (let z : ◌≡◌ {A = ℕ} 0 1 = cc in omega arith)
    go (fine r l) c e rest =
        let v = visited-done d (walk items k r l) Q e in
        let here : items' d ≡ items d = f d (rw v.2 (member-first d v.0)) in
        let later : walk items' k r l ≡ done v.0 = rest r l v.0 v.1 (λ x m. f x (rw v.2 (member-later x d v.0 m))) in
        rw (here, c, later) (ap done (sym v.2))
