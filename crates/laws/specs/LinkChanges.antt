-- The changes of links: a fresh anode inserted after another, one unlinked, a fresh head, whole chains dropped.
use Rattle.std.specs.Prelude.{ℕ, suc, ◌+◌, ◌*◌, ◌≤◌, ◌<◌, ◌≡◌, refl, ◌≢◌, ◌⊎◌, Bool, cond, List, ◌∷◌, ◌++◌, T}
use Rattle.std.proofs.Common.{sym, ap, ◌∙◌, inl, inr, arith}
use Rattle.rules.specs.Counting.{one_at, occurrences, changed}
use Rattle.laws.specs.Tests.{cond_cases}
use Rattle.laws.specs.Sums.{one_at-same, changed_cases, changed-same, changed_other, changed-pos}
use Rattle.laws.specs.Bags.{occurrences-cons, occurrences-append}
use Rattle.laws.specs.Segments.{Seg, Chain, seg_append, seg_split, seg_keep}
use Rattle.laws.specs.Links.{Linked, used, next_pos, seg_once, seg_used}

-- one of three
pub data Which (P Q R : Type 0) : Type 0 where
  first : P → Which P Q R
  second : Q → Which P Q R
  third : R → Which P Q R

-- ---- f after p

unfoldable pub insert_after : (ℕ → ℕ) → ℕ → ℕ → ℕ → ℕ
insert_after next p f = changed (changed next f (next p)) p f

pub insert_after_cases : (next : ℕ → ℕ) (p f x : ℕ) → Which ((x ≡ p) × (insert_after next p f x ≡ f)) ((x ≢ p) × (x ≡ f) × (insert_after next p f x ≡ next p)) ((x ≢ p) × (x ≢ f) × (insert_after next p f x ≡ next x))
unfolding insert_after
insert_after_cases next p f x = elim (changed_cases (changed next f (next p)) p f x) [
  | inl e ↦ first e
  | inr e ↦ elim (changed_cases next f (next p) x) [ inl d ↦ second (e.0, d.0, e.1 ∙ d.1) | inr d ↦ third (e.0, d.0, e.1 ∙ d.1) ]
]

-- ---- x unlinked after p, and zeroed

unfoldable pub unlink : (ℕ → ℕ) → ℕ → ℕ → ℕ → ℕ
unlink next p x = changed (changed next p (next x)) x 0

pub unlink_cases : (next : ℕ → ℕ) (p x a : ℕ) → Which ((a ≡ x) × (unlink next p x a ≡ 0)) ((a ≢ x) × (a ≡ p) × (unlink next p x a ≡ next x)) ((a ≢ x) × (a ≢ p) × (unlink next p x a ≡ next a))
unfolding unlink
unlink_cases next p x a = elim (changed_cases (changed next p (next x)) x 0 a) [
  | inl e ↦ first e
  | inr e ↦ elim (changed_cases next p (next x) a) [ inl d ↦ second (e.0, d.0, e.1 ∙ d.1) | inr d ↦ third (e.0, d.0, e.1 ∙ d.1) ]
]

-- ---- what is dead reads 0

unfoldable pub without : (ℕ → Bool) → (ℕ → ℕ) → ℕ → ℕ
without dead F a = cond (dead a) 0 (F a)

pub without_cases : (dead : ℕ → Bool) (F : ℕ → ℕ) (a : ℕ) → (T (dead a) × (without dead F a ≡ 0)) ⊎ ((T (dead a) → ⊥) × (without dead F a ≡ F a))
unfolding without
without_cases dead F a = cond_cases (dead a) 0 (F a)

-- what is not dead reads as before
pub without_other : (dead : ℕ → Bool) (F : ℕ → ℕ) (a : ℕ) → (T (dead a) → ⊥) → without dead F a ≡ F a
without_other dead F a q = elim (without_cases dead F a) [ inl e ↦ absurd (q e.0) | inr e ↦ e.1 ]

-- ---- a free anode f

-- it is none in use
pub used_not-free : (block : ℕ → ℕ) (p f : ℕ) → block p ≢ 0 → block f ≡ 0 → p ≢ f
used_not-free block p f up fresh e = up (ap block e ∙ fresh)

-- and nobody has it for next
pub fresh_no_next : {A : ℕ} {next block : ℕ → ℕ} → Linked A next block → (f : ℕ) → f ≢ 0 → block f ≡ 0 → (x : ℕ) → next x ≢ f
fresh_no_next {block = block} k f f0 fresh x e = k.closed x (λ z. f0 (sym e ∙ z)) (ap block e ∙ fresh)

module _ {A : ℕ} {next block : ℕ → ℕ} (k : Linked A next block) where
  module _ (p f b : ℕ) (p0 : p ≢ 0) (up : block p ≢ 0) (f0 : f ≢ 0) (fresh : block f ≡ 0) (f_a : f < A) (b0 : b ≢ 0) where
    not_f : p ≢ f
    not_f = used_not-free block p f up fresh

    not_next : (x : ℕ) → next x ≢ f
    not_next = fresh_no_next k f f0 fresh

    f_used : changed block f b f ≢ 0
    f_used = rw (changed-same block f b) b0

    ranks : ℕ → ℕ
    ranks = changed (λ x. 2 * k.rank x) f (2 * k.rank (next p) + 1)

    rank_f : ranks f ≡ 2 * k.rank (next p) + 1
    unfolding ranks
    rank_f = changed-same (λ x. 2 * k.rank x) f (2 * k.rank (next p) + 1)

    rank_other : (x : ℕ) → x ≢ f → ranks x ≡ 2 * k.rank x
    unfolding ranks
    rank_other x h = changed_other (λ x. 2 * k.rank x) f (2 * k.rank (next p) + 1) x h

    pub insert_linked : Linked A (insert_after next p f) (changed block f b)
    insert_linked = record {
      view = record {
        below = λ a h. elim (changed_cases block f b a) [ inl e ↦ rw e.0 f_a | inr e ↦ k.view.below a (rw e.1 at h) ];
        free-end = λ a h. elim (insert_after_cases next p f a) [
          | first e ↦ absurd (up (ap block (sym e.0) ∙ sym (changed_other block f b a (λ q. not_f (sym e.0 ∙ q))) ∙ h))
          | second e ↦ absurd (b0 (sym (changed-same block f b) ∙ ap (changed block f b) (sym e.1) ∙ h))
          | third e ↦ e.2 ∙ k.view.free-end a (sym (changed_other block f b a e.1) ∙ h)
        ];
      };
      zero-end = elim (insert_after_cases next p f 0) [
        | first e ↦ absurd (p0 (sym e.0))
        | second e ↦ absurd (f0 (sym e.1))
        | third e ↦ e.2 ∙ k.zero-end
      ];
      closed = λ a h. elim (insert_after_cases next p f a) [
        | first e ↦ rw e.1 f_used
        | second e ↦ rw e.2 (changed-pos block f b (next p) b0 (k.closed p (rw e.2 at h)))
        | third e ↦ rw e.2 (changed-pos block f b (next a) b0 (k.closed a (rw e.2 at h)))
      ];
      uniq = λ x y h q. elim (insert_after_cases next p f x) [
        | first e ↦ elim (insert_after_cases next p f y) [
          | first d ↦ e.0 ∙ sym d.0
          | second d ↦ absurd (not_next p (sym d.2 ∙ sym q ∙ e.1))
          | third d ↦ absurd (not_next y (sym d.2 ∙ sym q ∙ e.1))
        ]
        | second e ↦ elim (insert_after_cases next p f y) [
          | first d ↦ absurd (not_next p (sym e.2 ∙ q ∙ d.1))
          | second d ↦ e.1 ∙ sym d.1
          | third d ↦ absurd (d.0 (sym (k.uniq p y (rw e.2 at h) (sym e.2 ∙ q ∙ d.2))))
        ]
        | third e ↦ elim (insert_after_cases next p f y) [
          | first d ↦ absurd (not_next x (sym e.2 ∙ q ∙ d.1))
          | second d ↦ absurd (e.0 (k.uniq x p (rw e.2 at h) (sym e.2 ∙ q ∙ d.2)))
          | third d ↦ k.uniq x y (rw e.2 at h) (sym e.2 ∙ q ∙ d.2)
        ]
      ];
      rank = ranks;
      falls = λ a a0 u. elim (insert_after_cases next p f a) [
        | first e ↦ rw (e.1, e.0) (omega (arith, rank_f, rank_other p not_f, k.falls p p0 up))
        | second e ↦ rw (e.2, e.1) (omega (arith, rank_f, rank_other (next p) (not_next p)))
        | third e ↦ rw e.2 (omega (arith, rank_other (next a) (not_next a), rank_other a e.1, k.falls a a0 (rw (changed_other block f b a e.1) at u)))
      ];
    }

    at_p : insert_after next p f p ≡ f
    unfolding insert_after
    at_p = changed-same (changed next f (next p)) p f

    at_f : insert_after next p f f ≡ next p
    unfolding insert_after
    at_f = changed_other (changed next f (next p)) p f f (λ e. not_f (sym e)) ∙ changed-same next f (next p)

    -- what a chain becomes: one without p stays, and f comes after p in the other
    insert_apart : (a z : ℕ) (l : List ℕ) → (a ≢ 0 → block a ≢ 0) → Seg next a l z → occurrences p l ≡ 0 → Seg (insert_after next p f) a l z
    insert_apart a z l u c h = seg_keep next (insert_after next p f) a z l keep c
      where
        keep : (x : ℕ) → 0 < occurrences x l → insert_after next p f x ≡ next x
        keep x m = elim (insert_after_cases next p f x) [
          | first e ↦ absurd (omega (arith, ap (λ (y : ℕ). occurrences y l) e.0))
          | second e ↦ absurd (omega (arith, seg_used k a z l x u c (ap block e.1 ∙ fresh)))
          | third e ↦ e.2
        ]

    pub insert_after_lem : (a : ℕ) (l m : List ℕ) → (a ≢ 0 → block a ≢ 0) → Chain next a (l ++ (p ∷ m)) → Chain (insert_after next p f) a (l ++ (p ∷ (f ∷ m)))
    insert_after_lem a l m u c =
        let alone : occurrences p l + occurrences p m ≡ 0 = omega (arith, seg_once k a 0 (l ++ (p ∷ m)) p u c, occurrences-append p l (p ∷ m), occurrences-cons p p m, one_at-same p p refl) in
        let s = seg_split next a 0 l (p ∷ m) c in
        seg_append (insert_after next p f) a s.0 0 l (p ∷ (f ∷ m))
        (insert_apart a s.0 l u s.1 (omega arith))
        (s.2.0, s.2.1, (at_p, f0, rw at_f (insert_apart (next p) 0 m (k.closed p) s.2.2 (omega arith))))

  -- ---- x unlinked after p

  module _ (p x : ℕ) (x0 : x ≢ 0) (px : next p ≡ x) where
    pub next_there : next p ≢ 0
    next_there e = x0 (sym px ∙ e)

    pred_used : block p ≢ 0
    pred_used = used k.view p next_there

    pub unlink_used : block x ≢ 0
    unlink_used = rw px at (k.closed p next_there)

    pred_pos : p ≢ 0
    pred_pos = next_pos k p next_there

    ranked : k.rank x < k.rank p
    ranked = rw px at (k.falls p pred_pos pred_used)

    pub pred_other : p ≢ x
    pred_other e = omega (arith, ranked, ap k.rank e)

    kept : (a : ℕ) → a ≢ x → block a ≢ 0 → changed block x 0 a ≢ 0
    kept a h u = rw (changed_other block x 0 a h) u

    pub unlink-linked : Linked A (unlink next p x) (changed block x 0)
    unlink-linked = record {
      view = record {
        below = λ a h. elim (changed_cases block x 0 a) [ inl e ↦ absurd (h e.1) | inr e ↦ k.view.below a (rw e.1 at h) ];
        free-end = λ a h. elim (unlink_cases next p x a) [
          | first e ↦ e.1
          | second e ↦ absurd (kept a e.0 (rw e.1 pred_used) h)
          | third e ↦ e.2 ∙ k.view.free-end a (sym (changed_other block x 0 a e.0) ∙ h)
        ];
      };
      zero-end = elim (unlink_cases next p x 0) [
        | first e ↦ e.1
        | second e ↦ absurd (pred_pos (sym e.1))
        | third e ↦ e.2 ∙ k.zero-end
      ];
      closed = λ a h. elim (unlink_cases next p x a) [
        | first e ↦ absurd (h e.1)
        | second e ↦ rw e.2 (kept (next x) (λ q. omega (arith, k.falls x x0 unlink_used, ap k.rank q)) (k.closed x (rw e.2 at h)))
        | third e ↦ rw e.2 (kept (next a) (λ q. e.1 (sym (k.uniq p a next_there (px ∙ sym q)))) (k.closed a (rw e.2 at h)))
      ];
      uniq = λ a c h q. elim (unlink_cases next p x a) [
        | first e ↦ absurd (h e.1)
        | second e ↦ elim (unlink_cases next p x c) [
          | first d ↦ absurd (h (q ∙ d.1))
          | second d ↦ e.1 ∙ sym d.1
          | third d ↦ absurd (d.0 (sym (k.uniq x c (rw e.2 at h) (sym e.2 ∙ q ∙ d.2))))
        ]
        | third e ↦ elim (unlink_cases next p x c) [
          | first d ↦ absurd (h (q ∙ d.1))
          | second d ↦ absurd (e.0 (k.uniq a x (rw e.2 at h) (sym e.2 ∙ q ∙ d.2)))
          | third d ↦ k.uniq a c (rw e.2 at h) (sym e.2 ∙ q ∙ d.2)
        ]
      ];
      rank = k.rank;
      falls = λ a a0 u. elim (unlink_cases next p x a) [
        | first e ↦ absurd (u (ap (changed block x 0) e.0 ∙ changed-same block x 0))
        | second e ↦ rw (e.2, e.1) (omega (arith, ranked, k.falls x x0 unlink_used))
        | third e ↦ rw e.2 (k.falls a a0 (rw (changed_other block x 0 a e.0) at u))
      ];
    }

    unlink_apart : (a z : ℕ) (l : List ℕ) → Seg next a l z → occurrences p l ≡ 0 → occurrences x l ≡ 0 → Seg (unlink next p x) a l z
    unlink_apart a z l c h g = seg_keep next (unlink next p x) a z l keep c
      where
        keep : (y : ℕ) → 0 < occurrences y l → unlink next p x y ≡ next y
        keep y m = elim (unlink_cases next p x y) [
          | first e ↦ absurd (omega (arith, ap (λ (y : ℕ). occurrences y l) e.0))
          | second e ↦ absurd (omega (arith, ap (λ (y : ℕ). occurrences y l) e.1))
          | third e ↦ e.2
        ]

    un_p : unlink next p x p ≡ next x
    unfolding unlink
    un_p = changed_other (changed next p (next x)) x 0 p pred_other ∙ changed-same next p (next x)

    pub unlink-after : (a : ℕ) (l m : List ℕ) → (a ≢ 0 → block a ≢ 0) → Chain next a (l ++ (p ∷ (x ∷ m))) → Chain (unlink next p x) a (l ++ (p ∷ m))
    unlink-after a l m u c =
        let s = seg_split next a 0 l (p ∷ (x ∷ m)) c in
        let no_p : occurrences p l + occurrences p m ≡ 0 = omega (arith, once p, one_at-same p p refl) in
        let no_x : occurrences x l + occurrences x m ≡ 0 = omega (arith, once x, one_at-same x x refl) in
        seg_append (unlink next p x) a s.0 0 l (p ∷ m)
        (unlink_apart a s.0 l s.1 (omega arith) (omega arith))
        (s.2.0, s.2.1, rw un_p (unlink_apart (next x) 0 m s.2.2.2 (omega arith) (omega arith)))
      where
        once : (y : ℕ) → occurrences y l + (one_at p y + (one_at x y + occurrences y m)) ≤ 1
        once y = omega (arith, seg_once k a 0 (l ++ (p ∷ (x ∷ m))) y u c, occurrences-append y l (p ∷ (x ∷ m)), occurrences-cons y p (x ∷ m), occurrences-cons y x m)

  -- ---- a fresh anode is a chain of its own: no next changes

  module _ (f b : ℕ) (f0 : f ≢ 0) (fresh : block f ≡ 0) (f_a : f < A) (b0 : b ≢ 0) where
    pub head_linked : Linked A next (changed block f b)
    head_linked = record {
      view = record {
        below = λ a h. elim (changed_cases block f b a) [ inl e ↦ rw e.0 f_a | inr e ↦ k.view.below a (rw e.1 at h) ];
        free-end = λ a h. elim (changed_cases block f b a) [ inl e ↦ absurd (b0 (sym e.1 ∙ h)) | inr e ↦ k.view.free-end a (sym e.1 ∙ h) ];
      };
      zero-end = k.zero-end;
      closed = λ a h. changed-pos block f b (next a) b0 (k.closed a h);
      uniq = k.uniq;
      rank = changed k.rank f (suc (k.rank 0));
      falls = λ a a0 u. elim (changed_cases block f b a) [
        | inl e ↦ rw (e.0, k.view.free-end f fresh, changed-same k.rank f (suc (k.rank 0)), changed_other k.rank f (suc (k.rank 0)) 0 (λ q. f0 (sym q))) (omega arith)
        | inr e ↦ omega (arith, changed_other k.rank f (suc (k.rank 0)) a e.0, changed_other k.rank f (suc (k.rank 0)) (next a) (fresh_no_next k f f0 fresh a), k.falls a a0 (rw e.1 at u))
      ];
    }

  -- ---- whole chains dropped: what `dead` says goes, and it says the same of an anode and its next

  module _ (dead : ℕ → Bool) (along : (a : ℕ) → next a ≢ 0 → dead (next a) ≡ dead a) where
    pub drop-linked : Linked A (without dead next) (without dead block)
    drop-linked = record {
      view = record {
        below = λ a h. elim (without_cases dead block a) [ inl e ↦ absurd (h e.1) | inr e ↦ k.view.below a (rw e.1 at h) ];
        free-end = λ a h. elim (without_cases dead next a) [
          | inl e ↦ e.1
          | inr e ↦ e.1 ∙ k.view.free-end a (sym (without_other dead block a e.0) ∙ h)
        ];
      };
      zero-end = elim (without_cases dead next 0) [ inl e ↦ e.1 | inr e ↦ e.1 ∙ k.zero-end ];
      closed = λ a h. elim (without_cases dead next a) [
        | inl e ↦ absurd (h e.1)
        | inr e ↦ rw (e.1, without_other dead block (next a) (λ d. e.0 (rw (along a (rw e.1 at h)) at d))) (k.closed a (rw e.1 at h))
      ];
      uniq = λ a c h q. elim (without_cases dead next a) [
        | inl e ↦ absurd (h e.1)
        | inr e ↦ elim (without_cases dead next c) [
          | inl d ↦ absurd (h (q ∙ d.1))
          | inr d ↦ k.uniq a c (rw e.1 at h) (sym e.1 ∙ q ∙ d.1)
        ]
      ];
      rank = k.rank;
      falls = λ a a0 u. elim (without_cases dead block a) [
        | inl e ↦ absurd (u e.1)
        | inr e ↦ rw (without_other dead next a e.0) (k.falls a a0 (rw e.1 at u))
      ];
    }

    pub drop_apart : (a z : ℕ) (l : List ℕ) → Seg next a l z → ((x : ℕ) → 0 < occurrences x l → T (dead x) → ⊥) → Seg (without dead next) a l z
    drop_apart a z l c h = seg_keep next (without dead next) a z l (λ x m. without_other dead next x (h x m)) c

-- ---- an anode in use rewritten to another in use leaves the links alone

module _ (block : ℕ → ℕ) (x b : ℕ) (u : block x ≢ 0) (b0 : b ≢ 0) where
  pub same_use : (a : ℕ) → changed block x b a ≡ 0 → block a ≡ 0
  same_use a h = elim (changed_cases block x b a) [ inl e ↦ absurd (b0 (sym e.1 ∙ h)) | inr e ↦ sym e.1 ∙ h ]

  pub use_same : (a : ℕ) → block a ≡ 0 → changed block x b a ≡ 0
  use_same a h = elim (changed_cases block x b a) [ inl e ↦ absurd (u (ap block (sym e.0) ∙ h)) | inr e ↦ e.1 ∙ h ]

  pub rewrite_linked : {A : ℕ} {next : ℕ → ℕ} → Linked A next block → Linked A next (changed block x b)
  rewrite_linked {next = next} k = record {
    view = record { below = λ a h. k.view.below a (λ z. h (use_same a z)); free-end = λ a h. k.view.free-end a (same_use a h) };
    zero-end = k.zero-end;
    closed = λ a h z. k.closed a h (same_use (next a) z);
    uniq = k.uniq;
    rank = k.rank;
    falls = λ a a0 h. k.falls a a0 (λ z. h (use_same a z));
  }
