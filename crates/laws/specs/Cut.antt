-- The links cut before anode 2: the sides of the free list are chains of them, and cutting goes with each change of links.
use Rattle.std.specs.Prelude.{ℕ, suc, ◌<◌, ◌≡◌, refl, ◌≢◌, ◌⊎◌, Bool, true, false, cond, eqb}
use Rattle.std.proofs.Common.{sym, ap, ◌∙◌, inl, inr, arith}
use Rattle.std.proofs.Math.Path.{fun_ext}
use Rattle.rules.specs.Counting.{changed}
use Rattle.rules.specs.Chains.{cut}
use Rattle.laws.specs.Tests.{same?, eqb_cases}
use Rattle.laws.specs.Sums.{changed-same, changed_other}
use Rattle.laws.specs.Links.{Linked}
use Rattle.laws.specs.Heads.{Head}
use Rattle.laws.specs.LinkChanges.{insert_after, unlink, without}

pub cut_cases : (next : ℕ → ℕ) (a : ℕ) → ((next a ≡ 2) × (cut next a ≡ 0)) ⊎ ((next a ≢ 2) × (cut next a ≡ next a))
unfolding cut
cut_cases next a = eqb_cases (next a) 2 0 (next a)

pub cut-two : (next : ℕ → ℕ) (a : ℕ) → next a ≡ 2 → cut next a ≡ 0
cut-two next a e = elim (cut_cases next a) [ inl c ↦ c.1 | inr c ↦ absurd (c.0 e) ]

pub cut_other : (next : ℕ → ℕ) (a : ℕ) → next a ≢ 2 → cut next a ≡ next a
cut_other next a e = elim (cut_cases next a) [ inl c ↦ absurd (e c.0) | inr c ↦ c.1 ]

-- links that agree at a are cut to the same there
same-cut : (next next' : ℕ → ℕ) (a : ℕ) → next' a ≡ next a → cut next a ≡ cut next' a
unfolding cut
same-cut next next' a e = rw e

pub cut-linked : {A : ℕ} {next block : ℕ → ℕ} → Linked A next block → Linked A (cut next) block
cut-linked {A} {next} {block} k = record {
  view = record { below = k.view.below; free-end = λ a h. elim (cut_cases next a) [ inl c ↦ c.1 | inr c ↦ c.1 ∙ k.view.free-end a h ] };
  zero-end = elim (cut_cases next 0) [ inl c ↦ c.1 | inr c ↦ c.1 ∙ k.zero-end ];
  closed = λ a h. elim (cut_cases next a) [ inl c ↦ absurd (h c.1) | inr c ↦ rw c.1 (k.closed a (rw c.1 at h)) ];
  uniq = λ p q h e. elim (cut_cases next p) [
    | inl c ↦ absurd (h c.1)
    | inr c ↦ elim (cut_cases next q) [ inl d ↦ absurd (h (e ∙ d.1)) | inr d ↦ k.uniq p q (rw c.1 at h) (sym c.1 ∙ e ∙ d.1) ]
  ];
  rank = changed (λ x. suc (k.rank x)) 0 0;
  falls = λ a a0 u. go a a0 u (same? (cut next a) 0);
}
  where
    go : (a : ℕ) → a ≢ 0 → block a ≢ 0 → (cut next a ≡ 0) ⊎ (cut next a ≢ 0) → changed (λ x. suc (k.rank x)) 0 0 (cut next a) < changed (λ x. suc (k.rank x)) 0 0 a
    go a a0 u (inl z) = rw (z, changed-same (λ x. suc (k.rank x)) 0 0, changed_other (λ x. suc (k.rank x)) 0 0 a a0) (omega arith)
    go a a0 u (inr z) = rw (changed_other (λ x. suc (k.rank x)) 0 0 (cut next a) z, changed_other (λ x. suc (k.rank x)) 0 0 a a0)
        (elim (cut_cases next a) [ inl c ↦ absurd (z c.1) | inr c ↦ rw c.1 (omega (arith, k.falls a a0 u)) ])

-- a head of the links is one of the cut links, and so is 2
pub cut_head : {next block : ℕ → ℕ} {a : ℕ} → Head next block a → Head (cut next) block a
cut_head {next} d = record {
  pos = d.pos;
  in_use = d.in_use;
  no_pred = λ p q. elim (cut_cases next p) [ inl e ↦ d.pos (sym q ∙ e.1) | inr e ↦ d.no_pred p (sym e.1 ∙ q) ];
}

pub cut_head_2 : (next : ℕ → ℕ) {block : ℕ → ℕ} → block 2 ≢ 0 → Head (cut next) block 2
cut_head_2 next u = record {
  pos = omega arith;
  in_use = u;
  no_pred = λ p q. elim (cut_cases next p) [ inl e ↦ omega (arith, q, e.1) | inr e ↦ e.0 (sym e.1 ∙ q) ];
}

-- one value changed: w is what the cut makes of v
cut-changed : (next : ℕ → ℕ) (x v w : ℕ) → ((v ≡ 2) × (w ≡ 0)) ⊎ ((v ≢ 2) × (w ≡ v)) → changed (cut next) x w ≡ cut (changed next x v)
cut-changed next x v w c = fun_ext (λ a. elim (same? a x) [
  | inl e ↦ rw (e, changed-same (cut next) x w) (elim c [
    | inl d ↦ d.1 ∙ sym (cut-two (changed next x v) x (changed-same next x v ∙ d.0))
    | inr d ↦ d.1 ∙ sym (changed-same next x v) ∙ sym (cut_other (changed next x v) x (λ q. d.0 (sym (changed-same next x v) ∙ q)))
  ])
  | inr e ↦ rw (changed_other (cut next) x w a e) (same-cut next (changed next x v) a (changed_other next x v a e))
])

-- cutting goes with each change
pub cut-insert_after : (next : ℕ → ℕ) (p f : ℕ) → f ≢ 2 → insert_after (cut next) p f ≡ cut (insert_after next p f)
unfolding insert_after
cut-insert_after next p f f2 =
    ap (λ (F : ℕ → ℕ). changed F p f) (cut-changed next f (next p) (cut next p) (cut_cases next p)) ∙ cut-changed (changed next f (next p)) p f f (inr (f2, refl))

pub cut-unlink : (next : ℕ → ℕ) (p x : ℕ) → unlink (cut next) p x ≡ cut (unlink next p x)
unfolding unlink
cut-unlink next p x =
    ap (λ (F : ℕ → ℕ). changed F x 0) (cut-changed next p (next x) (cut next x) (cut_cases next x)) ∙ cut-changed (changed next p (next x)) x 0 0 (inr (omega arith, refl))

pub cut-drop : (next : ℕ → ℕ) (dead : ℕ → Bool) → without dead (cut next) ≡ cut (without dead next)
unfolding without cut
cut-drop next dead = fun_ext (λ a. at a (dead a))
  where
    at : (a : ℕ) (b : Bool) → cond b 0 (cond (eqb (next a) 2) 0 (next a)) ≡ cond (eqb (cond b 0 (next a)) 2) 0 (cond b 0 (next a))
    at a true = refl
    at a false = refl
