-- The table of heads under each change of links: it changes at the one anode that comes or goes.
use Rattle.std.specs.Prelude.{ℕ, ◌≡◌, refl, ◌≢◌, Bool, T}
use Rattle.std.proofs.Common.{sym, ap, ◌∙◌, inl, inr, arith}
use Rattle.rules.specs.Counting.{changed}
use Rattle.laws.specs.Sums.{changed_cases, changed-same, changed_other}
use Rattle.laws.specs.Links.{Linked}
use Rattle.laws.specs.Heads.{Head, head_while, Heads}
use Rattle.laws.specs.LinkChanges.{first, second, third, insert_after, insert_after_cases, unlink, unlink_cases, without, without_cases, without_other, used_not-free, fresh_no_next, next_there, unlink_used, pred_other, same_use, use_same}

module _ {A : ℕ} {next block : ℕ → ℕ} (k : Linked A next block) where
  -- a fresh anode f after p: a head of the new links was one
  module _ (p f b : ℕ) (up : block p ≢ 0) (fresh : block f ≡ 0) where
    pub insert_head_was : (a : ℕ) → Head (insert_after next p f) (changed block f b) a → (a ≢ f) × Head next block a
    insert_head_was a d = (not_f, record { pos = d.pos; in_use = rw (changed_other block f b a not_f) at d.in_use; no_pred = none })
      where
        not_f : a ≢ f
        not_f e = elim (insert_after_cases next p f p) [ first c ↦ d.no_pred p (c.1 ∙ sym e) | second c ↦ c.0 refl | third c ↦ c.0 refl ]

        none : (q : ℕ) → next q ≢ a
        none q e = elim (insert_after_cases next p f q) [
          | first c ↦ elim (insert_after_cases next p f f) [ first g ↦ used_not-free block p f up fresh (sym g.0) | second g ↦ d.no_pred f (g.2 ∙ ap next (sym c.0) ∙ e) | third g ↦ g.1 refl ]
          | second c ↦ d.pos (sym e ∙ ap next c.1 ∙ k.view.free-end f fresh)
          | third c ↦ d.no_pred q (c.2 ∙ e)
        ]

    pub insert_heads : f ≢ 0 → b ≢ 0 → {hd : ℕ → ℕ} → Heads next block hd → Heads (insert_after next p f) (changed block f b) (changed hd f (hd p))
    insert_heads f0 b0 {hd} t = record {
      off = λ a h. elim (changed_cases block f b a) [ inl e ↦ absurd (b0 (sym e.1 ∙ h)) | inr e ↦ other a e.0 ∙ t.off a (sym e.1 ∙ h) ];
      off_zero = other 0 (λ e. f0 (sym e)) ∙ t.off_zero;
      along = λ a h. elim (insert_after_cases next p f a) [
        | first e ↦ rw (e.1, e.0) (changed-same hd f (hd p) ∙ sym (other p (used_not-free block p f up fresh)))
        | second e ↦ rw (e.2, e.1) (other (next p) (fresh_no_next k f f0 fresh p) ∙ t.along p (rw e.2 at h) ∙ sym (changed-same hd f (hd p)))
        | third e ↦ rw e.2 (other (next a) (fresh_no_next k f f0 fresh a) ∙ t.along a (rw e.2 at h) ∙ sym (other a e.1))
      ];
      at_head = λ a d. let w = insert_head_was a d in other a w.0 ∙ t.at_head a w.1;
    }
      where
        other : (x : ℕ) → x ≢ f → changed hd f (hd p) x ≡ hd x
        other x h = changed_other hd f (hd p) x h

  -- x unlinked after p
  module _ (p x : ℕ) (x0 : x ≢ 0) (px : next p ≡ x) where
    pub unlink_head_was : (a : ℕ) → Head (unlink next p x) (changed block x 0) a → (a ≢ x) × Head next block a
    unlink_head_was a d = (not-x, record { pos = d.pos; in_use = rw (changed_other block x 0 a not-x) at d.in_use; no_pred = none })
      where
        not-x : a ≢ x
        not-x e = d.in_use (ap (changed block x 0) e ∙ changed-same block x 0)

        none : (q : ℕ) → next q ≢ a
        none q e = elim (unlink_cases next p x q) [
          | first c ↦ elim (unlink_cases next p x p) [
            | first g ↦ pred_other k p x x0 px g.0
            | second g ↦ d.no_pred p (g.2 ∙ ap next (sym c.0) ∙ e)
            | third g ↦ g.1 refl
          ]
          | second c ↦ not-x (sym e ∙ ap next c.1 ∙ px)
          | third c ↦ d.no_pred q (c.2 ∙ e)
        ]

    pub unlink_heads : {hd : ℕ → ℕ} → Heads next block hd → Heads (unlink next p x) (changed block x 0) (changed hd x 0)
    unlink_heads {hd} t = record {
      off = λ a h. elim (changed_cases hd x 0 a) [ inl e ↦ e.1 | inr e ↦ e.1 ∙ t.off a (sym (changed_other block x 0 a e.0) ∙ h) ];
      off_zero = gone 0 (λ e. x0 (sym e)) ∙ t.off_zero;
      along = λ a h. elim (unlink_cases next p x a) [
        | first e ↦ absurd (h e.1)
        | second e ↦ rw (e.2, e.1) (gone (next x) (λ q. omega (arith, k.falls x x0 (unlink_used k p x x0 px), ap k.rank q))
            ∙ t.along x (rw e.2 at h) ∙ ap hd (sym px) ∙ t.along p (next_there k p x x0 px) ∙ sym (gone p (pred_other k p x x0 px)))
        | third e ↦ rw e.2 (gone (next a) (λ q. e.1 (sym (k.uniq p a (next_there k p x x0 px) (px ∙ sym q)))) ∙ t.along a (rw e.2 at h) ∙ sym (gone a e.0))
      ];
      at_head = λ a d. let w = unlink_head_was a d in gone a w.0 ∙ t.at_head a w.1;
    }
      where
        gone : (a : ℕ) → a ≢ x → changed hd x 0 a ≡ hd a
        gone a h = changed_other hd x 0 a h

  -- a fresh head f
  pub fresh_heads : (f b : ℕ) → f ≢ 0 → block f ≡ 0 → b ≢ 0 → {hd : ℕ → ℕ} → Heads next block hd → Heads next (changed block f b) (changed hd f f)
  fresh_heads f b f0 fresh b0 {hd} t = record {
    off = λ a h. elim (changed_cases block f b a) [ inl e ↦ absurd (b0 (sym e.1 ∙ h)) | inr e ↦ changed_other hd f f a e.0 ∙ t.off a (sym e.1 ∙ h) ];
    off_zero = changed_other hd f f 0 (λ e. f0 (sym e)) ∙ t.off_zero;
    along = λ a h. changed_other hd f f (next a) (fresh_no_next k f f0 fresh a) ∙ t.along a h ∙ sym (changed_other hd f f a (λ q. h (ap next q ∙ k.view.free-end f fresh)));
    at_head = λ a d. elim (changed_cases hd f f a) [
      | inl e ↦ e.1 ∙ sym e.0
      | inr e ↦ e.1 ∙ t.at_head a (head_while d (rw (changed_other block f b a e.0) at d.in_use))
    ];
  }

-- whole chains dropped
module _ {next block : ℕ → ℕ} (dead : ℕ → Bool) (agree : (a : ℕ) → next a ≢ 0 → dead (next a) ≡ dead a) where
  pub drop_head_was : (a : ℕ) → Head (without dead next) (without dead block) a → (T (dead a) → ⊥) × Head next block a
  drop_head_was a d = (alive, record { pos = d.pos; in_use = rw (without_other dead block a alive) at d.in_use; no_pred = none })
    where
      alive : T (dead a) → ⊥
      alive h = elim (without_cases dead block a) [ inl e ↦ d.in_use e.1 | inr e ↦ e.0 h ]

      none : (q : ℕ) → next q ≢ a
      none q e = elim (without_cases dead next q) [
        | inl c ↦ alive (rw (← e, agree q (λ z. d.pos (sym e ∙ z))) c.0)
        | inr c ↦ d.no_pred q (c.1 ∙ e)
      ]

  pub drop_heads : {hd : ℕ → ℕ} → Heads next block hd → Heads (without dead next) (without dead block) (without dead hd)
  drop_heads {hd} t = record {
    off = λ a h. elim (without_cases dead hd a) [
      | inl e ↦ e.1
      | inr e ↦ e.1 ∙ t.off a (sym (without_other dead block a e.0) ∙ h)
    ];
    off_zero = elim (without_cases dead hd 0) [ inl e ↦ e.1 | inr e ↦ e.1 ∙ t.off_zero ];
    along = λ a h. elim (without_cases dead next a) [
      | inl e ↦ absurd (h e.1)
      | inr e ↦ rw e.1 (without_other dead hd (next a) (λ g. e.0 (rw (agree a (rw e.1 at h)) at g)) ∙ t.along a (rw e.1 at h) ∙ sym (without_other dead hd a e.0))
    ];
    at_head = λ a d. let w = drop_head_was a d in without_other dead hd a w.0 ∙ t.at_head a w.1;
  }

-- an anode in use rewritten to another in use
module _ (block : ℕ → ℕ) (x b : ℕ) (u : block x ≢ 0) (b0 : b ≢ 0) where
  pub rewrite_head_was : (next : ℕ → ℕ) (a : ℕ) → Head next (changed block x b) a → Head next block a
  rewrite_head_was next a d = head_while d (λ z. d.in_use (use_same block x b u b0 a z))

  pub rewrite_heads : {next hd : ℕ → ℕ} → Heads next block hd → Heads next (changed block x b) hd
  rewrite_heads {next} t = record {
    off = λ a h. t.off a (same_use block x b u b0 a h);
    off_zero = t.off_zero;
    along = t.along;
    at_head = λ a d. t.at_head a (rewrite_head_was next a d);
  }
