-- Directories that are reached before and after a change, with the parents that they had: what lies in a directory still does.
use Rattle.std.specs.Prelude.{ℕ, ◌+◌, ◌*◌, ◌≤◌, ◌<◌, ◌≡◌, ◌≢◌, Bool, true, false, cond, List, map}
use Rattle.std.proofs.Common.{sym, ap, ◌∙◌, inl, inr, arith}
use Rattle.rules.specs.Counting.{one_at, sum_below, sum_list, occurrences}
use Rattle.rules.specs.Anodes.{limit, anodes_of}
use Rattle.rules.specs.Walk.{Dir, reached_dirs}
use Rattle.rules.specs.Lookup.{no_directory}
use Rattle.rules.specs.Changes.{parent_of}
use Rattle.laws.specs.Tests.{same?, not_above}
use Rattle.laws.specs.Sums.{one_at_cases, sum_congr, sum_members}
use Rattle.laws.specs.Bags.{list_add, list_scale, map-sum, sum_by_occurrences}
use Rattle.laws.specs.Items.{headed}
use Rattle.laws.specs.Members.{Member, member_congr}
use Rattle.change_laws.specs.Image.{AcceptedImage, accepted_whole, headed-reached, ReachedDir}
use Rattle.change_laws.specs.Reached.{reached_head}
use Rattle.share_rules.specs.Shares.{way_up, lies_in}
use Rattle.share_laws.specs.Parents.{root-parent, parent-reached}
use Rattle.share_laws.specs.Ways.{chain_same, lies_same}

-- h heads a reached directory of an image
abbrev pub IsReached : List ℕ → ℕ → Type 0
IsReached img h = no_directory img (anodes_of img) h ≡ false

abbrev pub walked_dirs : List ℕ → List Dir
walked_dirs img = reached_dirs img (anodes_of img)

-- every directory that is reached in both has the same parent
abbrev pub SameParents : List ℕ → List ℕ → Type 0
SameParents img j = (x : ℕ) → IsReached img x → IsReached j x → parent_of (walked_dirs j) x ≡ parent_of (walked_dirs img) x

module _ {img j : List ℕ} (image : AcceptedImage img) (image' : AcceptedImage j) (parents : SameParents img j) where
  abbrev InBoth : ℕ → Type 0
  InBoth x = IsReached img x × IsReached j x

  up_in_both : (x : ℕ) → InBoth x → (parent_of (walked_dirs j) x ≡ parent_of (walked_dirs img) x) × (parent_of (walked_dirs img) x ≢ 0 → InBoth (parent_of (walked_dirs img) x))
  up_in_both x (a, b) = (
    same,
    λ n. elim (same? x 5) [
      | inl e ↦ absurd (n (ap (parent_of (walked_dirs img)) e ∙ root-parent image))
      | inr e ↦ (
        (parent-reached image (record { image = image; reached = a }) e).reached,
        rw same at (parent-reached image' (record { image = image'; reached = b }) e).reached,
      )
    ],
  )
    where
      same : parent_of (walked_dirs j) x ≡ parent_of (walked_dirs img) x
      same = parents x a b

  -- the way up is the same
  pub way_kept : (x : ℕ) → IsReached img x → IsReached j x → way_up (walked_dirs j) x ≡ way_up (walked_dirs img) x
  unfolding way_up
  way_kept x a b = chain_same (parent_of (walked_dirs img)) (parent_of (walked_dirs j)) InBoth up_in_both limit x (λ n. (a, b))

  pub lies_kept : (top x : ℕ) → IsReached img x → IsReached j x → lies_in (walked_dirs j) top x ≡ lies_in (walked_dirs img) top x
  lies_kept top x a b = lies_same (walked_dirs img) (walked_dirs j) top x (way_kept x a b)

-- ---- sums over the directories of an accepted image, by their heads

module _ {img : List ℕ} (image : AcceptedImage img) where
  abbrev dirs : List Dir
  dirs = walked_dirs img

  heads_below : (x : ℕ) → limit ≤ x → headed x dirs ≡ 0
  heads_below x l = not_above (headed x dirs) (λ p.
      let r : ReachedDir img x = record { image = image; reached = headed-reached img (anodes_of img) x p } in
      omega (arith, l, (accepted_whole image).good.linked.view.below x (reached_head r).in_use))

  heads_are : (x : ℕ) → occurrences x (map (λ d. d.head) dirs) ≡ headed x dirs
  unfolding occurrences
  heads_are x = map-sum (λ d. d.head) (λ y. one_at y x) dirs

  pub head_sum : (f : ℕ → ℕ) → sum_list (λ d. f d.head) (walked_dirs img) ≡ sum_below (λ x. headed x (walked_dirs img) * f x) limit
  head_sum f =
      sym (map-sum (λ (d : Dir). d.head) f dirs) ∙ sum_by_occurrences f (map (λ d. d.head) dirs) limit (λ x l. heads_are x ∙ heads_below x l)
      ∙ sum_congr (λ x. occurrences x (map (λ d. d.head) dirs) * f x) (λ x. headed x dirs * f x) limit (λ x l. ap (λ (k : ℕ). k * f x) (heads_are x))

  -- two of them weigh no more than all
  pub two_heads : (f : ℕ → ℕ) (a b : ℕ) → a ≢ b → headed a (walked_dirs img) ≡ 1 → headed b (walked_dirs img) ≡ 1 → f a + f b ≤ sum_list (λ d. f d.head) (walked_dirs img)
  two_heads f a b apart p q =
      let below : (x : ℕ) → headed x dirs ≡ 1 → x < limit = λ x o. (accepted_whole image).good.linked.view.below x (reached_head (at x o)).in_use in
      omega (arith, head_sum f, sum_members (λ x. headed x dirs * f x) a b limit (below a p) (below b q) apart, ap (λ (k : ℕ). k * f a) p, ap (λ (k : ℕ). k * f b) q)
    where
      at : (x : ℕ) → headed x dirs ≡ 1 → ReachedDir img x
      at x o = record { image = image; reached = headed-reached img (anodes_of img) x (omega (arith, o)) }

-- one directory's weight changes
pub one-changed : (l : List Dir) (h G N : ℕ) (after before : ℕ → ℕ) → headed h l ≡ 1 → ((d : Dir) → Member d l → after d.head + one_at d.head h * G ≡ before d.head + one_at d.head h * N) →
    sum_list (λ d. after d.head) l + G ≡ sum_list (λ d. before d.head) l + N
one-changed l h G N after before once each = omega (
  arith,
  member_congr (λ d. after d.head + one_at d.head h * G) (λ d. before d.head + one_at d.head h * N) l each,
  list_add (λ d. after d.head) (λ d. one_at d.head h * G) l,
  list_add (λ d. before d.head) (λ d. one_at d.head h * N) l,
  list_scale (λ (d : Dir). one_at d.head h) G l,
  list_scale (λ (d : Dir). one_at d.head h) N l,
  ap (λ (k : ℕ). k * G) once,
  ap (λ (k : ℕ). k * N) once,
)

-- the same of those that lie in a directory, where h does or not
pub lying_changed : (l : List Dir) (h given taken : ℕ) (lies lies' : ℕ → Bool) (b b' : ℕ → ℕ) → headed h l ≡ 1 → ((d : Dir) → Member d l → lies' d.head ≡ lies d.head) →
    ((d : Dir) → Member d l → b' d.head + one_at d.head h * given ≡ b d.head + one_at d.head h * taken) →
    sum_list (λ d. cond (lies' d.head) (b' d.head) 0) l + cond (lies h) given 0 ≡ sum_list (λ d. cond (lies d.head) (b d.head) 0) l + cond (lies h) taken 0
lying_changed l h given taken lies lies' b b' once same each =
    one-changed l h (cond (lies h) given 0) (cond (lies h) taken 0) (λ x. cond (lies' x) (b' x) 0) (λ x. cond (lies x) (b x) 0) once (λ d m. at d.head (same d m) (each d m))
  where
    at : (x : ℕ) → lies' x ≡ lies x → b' x + one_at x h * given ≡ b x + one_at x h * taken →
        cond (lies' x) (b' x) 0 + one_at x h * cond (lies h) given 0 ≡ cond (lies x) (b x) 0 + one_at x h * cond (lies h) taken 0
    at x e q = elim (one_at_cases x h) [
      | inl c ↦ rw (e, c.1, c.0) (both (lies h) (b' h) (b h) (omega (arith, rw (c.1, c.0) at q)))
      | inr c ↦ rw (e, c.1) (other (lies x) (omega (arith, rw c.1 at q)))
    ]
      where
        both : (t : Bool) (u v : ℕ) → u + given ≡ v + taken → cond t u 0 + 1 * cond t given 0 ≡ cond t v 0 + 1 * cond t taken 0
        both true u v z = omega arith
        both false u v z = omega arith

        other : (t : Bool) → b' x ≡ b x → cond t (b' x) 0 + 0 * cond (lies h) given 0 ≡ cond t (b x) 0 + 0 * cond (lies h) taken 0
        other true z = omega arith
        other false z = omega arith
