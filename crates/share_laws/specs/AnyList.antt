-- 02, No. 9: from shares that fit, any list of shared calls with these shares never meets 30 for fit, whatever the others did, and 27 comes to nobody.
use Rattle.std.specs.Prelude.{ℕ, zero, suc, ◌<◌, ◌≡◌, ◌≢◌, ◌⊎◌, Bool, ◌&&◌, ◌||◌, List, [], ◌∷◌, ltb, length}
use Rattle.std.proofs.Math.Path.{refl}
use Rattle.std.proofs.Common.{sym, ap, ◌∙◌, true≢false, arith, eqb-true, ltb-true}
use Rattle.std.proofs.Math.Logic.{inl, inr}
use Rattle.std.proofs.Math.Bool.{true, false}
use Rattle.std.proofs.Math.Option.{Option, none, some}
use Rattle.std.proofs.Math.Dec.{eqb}
use Rattle.rules.specs.Counting.{◌if◌else◌, first_of}
use Rattle.rules.specs.Anodes.{anodes_of}
use Rattle.rules.specs.Walk.{Entered}
use Rattle.rules.specs.Accepted.{disk_size, last_reserved, check_answer}
use Rattle.rules.specs.Lookup.{no_directory, entry_named, of_entry}
use Rattle.rules.specs.Totals.{Sound}
use Rattle.rules.specs.Changes.{parent_of}
use Rattle.laws.specs.Tests.{either, both, T_true}
use Rattle.laws.specs.Damage.{NoneOr}
use Rattle.change_laws.specs.Answers.{any_tables}
use Rattle.change_laws.specs.Image.{AcceptedImage, accepted_own}
use Rattle.change_laws.specs.Reached.{EntryIn, named-member}
use Rattle.change_laws.specs.Totals.{accepted-total}
use Rattle.share_rules.specs.Shares.{Shares, over_share, unfit, wrong_shares, party_of, not_own}
use Rattle.share_rules.specs.SharedCalls.{SharedCall, shared_read, shared_list, shared_make, shared_resize, shared_write, shared_remove, named_directory, unshared_refusal, names_top, removes_top, blocks_needed, shared_refusal, shared_answer, shared_outcome}
use Rattle.share_laws.specs.Parents.{entry-parent}
use Rattle.share_laws.specs.PartyMarks.{party_root}
use Rattle.share_laws.specs.LetPass.{let_pass}
use Rattle.share_laws.specs.Accepted.{left-answers, growth_grows, shared_cases, shared_accepted}
use Rattle.share_laws.specs.Fitting.{TwoTops, tops_of, fitting_of, top_reached}
use Rattle.share_laws.specs.Never27.{own_range, never_27}
use Rattle.share_laws.specs.KeptWays.{walked_dirs}
use Rattle.share_laws.specs.SharesHold.{party_directory, shares_hold}

-- ---- 30 for what else than fit

if_is : (n : ℕ) (t : Bool) (rest k : ℕ) → (n if t else rest) ≡ k → ((t ≡ true) × (n ≡ k)) ⊎ ((t ≡ false) × (rest ≡ k))
if_is n true rest k e = inl (refl, e)
if_is n false rest k e = inr (refl, e)

first_is : (a b k : ℕ) → first_of a b ≡ k → (a ≡ k) ⊎ (b ≡ k)
unfolding first_of
first_is zero b k e = inr e
first_is (suc a) b k e = inl e

module _ {img : List ℕ} (image : AcceptedImage img) (sh : Shares) (two : TwoTops img (anodes_of img) sh) where
  -- an entry that names a top stands there
  top_home : (h : ℕ) (e : Entered) → EntryIn img h e → e.dir ≡ true → (e.anode ≡ sh.first) ⊎ (e.anode ≡ sh.second) → h ≡ 5
  top_home h e m dir (inl i) = sym (entry-parent image m dir) ∙ ap (parent_of (walked_dirs img)) i ∙ (top_reached image sh.first two.first_top).1
  top_home h e m dir (inr i) = sym (entry-parent image m dir) ∙ ap (parent_of (walked_dirs img)) i ∙ (top_reached image sh.second two.second_top).1

  named_top : (h : ℕ) (name : List ℕ) → no_directory img (anodes_of img) h ≡ false → names_top img sh h name ≡ true → h ≡ 5
  unfolding names_top
  named_top h name r e = go (entry_named img (anodes_of img) h name) refl e
    where
      go : (o : Option Entered) → entry_named img (anodes_of img) h name ≡ o → of_entry o (λ e. e.dir && (eqb e.anode sh.first || eqb e.anode sh.second)) false ≡ true → h ≡ 5
      go none is q = absurd (true≢false (sym q))
      go (some c) is q =
          let b = both c.dir (eqb c.anode sh.first || eqb c.anode sh.second) (rw q tt) in
          let m : EntryIn img h c = record { directory = record { image = image; reached = r }; member = named-member img (anodes_of img) h name c is } in
          top_home h c m (T_true c.dir b.0) (elim (either (eqb c.anode sh.first) (eqb c.anode sh.second) b.1) [
            | inl i ↦ inl (eqb-true c.anode sh.first (T_true _ i))
            | inr i ↦ inr (eqb-true c.anode sh.second (T_true _ i))
          ])

  -- who removes a top directory in a directory of its own is the keeper
  removes_keeper : (call : SharedCall) (party : ℕ) → not_own img (anodes_of img) party sh (named_directory call) ≡ false → removes_top img sh call ≡ true → party ≡ 0
  removes_keeper (shared_read h name offset out) party own e = absurd (true≢false (sym e))
  removes_keeper (shared_list h place) party own e = absurd (true≢false (sym e))
  removes_keeper (shared_make h type name comment day minute tick protection) party own e = absurd (true≢false (sym e))
  removes_keeper (shared_resize h name new) party own e = absurd (true≢false (sym e))
  removes_keeper (shared_write h name offset bytes) party own e = absurd (true≢false (sym e))
  removes_keeper (shared_remove h name) party own e =
      let (r, is) = party_directory img (anodes_of img) party sh h own in
      sym is ∙ ap (party_of (walked_dirs img) sh) (named_top h name r e) ∙ party_root image sh two

-- where 30 comes though the shares fit
abbrev pub OtherThirty : List ℕ → ℕ → Shares → SharedCall → Type 0
OtherThirty img party sh call = (2 < party) ⊎ ((party ≡ 0) × (removes_top img sh call ≡ true))

tests_30 : {img : List ℕ} → AcceptedImage img → (party : ℕ) (sh : Shares) (call : SharedCall) → unfit img (anodes_of img) sh ≡ false → shared_refusal img party sh call ≡ 30 → OtherThirty img party sh call
unfolding shared_refusal wrong_shares
tests_30 {img} image party sh call fit e =
    let s = anodes_of img in
    let own = unshared_refusal img call in
    let over = over_share img s sh party (blocks_needed img call) in
    let two = tops_of img s sh (fitting_of img s sh fit).tops in
    elim (if_is 30 (ltb 2 party || unfit img s sh) _ 30 e) [
      | inl (t, q) ↦ inl (elim (either (ltb 2 party) (unfit img s sh) (rw t tt)) [ inl i ↦ ltb-true 2 party (T_true _ i) | inr i ↦ absurd (rw fit at i) ])
      | inr (a, e1) ↦ elim (if_is 20 (eqb own 20) _ 30 e1) [
        | inl (t, q) ↦ absurd (omega (arith, q))
        | inr (b, e2) ↦ elim (if_is 21 (not_own img s party sh (named_directory call)) _ 30 e2) [
          | inl (t, q) ↦ absurd (omega (arith, q))
          | inr (c, e3) ↦ elim (if_is 22 (eqb own 22) _ 30 e3) [
            | inl (t, q) ↦ absurd (omega (arith, q))
            | inr (d, e4) ↦ elim (if_is 30 (removes_top img sh call) _ 30 e4) [
              | inl (t, q) ↦ inr (removes_keeper image sh two call party c t, t)
              | inr (f, e5) ↦ absurd (late own over (own_range img call) e5)
            ]
          ]
        ]
      ]
    ]
  where
    late : (own : ℕ) (over : Bool) → NoneOr 20 26 own → first_of own (29 if over else 0) ≡ 30 → ⊥
    late own over r q = elim (first_is own (29 if over else 0) 30 q) [
      | inl i ↦ elim r [ inl z ↦ omega (arith, i, z) | inr z ↦ omega (arith, i, z) ]
      | inr i ↦ elim (if_is 29 over 0 30 i) [ inl (t, k) ↦ omega (arith, k) | inr (t, k) ↦ omega (arith, k) ]
    ]

-- ---- lists

-- a shared call of a list: who makes it, the tables that it is lent, and the call
pub record ByParty : Type 0 where
  pub party : ℕ
  pub blocks : List ℕ
  pub anodes : List ℕ
  pub call : SharedCall

-- the image after a list of shared calls with these shares; only the image passes from call to call
abbrev pub image_after : Shares → List ℕ → List ByParty → List ℕ
image_after sh img [] = img
image_after sh img (c ∷ cs) = image_after sh (shared_outcome img c.blocks c.anodes c.party sh c.call).image cs

-- the image is sound, and the shares fit
pub record SharedDisk (sh : Shares) (img : List ℕ) : Type 0 where
  pub sound : Sound img
  pub fit : unfit img (anodes_of img) sh ≡ false

module _ (sh : Shares) where
  -- after a call
  shared_after : (img blocks anodes : List ℕ) (party : ℕ) (call : SharedCall) → SharedDisk sh img → SharedDisk sh (shared_outcome img blocks anodes party sh call).image
  shared_after img blocks anodes party call d =
      let ok = shared_accepted img blocks anodes party sh call d.sound.accepted in
      record { sound = record { accepted = ok; adds_up = accepted-total (accepted_own _ ok) }; fit = shares_hold img blocks anodes party sh call d.fit }

  -- AFTER ANY LIST of shared calls with these shares the image is sound and the shares fit
  pub fit-after : (cs : List ByParty) (img : List ℕ) → SharedDisk sh img → SharedDisk sh (image_after sh img cs)
  fit-after [] img d = d
  fit-after (c ∷ cs) img d = fit-after cs (shared_outcome img c.blocks c.anodes c.party sh c.call).image (shared_after img c.blocks c.anodes c.party c.call d)

  -- a call where the shares fit meets 30 for no misfit
  pub only_30 : (img blocks anodes : List ℕ) (party : ℕ) (call : SharedCall) → SharedDisk sh img → (shared_outcome img blocks anodes party sh call).answer ≡ 30 → OtherThirty img party sh call
  only_30 img blocks anodes party call d = shared_cases img blocks anodes party sh call (λ l. l.answer ≡ 30 → OtherThirty img party sh call) early
      (λ e i. elim (left-answers image (growth_grows (disk_size img) (last_reserved img) img party sh call) call (let_pass img blocks anodes party sh call e).no_other) [
        | inl z ↦ absurd (omega (arith, i, z))
        | inr (inl z) ↦ absurd (omega (arith, i, z))
        | inr (inr z) ↦ absurd (omega (arith, i, z))
      ])
    where
      image : AcceptedImage img
      image = accepted_own img d.sound.accepted

      early : (k : ℕ) → shared_answer img blocks anodes party sh call ≡ suc k → suc k ≡ 30 → OtherThirty img party sh call
      early k e i = unfold shared_answer in elim (first_is (check_answer img (length blocks) (length anodes)) (shared_refusal img party sh call) 30 (e ∙ i)) [
        | inl q ↦ absurd (elim (any_tables img d.sound.accepted (length blocks) (length anodes)) [ inl z ↦ omega (arith, q, z) | inr z ↦ omega (arith, q, z) ])
        | inr q ↦ tests_30 image party sh call d.fit q
      ]

  -- WHATEVER THE OTHERS DID: after any list, the next call is never answered 27, and 30 only to the keeper who removes a top directory, or to a party number above 2
  pub next_call : (img : List ℕ) (cs : List ByParty) → SharedDisk sh img → (c : ByParty) →
      ((shared_outcome (image_after sh img cs) c.blocks c.anodes c.party sh c.call).answer ≢ 27)
      × ((shared_outcome (image_after sh img cs) c.blocks c.anodes c.party sh c.call).answer ≡ 30 → OtherThirty (image_after sh img cs) c.party sh c.call)
  next_call img cs d c = (
    never_27 (image_after sh img cs) c.blocks c.anodes c.party sh c.call,
    only_30 (image_after sh img cs) c.blocks c.anodes c.party c.call (fit-after cs img d),
  )
