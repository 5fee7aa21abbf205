-- A path need not be longer than there are sections. The sections joined by paths of at most n switches grow with n, and
-- once one round adds nothing no later one does; each round before that adds one at least.
use Rattle.std.proofs.Common.{◌≡◌, ℕ, zero, suc, ◌<◌, Bool, true, ◌&&◌, ◌||◌, eqb, Decides, sym, refl, ◌∙◌, subst, ⊎_elim, arith, length}
use Rattle.model.proofs.Growth.{stable_end}
use Rattle.plants.specs.declared.network.Network.{Network}
use Rattle.std.proofs.lemmas.Bool.{and_from, and_parts, eq-eqb, eqb-true, or_cases, or_left, or_right}
use Rattle.std.proofs.lemmas.Bool.Decides.{Decides-below_or}
use Rattle.grid.specs.declared.state.NetworkState.{NetworkState}
use Rattle.grid.specs.Paths.{Joined, Linked, along, back, further, here, is_joined, joined_within, joins_to, some_below, switch_at}
use Rattle.grid.specs.States.{is_closed}
use Rattle.grid.proofs.Ends.{ends_below}
use Rattle.grid.proofs.Growing.{closed_below, linked_below}

-- some number below n passes a test
some_decided : (n : ℕ) (test : ℕ → Bool) → Decides (some_below n test) ((a : ℕ) × (a < n) × (test a ≡ true))
some_decided n test = Decides-below_or test (λ a. test a ≡ true) (λ m. some_below m test) (λ a. (λ e. e, λ e. e)) refl (λ _. refl) n

some_same : (n : ℕ) (s t : ℕ → Bool) → ((a : ℕ) → a < n → s a ≡ t a) → some_below n s ≡ some_below n t
some_same zero s t e = refl
some_same (suc n) s t e =
    let p = e n (omega arith) in
    let q = some_same n s t (λ a h. e a (omega arith)) in
    cc

module _ (w : Network) (s : NetworkState) (source : ℕ → Bool) where
  within_source : (n x : ℕ) → source x ≡ true → joined_within w s source n x ≡ true
  unfolding joined_within
  within_source zero x e = e
  within_source (suc n) x e = or_left (joined_within w s source n x) _ (within_source n x e)

  within_more : (n x : ℕ) → joined_within w s source n x ≡ true → joined_within w s source (suc n) x ≡ true
  unfolding joined_within
  within_more n x e = or_left (joined_within w s source n x) _ e

  -- a closed switch joins a section to what is joined
  join_sound : (test : ℕ → Bool) → ((y : ℕ) → test y ≡ true → Joined w s source y) → (x a : ℕ) → joins_to w s test x a ≡ true → Joined w s source x
  join_sound test j x a e =
      let from = (switch_at w a).from in
      let to = (switch_at w a).to in
      let p = and_parts (is_closed w s a) ((eqb x from && test to) || (eqb x to && test from)) e in
      ⊎_elim
      (λ q.
      let r = and_parts (eqb x from) (test to) q in
      subst (Joined w s source) (sym (eqb-true x from r.0)) (further to from (j to r.1) (back a p.0)))
      (λ q.
      let r = and_parts (eqb x to) (test from) q in
      subst (Joined w s source) (sym (eqb-true x to r.0)) (further from to (j from r.1) (along a p.0)))
      (or_cases (eqb x from && test to) (eqb x to && test from) p.1)

  pub within_joined : (n x : ℕ) → joined_within w s source n x ≡ true → Joined w s source x
  unfolding joined_within
  within_joined zero x e = here x e
  within_joined (suc n) x e =
      ⊎_elim
      (λ h. within_joined n x h)
      (λ h.
      let f = (some_decided (length w.switches) (joins_to w s (joined_within w s source n) x)).0 h in
      join_sound (joined_within w s source n) (within_joined n) x f.0 f.2)
      (or_cases (joined_within w s source n x) _ e)

  -- one switch further
  one_further : (n y a : ℕ) → is_closed w s a ≡ true
      → ((eqb y (switch_at w a).from && joined_within w s source n (switch_at w a).to)
      || (eqb y (switch_at w a).to && joined_within w s source n (switch_at w a).from)) ≡ true
      → joined_within w s source (suc n) y ≡ true
  unfolding joined_within
  one_further n y a e d =
      or_right (joined_within w s source n y) _
      ((some_decided (length w.switches) (joins_to w s (joined_within w s source n) y)).1 (a, closed_below w s a e, and_from (is_closed w s a) _ e d))

  linked_within : (n x y : ℕ) → Linked w s x y → joined_within w s source n x ≡ true → joined_within w s source (suc n) y ≡ true
  linked_within n _ _ (along a e) h =
      let to = (switch_at w a).to in
      one_further n to a e (or_right (eqb to (switch_at w a).from && joined_within w s source n to) _ (and_from (eqb to to) _ (eq-eqb to to refl) h))
  linked_within n _ _ (back a e) h =
      let from = (switch_at w a).from in
      one_further n from a e (or_left (eqb from from && joined_within w s source n (switch_at w a).to) _ (and_from (eqb from from) _ (eq-eqb from from refl) h))

  -- one switch more adds no section
  abbrev Stable : ℕ → Type 0
  Stable n = (x : ℕ) → x < w.vocabulary.objects → joined_within w s source n x ≡ joined_within w s source (suc n) x

  stable_joined : (n : ℕ) → Stable n → (x : ℕ) → Joined w s source x → joined_within w s source n x ≡ true
  stable_joined n e _ (here x h) = within_source n x h
  stable_joined n e _ (further x y j l) = e y (linked_below w s x y l) ∙ linked_within n x y l (stable_joined n e x j)

  stable_more : (n : ℕ) → Stable n → Stable (suc n)
  unfolding joined_within
  stable_more n e x h =
      let old = e x h in
      let same = some_same (length w.switches) (joins_to w s (joined_within w s source n) x) (joins_to w s (joined_within w s source (suc n)) x)
      (λ a l.
      let b = ends_below w a l in
      let p = e (switch_at w a).from b.0 in
      let q = e (switch_at w a).to b.1 in
      cc)
      in
      cc

  pub joined_decided : (x : ℕ) → Decides (is_joined w s source x) (Joined w s source x)
  joined_decided x =
      (within_joined w.vocabulary.objects x, stable_joined w.vocabulary.objects (stable_end w.vocabulary.objects (joined_within w s source) within_more stable_more) x)
