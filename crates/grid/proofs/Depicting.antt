-- The picture of a state: the three predicates of a network have their facts one after the other, and each says what it is
-- defined to say.
use Rattle.std.proofs.Common.{◌≡◌, ℕ, ◌+◌, ◌-◌, ◌*◌, ◌<◌, Bool, cond, ◌&&◌, ltb, List, length, get_or, take, Decides, sym, refl, ap, ◌∙◌, ⊎_elim, arith}
use Rattle.model.specs.declared.vocabulary.Arity.{Arity}
use Rattle.model.specs.declared.vocabulary.Arity.TheVariants.{Zero}
use Rattle.model.specs.Facts.{facts}
use Rattle.model.specs.Numbering.{place}
use Rattle.model.specs.Pictures.{bit, holds}
use Rattle.model.specs.Vocabularies.{fact_total}
use Rattle.model.proofs.Drawn.{holds_picture_of}
use Rattle.model.proofs.Pictures.{holds_past}
use Rattle.plants.specs.declared.network.Network.{Network}
use Rattle.plants.specs.Switches.{network_arities}
use Rattle.plants.proofs.Sound.{network_sound}
use Rattle.std.proofs.lemmas.Bool.{and_left, cases_lt, cond-false, cond-true, le-ltb, lt-ltb}
use Rattle.std.proofs.lemmas.Bool.Decides.{Decides-at}
use Rattle.grid.specs.declared.state.NetworkState.{NetworkState}
use Rattle.grid.specs.Paths.{Joined, is_joined}
use Rattle.grid.specs.Shown.{Depicts, fact_about, in_turn, is_live, network_shown}
use Rattle.grid.specs.States.{closed_at, has_earth, is_closed}
use Rattle.grid.proofs.Paths.{joined_decided}

-- the same tests, one after the other, are the same test
pub in_turn_same : (n : ℕ) (p q r s t u : ℕ → Bool) → ((k : ℕ) → p k ≡ s k) → ((k : ℕ) → q k ≡ t k) → ((k : ℕ) → r k ≡ u k)
    → (f : ℕ) → in_turn n p q r f ≡ in_turn n s t u f
in_turn_same n p q r s t u a b c f =
    let x = a f in
    let y = b (f - n) in
    let z = c (f - (n + n)) in
    cc

module _ (n : ℕ) (p q r : ℕ → Bool) where
  at_first : (k : ℕ) → k < n → in_turn n p q r k ≡ p k
  at_first k h = cond-true (ltb k n) (p k) (cond (ltb k (n + n)) (q (k - n)) (r (k - (n + n)))) (lt-ltb k n h)

  at_second : (k : ℕ) → k < n → in_turn n p q r (n + k) ≡ q k
  at_second k h =
      let e : n + k - n ≡ k = omega arith in
      cond-false (ltb (n + k) n) (p (n + k)) (cond (ltb (n + k) (n + n)) (q (n + k - n)) (r (n + k - (n + n)))) (le-ltb (n + k) n (omega arith))
      ∙ cond-true (ltb (n + k) (n + n)) (q (n + k - n)) (r (n + k - (n + n))) (lt-ltb (n + k) (n + n) (omega arith))
      ∙ ap q e

  at_third : (k f : ℕ) → f ≡ n + n + k → in_turn n p q r f ≡ r k
  at_third k f l =
      let e : f - (n + n) ≡ k = omega arith in
      cond-false (ltb f n) (p f) (cond (ltb f (n + n)) (q (f - n)) (r (f - (n + n)))) (le-ltb f n (omega arith))
      ∙ cond-false (ltb f (n + n)) (q (f - n)) (r (f - (n + n))) (le-ltb f (n + n) (omega arith))
      ∙ ap r e

module _ (w : Network) where
  three : w.vocabulary.arities ≡ network_arities
  three = (network_sound w).unary

  -- the number of a fact about an object: predicate × objects + object
  about : (p o : ℕ) → p < 3
      → fact_about w p o ≡ facts w.vocabulary.objects (take p network_arities) + place w.vocabulary.objects (get_or network_arities p Zero) o 0
  about p o h =
      let n = w.vocabulary.objects in
      ap (λ (l : List Arity). facts n (take p l) + place n (get_or l p Zero) o 0) three

  total : fact_total w.vocabulary ≡ 3 * w.vocabulary.objects
  total = ap (facts w.vocabulary.objects) three ∙ omega arith

  module _ (s : NetworkState) where
    -- a switch has the number of a section
    pub closed_within : (a : ℕ) → (ltb a w.vocabulary.objects && is_closed w s a) ≡ is_closed w s a
    closed_within a =
        ⊎_elim
        (λ h. ap (λ (b : Bool). b && is_closed w s a) (lt-ltb a w.vocabulary.objects h))
        (λ h.
        ap (λ (b : Bool). b && is_closed w s a) (le-ltb a w.vocabulary.objects h)
        ∙ sym (and_left (ltb a (length w.switches)) (closed_at s a) (le-ltb a (length w.switches) (omega (arith, w.few)))))
        (cases_lt a w.vocabulary.objects)

    -- which facts hold, by their numbers
    abbrev test : ℕ → Bool
    test = in_turn w.vocabulary.objects (is_closed w s) (has_earth w s) (is_live w s)

    shown_at : (f : ℕ) → f < 512 → holds (network_shown w s) f ≡ test f
    unfolding network_shown
    shown_at f h = holds_picture_of test f h

    live_decided : (x : ℕ) → x < w.vocabulary.objects → Decides (is_live w s x) (Joined w s (bit w.fed) x)
    live_decided x h =
        let n = w.vocabulary.objects in
        Decides-at (is_live w s x) (is_joined w s (bit w.fed) x)
        (ap (λ (b : Bool). b && is_joined w s (bit w.fed) x) (lt-ltb x n h)) (joined_decided w s (bit w.fed) x)

    pub shown_law : Depicts w s (network_shown w s)
    shown_law =
        let n = w.vocabulary.objects in
        record {
          closed = λ a h.
              let e : fact_about w 0 a ≡ a = about 0 a (omega arith) ∙ omega arith in
              ap (holds (network_shown w s)) e ∙ shown_at a (omega (arith, w.vocabulary.high)) ∙ at_first n (is_closed w s) (has_earth w s) (is_live w s) a h;
          earthed = λ x h.
              let e : fact_about w 1 x ≡ n + x = about 1 x (omega arith) ∙ omega arith in
              ap (holds (network_shown w s)) e ∙ shown_at (n + x) (omega (arith, w.vocabulary.high)) ∙ at_second n (is_closed w s) (has_earth w s) (is_live w s) x h;
          live = λ x h.
              let e : fact_about w 2 x ≡ n + n + x = about 2 x (omega arith) ∙ omega arith in
              let f : holds (network_shown w s) (fact_about w 2 x) ≡ is_live w s x =
              ap (holds (network_shown w s)) e ∙ shown_at (n + n + x) (omega (arith, w.vocabulary.high)) ∙ at_third n (is_closed w s) (has_earth w s) (is_live w s) x (n + n + x) refl
              in
              Decides-at (holds (network_shown w s) (fact_about w 2 x)) (is_live w s x) f (live_decided x h);
          others = λ f h.
              ⊎_elim
              (λ l.
              let k = f - (n + n) in
              shown_at f l
              ∙ at_third n (is_closed w s) (has_earth w s) (is_live w s) k f (omega (arith, total))
              ∙ ap (λ (b : Bool). b && is_joined w s (bit w.fed) k) (le-ltb k n (omega (arith, total))))
              (λ l. holds_past (network_shown w s) f l)
              (cases_lt f 512);
        }
