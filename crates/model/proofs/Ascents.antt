-- Ascending lists grow at their end by a number above all of theirs, and whether a list ascends shows at neighbours.
use Rattle.std.proofs.Common.{◌≡◌, ℕ, suc, ◌+◌, ◌<◌, Bool, true, false, ltb, List, [], ◌∷◌, ◌++◌, length, get_or, map, sym, refl, ap, ◌∙◌, ⊎_elim, arith, Decides}
use Rattle.std.specs.List.{IsAllAdjacentAnswer}
use Rattle.std.proofs.lemmas.List.{get_or-map, get_or_append_left, get_or_push, length-map, length_push}
use Rattle.std.proofs.lemmas.Bool.{cases_lt, false≢true, ltb-false, ltb-true}
use Rattle.model.specs.Ascents.{AllBelow, Ascending}

pub below_push : (xs : List ℕ) (n : ℕ) → AllBelow n xs → AllBelow (suc n) (xs ++ (n ∷ []))
below_push xs n b =
    λ i h.
    ⊎_elim
    (λ l. omega (arith, b i l, get_or_append_left xs (n ∷ []) 0 i l))
    (λ l. omega (arith, get_or_push xs n 0 i (omega (arith, length_push xs n))))
    (cases_lt i (length xs))

pub ascent_push : (xs : List ℕ) (n : ℕ) → Ascending xs → AllBelow n xs → Ascending (xs ++ (n ∷ []))
ascent_push xs n a b =
    λ i h.
    let m = length_push xs n in
    let f = get_or_append_left xs (n ∷ []) 0 i (omega arith) in
    ⊎_elim
    (λ l. omega (arith, a i l, get_or_append_left xs (n ∷ []) 0 (i + 1) l))
    (λ l. omega (arith, b i (omega arith), get_or_push xs n 0 (i + 1) (omega arith)))
    (cases_lt (i + 1) (length xs))

-- a list with a number at its end has not all its numbers below that one
pub none_above : (xs ys : List ℕ) (n : ℕ) → AllBelow n ys → xs ++ (n ∷ []) ≡ ys → ⊥
none_above xs ys n b e =
    let l : length xs + 1 ≡ length ys = sym (length_push xs n) ∙ ap length e in
    let last : n ≡ get_or ys (length xs) 0 = sym (get_or_push xs n 0 (length xs) refl) ∙ ap (λ (zs : List ℕ). get_or zs (length xs) 0) e in
    omega (arith, b (length xs) (omega arith))

-- whether each element's number is below the next one's
module _ {A : Type 0} (number : A → ℕ) (blank : A) where
  pub number_at : (xs : List A) (i : ℕ) → i < length xs → get_or (map number xs) i 0 ≡ number (get_or xs i blank)
  number_at xs i h = get_or-map number xs i blank 0 h

  pub ascent_decided : (xs : List A) (r : Bool) → IsAllAdjacentAnswer (λ x y b. b ≡ ltb (number x) (number y)) xs r
      → Decides r (Ascending (map number xs))
  ascent_decided xs true a =
      let n = length-map xs number in (
        λ e i h. omega (arith, ltb-true _ _ (sym (a i blank (omega (arith, n)))), number_at xs i (omega (arith, n)), number_at xs (i + 1) (omega (arith, n))),
        λ s. refl,
      )
  ascent_decided xs false a =
      let n = length-map xs number in (
        λ e. absurd (false≢true e),
        λ s. absurd (omega (arith, s a.0 (omega (arith, n, a.1)), ltb-false _ _ (sym (a.2 blank)), number_at xs a.0 (omega (arith, a.1)), number_at xs (a.0 + 1) a.1)),
      )
