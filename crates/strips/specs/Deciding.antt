-- The tests of a move decide what they stand for: that it can be made, and that it has an effect on a fact.
use Rattle.std.specs.Prelude.{◌≡◌, ℕ, ◌<◌, true, ◌&&◌, length, Decides, ◌==◌, nat_lt, refl}
use Rattle.std.specs.List.{list_any, list_all}
use Rattle.std.proofs.Common.{sym, arith}
use Rattle.std.proofs.lemmas.List.Folds.{list_any_at}
use Rattle.std.proofs.lemmas.List.Recursion.{and_from_places}
use Rattle.std.proofs.lemmas.Bool.Decides.{Decides-and, Decides-by_or, Decides-eqb, Decides-like, Decides-ltb, nat_tests}
use Rattle.codec.proofs.Coding.{every_at}
use Rattle.model.specs.declared.fact.Literal.{Literal}
use Rattle.model.specs.declared.fact.Sign.{Sign}
use Rattle.model.specs.declared.fact.Sign.TheVariants.{Negative, Positive}
use Rattle.model.specs.declared.picture.Picture.{Picture}
use Rattle.model.specs.Goals.{literal_holds}
use Rattle.plants.specs.declared.actions.ActionTable.{ActionTable}
use Rattle.plants.specs.declared.literal.LiftedLiteral.{LiftedLiteral}
use Rattle.plants.specs.Lifted.{blank_lifted}
use Rattle.strips.specs.Grounding.{argument_fits, first_argument, ground_literal, operator_at, operator_number, second_argument}
use Rattle.strips.specs.Laws.{Applicable, Argument, Makes, effect_at, need_at}
use Rattle.strips.specs.Steps.{action_allowed, holds_under, is_literal, makes, makes_under, needs_hold, same_sign, takes_both, takes_first, takes_second}

decides_argument : (n parameters i x : ℕ) → Decides (argument_fits n parameters i x) (Argument n parameters i x)
decides_argument n parameters i x = (
  λ e. record { has = λ h. grind (arith, nat_tests); lacks = λ h. grind (arith, nat_tests) },
  λ a. grind (arith, nat_tests, a.has, a.lacks),
)

decides_sign : (x y : Sign) → Decides (same_sign x y) (y ≡ x)
decides_sign Negative Negative = (λ e. refl, λ e. refl)
decides_sign Negative Positive = (λ e. cc, λ e. cc)
decides_sign Positive Negative = (λ e. cc, λ e. cc)
decides_sign Positive Positive = (λ e. refl, λ e. refl)

decides_literal : (sign : Sign) (f : ℕ) (l : Literal) → Decides (is_literal sign f l) ((l.sign ≡ sign) × (l.fact.number ≡ f))
decides_literal sign f l =
    let n = l.fact.number in
    Decides-and (same_sign sign l.sign) (f == n) (decides_sign sign l.sign) (Decides-like (f == n) sym sym (Decides-eqb f n))

module _ (t : ActionTable) (m : ℕ) where
  decides_needs : (s : Picture) → Decides (needs_hold t s m) ((k : ℕ) → k < length (operator_at t m).needs → literal_holds s (need_at t m k) ≡ true)
  decides_needs s =
      let needs = (operator_at t m).needs in
      let test = holds_under t m s in (
        λ e k h. every_at test needs blank_lifted k e h,
        λ p. and_from_places (list_all test) test refl (λ _ _. refl) needs blank_lifted (λ k h. p k h),
      )

  pub decides_allowed : (s : Picture) → Decides (action_allowed t s m) (Applicable t s m)
  decides_allowed s =
      let op = operator_at t m in
      let n = t.vocabulary.objects in
      let one = decides_argument n op.parameters 0 (first_argument m) in
      let two = decides_argument n op.parameters 1 (second_argument m) in
      let both = Decides-and (takes_first t m) (takes_second t m) one two in
      let rest = Decides-and (takes_both t m) (needs_hold t s m) both (decides_needs s) in
      let all = Decides-and (nat_lt (operator_number m) (length t.operators)) (takes_both t m && needs_hold t s m) (Decides-ltb (operator_number m) (length t.operators)) rest in
      Decides-like (action_allowed t s m)
      (λ p. record { exists = p.0; first = p.1.0.0; second = p.1.0.1; needs = p.1.1 })
      (λ a. (a.exists, ((a.first, a.second), a.needs)))
      all

  pub decides_makes : (sign : Sign) (f : ℕ) → Decides (makes t m sign f) (Makes t m sign f)
  decides_makes sign f =
      let effects = (operator_at t m).effects in
      let test = makes_under t m sign f in
      let Is : LiftedLiteral → Type 0 = λ l. ((ground_literal t m l).sign ≡ sign) × ((ground_literal t m l).fact.number ≡ f) in
      let each = λ (l : LiftedLiteral). decides_literal sign f (ground_literal t m l) in (
        λ e.
            let p = (Decides-by_or test Is (list_any test) each refl (λ _ _. refl) effects).0 e in
            let q = p.2 blank_lifted in
            (p.0, p.1, q.0, q.1),
        λ p. list_any_at test effects p.0 blank_lifted p.1 ((decides_literal sign f (effect_at t m p.0)).1 (p.2, p.3)),
      )
