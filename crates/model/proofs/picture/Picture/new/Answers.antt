use Rattle.std.proofs.Common.{rules, ◌≡◌, ℕ, ◌<◌, ◌≤◌, zero, suc, false, ltb, eqb, List, [], ◌∷◌, ◌++◌, length, get_or, sym, refl, ap, ◌∙◌, add-one, arith}
use Rattle.std.proofs.lemmas.Fn.{always_returns_same}
use Rattle.std.proofs.lemmas.List.{length-map, map_more, take_all}
use Rattle.std.proofs.lemmas.Bool.{ne_eqb, or_from}
use Rattle.model.specs.declared.fact.Fact.{Fact}
use Rattle.model.specs.Ascents.{Ascending, blank_fact, fact_numbers}
use Rattle.model.specs.Pictures.{holds}
use Rattle.model.proofs.Ascents.{ascent_decided, number_at}
use Rattle.model.proofs.Pictures.{members_none, members_push}
use Rattle.model.proofs.picture.Picture.new.Goals as goal

-- an ascending list has at least i in its place i
place_up : (xs : List ℕ) → Ascending xs → (i : ℕ) → i < length xs → i ≤ get_or xs i 0
place_up xs rises zero h = omega arith
place_up xs rises (suc i) h = omega (arith, place_up xs rises i (omega arith), rises i (omega arith), ap (λ (m : ℕ). get_or xs m 0) (add-one i))

-- so one of more than 512 has one that is not below 512
pub returns-then-facts-gt512 : goal.returns-then-facts-gt512
returns-then-facts-gt512 c =
    let facts = c.args.facts.now in
    let n = length-map facts (λ (f : Fact). f.number) in
    λ s. omega (arith, place_up (fact_numbers facts) s.rises 512 (omega (arith, n)), s.below 512 (omega (arith, n)))

pub returns-then-not-is_sorted_by : goal.returns-then-not-is_sorted_by
returns-then-not-is_sorted_by c =
    λ s.
    let d = ascent_decided (λ (f : Fact). f.number) blank_fact c.args.facts.now c.is_sorted_by.result
    (c.is_sorted_by.ensures.cases (λ x y. ltb x.number y.number) (always_returns_same _ _ _ (λ a r f k. search rules)))
    in
    cc (d.1 s.rises)

pub loop-fact-init : goal.loop-fact-init
loop-fact-init c =
    let e = c.empty-picture.ensures in
    (members_none c.empty-picture.result e, λ f h. e f)

pub returns-in_err-insert : goal.returns-in_err-insert
returns-in_err-insert c =
    let facts = c.args.facts.now in
    let i = c.loop-fact.fact-index in
    let none = c.from_residual.ensures in
    let past = c.in_err-insert.ensures in
    rw none
    (λ s.
    omega (
      arith,
      s.below i (omega (arith, length-map facts (λ (f : Fact). f.number))),
      number_at (λ (f : Fact). f.number) blank_fact facts i c.loop-fact-test.true,
      past.0,
    ))

pub loop-fact-preserved : goal.loop-fact-preserved
loop-fact-preserved c =
    let facts = c.args.facts.now in
    let i = c.loop-fact.fact-index in
    let f = (get_or facts i blank_fact).number in
    let p = c.loop-fact.picture in
    let q = c.insert.new.self in
    let e = c.in_ok-insert.ensures in
    let rises : Ascending (fact_numbers facts) =
    (ascent_decided (λ (g : Fact). g.number) blank_fact facts c.is_sorted_by.result
    (c.is_sorted_by.ensures.cases (λ x y. ltb x.number y.number) (always_returns_same _ _ _ (λ a r f k. search rules)))).0
    c.if-not-is_sorted_by.false
    in
    let n = length-map facts (λ (g : Fact). g.number) in
    let here = number_at (λ (g : Fact). g.number) blank_fact facts i c.loop-fact-test.true in
    let above : (g : ℕ) → f ≤ g → holds p g ≡ false =
    λ g h. c.loop-fact.invariant.1 g (λ k z. omega (arith, rises k (omega (arith, n)), ap (λ (m : ℕ). get_or (fact_numbers facts) m 0) z, here))
    in
    let more = map_more (λ (g : Fact). g.number) facts i blank_fact c.loop-fact-test.true in (
      members_push p q f e.0 e.1 above ∙ ap (λ (xs : List ℕ). xs ++ (f ∷ [])) c.loop-fact.invariant.0 ∙ sym more,
      λ g h.
          let l : f < g = omega (arith, h i refl, here) in
          e.1 g ∙ or_from (eqb g f) (holds p g) (ne_eqb g f (λ z. omega arith)) (above g (omega arith)),
    )

pub returns : goal.returns
returns c = c.loop-fact.invariant.0 ∙ ap fact_numbers (take_all c.loop-fact.fact-index c.args.facts.now (omega arith))
