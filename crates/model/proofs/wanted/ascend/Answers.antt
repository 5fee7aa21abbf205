use Rattle.std.proofs.Common.{rules, ltb}
use Rattle.std.proofs.lemmas.Fn.{always_returns_same}
use Rattle.model.specs.declared.fact.Literal.{Literal}
use Rattle.model.specs.Ascents.{blank_literal}
use Rattle.model.proofs.Ascents.{ascent_decided}
use Rattle.model.proofs.wanted.ascend.Goals as goal

pub returns : goal.returns
returns c =
    ascent_decided (λ (l : Literal). l.fact.number) blank_literal c.args.literals.now c.is_sorted_by.result
    (c.is_sorted_by.ensures.cases (λ x y. ltb x.fact.number y.fact.number) (always_returns_same _ _ _ (λ a r f k. search rules)))
