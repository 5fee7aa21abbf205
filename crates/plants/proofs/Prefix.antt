-- Operators have a prefix code: their counts say how many literals follow, and a literal is known by its four bytes.
use Rattle.std.proofs.Common.{◌≡◌, ℕ, true, List, ◌++◌, length, refl, arith, rules}
use Rattle.codec.proofs.Coding.{length_joined, same_back, same_front, same_joined}
use Rattle.std.specs.List.{flat_map, list_all}
use Rattle.std.proofs.lemmas.List.{length-append}
use Rattle.plants.specs.declared.literal.LiftedLiteral.{LiftedLiteral}
use Rattle.plants.specs.declared.operator.Operator.{Operator}
use Rattle.plants.specs.Lifted.{lifted_bytes, lifted_proper}
use Rattle.plants.specs.Operators.{operator_bytes, operator_literals}
use Rattle.plants.proofs.Same.{same_operator}

-- a literal that a record can hold is known by its bytes
pub lifted_one : (x y : LiftedLiteral) → lifted_proper x ≡ true → lifted_proper y ≡ true → lifted_bytes x ≡ lifted_bytes y → x ≡ y
lifted_one x y p q e = search rules

pub operator_first : (x y : Operator) (r s : List ℕ) → list_all lifted_proper (operator_literals x) ≡ true
    → list_all lifted_proper (operator_literals y) ≡ true → operator_bytes x ++ r ≡ operator_bytes y ++ s → (x ≡ y) × (r ≡ s)
operator_first x y r s p q e =
    let xs = operator_literals x in
    let ys = operator_literals y in
    let a : x.parameters ≡ y.parameters = cc in
    let b : length x.needs ≡ length y.needs = cc in
    let f : length x.effects ≡ length y.effects = cc in
    let rest : flat_map lifted_bytes xs ++ r ≡ flat_map lifted_bytes ys ++ s = cc in
    let n : length xs ≡ length ys = omega (arith, length-append x.needs x.effects, length-append y.needs y.effects) in
    let long = length_joined lifted_bytes lifted_proper 4 (λ l. refl) in
    let m : length (flat_map lifted_bytes xs) ≡ length (flat_map lifted_bytes ys) = omega (arith, long xs, long ys) in
    let codes = same_front (flat_map lifted_bytes xs) (flat_map lifted_bytes ys) r s m rest in
    let l = same_joined lifted_bytes lifted_proper 4 (λ l. refl) lifted_one xs ys n p q codes in (
      same_operator x y a (same_front x.needs y.needs x.effects y.effects b l) (same_back x.needs y.needs x.effects y.effects b l),
      same_back (flat_map lifted_bytes xs) (flat_map lifted_bytes ys) r s m rest,
    )
