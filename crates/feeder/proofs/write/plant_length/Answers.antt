-- The bytes of operators are those of each, added up; a network has two for each switch and two more.
use Rattle.std.proofs.Common.{◌≡◌, ◌*◌, ◌≤◌, List, [], ◌∷◌, length, sym, ap, ◌∙◌, arith, length-append, rules}
use Rattle.std.specs.List.{flat_map, sum_by}
use Rattle.std.proofs.lemmas.List.Concat.{length-flat_map}
use Rattle.std.proofs.iter.runs.Made.{chains}
use Rattle.model.specs.Literals.{word_bytes}
use Rattle.plants.specs.declared.operator.Operator.{Operator}
use Rattle.plants.specs.Operators.{operator_bytes}
use Rattle.plants.specs.Switches.{switch_bytes}
use Rattle.feeder.proofs.Plants.{length_switch_bytes}
use Rattle.feeder.proofs.Shapes.{length_operator}
use Rattle.feeder.proofs.write.plant_length.Goals as goal

-- an operator takes at most 67 bytes
most : (ops : List Operator) → length (flat_map operator_bytes ops) ≤ 67 * length ops
most [] = omega arith
most (op ∷ ops) =
    omega (arith, most ops, length_operator op, op.before, op.after, length-append (operator_bytes op) (flat_map operator_bytes ops))

pub returns-in-Actions : goal.returns-in-Actions
returns-in-Actions c =
    let all = c.in-Actions.table.operators in
    let some = c.as_slice-operators.result.now in
    let e : c.sum.result ≡ sum_by (λ op. length (operator_bytes op)) some = search (rules, chains) in
    let size : c.sum.result ≡ length (flat_map operator_bytes all) =
    e ∙ sym (length-flat_map operator_bytes some) ∙ ap (λ ops. length (flat_map operator_bytes ops)) c.as_slice-operators.ensures.same
    in
    record { size = rw c.in-Actions.is size; bound = omega (arith, most all, c.in-Actions.table.few) }

pub returns-in-Network-clause-size : goal.returns-in-Network-clause-size
returns-in-Network-clause-size c =
    let w = c.in-Network.network in
    rw c.in-Network.is (omega (arith, length-append (flat_map switch_bytes w.switches) (word_bytes w.fed), length_switch_bytes w.switches))
