-- The head is written first, then the preconditions, then the effects.
use Rattle.std.proofs.Common.{◌++◌, sym, ap}
use Rattle.std.specs.Prelude.{Some}
use Rattle.std.proofs.lemmas.Grind.{flat_map-append}
use Rattle.plants.specs.Lifted.{lifted_bytes, lifted_proper}
use Rattle.plants.specs.Operators.{operator_head}
use Rattle.feeder.proofs.Shapes.{held_parts}
use Rattle.feeder.proofs.Writing.{wrote_codes, wrote_same, wrote_then}
use Rattle.feeder.proofs.put.put_operator.Goals as goal

pub returns : goal.returns
returns c =
    let op = c.args.op.now in
    let before = c.args.writer.now in
    let front = c.put.new.self in
    let middle = c.put_all.new.self in
    let after = c.put_all-2.new.self in
    let held = held_parts op c.requires in
    let head = wrote_same before front _ (operator_head op) (Some tt) c.head.ensures c.in_ok-put.ensures in
    let needs = wrote_codes lifted_bytes lifted_proper 4 _ op.needs front middle (Some tt) c.as_slice.ensures.same held.0 c.in_ok-put_all.ensures in
    let effects = wrote_codes lifted_bytes lifted_proper 4 _ op.effects middle after c.put_all-2.result c.as_slice-2.ensures.same held.1 c.put_all-2.ensures in
    wrote_same before after _ _ _ (ap (λ t. operator_head op ++ t) (sym (flat_map-append lifted_bytes op.needs op.effects)))
    (wrote_then before front after (operator_head op) _ _ head (wrote_then front middle after _ _ _ needs effects))
