-- The operators can be held by a record; of a network the switches are written first, then which sections are fed.
use Rattle.std.proofs.Common.{ap, ◌∙◌, rules}
use Rattle.std.specs.Prelude.{None, Some}
use Rattle.std.specs.List.{flat_map, list_all}
use Rattle.model.specs.Literals.{word_bytes}
use Rattle.plants.specs.Switches.{switch_bytes}
use Rattle.feeder.specs.Operators.{operator_holds}
use Rattle.feeder.proofs.Plants.{operators_hold}
use Rattle.feeder.proofs.Writing.{short_before, wrote_plain, wrote_same, wrote_then}
use Rattle.feeder.proofs.put.put_plant.Goals as goal

pub put_operators-requires : goal.put_operators-requires
put_operators-requires c = ap (list_all operator_holds) c.as_slice.ensures.same ∙ operators_hold c.in-Actions.table

pub returns-in_err-put_all-in-Network : goal.returns-in_err-put_all-in-Network
returns-in_err-put_all-in-Network c =
    let w = c.in-Network.network in
    let before = c.args.writer.now in
    let after = c.put_all.new.self in
    rw (c.in-Network.is, c.from_residual.ensures)
    (short_before before after (flat_map switch_bytes w.switches) (word_bytes w.fed)
    (wrote_plain switch_bytes 2 _ w.switches before after None c.as_slice-in-Network.ensures.same c.in_err-put_all-in-Network.ensures))

pub returns-in_ok-put_all-in-Network : goal.returns-in_ok-put_all-in-Network
returns-in_ok-put_all-in-Network c =
    let w = c.in-Network.network in
    let before = c.args.writer.now in
    let middle = c.put_all.new.self in
    let after = c.put.new.self in
    let switches = wrote_plain switch_bytes 2 _ w.switches before middle (Some tt) c.as_slice-in-Network.ensures.same c.in_ok-put_all-in-Network.ensures in
    let fed = wrote_same middle after _ (word_bytes w.fed) c.put.result (search rules) c.put.ensures in
    rw c.in-Network.is (wrote_then before middle after (flat_map switch_bytes w.switches) (word_bytes w.fed) _ switches fed)
