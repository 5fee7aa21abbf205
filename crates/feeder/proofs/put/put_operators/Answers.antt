-- One operator more is written, or there is no room for it.
use Rattle.std.proofs.Common.{◌+◌, take, sym, arith}
use Rattle.std.specs.Prelude.{None, Some}
use Rattle.std.specs.List.{flat_map}
use Rattle.codec.proofs.Coding.{joined_front, joined_more}
use Rattle.plants.specs.Operators.{operator_bytes}
use Rattle.feeder.proofs.Writing.{wrote_same, wrote_then}
use Rattle.feeder.proofs.put.put_operators.Goals as goal

pub returns-in_err-put_operator : goal.returns-in_err-put_operator
returns-in_err-put_operator c =
    let ops = c.args.operators.now in
    let i = c.loop-op.op-index in
    let op = c.op-item.result in
    let before = c.args.writer.now in
    let after = c.put_operator.new.writer in
    let w = wrote_same before after _ (flat_map operator_bytes (take (i + 1) ops)) None (sym (joined_more operator_bytes ops i op c.loop-op-test.true c.op-item.is))
    (wrote_then before c.loop-op.writer after _ (operator_bytes op) None c.loop-op.invariant c.in_err-put_operator.ensures)
    in
    rw c.from_residual.ensures (w.0, omega (arith, w.1, joined_front operator_bytes (i + 1) ops))

pub loop-op-preserved : goal.loop-op-preserved
loop-op-preserved c =
    let ops = c.args.operators.now in
    let i = c.loop-op.op-index in
    let op = c.op-item.result in
    let before = c.args.writer.now in
    let after = c.put_operator.new.writer in
    wrote_same before after _ (flat_map operator_bytes (take (i + 1) ops)) (Some tt) (sym (joined_more operator_bytes ops i op c.loop-op-test.true c.op-item.is))
    (wrote_then before c.loop-op.writer after _ (operator_bytes op) (Some tt) c.loop-op.invariant c.in_ok-put_operator.ensures)
