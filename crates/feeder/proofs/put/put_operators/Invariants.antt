-- The operators so far are written, one behind the other.
use Rattle.std.proofs.Common.{take}
use Rattle.std.specs.Prelude.{Some}
use Rattle.std.specs.List.{flat_map}
use Rattle.codec.specs.Writing.{Wrote}
use Rattle.plants.specs.Operators.{operator_bytes}
use Rattle.feeder.proofs.put.put_operators.Given as goal

abbrev pub invariant-loop-op : goal.invariant-loop-op
invariant-loop-op l = Wrote l.fn.writer (flat_map operator_bytes (take l.op-index l.operators)) l.writer (Some tt)
