-- What has been read so far, and then the rest, are the bytes.
use Rattle.std.proofs.Common.{◌≡◌, true, ◌++◌, length}
use Rattle.std.specs.List.{flat_map, list_all}
use Rattle.plants.specs.Operators.{operator_bytes}
use Rattle.feeder.specs.Operators.{operator_holds}
use Rattle.feeder.proofs.operators.operators_of.Given as goal

abbrev pub invariant-loop : goal.invariant-loop
invariant-loop l =
    (length l.table ≡ l.counter)
    × (flat_map operator_bytes l.table ++ l.rest ≡ l.bytes)
    × (list_all operator_holds l.table ≡ true)
