-- The bytes counted so far lie behind us, and those still to count make up the whole.
use Rattle.std.proofs.Common.{◌≡◌, ◌+◌, ◌-◌, ◌*◌, ◌≤◌, length}
use Rattle.feeder.specs.Layouts.{operators_size}
use Rattle.feeder.proofs.layout.operators_bytes.Given as goal

abbrev pub invariant-loop : goal.invariant-loop
invariant-loop l =
    (l.size + length l.rest ≡ length l.bytes)
    × (l.size + operators_size (l.rows - l.counter) l.rest ≡ operators_size l.rows l.bytes)
    × (l.size ≤ 2043 * l.counter)
