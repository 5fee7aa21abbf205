use Rattle.std.proofs.Common.{◌≡◌, ℕ, ◌-◌, ◌^◌, ◌<◌, ◌≤◌, length}
use Rattle.grid.specs.Reached.{Even}
use Rattle.grid.proofs.Growing.{Grown}
use Rattle.grid.proofs.reach.reach.Given as goal

abbrev pub invariant-grow : goal.invariant-grow
invariant-grow l = Grown l.network l.state l.initial.reached l.reached

-- a round that has added nothing so far found each switch even
abbrev pub invariant-loop-switch : goal.invariant-loop-switch
invariant-loop-switch l =
    Grown l.network l.state l.initial.reached l.reached
    × (l.before.bits ≤ l.reached.bits)
    × (l.reached.bits ≡ l.before.bits → (b : ℕ) → b < length l.yielded → Even l.network l.state b l.reached)

abbrev pub decreases-grow : goal.decreases-grow
decreases-grow l = 2 ^ 16 - l.reached.bits
