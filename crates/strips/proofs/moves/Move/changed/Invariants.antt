-- The effects so far are done.
use Rattle.std.proofs.Common.{◌≡◌, ℕ, take}
use Rattle.std.specs.List.{list_any}
use Rattle.model.specs.Pictures.{holds}
use Rattle.strips.specs.Steps.{done, makes_under}
use Rattle.strips.proofs.moves.Move.changed.Given as goal

abbrev pub invariant-loop-e : goal.invariant-loop-e
invariant-loop-e l =
    (f : ℕ)
    → holds l.next f
    ≡ done l.sign
    (list_any (makes_under l.self.table.now l.self.number l.sign f) (take l.e-index l.e-items))
    (holds l.fn.state f)
