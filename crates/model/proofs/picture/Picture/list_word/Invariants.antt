-- The facts listed so far are the members among the numbers tried.
use Rattle.std.proofs.Common.{◌≡◌, ◌+◌, ◌*◌, ◌≤◌, length}
use Rattle.model.specs.Ascents.{fact_numbers}
use Rattle.model.specs.Pictures.{chosen, holds}
use Rattle.model.proofs.picture.Picture.list_word.Given as goal

abbrev pub invariant-loop-bit : goal.invariant-loop-bit
invariant-loop-bit l = (fact_numbers l.facts ≡ chosen (64 * l.w + l.bit) (holds l.self)) × (length l.facts ≤ 64 * l.w + l.bit)
