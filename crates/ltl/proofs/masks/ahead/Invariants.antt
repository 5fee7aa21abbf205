-- The answers of the positions that were gone through, from the last one down, stand in the lowest bits.
use Rattle.std.proofs.Common.{◌≡◌, ◌+◌, ◌-◌}
use Rattle.model.specs.Drawn.{bits_of}
use Rattle.model.specs.Pictures.{bit}
use Rattle.ltl.specs.Classes.{ahead as going}
use Rattle.ltl.proofs.masks.ahead.Given as goal

abbrev pub invariant-loop-i : goal.invariant-loop-i
invariant-loop-i l = record {
  on : l.on ≡ going (l.n - l.i) l.end (bit l.stay) (bit l.hit) l.i;
  drawn : l.bits ≡ bits_of (l.n - l.i) (λ j. going (l.n - l.i - j) l.end (bit l.stay) (bit l.hit) (l.i + j));
}
