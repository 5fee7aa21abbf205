use Rattle.std.proofs.Common.{Bool, ◌||◌, ap, ◌∙◌}
use mathlib.Core.Bool.{or_comm}
use Rattle.std.proofs.lemmas.Nat.{le_or_l}
use Rattle.model.specs.Pictures.{bit}
use Rattle.model.proofs.Bits.{bit-bit_or}
use Rattle.grid.proofs.sections.Sections.with.Goals as goal

pub returns-clause-bits : goal.returns-clause-bits
returns-clause-bits c = λ k h.
    let x = c.args.self.bits in
    let m = c.bit_of.result in
    bit-bit_or x m k ∙ or_comm (bit x k) (bit m k) ∙ ap (λ (b : Bool). b || bit x k) (c.bit_of.ensures k h)

pub returns-clause-more : goal.returns-clause-more
returns-clause-more c = le_or_l c.args.self.bits c.bit_of.result
