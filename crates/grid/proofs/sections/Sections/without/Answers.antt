use Rattle.std.proofs.Common.{Bool, ◌-◌, ◌^◌, not, ◌&&◌, ap, ◌∙◌}
use mathlib.Core.Bool.{and_comm}
use Rattle.model.specs.Pictures.{bit}
use Rattle.model.proofs.Bits.{bit-bit_and, bit_flip}
use Rattle.grid.proofs.sections.Sections.without.Goals as goal

pub returns : goal.returns
returns c = λ k h.
    let x = c.args.self.bits in
    let m = c.bit_of.result in
    bit-bit_and x (2 ^ 16 - 1 - m) k
    ∙ and_comm (bit x k) (bit (2 ^ 16 - 1 - m) k)
    ∙ ap (λ (b : Bool). b && bit x k) (bit_flip 16 m k c.bit_of.type_inv h ∙ ap not (c.bit_of.ensures k h))
