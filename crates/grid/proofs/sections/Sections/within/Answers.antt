use Rattle.std.proofs.Common.{ℕ, ◌^◌, ◌≤◌, Bool, ◌&&◌, sym, ap, ◌∙◌, arith, pow_mono}
use mathlib.Core.Bool.{and_comm}
use Rattle.std.proofs.lemmas.Nat.{and_le_l}
use lib.Bits.{bit_and}
use Rattle.model.specs.Drawn.{bits_below, bits_of}
use Rattle.model.specs.Pictures.{bit}
use Rattle.model.proofs.Bits.{bit-bit_and, bit_mask, same_bits}
use Rattle.model.proofs.Drawn.{bit_of_bits}
use Rattle.grid.proofs.sections.Sections.within.Goals as goal

pub returns : goal.returns
returns c =
    let x = c.args.self.bits in
    let n = c.args.network.now.vocabulary.objects in
    let mask = c.all.result.bits in
    let wide : 2 ^ n ≤ 2 ^ 16 = pow_mono c.args.network.now.vocabulary.high in
    same_bits 16 (bit_and x mask) (bits_of n (bit x))
    (omega (arith, and_le_l x mask, c.args.self.small))
    (omega (arith, bits_below n (bit x)))
    (λ k h.
    bit-bit_and x mask k
    ∙ and_comm (bit x k) (bit mask k)
    ∙ ap (λ (b : Bool). b && bit x k) (ap (λ (m : ℕ). bit m k) c.all.ensures ∙ bit_mask n k)
    ∙ sym (bit_of_bits n (bit x) k))
