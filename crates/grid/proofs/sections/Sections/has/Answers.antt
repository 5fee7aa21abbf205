use Rattle.std.proofs.Common.{◌^◌, ◌≤◌, sym, ◌∙◌, arith, pow_mono}
use Rattle.std.proofs.lemmas.Bool.{le-ltb}
use Rattle.model.proofs.Bits.{bit_past, bit_shifted}
use Rattle.grid.proofs.sections.Sections.has.Goals as goal

pub returns-then-section-lt16 : goal.returns-then-section-lt16
returns-then-section-lt16 c = bit_shifted c.args.self.bits c.args.section

pub returns-else-section-lt16 : goal.returns-else-section-lt16
returns-else-section-lt16 c =
    let p : 2 ^ 16 ≤ 2 ^ c.args.section = pow_mono c.if-section-lt16.false in
    le-ltb c.args.section 16 c.if-section-lt16.false
    ∙ sym (bit_past c.args.self.bits c.args.section (omega (arith, c.args.self.small)))
