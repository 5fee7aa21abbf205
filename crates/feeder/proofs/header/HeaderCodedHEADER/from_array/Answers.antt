use Rattle.std.proofs.Common.{ℕ, List, get_or, ap, arith, rules}
use Rattle.feeder.specs.Headers.{header_bytes, within_limits}
use Rattle.feeder.proofs.Heads.{header_made}
use Rattle.feeder.proofs.Known.{decoded_tested, header_known}
use Rattle.feeder.proofs.header.HeaderCodedHEADER.from_array.Goals as goal

pub returns : goal.returns
returns c =
    let bytes = c.args.bytes.now in
    let e =
    header_made c.in_ok-from_array.field-0 c.in_ok-from_array-2.field-0 bytes c.from_be_bytes.result (search rules) (search rules)
    (ap (λ (t : List ℕ). get_or t 0 0) c.in_ok-from_array.ensures.0) (ap (λ (t : List ℕ). get_or t 0 0) c.in_ok-from_array-2.ensures.0)
    (omega (arith, c.fits-bytes 10)) (omega (arith, c.from_be_bytes.ensures))
    in
    rw c.then_some.ensures (decoded_tested header_bytes within_limits header_known bytes c.is_within_limits.result _ e c.is_within_limits.ensures)
