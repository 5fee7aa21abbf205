use Rattle.std.proofs.Common.{ℕ, ◌-◌, ◌^◌, ◌≡◌, ap, ◌∙◌, arith}
use Rattle.std.proofs.lemmas.Nat.Bits.{ones_shr}
use Rattle.grid.proofs.sections.Sections.all.Goals as goal

pub returns : goal.returns
returns c =
    let v = c.args.network.now.vocabulary in
    let n = v.objects in
    let e : 16 - (16 - n) ≡ n = omega (arith, v.high) in
    ones_shr 16 (16 - n) (omega arith) ∙ ap (λ (m : ℕ). 2 ^ m - 1) e
