use Rattle.std.proofs.Common.{◌≡◌, ℕ, ◌*◌, ◌/◌, ◌%◌, ◌^◌, ◌<◌, Some, None, Option, eqb, sym, ap, ◌∙◌, ⊎_elim, arith}
use Rattle.std.specs.Option.{SomeIff, unwrap_or}
use Rattle.std.proofs.lemmas.Bool.{cases_eq, eq-eqb, ne_eqb}
use Rattle.std.proofs.lemmas.Nat.{one_shl}
use Rattle.std.proofs.lemmas.Nat.Bits.{bit_at-pow_other, bit_at-pow_same}
use Rattle.model.specs.Pictures.{bit}
use Rattle.model.proofs.Bits.{bit_none}
use Rattle.grid.proofs.sections.bit_of.Goals as goal

bit-pow : (s k : ℕ) → bit (2 ^ s) k ≡ eqb k s
unfolding bit
bit-pow s k =
    ⊎_elim
    (λ e. ap (λ (j : ℕ). eqb (2 ^ s / 2 ^ j % 2) 1) e ∙ ap (λ (b : ℕ). eqb b 1) (bit_at-pow_same s) ∙ sym (eq-eqb k s e))
    (λ n. ap (λ (b : ℕ). eqb b 1) (bit_at-pow_other s k n) ∙ sym (ne_eqb k s n))
    (cases_eq k s)

-- what the shift gives, if anything
shifted : (s k : ℕ) (o : Option ℕ) → SomeIff o (s < 16) (1 * 2 ^ s % 2 ^ 16) → k < 16 → bit (unwrap_or o 0) k ≡ eqb k s
shifted s k None n h = bit_none k ∙ sym (ne_eqb k s (λ e. n (omega arith)))
shifted s k (Some x) p h = ap (λ (m : ℕ). bit m k) (p.1 ∙ one_shl s 16 p.0) ∙ bit-pow s k

pub returns : goal.returns
returns c = λ k h. cc (shifted c.from.result k c.checked_shl.result c.checked_shl.ensures h)
