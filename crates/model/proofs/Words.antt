-- Numbers of two bytes: a high and a low byte make a number whose bytes they are.
use Rattle.std.proofs.Common.{◌≡◌, ℕ, ◌+◌, ◌*◌, ◌/◌, ◌%◌, ◌<◌, [], ◌∷◌, arith}
use Rattle.model.specs.Literals.{word_bytes}

pub word_made : (h l : ℕ) → l < 256 → word_bytes (h * 256 + l) ≡ h ∷ (l ∷ [])
word_made h l s =
    let a : (h * 256 + l) / 256 ≡ h = omega arith in
    let b : (h * 256 + l) % 256 ≡ l = omega arith in
    cc
