-- Numbers made from tests, bit by bit.
use Rattle.std.proofs.Common.{◌≡◌, ℕ, zero, suc, ◌+◌, ◌-◌, ◌*◌, ◌^◌, ◌<◌, Bool, true, false, cond, ◌&&◌, ◌||◌, refl, pow-suc, arith}
use mir.Val.{bool_byte}
use lib.Bits.{bit_and, bit_or, or_lt, and_le_l}
use Rattle.model.specs.Drawn.{bits_below, bits_of}
use Rattle.model.proofs.Bits.{bit-bit_and, bit-bit_or, same_bits}
use Rattle.model.proofs.Drawn.{bit_bits}

pub bits_same : (n : ℕ) (s t : ℕ → Bool) → ((k : ℕ) → k < n → s k ≡ t k) → bits_of n s ≡ bits_of n t
unfolding bits_of
bits_same zero s t e = refl
bits_same (suc n) s t e =
    let a = bits_same n s t (λ k h. e k (omega arith)) in
    let b = e n (omega arith) in
    cc

pub bits_none : (n : ℕ) → bits_of n (λ k. false) ≡ 0
unfolding bits_of
bits_none zero = refl
bits_none (suc n) = omega (arith, bits_none n)

pub bits_all : (n : ℕ) → bits_of n (λ k. true) ≡ 2 ^ n - 1
unfolding bits_of
bits_all zero = refl
bits_all (suc n) = let p = pow-suc 2 n in omega (arith, bits_all n)

-- what two numbers have in common, and what one of them has
pub bits_and : (n : ℕ) (s t : ℕ → Bool) → bit_and (bits_of n s) (bits_of n t) ≡ bits_of n (λ k. s k && t k)
bits_and n s t =
    same_bits n (bit_and (bits_of n s) (bits_of n t)) (bits_of n (λ k. s k && t k))
    (let a = and_le_l (bits_of n s) (bits_of n t) in omega (arith, bits_below n s)) (bits_below n (λ k. s k && t k))
    (λ k h.
    let a = bit-bit_and (bits_of n s) (bits_of n t) k in
    let b = bit_bits n s k h in
    let c = bit_bits n t k h in
    let d = bit_bits n (λ k. s k && t k) k h in
    cc)

pub bits_or : (n : ℕ) (s t : ℕ → Bool) → bit_or (bits_of n s) (bits_of n t) ≡ bits_of n (λ k. s k || t k)
bits_or n s t =
    same_bits n (bit_or (bits_of n s) (bits_of n t)) (bits_of n (λ k. s k || t k))
    (or_lt n (bits_of n s) (bits_of n t) (bits_below n s) (bits_below n t)) (bits_below n (λ k. s k || t k))
    (λ k h.
    let a = bit-bit_or (bits_of n s) (bits_of n t) k in
    let b = bit_bits n s k h in
    let c = bit_bits n t k h in
    let d = bit_bits n (λ k. s k || t k) k h in
    cc)

-- one bit more in front
pub bits_front : (n : ℕ) (t : ℕ → Bool) → bits_of (suc n) t ≡ bits_of n (λ k. t (suc k)) * 2 + bool_byte (t 0)
unfolding bits_of
bits_front zero t = front (t 0)
  where
    front : (b : Bool) → 0 + cond b (2 ^ 0) 0 ≡ 0 * 2 + bool_byte b
    front true = refl
    front false = refl
bits_front (suc n) t =
    let a = bits_front n t in
    let p = pow-suc 2 n in
    double (t (suc n)) a p
  where
    double : (b : Bool) → bits_of n t + cond (t n) (2 ^ n) 0 ≡ bits_of n (λ k. t (suc k)) * 2 + bool_byte (t 0) → 2 ^ suc n ≡ 2 ^ n * 2
        → bits_of n t + cond (t n) (2 ^ n) 0 + cond b (2 ^ suc n) 0 ≡ (bits_of n (λ k. t (suc k)) + cond b (2 ^ n) 0) * 2 + bool_byte (t 0)
    double true a p = omega arith
    double false a p = omega arith
