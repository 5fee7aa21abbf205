-- Numbers of few bits put side by side in one word: the word is their sum, each shifted up by those before it.
use Rattle.std.proofs.Common.{◌≡◌, ℕ, ◌+◌, ◌-◌, ◌*◌, ◌%◌, ◌^◌, ◌<◌, ◌≤◌, false, cond, eqb, ltb, ap, ◌∙◌, ⊎_elim, arith, pow_mono}
use lib.Bits.{bit_or}
use Rattle.std.proofs.lemmas.Nat.{mul-add-lt, or_comm, or_shifted, pow-add, shl_whole}
use Rattle.std.proofs.lemmas.Nat.Bits.{bit_at_cat_high, bit_at_cat_low}
use Rattle.std.proofs.lemmas.Bool.{cases_lt, cond-false, cond_above, cond_below, le-ltb}
use Rattle.model.specs.Pictures.{bit}
use Rattle.model.proofs.Bits.{bit_past}
use Rattle.grid.specs.Shown.{side_by_side}

-- the bits of a number put above k others
cat_low : (a k b j : ℕ) → j < k → bit (a * 2 ^ k + b) j ≡ bit b j
unfolding bit
cat_low a k b j h = ap (λ (m : ℕ). eqb m 1) (bit_at_cat_low a k b j h)

cat_high : (a k b j : ℕ) → b < 2 ^ k → k ≤ j → bit (a * 2 ^ k + b) j ≡ bit a (j - k)
unfolding bit
cat_high a k b j l h = ap (λ (m : ℕ). eqb m 1) (bit_at_cat_high a k b j l h)

-- the word that holds three numbers of n bits side by side
abbrev pub word_of : ℕ → ℕ → ℕ → ℕ → ℕ
word_of n a b c = bit_or (bit_or a (b * 2 ^ n % 2 ^ 64)) (c * 2 ^ (2 * n) % 2 ^ 64)

module _ (n a b c : ℕ) (few : n ≤ 16) (low : a < 2 ^ n) (middle : b < 2 ^ n) (high : c < 2 ^ n) where
  -- the first two of them
  two_small : b * 2 ^ n + a < 2 ^ (2 * n)
  two_small =
      let e : 2 * n ≡ n + n = omega arith in
      omega (arith, mul-add-lt b (2 ^ n) a (2 ^ n) middle low, ap (λ (m : ℕ). 2 ^ m) e, pow-add 2 n n)

  word_sum : word_of n a b c ≡ c * 2 ^ (2 * n) + (b * 2 ^ n + a)
  word_sum =
      let p : b * 2 ^ n % 2 ^ 64 ≡ b * 2 ^ n = shl_whole b n n 64 middle (omega arith) in
      let q : c * 2 ^ (2 * n) % 2 ^ 64 ≡ c * 2 ^ (2 * n) = shl_whole c n (2 * n) 64 high (omega arith) in
      let r : bit_or a (b * 2 ^ n) ≡ b * 2 ^ n + a = or_comm a (b * 2 ^ n) ∙ or_shifted b n a low in
      ap (λ (x : ℕ). bit_or (bit_or a x) (c * 2 ^ (2 * n) % 2 ^ 64)) p
      ∙ ap (λ (x : ℕ). bit_or (bit_or a (b * 2 ^ n)) x) q
      ∙ ap (λ (x : ℕ). bit_or x (c * 2 ^ (2 * n))) r
      ∙ or_comm (b * 2 ^ n + a) (c * 2 ^ (2 * n))
      ∙ or_shifted c (2 * n) (b * 2 ^ n + a) two_small

  pub word_bit : (f : ℕ) → bit (word_of n a b c) f ≡ side_by_side n a b c f
  word_bit f =
      ap (λ (m : ℕ). bit m f) word_sum
      ∙ ⊎_elim
      (λ h. cat_low c (2 * n) (b * 2 ^ n + a) f (omega arith) ∙ cat_low b n a f h ∙ cond_below f n _ _ h)
      (λ h.
      cond_above f n (bit a f) _ _ h
      (⊎_elim
      (λ l. cat_low c (2 * n) (b * 2 ^ n + a) f (omega arith) ∙ cat_high b n a f low h ∙ cond_below f (n + n) _ _ l)
      (λ l.
      let e : f - 2 * n ≡ f - (n + n) = omega arith in
      cat_high c (2 * n) (b * 2 ^ n + a) f two_small (omega arith) ∙ cond_above f (n + n) (bit b (f - n)) _ _ l (ap (bit c) e))
      (cases_lt f (n + n))))
      (cases_lt f n)

  pub word_small : word_of n a b c < 2 ^ 64
  word_small =
      let bits : 2 * n + n ≤ 48 = omega arith in
      let wide : 2 ^ (2 * n + n) ≤ 2 ^ 48 = pow_mono bits in
      omega (arith, word_sum, mul-add-lt c (2 ^ (2 * n)) (b * 2 ^ n + a) (2 ^ n) high two_small, pow-add 2 (2 * n) n, wide)

  -- no bit is set behind the three
  pub side_past : (f : ℕ) → 3 * n ≤ f → side_by_side n a b c f ≡ false
  side_past f h =
      let p : 2 ^ n ≤ 2 ^ (f - (n + n)) = pow_mono (omega arith) in
      cond-false (ltb f n) (bit a f) (cond (ltb f (n + n)) (bit b (f - n)) (bit c (f - (n + n)))) (le-ltb f n (omega arith))
      ∙ cond-false (ltb f (n + n)) (bit b (f - n)) (bit c (f - (n + n))) (le-ltb f (n + n) (omega arith))
      ∙ bit_past c (f - (n + n)) (omega arith)
