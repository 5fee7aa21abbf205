-- Drawn pictures: the picture in which just those facts hold that pass a test.
use Rattle.std.specs.Prelude.{ℕ, zero, suc, ◌+◌, ◌*◌, ◌^◌, ◌<◌, Bool, true, false, cond, List, [], ◌∷◌, slice_index, refl}
use Rattle.std.proofs.Common.{pow-suc, arith}
use Rattle.model.specs.declared.picture.Picture.{Picture}

-- the number whose bits, of the lowest n, are those that pass a test
unfoldable pub bits_of : ℕ → (ℕ → Bool) → ℕ
bits_of zero test = 0
bits_of (suc n) test = bits_of n test + cond (test n) (2 ^ n) 0

pub bits_below : (n : ℕ) (test : ℕ → Bool) → bits_of n test < 2 ^ n
unfolding bits_of
bits_below zero test = omega arith
bits_below (suc n) test =
    let p = pow-suc 2 n in
    let b = bits_below n test in
    elim (test n) as (λ v. bits_of n test + cond v (2 ^ n) 0 < 2 ^ suc n) [ true ↦ omega arith | false ↦ omega arith ]

-- some words of a picture, from word i on
abbrev pub words_from : ℕ → ℕ → (ℕ → Bool) → List ℕ
words_from zero i test = []
words_from (suc n) i test = bits_of 64 (λ k. test (64 * i + k)) ∷ words_from n (suc i) test

pub words_small : (n i : ℕ) (test : ℕ → Bool) (j : ℕ) → slice_index (words_from n i test) j < 2 ^ 64
words_small zero i test j = omega arith
words_small (suc n) i test zero = bits_below 64 (λ k. test (64 * i + k))
words_small (suc n) i test (suc j) = words_small n (suc i) test j

-- the picture in which just those facts hold, of the 512, that pass a test
unfoldable pub picture_of : (ℕ → Bool) → Picture
picture_of test = record { words = words_from 8 0 test; places = refl; small = words_small 8 0 test }
