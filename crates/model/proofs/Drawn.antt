-- A picture drawn from a test: the facts that hold in it are those that pass, and no other picture has just these.
use Rattle.std.proofs.Common.{◌≡◌, ℕ, zero, suc, ◌+◌, ◌*◌, ◌/◌, ◌%◌, ◌^◌, ◌<◌, ◌≤◌, Bool, true, false, cond, ◌&&◌, ltb, get_or, sym, ap, ◌∙◌, ⊎_elim, arith, pow_mono}
use Rattle.std.proofs.lemmas.Nat.{mod_below}
use Rattle.std.proofs.lemmas.Bool.{cases_eq, cases_lt, le-ltb, lt-ltb}
use Rattle.model.specs.declared.picture.Picture.{Picture}
use Rattle.model.specs.Drawn.{bits_below, bits_of, picture_of, words_from}
use Rattle.model.specs.Pictures.{bit, holds}
use Rattle.model.proofs.Bits.{bit_past, bit_top, bit_under}
use Rattle.model.proofs.Pictures.{same_holds}

-- bit k of a number made from a test
pub bit_bits : (n : ℕ) (test : ℕ → Bool) (k : ℕ) → k < n → bit (bits_of n test) k ≡ test k
unfolding bits_of
bit_bits zero test k h = absurd (omega arith)
bit_bits (suc n) test k h =
    ⊎_elim
    (λ q. ap (bit (bits_of n test + cond (test n) (2 ^ n) 0)) q ∙ top (test n) ∙ ap test (sym q))
    (λ q. under (test n) (omega arith) ∙ bit_bits n test k (omega arith))
    (cases_eq k n)
  where
    top : (b : Bool) → bit (bits_of n test + cond b (2 ^ n) 0) n ≡ b
    top true = bit_top (bits_of n test) n (bits_below n test)
    top false = ap (λ (m : ℕ). bit m n) (omega arith) ∙ bit_past (bits_of n test) n (bits_below n test)

    under : (b : Bool) → k < n → bit (bits_of n test + cond b (2 ^ n) 0) k ≡ bit (bits_of n test) k
    under true l = bit_under (bits_of n test) n k l
    under false l = ap (λ (m : ℕ). bit m k) (omega arith)

-- any bit of it: none is set from bit n on
pub bit_of_bits : (n : ℕ) (test : ℕ → Bool) (k : ℕ) → bit (bits_of n test) k ≡ (ltb k n && test k)
bit_of_bits n test k =
    ⊎_elim
    (λ h. bit_bits n test k h ∙ ap (λ (b : Bool). b && test k) (sym (lt-ltb k n h)))
    (λ h.
    let p : 2 ^ n ≤ 2 ^ k = pow_mono h in
    bit_past (bits_of n test) k (omega (arith, bits_below n test)) ∙ ap (λ (b : Bool). b && test k) (sym (le-ltb k n h)))
    (cases_lt k n)

-- the words of a picture made from a test
word_at : (n i : ℕ) (test : ℕ → Bool) (j : ℕ) → j < n → get_or (words_from n i test) j 0 ≡ bits_of 64 (λ k. test (64 * (i + j) + k))
word_at zero i test j h = absurd (omega arith)
word_at (suc n) i test zero h = let p : i + zero ≡ i = omega arith in ap (λ (x : ℕ). bits_of 64 (λ k. test (64 * x + k))) (sym p)
word_at (suc n) i test (suc j) h =
    let p : suc i + j ≡ i + suc j = omega arith in
    word_at n (suc i) test j (omega arith) ∙ ap (λ (x : ℕ). bits_of 64 (λ k. test (64 * x + k))) p

pub holds_picture_of : (test : ℕ → Bool) (f : ℕ) → f < 512 → holds (picture_of test) f ≡ test f
unfolding holds picture_of
holds_picture_of test f h =
    let w = word_at 8 0 test (f / 64) (omega arith) in
    let e : 64 * (0 + f / 64) + f % 64 ≡ f = omega arith in
    ap (λ (x : ℕ). bit x (f % 64)) w
    ∙ bit_bits 64 (λ k. test (64 * (0 + f / 64) + k)) (f % 64) (mod_below f 64 (omega arith))
    ∙ ap test e

pub drawn : (p : Picture) (test : ℕ → Bool) → ((f : ℕ) → f < 512 → holds p f ≡ test f) → p ≡ picture_of test
drawn p test e = same_holds p (picture_of test) (λ f h. e f h ∙ sym (holds_picture_of test f h))
