-- Bits of a number: one of them set, and that a number below 2 ^ n is known by its first n bits.
use Rattle.std.proofs.Common.{◌≡◌, ℕ, zero, suc, ◌+◌, ◌-◌, ◌*◌, ◌/◌, ◌%◌, ◌^◌, ◌<◌, ◌≤◌, Bool, true, false, not, ◌&&◌, ◌||◌, eqb, ltb, sym, refl, ap, ◌∙◌, ⊎_elim, pow-suc, arith, pow_mono}
use mathlib.Core.Bool.{and_comm, or_comm}
use native.Mathlib.Nat.{add-mul-div_right, div-eq_of_lt}
use Rattle.std.specs.Int.Bits.{and_zero_r}
use lib.Bits.{bit_and, bit_or}
use Rattle.std.proofs.lemmas.Nat.{and_block, and_mask, and_mod, and_shr, div-add-mod', mod_below, one_shl, or_mod, or_shr, pow-add, pow_below, pow_pos, shl-shr, shr_high, shr-shr}
use Rattle.std.proofs.lemmas.Bool.{cases_lt, cases_order, eq-eqb, false≢true, le-ltb, lt-ltb, ne_eqb}
use Rattle.model.specs.Pictures.{bit}

-- what an operation on numbers that works bit by bit does to one bit, from what it does to 0 and 1
module _ (op : ℕ → ℕ → ℕ) (join : Bool → Bool → Bool)
    (halves : (a b k : ℕ) → op a b / 2 ^ k ≡ op (a / 2 ^ k) (b / 2 ^ k))
    (rests : (a b k : ℕ) → op a b % 2 ^ k ≡ op (a % 2 ^ k) (b % 2 ^ k))
    (none : eqb (op 0 0) 1 ≡ join false false) (right : eqb (op 0 1) 1 ≡ join false true)
    (left : eqb (op 1 0) 1 ≡ join true false) (both : eqb (op 1 1) 1 ≡ join true true) where
  one_bit : (p q : ℕ) → p < 2 → q < 2 → eqb (op p q) 1 ≡ join (eqb p 1) (eqb q 1)
  one_bit zero zero g h = none
  one_bit zero (suc zero) g h = right
  one_bit (suc zero) zero g h = left
  one_bit (suc zero) (suc zero) g h = both
  one_bit (suc (suc p)) q g h = absurd (omega arith)
  one_bit zero (suc (suc q)) g h = absurd (omega arith)
  one_bit (suc zero) (suc (suc q)) g h = absurd (omega arith)

  each_bit : (a b k : ℕ) → bit (op a b) k ≡ join (bit a k) (bit b k)
  unfolding bit
  each_bit a b k =
      let x = a / 2 ^ k in
      let y = b / 2 ^ k in
      ap (λ (n : ℕ). eqb (n % 2) 1) (halves a b k)
      ∙ ap (λ (n : ℕ). eqb n 1) (rests x y 1)
      ∙ one_bit (x % 2) (y % 2) (mod_below x 2 (omega arith)) (mod_below y 2 (omega arith))

pub bit-bit_or : (a b k : ℕ) → bit (bit_or a b) k ≡ (bit a k || bit b k)
bit-bit_or = each_bit bit_or ◌||◌ or_shr or_mod refl refl refl refl

-- the law of one bit; kept, though no proof cites it, since it is named in docs/PORT.md
pub one_or : (p q : ℕ) → p < 2 → q < 2 → eqb (bit_or p q) 1 ≡ (eqb p 1 || eqb q 1)
one_or = one_bit bit_or ◌||◌ or_shr or_mod refl refl refl refl

pub bit-bit_and : (a b k : ℕ) → bit (bit_and a b) k ≡ (bit a k && bit b k)
bit-bit_and = each_bit bit_and ◌&&◌ and_shr and_mod refl refl refl refl

-- no bit is set from where a number ends
pub bit_past : (n k : ℕ) → n < 2 ^ k → bit n k ≡ false
unfolding bit
bit_past n k h = rw (div-eq_of_lt {n = n} {m = 2 ^ k} h)

pub bit_none : (k : ℕ) → bit 0 k ≡ false
bit_none k = bit_past 0 k (pow_pos k)

-- a power of two added above a number's own bits
pub bit_top : (n k : ℕ) → n < 2 ^ k → bit (n + 2 ^ k) k ≡ true
unfolding bit
bit_top n k h =
    let e : n + 2 ^ k ≡ 1 * 2 ^ k + n = omega arith in
    let q : (1 * 2 ^ k + n) / 2 ^ k ≡ 1 = shr_high 1 k n h in
    eq-eqb ((n + 2 ^ k) / 2 ^ k % 2) 1 (ap (λ (x : ℕ). x / 2 ^ k % 2) e ∙ ap (λ (x : ℕ). x % 2) q)

-- it changes no lower bit
pub bit_under : (n k j : ℕ) → j < k → bit (n + 2 ^ k) j ≡ bit n j
unfolding bit
bit_under n k j h =
    let m = k - suc j in
    let e : k ≡ suc m + j = omega arith in
    let p : 2 ^ k ≡ 2 ^ suc m * 2 ^ j = ap (λ (x : ℕ). 2 ^ x) e ∙ pow-add 2 (suc m) j in
    let q : (n + 2 ^ k) / 2 ^ j ≡ n / 2 ^ j + 2 ^ suc m = ap (λ (x : ℕ). (n + x) / 2 ^ j) p ∙ add-mul-div_right n (2 ^ suc m) {z = 2 ^ j} (pow_pos j) in
    let s = pow-suc 2 m in
    let r : (n / 2 ^ j + 2 ^ suc m) % 2 ≡ n / 2 ^ j % 2 = omega arith in
    ap (λ (x : ℕ). eqb x 1) (ap (λ (x : ℕ). x % 2) q ∙ r)

-- a power of two over a smaller one is even
bit_low : (k j : ℕ) → j < k → bit (2 ^ k) j ≡ false
unfolding bit
bit_low k j h =
    let m = k - suc j in
    let e : k ≡ suc m + j = omega arith in
    let p : 2 ^ k ≡ 2 ^ suc m * 2 ^ j = ap (λ (n : ℕ). 2 ^ n) e ∙ pow-add 2 (suc m) j in
    let q : 2 ^ k / 2 ^ j ≡ 2 ^ m * 2 = ap (λ (n : ℕ). n / 2 ^ j) p ∙ shl-shr (2 ^ suc m) j ∙ pow-suc 2 m in
    ne_eqb (2 ^ k / 2 ^ j % 2) 1 (λ z. omega arith)

bit_here : (k : ℕ) → bit (2 ^ k) k ≡ true
unfolding bit
bit_here k =
    let q : 2 ^ k / 2 ^ k ≡ 1 = ap (λ (n : ℕ). n / 2 ^ k) (omega arith) ∙ shl-shr 1 k in
    eq-eqb (2 ^ k / 2 ^ k % 2) 1 (omega arith)

-- one bit is set in a power of two
bit_power : (k j : ℕ) → bit (2 ^ k) j ≡ eqb j k
bit_power k j =
    ⊎_elim
    (λ e. ap (λ (i : ℕ). bit (2 ^ k) i) e ∙ bit_here k ∙ sym (eq-eqb j k e))
    (⊎_elim
    (λ h. bit_low k j h ∙ sym (ne_eqb j k (λ e. omega arith)))
    (λ h. bit_past (2 ^ k) j (pow_below k j h) ∙ sym (ne_eqb j k (λ e. omega arith))))
    (cases_order j k)

-- bit k set
pub bit_set : (n k j : ℕ) → bit (bit_or n (2 ^ k)) j ≡ (eqb j k || bit n j)
bit_set n k j =
    bit-bit_or n (2 ^ k) j
    ∙ or_comm (bit n j) (bit (2 ^ k) j)
    ∙ ap (λ (b : Bool). b || bit n j) (bit_power k j)

-- the same in a number of w bits, where the one of bit k is shifted there
pub bit_joined : (w n k j : ℕ) → k < w → bit (bit_or n (1 * 2 ^ k % 2 ^ w)) j ≡ (eqb j k || bit n j)
bit_joined w n k j h = ap (λ (m : ℕ). bit (bit_or n m) j) (one_shl k w h) ∙ bit_set n k j

-- a number shifted, and its lowest bit taken
pub bit_shifted : (n k : ℕ) → eqb (bit_and (n / 2 ^ k) 1) 1 ≡ bit n k
unfolding bit
bit_shifted n k = ap (λ (x : ℕ). eqb x 1) (and_mask (n / 2 ^ k) 1)

times_one : (x p : ℕ) → x < 2 → 0 < p → not (eqb (x * p) 0) ≡ eqb x 1
times_one zero p h l = ap not (eq-eqb (zero * p) 0 (omega arith))
times_one (suc zero) p h l = ap not (ne_eqb (suc zero * p) 0 (λ e. omega arith))
times_one (suc (suc x)) p h l = absurd (omega arith)

-- whether a number has a bit in common with the one in which just bit k is set
pub bit_common : (n k : ℕ) → not (eqb (bit_and n (2 ^ k)) 0) ≡ bit n k
unfolding bit
bit_common n k =
    let m = n / 2 ^ k in
    let r = n % 2 ^ k in
    let p = pow_pos k in
    let a : n ≡ m * 2 ^ k + r = sym (div-add-mod' n (2 ^ k)) in
    let b : 2 ^ k ≡ 1 * 2 ^ k + 0 = omega arith in
    let e : bit_and n (2 ^ k) ≡ m % 2 * 2 ^ k =
    ap (λ (x : ℕ). bit_and x (2 ^ k)) a
    ∙ ap (bit_and (m * 2 ^ k + r)) b
    ∙ and_block k m 1 r 0 (mod_below n (2 ^ k) p) p
    ∙ omega (arith, and_zero_r r, ap (λ (x : ℕ). x * 2 ^ k) (and_mask m 1))
    in
    ap (λ (x : ℕ). not (eqb x 0)) e ∙ times_one (m % 2) (2 ^ k) (mod_below m 2 (omega arith)) p

bit_half : (n k : ℕ) → bit (n / 2) k ≡ bit n (k + 1)
unfolding bit
bit_half n k =
    let e : n / 2 / 2 ^ k ≡ n / 2 ^ (1 + k) = shr-shr n 1 k in
    let f : 1 + k ≡ k + 1 = omega arith in
    rw (e, f)

-- the lowest bit is the remainder
low_same : (p q : ℕ) → p < 2 → q < 2 → eqb p 1 ≡ eqb q 1 → p ≡ q
low_same zero zero g h e = refl
low_same zero (suc zero) g h e = absurd (false≢true e)
low_same (suc zero) zero g h e = absurd (false≢true (sym e))
low_same (suc zero) (suc zero) g h e = refl
low_same (suc (suc p)) q g h e = absurd (omega arith)
low_same zero (suc (suc q)) g h e = absurd (omega arith)
low_same (suc zero) (suc (suc q)) g h e = absurd (omega arith)

bit_first : (n : ℕ) → bit n 0 ≡ eqb (n % 2) 1
unfolding bit
bit_first n = let e : n / 1 ≡ n = omega arith in ap (λ (m : ℕ). eqb (m % 2) 1) e

pub same_bits : (n a b : ℕ) → a < 2 ^ n → b < 2 ^ n → ((k : ℕ) → k < n → bit a k ≡ bit b k) → a ≡ b
same_bits zero a b g h e = omega arith
same_bits (suc n) a b g h e =
    let p = pow-suc 2 n in
    let high : a / 2 ≡ b / 2 =
    same_bits n (a / 2) (b / 2) (omega arith) (omega arith) (λ k l. bit_half a k ∙ e (k + 1) (omega arith) ∙ sym (bit_half b k))
    in
    let low : a % 2 ≡ b % 2 =
    low_same (a % 2) (b % 2) (omega arith) (omega arith) (sym (bit_first a) ∙ e 0 (omega arith) ∙ bit_first b)
    in
    omega arith

one_flip : (p : ℕ) → p < 2 → eqb (1 - p) 1 ≡ not (eqb p 1)
one_flip zero h = refl
one_flip (suc zero) h = refl
one_flip (suc (suc p)) h = absurd (omega arith)

-- every bit of a number of n bits turned over
pub bit_flip : (n a k : ℕ) → a < 2 ^ n → k < n → bit (2 ^ n - 1 - a) k ≡ not (bit a k)
bit_flip zero a k g h = absurd (omega arith)
bit_flip (suc n) a zero g h =
    let p = pow-suc 2 n in
    let e : (2 ^ suc n - 1 - a) % 2 ≡ 1 - a % 2 = omega arith in
    bit_first (2 ^ suc n - 1 - a)
    ∙ ap (λ (x : ℕ). eqb x 1) e
    ∙ one_flip (a % 2) (omega arith)
    ∙ ap not (sym (bit_first a))
bit_flip (suc n) a (suc k) g h =
    let p = pow-suc 2 n in
    let e : (2 ^ suc n - 1 - a) / 2 ≡ 2 ^ n - 1 - a / 2 = omega arith in
    let f : suc k ≡ k + 1 = omega arith in
    ap (bit (2 ^ suc n - 1 - a)) f
    ∙ sym (bit_half (2 ^ suc n - 1 - a) k)
    ∙ ap (λ (x : ℕ). bit x k) e
    ∙ bit_flip n (a / 2) k (omega arith) (omega arith)
    ∙ ap not (bit_half a k ∙ ap (bit a) (sym f))

-- n bits, all set
pub bit_full : (n k : ℕ) → k < n → bit (2 ^ n - 1) k ≡ true
bit_full n k h =
    let e : 2 ^ n - 1 ≡ 2 ^ n - 1 - 0 = omega arith in
    ap (λ (m : ℕ). bit m k) e ∙ bit_flip n 0 k (pow_pos n) h ∙ ap not (bit_none k)

-- just the lowest n bits are set
pub bit_mask : (n k : ℕ) → bit (2 ^ n - 1) k ≡ ltb k n
bit_mask n k =
    ⊎_elim
    (λ h. bit_full n k h ∙ sym (lt-ltb k n h))
    (λ h.
    let p : 2 ^ n ≤ 2 ^ k = pow_mono h in
    bit_past (2 ^ n - 1) k (omega (arith, pow_pos n)) ∙ sym (le-ltb k n h))
    (cases_lt k n)

-- bit k cleared in a number of w bits
pub bit_cleared : (w n k j : ℕ) → k < w → j < w → bit (bit_and n (2 ^ w - 1 - 2 ^ k)) j ≡ (not (eqb j k) && bit n j)
bit_cleared w n k j h l =
    bit-bit_and n (2 ^ w - 1 - 2 ^ k) j
    ∙ and_comm (bit n j) (bit (2 ^ w - 1 - 2 ^ k) j)
    ∙ ap (λ (b : Bool). b && bit n j) (bit_flip w (2 ^ k) j (pow_below k w h) l ∙ ap not (bit_power k j))
