-- Each turn puts the answer of one position more below those that are there.
use Rattle.std.proofs.Common.{◌≡◌, ℕ, suc, ◌+◌, ◌-◌, ◌*◌, ◌%◌, ◌^◌, ◌<◌, ◌≤◌, Bool, true, false, ◌&&◌, ◌||◌, sym, ap, ◌∙◌, arith, pow_mono, rules}
use Rattle.std.specs.Int.{from_bool}
use Rattle.std.proofs.lemmas.Nat.{or_shifted}
use native.Mathlib.Nat.{mod-eq_of_lt}
use lib.Bits.{bit_or}
use Rattle.model.specs.Drawn.{bits_below, bits_of}
use Rattle.model.specs.Pictures.{bit}
use Rattle.ltl.specs.Classes.{ahead as going}
use Rattle.ltl.proofs.Bitwise.{bits_front, bits_same}
use Rattle.ltl.proofs.masks.ahead.Goals as goal

-- a bit is 0 or 1
from_bool_small : (b : Bool) → from_bool b < 2 ^ 1
from_bool_small true = omega arith
from_bool_small false = omega arith

module _ (n : ℕ) (end : Bool) (stay hit : ℕ → Bool) where
  -- the answer of a position
  abbrev answer : ℕ → Bool
  answer i = going (n - i) end stay hit i

  -- those of the last k positions, before which i stand
  abbrev last : ℕ → ℕ → ℕ
  last k i = bits_of k (λ j. going (k - j) end stay hit (i + j))

  -- a position's answer from that of the next
  stepped : (i : ℕ) → i < n → answer i ≡ (hit i || (stay i && answer (suc i)))
  unfolding going
  stepped i h = let e : n - i ≡ suc (n - suc i) = omega arith in ap (λ (m : ℕ). going m end stay hit i) e

  -- a bit more below the bits of k positions
  drawn_more : (k i : ℕ) → k ≤ 24 → bit_or (last k (suc i) * 2 % 2 ^ 32) (from_bool (going (suc k) end stay hit i)) ≡ last (suc k) i
  drawn_more k i few =
      let x = last k (suc i) in
      let first = going (suc k) end stay hit i in
      let wide : 2 ^ k ≤ 2 ^ 24 = pow_mono few in
      let fits : x * 2 < 2 ^ 32 = omega (arith, bits_below k (λ j. going (k - j) end stay hit (suc i + j))) in
      let p : suc k - 0 ≡ suc k = omega arith in
      let q : i + 0 ≡ i = omega arith in
      let later = bits_same k (λ j. going (k - j) end stay hit (suc i + j)) (λ j. going (suc k - suc j) end stay hit (i + suc j))
      (λ j h. let a : k - j ≡ suc k - suc j = omega arith in let b : suc i + j ≡ i + suc j = omega arith in cc)
      in
      ap (λ (m : ℕ). bit_or m (from_bool first)) (mod-eq_of_lt fits)
      ∙ or_shifted x 1 (from_bool first) (from_bool_small first)
      ∙ cc (bits_front k (λ j. going (suc k - j) end stay hit (i + j)))

pub loop-i-init : goal.loop-i-init
unfolding going bits_of
loop-i-init c = let e : c.args.n - c.args.n ≡ 0 = omega arith in record {
  on = ap (λ (m : ℕ). going m c.args.end (bit c.args.stay) (bit c.args.hit) c.args.n) (sym e);
  drawn = ap (λ (m : ℕ). bits_of m (λ j. going (m - j) c.args.end (bit c.args.stay) (bit c.args.hit) (c.args.n + j))) (sym e);
}

pub loop-i-preserved : goal.loop-i-preserved
loop-i-preserved c =
    let n = c.args.n in
    let next = c.loop-i.i in
    let i = next - 1 in
    let k = n - next in
    let h = bit c.args.hit in
    let s = bit c.args.stay in
    let was = going k c.args.end s h next in
    let on = c.if-has.on in
    let step : on ≡ (h i || (s i && was)) = search (rules, c.loop-i.invariant.on) in
    let p : suc i ≡ next = omega arith in
    let q : suc k ≡ n - i = omega arith in
    let e : on ≡ answer n c.args.end s h i =
    step ∙ sym (stepped n c.args.end s h i (omega arith) ∙ ap (λ (m : ℕ). h i || (s i && answer n c.args.end s h m)) p)
    in
    record {
      on = e;
      drawn = ap (λ (m : ℕ). bit_or (m * 2 % 2 ^ 32) c.from.result) (c.loop-i.invariant.drawn ∙ ap (last n c.args.end s h k) (sym p))
          ∙ ap (bit_or (last n c.args.end s h k (suc i) * 2 % 2 ^ 32)) (c.from.ensures ∙ ap from_bool (e ∙ ap (λ (m : ℕ). going m c.args.end s h i) (sym q)))
          ∙ drawn_more n c.args.end s h k i (omega arith)
          ∙ ap (λ (m : ℕ). last n c.args.end s h m i) q;
    }
