-- The bit of a section is what its test said, and no other bit changes.
use Rattle.std.proofs.Common.{◌≡◌, ℕ, ◌^◌, ◌<◌, ◌≤◌, Bool, true, false, cond, ◌||◌, eqb, sym, refl, ap, ◌∙◌, subst, ⊎_elim, arith, pow_mono}
use mathlib.Core.Bool.{or_comm}
use lib.Bits.{bit_or}
use Rattle.std.proofs.lemmas.Bool.{cases_eq, cases_lt, cond-false, cond-true, eq-eqb, eqb-true, ne_eqb, or_from}
use Rattle.model.specs.Pictures.{bit}
use Rattle.model.proofs.Bits.{bit-bit_or, bit_none, bit_past}
use Rattle.grid.proofs.sections.Sections.those.Goals as goal
use Rattle.grid.proofs.sections.Sections.those.Goals.{then-test, else-test}

cond_or : (here : Bool) (old : Bool) → (here || old) ≡ cond here true old
cond_or true old = refl
cond_or false old = refl

cond_same : (here old : Bool) → (here ≡ true → old ≡ false) → old ≡ cond here false old
cond_same true old e = e refl
cond_same false old e = refl

-- a bit set, above those that are there
bit_set : (old mask n : ℕ) → mask < 2 ^ 16 → n < 16 → ((k : ℕ) → k < 16 → bit mask k ≡ eqb k n) → ((k : ℕ) → n ≤ k → bit old k ≡ false)
    → (k : ℕ) → bit (bit_or old mask) k ≡ cond (eqb k n) true (bit old k)
bit_set old mask n small few here none k =
    ⊎_elim
    (λ h. bit-bit_or old mask k ∙ or_comm (bit old k) (bit mask k) ∙ ap (λ (b : Bool). b || bit old k) (here k h) ∙ cond_or (eqb k n) (bit old k))
    (λ h.
    let p : 2 ^ 16 ≤ 2 ^ k = pow_mono h in
    let q = none k (omega arith) in
    bit-bit_or old mask k
    ∙ or_from (bit old k) (bit mask k) q (bit_past mask k (omega arith))
    ∙ sym (cond-false (eqb k n) true (bit old k) (ne_eqb k n (λ e. omega arith)) ∙ q))
    (cases_lt k 16)

pub loop-section-init : goal.loop-section-init
loop-section-init g c = record { tested = λ k h. absurd (omega arith); others = λ k h. bit_none k }

pub loop-section-preserved : goal.loop-section-preserved
loop-section-preserved g c =
    let old = c.loop-section.bits in
    let n = c.loop-section.section in
    let inv = c.loop-section.invariant in
    let few : n < 16 = omega (arith, c.requires.few) in
    let each : (k : ℕ) → bit c.if-test.bits k ≡ cond (eqb k n) c.test.result (bit old k) =
    elim c.if-test.branch [
      | then-test w ↦ λ k.
          ap (λ (m : ℕ). bit m k) w.bits-is
          ∙ bit_set old w.bit_of-bits.result n w.bit_of-bits.type_inv few w.bit_of-bits.ensures inv.others k
          ∙ ap (λ (b : Bool). cond (eqb k n) b (bit old k)) (sym w.if-test.true)
      | else-test w ↦ λ k.
          ap (λ (m : ℕ). bit m k) w.bits-is
          ∙ cond_same (eqb k n) (bit old k) (λ e. inv.others k (omega (arith, eqb-true k n e)))
          ∙ ap (λ (b : Bool). cond (eqb k n) b (bit old k)) (sym w.if-test.false)
    ]
    in
    let other : (k : ℕ) → (k ≡ n → ⊥) → bit c.if-test.bits k ≡ bit old k =
    λ k e. each k ∙ cond-false (eqb k n) c.test.result (bit old k) (ne_eqb k n e)
    in
    record {
      tested = λ k h.
          ⊎_elim
          (λ e.
          let here = each k ∙ cond-true (eqb k n) c.test.result (bit old k) (eq-eqb k n e) in
          subst (goal.F-post g c.args.test k) (sym here) (subst (λ (m : ℕ). goal.F-post g c.args.test m c.test.result) (sym e) c.test.ensures))
          (λ e. subst (goal.F-post g c.args.test k) (sym (other k e)) (inv.tested k (omega arith)))
          (cases_eq k n);
      others = λ k h. other k (λ e. omega arith) ∙ inv.others k (omega arith);
    }
