use Rattle.std.proofs.Common.{◌≡◌, ℕ, ◌+◌, ◌-◌, drop, ap, ◌∙◌, zero-add, arith}
use native.Mathlib.Nat.{sub-zero}
use Rattle.feeder.specs.Layouts.{operator_size, operators_size}
use Rattle.feeder.proofs.Sizes.{size_none, size_step}
use Rattle.feeder.proofs.layout.operators_bytes.Goals as goal

pub loop-init : goal.loop-init
loop-init c = (omega arith, zero-add _ ∙ ap (λ (k : ℕ). operators_size k c.args.bytes.now) (sub-zero c.args.rows), omega arith)

pub returns-in_err-own : goal.returns-in_err-own
returns-in_err-own c =
    rw c.from_residual.ensures (omega (arith, size_step c.args.rows c.loop.counter c.loop.rest.now c.loop-test.true, c.loop.invariant, c.in_err-own.ensures))

pub returns-in_err-back : goal.returns-in_err-back
returns-in_err-back c =
    rw c.from_residual-in_err-back.ensures
    (omega (arith, size_step c.args.rows c.loop.counter c.loop.rest.now c.loop-test.true, c.loop.invariant, c.in_ok-own.ensures.1, c.in_err-back.ensures.cases))

pub loop-preserved : goal.loop-preserved
loop-preserved c =
    let rest = c.loop.rest.now in
    let own = c.in_ok-own.own in
    let back = c.in_ok-back.back.now in
    let two = c.in_ok-back.ensures.cases in
    let n : ℕ = c.args.rows - (c.loop.counter + 1) in
    let o : operators_size n back ≡ operators_size n (drop (operator_size rest) rest) =
    ap (operators_size n) two.2 ∙ ap (λ (k : ℕ). operators_size n (drop k rest)) c.in_ok-own.ensures.1
    in
    let s = size_step c.args.rows c.loop.counter rest c.loop-test.true in (
      omega (arith, two.4, c.loop.invariant.0),
      omega (arith, o, s, c.in_ok-own.ensures.1, c.loop.invariant.1),
      omega (arith, c.in_ok-own.ensures.2, c.loop.invariant.2),
    )

pub returns : goal.returns
returns c =
    let n : c.args.rows - c.loop.counter ≡ 0 = omega arith in
    let z : operators_size (c.args.rows - c.loop.counter) c.loop.rest.now ≡ 0 =
    ap (λ (k : ℕ). operators_size k c.loop.rest.now) n ∙ size_none c.loop.rest.now
    in
    (omega arith, omega arith)
