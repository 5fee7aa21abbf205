use Rattle.std.proofs.Common.{◌≡◌, ℕ, ◌*◌, ◌<◌, ◌≤◌, List, length, get_or, take, drop, true, Some, None, Option, sym, ap, ◌∙◌, arith}
use Rattle.std.specs.List.{flat_map, list_all}
use Rattle.std.proofs.lemmas.List.{get_or-take, length-drop}
use Rattle.std.proofs.lemmas.List.Folds.{list_all-append}
use Rattle.std.proofs.lemmas.Bool.{and_from}
use Rattle.codec.specs.Codes.{Decoded}
use Rattle.plants.specs.declared.literal.LiftedLiteral.{LiftedLiteral}
use Rattle.plants.specs.declared.operator.Operator.{Operator}
use Rattle.plants.specs.Lifted.{lifted_bytes, lifted_proper}
use Rattle.plants.specs.Operators.{OperatorOf, operator_bytes}
use Rattle.feeder.specs.Operators.{operator_holds}
use Rattle.feeder.proofs.Shapes.{held_parts, joined_parts, literals_known, parts}
use Rattle.feeder.proofs.operators.operator_of.Goals as goal

-- the three counts and the two runs of literals, as the code cuts them and as the bytes have them
record Cut (bytes head front back : List ℕ) : Type 0 where
  parameters : get_or head 0 0 ≡ get_or bytes 0 0
  needs : get_or head 1 0 ≡ get_or bytes 1 0
  effects : get_or head 2 0 ≡ get_or bytes 2 0
  front_is : front ≡ take (4 * get_or bytes 1 0) (drop 3 bytes)
  back_is : back ≡ drop (4 * get_or bytes 1 0) (drop 3 bytes)

cut : (bytes head literals front back : List ℕ) → head ≡ take 3 bytes → literals ≡ drop 3 bytes → front ≡ take (4 * get_or head 1 0) literals
    → back ≡ drop (4 * get_or head 1 0) literals → Cut bytes head front back
cut bytes head literals front back h l f b =
    let count : (i : ℕ) → i < 3 → get_or head i 0 ≡ get_or bytes i 0 =
    λ i k. ap (λ (t : List ℕ). get_or t i 0) h ∙ get_or-take 3 bytes i 0 k
    in
    let n = count 1 (omega arith) in
    record {
      parameters = count 0 (omega arith);
      needs = n;
      effects = count 2 (omega arith);
      front_is = f ∙ ap (λ (t : List ℕ). take (4 * get_or head 1 0) t) l ∙ ap (λ (k : ℕ). take (4 * k) (drop 3 bytes)) n;
      back_is = b ∙ ap (λ (t : List ℕ). drop (4 * get_or head 1 0) t) l ∙ ap (λ (k : ℕ). drop (4 * k) (drop 3 bytes)) n;
    }

-- what was read: parameters and two lists of literals, whose bytes are those behind the head
record Read (bytes : List ℕ) (n : ℕ) (xs ys : List LiftedLiteral) : Type 0 where
  long : 3 ≤ length bytes
  parameters : n ≡ get_or bytes 0 0
  room : 4 * get_or bytes 1 0 ≤ length (drop 3 bytes)
  rest : length (drop (4 * get_or bytes 1 0) (drop 3 bytes)) ≡ 4 * get_or bytes 2 0
  needs : flat_map lifted_bytes xs ≡ take (4 * get_or bytes 1 0) (drop 3 bytes)
  effects : flat_map lifted_bytes ys ≡ drop (4 * get_or bytes 1 0) (drop 3 bytes)
  needs_held : list_all lifted_proper xs ≡ true
  effects_held : list_all lifted_proper ys ≡ true

made : (bytes : List ℕ) (n : ℕ) (xs ys : List LiftedLiteral) (r : Option Operator) → Read bytes n xs ys → OperatorOf n xs ys r
    → Decoded operator_bytes operator_holds bytes r
made bytes n xs ys (Some op) d m = (
  joined_parts op bytes d.long (m.0 ∙ d.parameters) d.rest d.room (ap (flat_map lifted_bytes) m.1 ∙ d.needs) (ap (flat_map lifted_bytes) m.2 ∙ d.effects),
  list_all-append lifted_proper op.needs op.effects
      ∙ and_from (list_all lifted_proper op.needs) (list_all lifted_proper op.effects)
      (ap (list_all lifted_proper) m.1 ∙ d.needs_held) (ap (list_all lifted_proper) m.2 ∙ d.effects_held),
)
made bytes n xs ys None d m =
    λ op k q.
    let p = parts op bytes q in
    let held = held_parts op k in
    let a : op.parameters ≡ n = sym p.parameters ∙ sym d.parameters in
    let b : op.needs ≡ xs = literals_known op.needs xs held.0 d.needs_held (sym p.front ∙ sym d.needs) in
    let f : op.effects ≡ ys = literals_known op.effects ys held.1 d.effects_held (sym p.back ∙ sym d.effects) in
    m (record { narrow = omega (arith, a, op.narrow); before = omega (arith, ap length b, op.before); after = omega (arith, ap length f, op.after) })

pub returns-in_err-front : goal.returns-in_err-front
returns-in_err-front c =
    let head = c.in_ok-head.ensures.cases in
    rw c.from_residual-in_err-front.ensures
    (λ op k q.
    let bytes = c.args.bytes.now in
    let p = parts op bytes q in
    let n : get_or c.in_ok-head.head.now 1 0 ≡ get_or bytes 1 0 = ap (λ (t : List ℕ). get_or t 1 0) head.0 ∙ get_or-take 3 bytes 1 0 (omega arith) in
    omega (arith, n, p.needs, p.long, head.2, c.in_err-front.ensures.cases))

pub returns-then-back-after : goal.returns-then-back-after
returns-then-back-after c =
    λ op k q.
    let bytes = c.args.bytes.now in
    let p = parts op bytes q in
    let head = c.in_ok-head.ensures.cases in
    let two = c.in_ok-front.ensures.cases in
    let u = cut bytes c.in_ok-head.head.now c.in_ok-head.literals.now c.in_ok-front.front.now c.in_ok-front.back.now head.0 head.1 two.1 two.2 in
    c.if-back-after.true (omega (arith, two.4, head.2, p.long, p.needs, p.effects, u.needs, u.effects))

pub returns-in_err-needs : goal.returns-in_err-needs
returns-in_err-needs c =
    let head = c.in_ok-head.ensures.cases in
    let two = c.in_ok-front.ensures.cases in
    let bytes = c.args.bytes.now in
    let u = cut bytes c.in_ok-head.head.now c.in_ok-head.literals.now c.in_ok-front.front.now c.in_ok-front.back.now head.0 head.1 two.1 two.2 in
    rw c.from_residual-in_err-needs.ensures
    (λ op k q.
    let p = parts op bytes q in
    c.in_err-needs.ensures op.needs op.before (held_parts op k).0 (sym p.front ∙ sym u.front_is))

pub returns-in_err-effects : goal.returns-in_err-effects
returns-in_err-effects c =
    let head = c.in_ok-head.ensures.cases in
    let two = c.in_ok-front.ensures.cases in
    let bytes = c.args.bytes.now in
    let u = cut bytes c.in_ok-head.head.now c.in_ok-head.literals.now c.in_ok-front.front.now c.in_ok-front.back.now head.0 head.1 two.1 two.2 in
    rw c.from_residual-in_err-effects.ensures
    (λ op k q.
    let p = parts op bytes q in
    c.in_err-effects.ensures op.effects op.after (held_parts op k).1 (sym p.back ∙ sym u.back_is))

pub returns : goal.returns
returns c =
    let head = c.in_ok-head.ensures.cases in
    let two = c.in_ok-front.ensures.cases in
    let bytes = c.args.bytes.now in
    let u = cut bytes c.in_ok-head.head.now c.in_ok-head.literals.now c.in_ok-front.front.now c.in_ok-front.back.now head.0 head.1 two.1 two.2 in
    let read = c.in_ok-needs.ensures in
    let read2 = c.in_ok-effects.ensures in
    made bytes _ _ _ c.of.result
    (record {
      long = omega (arith, head.2);
      parameters = u.parameters;
      room = omega (arith, two.0, head.2, u.needs, length-drop 3 bytes);
      rest = ap length (sym u.back_is) ∙ omega (arith, c.if-back-after.false, u.effects);
      needs = ap (flat_map lifted_bytes) c.as_slice.ensures.same ∙ read.0 ∙ u.front_is;
      effects = ap (flat_map lifted_bytes) c.as_slice-2.ensures.same ∙ read2.0 ∙ u.back_is;
      needs_held = ap (list_all lifted_proper) c.as_slice.ensures.same ∙ read.1;
      effects_held = ap (list_all lifted_proper) c.as_slice-2.ensures.same ∙ read2.1;
    })
    c.of.ensures
