use Rattle.std.proofs.Common.{◌≡◌, ℕ, ◌<◌, Bool, true, false, eqb, List, [], ◌++◌, length, take, sym, ap, ◌∙◌, arith}
use Rattle.std.specs.Bool.{then_some}
use Rattle.std.specs.List.{flat_map, list_all}
use Rattle.std.proofs.lemmas.Bool.{eqb-false, eqb-true}
use Rattle.std.proofs.lemmas.List.{append_assoc, append-nil, length-append, length_push, nil_from_length, take-append-drop, take_at}
use Rattle.codec.proofs.Coding.{joined_push, every_push}
use Rattle.plants.specs.declared.operator.Operator.{Operator}
use Rattle.plants.specs.Operators.{operator_bytes}
use Rattle.feeder.specs.Operators.{OperatorsRead, operator_holds}
use Rattle.feeder.proofs.Shapes.{begins, length_operator, next_operator, operators_known}
use Rattle.feeder.proofs.operators.operators_of.Goals as goal

-- the next operator, where the bytes are those of operators at all
next : (table xs : List Operator) (i rows : ℕ) (rest bytes : List ℕ) → length table ≡ i → i < rows → length xs ≡ rows
    → list_all operator_holds xs ≡ true → flat_map operator_bytes xs ≡ bytes → flat_map operator_bytes table ++ rest ≡ bytes
    → list_all operator_holds table ≡ true
    → (op : Operator) × (ys : List Operator) × (operator_holds op ≡ true) × (operator_bytes op ++ flat_map operator_bytes ys ≡ rest)
next table xs i rows rest bytes t h l e q v d = next_operator table xs rest d e (omega arith) (v ∙ sym q)

pub returns-in_err-operator_bytes : goal.returns-in_err-operator_bytes
returns-in_err-operator_bytes c =
    rw c.from_residual.ensures
    (λ xs l f e q.
    let v = c.loop.invariant in
    let n = next c.loop.table xs c.loop.counter c.args.rows c.loop.rest.now _ v.0 c.loop-test.true l e q v.1 v.2 in
    omega (arith, ap length (sym n.3) ∙ length-append (operator_bytes n.0) _, length_operator n.0, c.in_err-operator_bytes.ensures))

pub returns-in_err-front : goal.returns-in_err-front
returns-in_err-front c =
    rw c.from_residual-in_err-front.ensures
    (λ xs l f e q.
    let v = c.loop.invariant in
    let n = next c.loop.table xs c.loop.counter c.args.rows c.loop.rest.now _ v.0 c.loop-test.true l e q v.1 v.2 in
    let b = begins n.0 _ c.loop.rest.now n.3 in
    omega (arith, ap length (sym n.3) ∙ length-append (operator_bytes n.0) _, b.size, c.in_ok-operator_bytes.ensures.1, c.in_err-front.ensures.cases))

pub returns-in_err-operator_of : goal.returns-in_err-operator_of
returns-in_err-operator_of c =
    rw c.from_residual-in_err-operator_of.ensures
    (λ xs l f e q.
    let rest = c.loop.rest.now in
    let v = c.loop.invariant in
    let n = next c.loop.table xs c.loop.counter c.args.rows rest _ v.0 c.loop-test.true l e q v.1 v.2 in
    let b = begins n.0 _ rest n.3 in
    let own = c.in_ok-operator_bytes.field-0 in
    c.in_err-operator_of.ensures n.0 n.2
    (sym (take_at (operator_bytes n.0) _ own (sym b.size ∙ sym c.in_ok-operator_bytes.ensures.1))
    ∙ ap (λ (t : List ℕ). take own t) n.3
    ∙ sym c.in_ok-front.ensures.cases.1))

pub loop-preserved : goal.loop-preserved
loop-preserved c =
    let table = c.loop.table in
    let op = c.in_ok-operator_of.field-0 in
    let own = c.in_ok-operator_bytes.field-0 in
    let back = c.in_ok-front.back.now in
    let two = c.in_ok-front.ensures.cases in
    let v = c.loop.invariant in
    rw c.in_ok-push.ensures.1 (
      omega (arith, length_push table op, v.0),
      ap (λ (s : List ℕ). s ++ back) (joined_push operator_bytes table op)
          ∙ append_assoc (flat_map operator_bytes table) (operator_bytes op) back
          ∙ ap (λ (s : List ℕ). flat_map operator_bytes table ++ (s ++ back)) (c.in_ok-operator_of.ensures.0 ∙ two.1)
          ∙ ap (λ (s : List ℕ). flat_map operator_bytes table ++ (take own c.loop.rest.now ++ s)) two.2
          ∙ ap (λ (s : List ℕ). flat_map operator_bytes table ++ s) (take-append-drop own c.loop.rest.now)
          ∙ v.1,
      every_push operator_holds table op v.2 c.in_ok-operator_of.ensures.1,
    )

-- nothing is left over, where the bytes are those of so many operators at all
ended : (rows : ℕ) (bytes rest : List ℕ) (ops : List Operator) (b : Bool) → length ops ≡ rows → flat_map operator_bytes ops ++ rest ≡ bytes
    → list_all operator_holds ops ≡ true → b ≡ eqb (length rest) 0 → OperatorsRead rows bytes (then_some b ops)
ended rows bytes rest ops true n v d z =
    let e : rest ≡ [] = nil_from_length rest (eqb-true (length rest) 0 (sym z)) in
    (n, sym (append-nil (flat_map operator_bytes ops)) ∙ ap (λ (s : List ℕ). flat_map operator_bytes ops ++ s) (sym e) ∙ v, d)
ended rows bytes rest ops false n v d z =
    λ xs l f e q. eqb-false (length rest) 0 (sym z) (ap length (operators_known ops xs rest (omega arith) d e (v ∙ sym q)).1)

pub returns : goal.returns
returns c =
    let v = c.loop.invariant in
    rw c.then_some.ensures
    (ended c.args.rows c.args.bytes.now c.loop.rest.now c.loop.table c.is_empty.result (omega (arith, v.0)) v.1 v.2 c.is_empty.ensures)
