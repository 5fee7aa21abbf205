-- The bytes of an operator: its counts stand in front and say how many bytes there are.
use Rattle.std.proofs.Common.{◌≡◌, ℕ, ◌+◌, ◌*◌, ◌<◌, ◌≤◌, true, List, [], ◌∷◌, ◌++◌, length, get_or, take, drop, sym, refl, ap, ◌∙◌, arith, take-append-drop}
use Rattle.codec.proofs.Coding.{count_known, known_list, length_joined}
use Rattle.std.specs.List.{list_all}
use Rattle.plants.proofs.Prefix.{lifted_one, operator_first}
use Rattle.plants.specs.declared.literal.LiftedLiteral.{LiftedLiteral}
use Rattle.plants.specs.declared.operator.Operator.{Operator}
use Rattle.plants.specs.Lifted.{lifted_bytes, lifted_proper}
use Rattle.plants.specs.Operators.{operator_bytes, operator_literals}
use Rattle.std.proofs.lemmas.List.{append_assoc, append-nil, drop_at, length-append, length-take-le, take_at}
use Rattle.std.proofs.lemmas.List.Folds.{list_all-append}
use Rattle.std.proofs.lemmas.Grind.{flat_map-append}
use Rattle.std.proofs.lemmas.Bool.{and_parts}
use Rattle.std.specs.List.{flat_map}
use Rattle.feeder.specs.Layouts.{operator_size}
use Rattle.feeder.specs.Operators.{operator_holds}

pub length_operator : (op : Operator) → length (operator_bytes op) ≡ 3 + 4 * (length op.needs + length op.effects)
length_operator op =
    omega (arith, length_joined lifted_bytes lifted_proper 4 (λ l. refl) (operator_literals op), length-append op.needs op.effects)

-- what bytes hold that begin with those of an operator
pub record Begins (op : Operator) (rest bytes : List ℕ) : Type 0 where
  pub parameters : get_or bytes 0 0 ≡ op.parameters
  pub needs : get_or bytes 1 0 ≡ length op.needs
  pub effects : get_or bytes 2 0 ≡ length op.effects
  pub size : operator_size bytes ≡ length (operator_bytes op)
  pub literals : drop 3 bytes ≡ flat_map lifted_bytes (operator_literals op) ++ rest

pub begins : (op : Operator) (rest bytes : List ℕ) → operator_bytes op ++ rest ≡ bytes → Begins op rest bytes
begins op rest bytes e =
    let a : get_or bytes 1 0 ≡ length op.needs = ap (λ (t : List ℕ). get_or t 1 0) (sym e) in
    let b : get_or bytes 2 0 ≡ length op.effects = ap (λ (t : List ℕ). get_or t 2 0) (sym e) in
    record {
      parameters = ap (λ (t : List ℕ). get_or t 0 0) (sym e);
      needs = a;
      effects = b;
      size = omega (arith, length_operator op);
      literals = ap (λ (t : List ℕ). drop 3 t) (sym e);
    }

-- Where some operators and then a rest make up the bytes of a longer list, the rest begins with those of the next one.
pub next_operator : (done xs : List Operator) (rest : List ℕ) → list_all operator_holds done ≡ true → list_all operator_holds xs ≡ true
    → length done < length xs → flat_map operator_bytes done ++ rest ≡ flat_map operator_bytes xs
    → (op : Operator) × (ys : List Operator) × (operator_holds op ≡ true) × (operator_bytes op ++ flat_map operator_bytes ys ≡ rest)
next_operator [] [] rest d e h q = absurd (omega arith)
next_operator [] (x ∷ xs) rest d e h q = (x, xs, (and_parts (operator_holds x) (list_all operator_holds xs) e).0, sym q)
next_operator (o ∷ done) [] rest d e h q = absurd (omega arith)
next_operator (o ∷ done) (x ∷ xs) rest d e h q =
    let p = and_parts (operator_holds o) (list_all operator_holds done) d in
    let r = and_parts (operator_holds x) (list_all operator_holds xs) e in
    let f = operator_first o x _ _ p.0 r.0 (sym (append_assoc (operator_bytes o) (flat_map operator_bytes done) rest) ∙ q) in
    next_operator done xs rest p.1 r.1 (omega arith) f.1

-- as many operators with the same bytes are the same, and nothing is left over
pub operators_known : (xs ys : List Operator) (rest : List ℕ) → length xs ≡ length ys → list_all operator_holds xs ≡ true → list_all operator_holds ys ≡ true
    → flat_map operator_bytes xs ++ rest ≡ flat_map operator_bytes ys → (xs ≡ ys) × (rest ≡ [])
operators_known [] [] rest l d e q = (refl, q)
operators_known [] (y ∷ ys) rest l d e q = absurd (omega arith)
operators_known (x ∷ xs) [] rest l d e q = absurd (omega arith)
operators_known (x ∷ xs) (y ∷ ys) rest l d e q =
    let p = and_parts (operator_holds x) (list_all operator_holds xs) d in
    let r = and_parts (operator_holds y) (list_all operator_holds ys) e in
    let f = operator_first x y _ _ p.0 r.0 (sym (append_assoc (operator_bytes x) (flat_map operator_bytes xs) rest) ∙ q) in
    let k = operators_known xs ys rest (omega arith) p.1 r.1 f.1 in
    let a = f.0 in
    let b = k.0 in
    (cc, k.1)

front_three : (bytes : List ℕ) → 3 ≤ length bytes → get_or bytes 0 0 ∷ (get_or bytes 1 0 ∷ (get_or bytes 2 0 ∷ drop 3 bytes)) ≡ bytes
front_three [] h = absurd (omega arith)
front_three (a ∷ []) h = absurd (omega arith)
front_three (a ∷ (b ∷ [])) h = absurd (omega arith)
front_three (a ∷ (b ∷ (c ∷ bytes))) h = refl

-- the parts of an operator's bytes: its head, then the bytes of its preconditions, then those of its effects
pub record Parts (op : Operator) (bytes : List ℕ) : Type 0 where
  pub long : length bytes ≡ 3 + 4 * (length op.needs + length op.effects)
  pub parameters : get_or bytes 0 0 ≡ op.parameters
  pub needs : get_or bytes 1 0 ≡ length op.needs
  pub effects : get_or bytes 2 0 ≡ length op.effects
  pub front : take (4 * get_or bytes 1 0) (drop 3 bytes) ≡ flat_map lifted_bytes op.needs
  pub back : drop (4 * get_or bytes 1 0) (drop 3 bytes) ≡ flat_map lifted_bytes op.effects

pub parts : (op : Operator) (bytes : List ℕ) → operator_bytes op ≡ bytes → Parts op bytes
parts op bytes e =
    let b = begins op [] bytes (append-nil (operator_bytes op) ∙ e) in
    let all : drop 3 bytes ≡ flat_map lifted_bytes op.needs ++ flat_map lifted_bytes op.effects =
    b.literals ∙ append-nil (flat_map lifted_bytes (operator_literals op)) ∙ flat_map-append lifted_bytes op.needs op.effects
    in
    let n : length (flat_map lifted_bytes op.needs) ≡ 4 * get_or bytes 1 0 =
    omega (arith, length_joined lifted_bytes lifted_proper 4 (λ l. refl) op.needs, b.needs)
    in
    record {
      long = ap length (sym e) ∙ length_operator op;
      parameters = b.parameters;
      needs = b.needs;
      effects = b.effects;
      front = ap (λ (t : List ℕ). take (4 * get_or bytes 1 0) t) all ∙ take_at _ _ (4 * get_or bytes 1 0) n;
      back = ap (λ (t : List ℕ). drop (4 * get_or bytes 1 0) t) all ∙ drop_at _ _ (4 * get_or bytes 1 0) n;
    }

-- literals that a record can hold are known by their bytes
pub literals_known : (xs ys : List LiftedLiteral) → list_all lifted_proper xs ≡ true → list_all lifted_proper ys ≡ true
    → flat_map lifted_bytes xs ≡ flat_map lifted_bytes ys → xs ≡ ys
literals_known = known_list lifted_bytes lifted_proper 4 (λ l. refl) (omega arith) lifted_one

-- the two tables of an operator that a record can hold
pub held_parts : (op : Operator) → operator_holds op ≡ true → (list_all lifted_proper op.needs ≡ true) × (list_all lifted_proper op.effects ≡ true)
held_parts op e =
    let p = and_parts (list_all lifted_proper op.needs) (list_all lifted_proper op.effects) (sym (list_all-append lifted_proper op.needs op.effects) ∙ e) in
    (p.0, p.1)

-- an operator made of a head and its literals' bytes has just these bytes
pub joined_parts : (op : Operator) (bytes : List ℕ) → 3 ≤ length bytes → op.parameters ≡ get_or bytes 0 0
    → length (drop (4 * get_or bytes 1 0) (drop 3 bytes)) ≡ 4 * get_or bytes 2 0 → 4 * get_or bytes 1 0 ≤ length (drop 3 bytes)
    → flat_map lifted_bytes op.needs ≡ take (4 * get_or bytes 1 0) (drop 3 bytes) → flat_map lifted_bytes op.effects ≡ drop (4 * get_or bytes 1 0) (drop 3 bytes)
    → operator_bytes op ≡ bytes
joined_parts op bytes h p l r f g =
    let count = count_known lifted_bytes lifted_proper 4 (λ l. refl) in
    let n : length op.needs ≡ get_or bytes 1 0 =
    count op.needs _ (get_or bytes 1 0) (omega arith) (length-take-le (4 * get_or bytes 1 0) (drop 3 bytes) r) f
    in
    let m : length op.effects ≡ get_or bytes 2 0 = count op.effects _ (get_or bytes 2 0) (omega arith) l g in
    let all : flat_map lifted_bytes (operator_literals op) ≡ drop 3 bytes =
    flat_map-append lifted_bytes op.needs op.effects
    ∙ ap (λ (t : List ℕ). t ++ flat_map lifted_bytes op.effects) f
    ∙ ap (λ (t : List ℕ). take (4 * get_or bytes 1 0) (drop 3 bytes) ++ t) g
    ∙ take-append-drop (4 * get_or bytes 1 0) (drop 3 bytes)
    in
    let front = front_three bytes h in
    cc
