use Rattle.std.proofs.Common.{◌≡◌, ℕ, ◌+◌, ◌*◌, ◌<◌, Bool, true, false, eqb, List, [], ◌++◌, length, take, sym, ap, ◌∙◌, subst, arith}
use Rattle.std.specs.Bool.{then_some}
use Rattle.std.specs.List.{flat_map, list_all}
use Rattle.std.proofs.lemmas.List.{append-nil, length-append, length-take-le, nil_from_length, take_all, take_at}
use Rattle.std.proofs.lemmas.Bool.{eqb-true, eqb-false}
use Rattle.codec.specs.Codes.{ListDecoded}
use Rattle.codec.proofs.Coding.{length_joined, next_value}
use Rattle.codec.proofs.list.decode_list.Given as given
use Rattle.codec.proofs.list.decode_list.Goals as goal

-- the next value, where the bytes are codes at all
next : (g : given.Over) (items xs : List g.row.T.Denot) (i : ℕ) (left bytes : List ℕ) → i < length items → length xs ≡ length items
    → list_all g.T.Coded.proper xs ≡ true → flat_map g.T.Coded.code xs ≡ bytes → flat_map g.T.Coded.code (take i items) ++ left ≡ bytes
    → (x : g.row.T.Denot) × (ys : List g.row.T.Denot) × (g.T.Coded.proper x ≡ true) × (left ≡ g.T.Coded.code x ++ flat_map g.T.Coded.code ys)
next g items xs i left bytes h l e q v =
    let t : length (take i items) ≡ i = length-take-le i items (omega arith) in
    next_value g.T.Coded.code g.T.Coded.proper g.row.WIDTH g.met.T.Coded.fixed (take i items) xs left e (omega arith) (v ∙ sym q)

-- what is left is too short for it
pub returns-in_err-front : goal.returns-in_err-front
returns-in_err-front g c =
    rw c.from_residual.ensures
    (λ xs l e q.
    let n = next g c.loop-i.items xs c.loop-i.i c.loop-i.left.now _ (omega arith) (omega arith) e q c.loop-i.invariant.0 in
    omega (arith, ap length n.3 ∙ length-append (g.T.Coded.code n.0) _, g.met.T.Coded.fixed n.0, c.in_err-front.ensures.cases))

-- what is left begins with no code
pub returns-in_err-items : goal.returns-in_err-items
returns-in_err-items g c =
    rw c.from_residual-in_err-items.ensures
    (λ xs l e q.
    let n = next g c.loop-i.items xs c.loop-i.i c.loop-i.left.now _ (omega arith) (omega arith) e q c.loop-i.invariant.0 in
    c.in_err-items.ensures n.0 n.2
    (sym (take_at (g.T.Coded.code n.0) _ g.row.WIDTH (g.met.T.Coded.fixed n.0))
    ∙ ap (λ (t : List ℕ). take g.row.WIDTH t) (sym n.3)
    ∙ sym c.in_ok-front.ensures.cases.0))

-- all places are filled: nothing may be left
pub returns : goal.returns
returns g c =
    let items = c.loop-i.items in
    let left = c.loop-i.left.now in
    let code = g.T.Coded.code in
    let t : take c.loop-i.i items ≡ items = take_all c.loop-i.i items (omega arith) in
    let v : flat_map code items ++ left ≡ c.args.bytes.now = subst (λ (s : List g.row.T.Denot). flat_map code s ++ left ≡ c.args.bytes.now) t c.loop-i.invariant.0 in
    let e : list_all g.T.Coded.proper items ≡ true = subst (λ (s : List g.row.T.Denot). list_all g.T.Coded.proper s ≡ true) t c.loop-i.invariant.1 in
    let answer : (b : Bool) → b ≡ eqb (length left) 0 → ListDecoded code g.T.Coded.proper c.args.bytes.now (length c.args.items.now) items (then_some b tt) =
    λ b. elim b as (λ b. b ≡ eqb (length left) 0 → ListDecoded code g.T.Coded.proper c.args.bytes.now (length c.args.items.now) items (then_some b tt)) [
      | true ↦ λ z. let n : left ≡ [] = nil_from_length left (eqb-true (length left) 0 (sym z)) in
          (sym (append-nil (flat_map code items)) ∙ ap (λ (s : List ℕ). flat_map code items ++ s) (sym n) ∙ v, e)
      | false ↦ λ z xs l p q.
          let a : length (flat_map code items) + length left ≡ length (flat_map code xs) =
          sym (length-append (flat_map code items) left) ∙ ap length (v ∙ sym q)
          in
          let k = length_joined code g.T.Coded.proper g.row.WIDTH g.met.T.Coded.fixed in
          let m : g.row.WIDTH * length items ≡ g.row.WIDTH * length xs =
          ap (λ (n : ℕ). g.row.WIDTH * n) (omega arith)
          in
          eqb-false (length left) 0 (sym z) (omega (arith, k items, k xs))
    ]
    in
    rw c.then_some.ensures (answer c.is_empty.result c.is_empty.ensures)
