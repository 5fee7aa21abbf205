use Rattle.std.proofs.Common.{rules, ◌≡◌, ℕ, ◌+◌, ◌-◌, ◌*◌, ◌/◌, ◌<◌, ◌≤◌, List, [], length, take, drop, replicate, get_or, sym, refl, ap, ◌∙◌, ⊎_elim, arith}
use Rattle.std.specs.Prelude.{Some, None, Option}
use Rattle.std.specs.Option.{SomeIff, unwrap_or}
use Rattle.std.specs.List.{flat_map}
use Rattle.std.proofs.Math.Nat.{mul-div_cancel_left}
use Rattle.std.proofs.lemmas.List.{get_or-append_right, get_or-drop, length-replicate, length-take-le, nil_from_length}
use Rattle.std.proofs.lemmas.Bool.{cases_lt}
use Rattle.codec.specs.Padding.{replicate_any}
use Rattle.codec.proofs.Coding.{length_joined}
use Rattle.codec.proofs.list.decode_table.Given as given
use Rattle.codec.proofs.list.decode_table.Goals as goal

-- how many values there are is known from the number of their bytes, where each has some
count_is : (w n k : ℕ) (r : Option ℕ) → SomeIff r (0 < w) (n / w) → n ≡ w * k → 0 < w → unwrap_or r 0 ≡ k
count_is w n k None s e h = absurd (s h)
count_is w n k (Some x) s e h = s.1 ∙ ap (λ (m : ℕ). m / w) e ∙ mul-div_cancel_left k h

count_none : (w n : ℕ) (r : Option ℕ) → SomeIff r (0 < w) (n / w) → w ≤ 0 → unwrap_or r 0 ≡ 0
count_none w n None s e = refl
count_none w n (Some x) s e = absurd (omega (arith, s.0))

bytes_of : (g : given.Over) (xs : List g.row.T.Denot) (bytes : List ℕ) → flat_map g.T.Coded.code xs ≡ bytes → length bytes ≡ g.row.WIDTH * length xs
bytes_of g xs bytes q = sym (ap length q) ∙ length_joined g.T.Coded.code g.T.Coded.proper g.row.WIDTH g.met.T.Coded.fixed xs

-- there is no place for so many
pub returns-then-count : goal.returns-then-count
returns-then-count g c =
    λ xs l p q.
    let n = bytes_of g xs _ q in
    ⊎_elim
    (λ h. omega (arith, count_is g.row.WIDTH _ (length xs) _ c.checked_div.ensures n h, c.unwrap_or-count.ensures, c.if-count.true, l))
    (λ h. omega (arith, count_none g.row.WIDTH _ _ c.checked_div.ensures h, c.unwrap_or-count.ensures, c.if-count.true))
    (cases_lt 0 g.row.WIDTH)

-- the bytes are those of no values, as many as their number calls for
pub returns-in_err-decode_list : goal.returns-in_err-decode_list
returns-in_err-decode_list g c =
    let count = c.unwrap_or-count.result in
    let d = c.default-places.result in
    let long : length (take count (replicate g.row.N d)) ≡ count =
    length-take-le count (replicate g.row.N d) (omega (arith, length-replicate g.row.N d, c.if-count.false))
    in
    rw c.from_residual.ensures
    (λ xs l p q.
    let n = bytes_of g xs _ q in
    ⊎_elim
    (λ h. c.in_err-decode_list.ensures xs (sym (count_is g.row.WIDTH _ (length xs) _ c.checked_div.ensures n h) ∙ sym c.unwrap_or-count.ensures ∙ sym long) p q)
    (λ h.
    let z : g.row.WIDTH * length xs ≡ 0 * length xs = ap (λ (w : ℕ). w * length xs) (omega (arith, h)) in
    c.in_err-decode_list.ensures [] (sym (count_none g.row.WIDTH _ _ c.checked_div.ensures h) ∙ sym c.unwrap_or-count.ensures ∙ sym long) refl
    (sym (nil_from_length c.args.bytes.now (omega (arith, n, z)))))
    (cases_lt 0 g.row.WIDTH))

-- behind the values stands what stood in all places
pub of-requires : goal.of-requires
of-requires g c =
    let count = c.unwrap_or-count.result in
    let d = c.default-places.result in
    let b = g.T.Blank.blank in
    let e = g.met.T.Blank.only d c.default-places.ensures in
    let long : length c.decode_list.new.items ≡ count = search (rules, length-take-le count (replicate g.row.N d) (omega (arith, length-replicate g.row.N d, c.if-count.false))) in (
      search rules,
      (
        search rules,
        (
          search rules,
          λ i h.
              get_or-append_right c.decode_list.new.items (drop count (replicate g.row.N d)) count i b long h
              ∙ get_or-drop count (replicate g.row.N d) (i - count) b
              ∙ ap (λ (x : g.row.T.Denot). get_or (replicate g.row.N x) (count + (i - count)) b) e
              ∙ replicate_any b g.row.N (count + (i - count)),
        ),
      ),
    )
