-- A list padded with one value to a fixed number of places, and cut back: what lies behind the model of a table.
use Rattle.std.specs.Prelude.{◌≡◌, ℕ, ◌-◌, ◌≤◌, List, ◌++◌, length, take, replicate}
use Rattle.std.proofs.Common.{refl, get_or, sym, ap, ◌∙◌, ⊎_elim, arith}
use Rattle.std.proofs.lemmas.List.{ext_get_or, get_or-append_right, get_or_past, get_or-replicate, get_or-take, length-append, length-replicate, length-take-le, take_all, take_at}
use Rattle.std.proofs.lemmas.Bool.{cases_lt}
use Rattle.codec.specs.Codes.{Unused, table_of}

module _ {A : Type 0} (blank : A) where
  pub replicate_any : (n i : ℕ) → get_or (replicate n blank) i blank ≡ blank
  replicate_any n i =
      ⊎_elim (λ h. get_or-replicate n i blank blank h) (λ h. get_or_past (replicate n blank) i blank (omega (arith, length-replicate n blank))) (cases_lt i n)

  -- a table that has a place for every value
  pub whole_table : (places : ℕ) (items : List A) → length items ≤ places
      → table_of places blank items ≡ items ++ replicate (places - length items) blank
  whole_table places items h = ap (λ (t : List A). t ++ replicate (places - length items) blank) (take_all places items h)

  pub table_front : (places n : ℕ) (items : List A) → n ≡ length items → length items ≤ places → take n (table_of places blank items) ≡ items
  table_front places n items e h =
      ap (λ (t : List A). take n t) (whole_table places items h) ∙ take_at items (replicate (places - length items) blank) n (sym e)

  pub length_table : (places : ℕ) (items : List A) → length items ≤ places → length (table_of places blank items) ≡ places
  length_table places items h =
      ap length (whole_table places items h)
      ∙ length-append items (replicate (places - length items) blank)
      ∙ omega (arith, length-replicate (places - length items) blank)

  pub table_unused : (places n : ℕ) (items : List A) → n ≡ length items → length items ≤ places → Unused blank (table_of places blank items) n
  table_unused places n items e h =
      λ i l.
      ap (λ (t : List A). get_or t i blank) (whole_table places items h)
      ∙ get_or-append_right items (replicate (places - length items) blank) n i blank (sym e) l
      ∙ replicate_any (places - length items) (i - n)

  -- two tables that agree where they are in use
  pub same_table : (xs ys : List A) (n m : ℕ) → length xs ≡ length ys → n ≡ m → Unused blank xs n → Unused blank ys m
      → take n xs ≡ take m ys → xs ≡ ys
  same_table xs ys n m l e u v q =
      ext_get_or blank xs ys l
      (λ i h. ⊎_elim
      (λ b. sym (get_or-take n xs i blank b) ∙ ap (λ (t : List A). get_or t i blank) q ∙ get_or-take m ys i blank (omega arith))
      (λ b. u i b ∙ sym (v i (omega arith)))
      (cases_lt i n))

  pub padded_back : (places n : ℕ) (all : List A) → n ≤ places → length all ≡ places → Unused blank all n
      → table_of places blank (take n all) ≡ all
  padded_back places n all h l u =
      let e : length (take n all) ≡ n = length-take-le n all (omega arith) in
      same_table (table_of places blank (take n all)) all n n
      (length_table places (take n all) (omega arith) ∙ sym l) refl
      (table_unused places n (take n all) (sym e) (omega arith))
      u
      (table_front places n (take n all) (sym e) (omega arith))

-- how many values are in use is known from the values
pub count_back : {A : Type 0} (places n : ℕ) (all : List A) → n ≤ places → length all ≡ places → length (take n all) ≡ n
count_back places n all h l = length-take-le n all (omega arith)
