use Rattle.std.proofs.Common.{◌≡◌, ℕ, min, List, ◌++◌, length, take, drop, replicate, ap, ap₂, sym, ◌∙◌, ⊎_elim, arith}
use Rattle.std.proofs.lemmas.List.{drop-replicate, take_all}
use Rattle.std.proofs.lemmas.Bool.{cases_lt}
use Rattle.codec.specs.Codes.{table_of}
use Rattle.codec.proofs.table.padded.Goals as goal

-- as many values as there is place for, and the blanks that are left
cut_down : {A : Type 0} (blank : A) (places n : ℕ) (items : List A) → n ≡ min (length items) places
    → take n items ++ drop n (replicate places blank) ≡ table_of places blank items
cut_down blank places n items e =
    ap₂ (λ (t u : List _). t ++ u)
    (⊎_elim (λ h. ap (λ m. take m items) (omega arith)) (λ h. take_all n items (omega arith) ∙ sym (take_all places items (omega arith))) (cases_lt places (length items)))
    (drop-replicate n places blank ∙ ap (λ m. replicate m blank) (omega arith))

-- src/table.rt:100:1
pub returns : goal.returns
returns g c =
    ap (λ t. t ++ drop c.min-n.result (replicate g.row.N c.args.blank)) c.copy_from_slice.ensures.after
    ∙ cut_down c.args.blank g.row.N c.min-n.result c.args.items.now c.min-n.ensures
