-- Cutting a record into its parts, and finding a part again in what was joined.
use Rattle.std.proofs.Common.{◌≡◌, ℕ, ◌+◌, ◌≤◌, List, ◌++◌, length, take, drop, sym, ap, ◌∙◌, arith, take-append-drop}
use Rattle.std.proofs.lemmas.List.{drop-drop, length-drop, length-take-le, take_all}

-- the part from a place on, and then the rest
pub cut : (from size next : ℕ) (bytes : List ℕ) → next ≡ from + size → drop from bytes ≡ take size (drop from bytes) ++ drop next bytes
cut from size next bytes e =
    sym (take-append-drop size (drop from bytes))
    ∙ ap (λ (t : List ℕ). take size (drop from bytes) ++ t) (drop-drop size from bytes ∙ ap (λ (k : ℕ). drop k bytes) (sym e))

-- the last part
pub cut_last : (from size : ℕ) (bytes : List ℕ) → length bytes ≡ from + size → drop from bytes ≡ take size (drop from bytes)
cut_last from size bytes e = sym (take_all size (drop from bytes) (omega (arith, length-drop from bytes)))

pub length_part : (from size : ℕ) (bytes : List ℕ) → from + size ≤ length bytes → length (take size (drop from bytes)) ≡ size
length_part from size bytes h = length-take-le size (drop from bytes) (omega (arith, length-drop from bytes))
