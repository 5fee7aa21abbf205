-- Text for a buffer: the number of the refusal to write it, and the line for a refusal.
use Rattle.std.specs.Prelude.{ℕ, List, [], ◌∷◌, ◌++◌, codes, decimal}
use Rattle.sheet.specs.declared.refusal.SheetRefusal.{SheetRefusal}
use Rattle.sheet.specs.declared.refusal.SheetRefusal.TheVariants.{Short}

-- The number of a refusal.
abbrev pub sheet_number : SheetRefusal → ℕ
sheet_number Short = 61

-- The line that a program prints for a refusal: the word, a comma, the number and the end of the line.
abbrev pub refusal_line : ℕ → List ℕ
refusal_line n = codes "REFUSED" ++ (44 ∷ (decimal n ++ (10 ∷ [])))
