-- Marks: a set of variables as a mark for each of the four.
use Rattle.std.specs.Prelude.{ℕ, Bool, false, List, slice_index_or}

-- a variable is in a set; none behind the last mark is
abbrev pub has_variable : List Bool → ℕ → Bool
has_variable marks x = slice_index_or marks x false
