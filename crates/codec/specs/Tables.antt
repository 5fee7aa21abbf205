-- Tables: lists of values of which there are at most a fixed number.
use Rattle.std.specs.Prelude.{◌≡◌, ℕ, ◌<◌, ◌≤◌, List, [], ◌∷◌, ◌++◌, length, Some, None, Option}

-- What making a table answers: the table of these values, or none where there are more than it has places for.
abbrev pub TableMade : {A : Type 0} → ℕ → List A → Option (List A) → Type 0
TableMade places items (Some t) = (t ≡ items) × (length items ≤ places)
TableMade places items None = places < length items

-- What putting a value behind the last answers: whether there was a place for it; if not, the table stays as it was.
abbrev pub Pushed : {A : Type 0} → ℕ → List A → A → List A → Option (Unit {0}) → Type 0
Pushed places before x after (Some _) = (length before < places) × (after ≡ before ++ (x ∷ []))
Pushed places before x after None = (length before ≡ places) × (after ≡ before)
