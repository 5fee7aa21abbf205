-- Codes: what it means that bytes stand for a value, or for a list of values.
use Rattle.std.specs.Prelude.{◌≡◌, ℕ, ◌+◌, ◌-◌, ◌*◌, ◌≤◌, Bool, true, cond, List, ◌++◌, length, take, drop, replicate, Some, None, Ok, Err, Option, Result, ◌≢◌, nat_le, slice_index_or}
use Rattle.std.specs.List.{flat_map, list_all}

-- What decoding answers: a proper value whose code the bytes are, or none where no proper value has that code.
abbrev pub Decoded : {A : Type 0} → (A → List ℕ) → (A → Bool) → List ℕ → Option A → Type 0
Decoded code proper bytes (Some x) = (code x ≡ bytes) × (proper x ≡ true)
Decoded {A} code proper bytes None = (x : A) → proper x ≡ true → code x ≢ bytes

-- What decoding a list of a given length answers: that the bytes are the joined codes of the proper values now held, or
-- none where they are those of no list of proper values of that length.
abbrev pub ListDecoded : {A : Type 0} → (A → List ℕ) → (A → Bool) → List ℕ → ℕ → List A → Option (Unit {0}) → Type 0
ListDecoded code proper bytes count items (Some _) = (flat_map code items ≡ bytes) × (list_all proper items ≡ true)
ListDecoded {A} code proper bytes count items None =
    (xs : List A) → length xs ≡ count → list_all proper xs ≡ true → flat_map code xs ≢ bytes

-- What decoding a table answers: the proper values whose joined codes the bytes are, or none where the bytes are those of
-- no list of proper values for which there are places.
abbrev pub TableDecoded : {A : Type 0} → (A → List ℕ) → (A → Bool) → ℕ → List ℕ → Option (List A) → Type 0
TableDecoded code proper places bytes (Some xs) = (flat_map code xs ≡ bytes) × (list_all proper xs ≡ true) × (length xs ≤ places)
TableDecoded {A} code proper places bytes None =
    (xs : List A) → length xs ≤ places → list_all proper xs ≡ true → flat_map code xs ≢ bytes

-- What encoding a list answers: that the buffer holds the codes of values that a record can hold, or none where it has
-- another size than they; then it stays as it was.
abbrev pub ListEncoded : {A : Type 0} → (A → List ℕ) → (A → Bool) → ℕ → List A → List ℕ → List ℕ → Option (Unit {0}) → Type 0
ListEncoded code proper size items before after (Some _) =
    (length before ≡ size * length items) × (list_all proper items ≡ true → after ≡ flat_map code items)
ListEncoded code proper size items before after None = (length before ≢ size * length items) × (after ≡ before)

-- A text written over what stands from a place on, the rest kept.
abbrev pub written : List ℕ → ℕ → List ℕ → List ℕ
written out at text = take at out ++ (text ++ drop (at + length text) out)

-- The places of a table from a count on hold one fixed value.
abbrev pub Unused : {A : Type 0} → A → List A → ℕ → Type 0
Unused blank items count = (i : ℕ) → count ≤ i → slice_index_or items i blank ≡ blank

-- A table of a fixed size: the values in their order, as many as it has places for, then one fixed value.
abbrev pub table_of : {A : Type 0} → ℕ → A → List A → List A
table_of places blank items = take places items ++ replicate (places - length items) blank

-- What writing a text into a buffer answers: the text's length where it fits, else a refusal.
abbrev pub answered : {E : Type 0} → E → List ℕ → List ℕ → Result ℕ E
answered refusal text out = cond (nat_le (length text) (length out)) (Ok (length text)) (Err refusal)

-- What the buffer holds afterwards: the text and then what it held there, or all that it held where the text does not fit.
abbrev pub held : List ℕ → List ℕ → List ℕ
held text out = cond (nat_le (length text) (length out)) (text ++ drop (length text) out) out
