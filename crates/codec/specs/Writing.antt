-- Writing: a buffer that is filled from its start.
use Rattle.std.specs.Prelude.{◌≡◌, ℕ, ◌+◌, ◌*◌, ◌<◌, ◌≤◌, Bool, true, List, length, Some, None, Option}
use Rattle.std.specs.List.{flat_map, list_all}
use base.Fml.{GName}
use Rattle.codec.specs.Codes.{written}
use Rattle.codec.specs.declared.writer.Writer.{Writer}

-- What writing some bytes behind the first `at` of a buffer answers: that they stand there now, or none where there is no
-- room for them. The writer keeps its buffer, which is told by its name.
abbrev pub WroteFrom : GName → List ℕ → ℕ → List ℕ → Writer → Option (Unit {0}) → Type 0
WroteFrom name out at bytes after (Some _) =
    (after.out.ghost_name ≡ name)
    × (after.out.now ≡ written out at bytes)
    × (after.at ≡ at + length bytes)
    × (after.at ≤ length out)
WroteFrom name out at bytes after None = (after.out.ghost_name ≡ name) × (length out < at + length bytes)

-- What writing some bytes behind what a writer has written answers.
abbrev pub Wrote : Writer → List ℕ → Writer → Option (Unit {0}) → Type 0
Wrote before bytes after r = WroteFrom before.out.ghost_name before.out.now before.at bytes after r

-- What writing the codes of some values answers, of which each has as many bytes. Where a record can hold them all, the
-- bytes are their codes.
abbrev pub WroteAll : {A : Type 0} → (A → List ℕ) → (A → Bool) → ℕ → List A → Writer → Writer → Option (Unit {0}) → Type 0
WroteAll code proper size items before after r =
    (bytes : List ℕ)
    × (length bytes ≡ size * length items)
    × (list_all proper items ≡ true → bytes ≡ flat_map code items)
    × Wrote before bytes after r
