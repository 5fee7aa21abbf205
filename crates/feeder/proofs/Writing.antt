-- Parts of a record, written one behind the other.
use Rattle.std.proofs.Common.{◌≡◌, ℕ, Bool, true, List, ◌++◌, subst, ap, ◌∙◌, arith, length-append}
use Rattle.std.specs.Prelude.{Option, Some, None}
use Rattle.std.specs.List.{flat_map, list_all}
use Rattle.codec.proofs.Writes.{wrote_more}
use Rattle.codec.specs.declared.writer.Writer.{Writer}
use Rattle.codec.specs.Writing.{Wrote, WroteAll}
use Rattle.feeder.proofs.Known.{all_any}

-- one text for another that is the same
pub wrote_same : (before after : Writer) (a b : List ℕ) (r : Option (Unit {0})) → a ≡ b → Wrote before a after r → Wrote before b after r
wrote_same before after a b r e w = subst (λ (t : List ℕ). Wrote before t after r) e w

-- values that a record can hold are written as their codes
pub wrote_codes : {A : Type 0} (code : A → List ℕ) (proper : A → Bool) (size : ℕ) (items shown : List A) (before after : Writer) (r : Option (Unit {0}))
    → items ≡ shown → list_all proper shown ≡ true → WroteAll code proper size items before after r → Wrote before (flat_map code shown) after r
wrote_codes code proper size items shown before after r e h w =
    wrote_same before after w.0 (flat_map code shown) r (w.2 (ap (list_all proper) e ∙ h) ∙ ap (flat_map code) e) w.3

pub wrote_plain : {A : Type 0} (code : A → List ℕ) (size : ℕ) (items shown : List A) (before after : Writer) (r : Option (Unit {0}))
    → items ≡ shown → WroteAll code (λ _. true) size items before after r → Wrote before (flat_map code shown) after r
wrote_plain code size items shown before after r e w = wrote_codes code (λ _. true) size items shown before after r e (all_any shown) w

-- one part, and then what follows it
pub wrote_then : (before mid after : Writer) (a b : List ℕ) (r : Option (Unit {0})) → Wrote before a mid (Some tt) → Wrote mid b after r → Wrote before (a ++ b) after r
wrote_then before mid after a b r u v = wrote_more before.out.ghost_name before.out.now before.at mid after a b r u v

-- where there is no room for a part, there is none for it and what follows it
pub short_before : (before after : Writer) (a b : List ℕ) → Wrote before a after None → Wrote before (a ++ b) after None
short_before before after a b u = (u.0, omega (arith, u.1, length-append a b))
