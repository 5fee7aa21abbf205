-- A set of sections is known by its bits, and a state by its positions and earths.
use Rattle.std.proofs.Common.{◌≡◌, ℕ, ◌<◌, Bool, sym, ◌∙◌}
use denote.Struct.Record.{values_one}
use Rattle.model.specs.Drawn.{bits_below}
use Rattle.model.specs.Pictures.{bit}
use Rattle.model.proofs.Bits.{same_bits}
use Rattle.model.proofs.Drawn.{bit_bits}
use Rattle.grid.specs.contracts.sections.Sections as sections
use Rattle.grid.specs.contracts.state.NetworkState as state
use Rattle.grid.specs.declared.sections.Sections.{Sections}
use Rattle.grid.specs.declared.state.NetworkState.{NetworkState}
use Rattle.grid.specs.States.{sections_of}

-- the set of the sections that pass a test
pub same_sections : (x : Sections) (test : ℕ → Bool) → ((k : ℕ) → k < 16 → bit x.bits k ≡ test k) → x ≡ sections_of test
same_sections x test e =
    let b = same_bits 16 x.bits (sections_of test).bits x.small (bits_below 16 test) (λ k h. e k h ∙ sym (bit_bits 16 test k h)) in
    values_one sections.struct (sections.the_type).propositions x (sections_of test) (cc)

pub same_state : (x y : NetworkState) → x.switches ≡ y.switches → x.earths ≡ y.earths → x ≡ y
same_state x y p e = values_one state.struct (state.the_type).propositions x y (cc)
