-- Plants are known by their bytes: which table of the header's kind can have them.
use Rattle.std.proofs.Common.{◌≡◌, ℕ, ◌*◌, true, List, length, take, drop, refl, ap, ◌∙◌, arith}
use Rattle.codec.proofs.Coding.{length_joined}
use Rattle.std.specs.List.{list_all}
use Rattle.model.specs.declared.vocabulary.Vocabulary.{Vocabulary}
use Rattle.model.specs.Literals.{word_bytes}
use Rattle.plants.proofs.Proper.{all_weaker, operator_proper}
use Rattle.plants.specs.declared.actions.ActionTable.{ActionTable}
use Rattle.plants.specs.declared.network.Network.{Network}
use Rattle.plants.specs.declared.network.Switch.{Switch}
use Rattle.plants.specs.contracts.network.SwitchCoded2.TheImpl.Laws as switch
use Rattle.plants.specs.Networks.{network_bytes}
use Rattle.plants.specs.Operators.{operator_bytes, operator_fits}
use Rattle.plants.specs.Switches.{switch_bytes}
use Rattle.std.proofs.lemmas.List.{drop_at, take_at}
use Rattle.std.specs.List.{flat_map}
use Rattle.feeder.specs.declared.header.Header.{Header}
use Rattle.feeder.specs.declared.header.PlantKind.TheVariants as kind
use Rattle.feeder.specs.declared.tables.PlantTable.{PlantTable}
use Rattle.feeder.specs.declared.tables.PlantTable.TheVariants.{Actions, Network as Wired}
use Rattle.feeder.specs.Operators.{operator_holds}
use Rattle.feeder.specs.Tables.{plant_bytes}
use Rattle.feeder.specs.Verdicts.{Found, SuitPlant}
use Rattle.feeder.proofs.Known.{known_plain}

pub operators_hold : (t : ActionTable) → list_all operator_holds t.operators ≡ true
operators_hold t = all_weaker (operator_fits t.vocabulary) operator_holds (operator_proper t.vocabulary) t.operators t.fits

pub switches_known : (xs ys : List Switch) → flat_map switch_bytes xs ≡ flat_map switch_bytes ys → xs ≡ ys
switches_known = known_plain switch_bytes 2 switch.fixed-law (omega arith) (λ x y e. switch.one-law x y refl refl e)

pub length_switch_bytes : (xs : List Switch) → length (flat_map switch_bytes xs) ≡ 2 * length xs
length_switch_bytes = length_joined switch_bytes (λ _. true) 2 switch.fixed-law

-- the two parts of a network's bytes
pub switches_front : (w : Network) (bytes : List ℕ) (at : ℕ) → bytes ≡ network_bytes w → at ≡ 2 * length w.switches → take at bytes ≡ flat_map switch_bytes w.switches
switches_front w bytes at e n =
    ap (λ (t : List ℕ). take at t) e ∙ take_at (flat_map switch_bytes w.switches) _ at (omega (arith, length_switch_bytes w.switches))

pub feeds_back : (w : Network) (bytes : List ℕ) (at : ℕ) → bytes ≡ network_bytes w → at ≡ 2 * length w.switches → drop at bytes ≡ word_bytes w.fed
feeds_back w bytes at e n =
    ap (λ (t : List ℕ). drop at t) e ∙ drop_at (flat_map switch_bytes w.switches) _ at (omega (arith, length_switch_bytes w.switches))

-- a plant that suits a header of one kind is of that kind
pub as_actions : (h : Header) (v : Vocabulary) (bytes : List ℕ) (p : PlantTable) → h.plant ≡ kind.Actions → Found (SuitPlant h v) plant_bytes bytes p
    → (t : ActionTable) × (p ≡ Actions t) × (length t.operators ≡ h.rows) × (t.vocabulary ≡ v) × (bytes ≡ flat_map operator_bytes t.operators)
as_actions h v bytes (Actions t) k f = (t, refl, f.suits.rows, f.suits.words, f.same)
as_actions h v bytes (Wired w) k f = absurd (let z : ◌≡◌ {A = ℕ} 0 1 = let q = f.suits.kind in cc in omega arith)

pub as_network : (h : Header) (v : Vocabulary) (bytes : List ℕ) (p : PlantTable) → h.plant ≡ kind.Network → Found (SuitPlant h v) plant_bytes bytes p
    → (w : Network) × (p ≡ Wired w) × (length w.switches ≡ h.rows) × (w.vocabulary ≡ v) × (bytes ≡ network_bytes w)
as_network h v bytes (Actions t) k f = absurd (let z : ◌≡◌ {A = ℕ} 0 1 = let q = f.suits.kind in cc in omega arith)
as_network h v bytes (Wired w) k f = (w, refl, f.suits.rows, f.suits.words, f.same)
