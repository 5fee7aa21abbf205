-- The switches and the fed sections are the only ones that these bytes can be.
use Rattle.std.proofs.Common.{◌≡◌, ℕ, ◌+◌, ◌-◌, ◌*◌, ◌<◌, List, ◌++◌, length, get_or, drop, sym, ap, ◌∙◌, subst, arith, take-append-drop}
use Rattle.std.specs.List.{flat_map}
use Rattle.std.proofs.lemmas.List.{get_or-drop, length-drop}
use Rattle.codec.proofs.Coding.{spelled_all}
use Rattle.model.proofs.Words.{word_made}
use Rattle.model.specs.declared.vocabulary.Vocabulary.{Vocabulary}
use Rattle.model.specs.Literals.{word_bytes}
use Rattle.plants.proofs.Sound.{network_sound}
use Rattle.plants.specs.declared.network.Switch.{Switch}
use Rattle.plants.specs.Networks.{SoundNetwork}
use Rattle.plants.specs.Switches.{switch_bytes}
use Rattle.feeder.proofs.Known.{all_any, word_known}
use Rattle.feeder.proofs.Plants.{as_network, feeds_back, length_switch_bytes, switches_front, switches_known}
use Rattle.feeder.proofs.reading.Reading.network_of.Goals as goal

-- the last two bytes, as the number that the code makes of them
fed_bytes : (bytes back : List ℕ) (at fed : ℕ) → back ≡ drop at bytes → length back ≡ 2 → get_or bytes (at + 1) 0 < 256
    → fed ≡ get_or back 0 0 * 256 + get_or back 1 0 → word_bytes fed ≡ back
fed_bytes bytes back at fed d l s e =
    let b : get_or back 1 0 ≡ get_or bytes (at + 1) 0 = ap (λ (t : List ℕ). get_or t 1 0) d ∙ get_or-drop at bytes 1 0 in
    ap word_bytes e ∙ word_made (get_or back 0 0) (get_or back 1 0) (omega (arith, b, s)) ∙ spelled_all 2 back l

pub returns-in_err-switches : goal.returns-in_err-switches
returns-in_err-switches c =
    let r = c.args.self.now in
    let bytes = c.args.bytes.now in
    rw c.from_residual-in_err-switches.ensures
    (λ p f.
    let a = as_network r.header r.vocabulary _ p c.requires.kind f in
    let w = a.0 in
    c.in_err-switches.ensures w.switches (omega (arith, w.few, w.vocabulary.high)) (all_any w.switches)
    (sym (switches_front w bytes (length bytes - 2) a.4 (omega (arith, c.requires.size, a.2))) ∙ sym c.in_ok-front.ensures.cases.0))

pub returns-in_err-network : goal.returns-in_err-network
returns-in_err-network c =
    let r = c.args.self.now in
    let bytes = c.args.bytes.now in
    let at : ℕ = length bytes - 2 in
    let cut = c.in_ok-front.ensures.cases in
    let read = c.in_ok-switches in
    let fed = fed_bytes bytes c.in_ok-front.fed.now at c.from_be_bytes.result cut.1 (omega (arith, ap length cut.1, length-drop at bytes, c.requires.size)) (omega (arith, c.type_inv.bytes (at + 1))) (omega (arith, c.from_be_bytes.ensures)) in
    rw c.from_residual-in_err-network.ensures
    (λ p f.
    let a = as_network r.header r.vocabulary _ p c.requires.kind f in
    let w = a.0 in
    let n : at ≡ 2 * length w.switches = omega (arith, c.requires.size, a.2) in
    let e : w.switches ≡ c.as_slice.result.now =
    switches_known w.switches read.switches (sym (switches_front w bytes at a.4 n) ∙ sym cut.0 ∙ sym read.ensures.0) ∙ sym c.as_slice.ensures.same
    in
    let g : w.fed ≡ c.from_be_bytes.result = word_known w.fed _ (sym (feeds_back w bytes at a.4 n) ∙ sym cut.1 ∙ sym fed) in
    c.in_err-network.ensures
    (subst (λ (m : ℕ). SoundNetwork r.vocabulary c.as_slice.result.now m) g
    (subst (λ (s : List Switch). SoundNetwork r.vocabulary s w.fed) e
    (subst (λ (v : Vocabulary). SoundNetwork v w.switches w.fed) a.3 (network_sound w)))))

pub returns : goal.returns
returns c =
    let r = c.args.self.now in
    let bytes = c.args.bytes.now in
    let at : ℕ = length bytes - 2 in
    let cut = c.in_ok-front.ensures.cases in
    let read = c.in_ok-switches in
    let made = c.in_ok-network.ensures in
    let w = c.in_ok-network.network in
    let e : w.switches ≡ read.switches = made.1 ∙ c.as_slice.ensures.same in
    let fed = fed_bytes bytes c.in_ok-front.fed.now at c.from_be_bytes.result cut.1 (omega (arith, ap length cut.1, length-drop at bytes, c.requires.size)) (omega (arith, c.type_inv.bytes (at + 1))) (omega (arith, c.from_be_bytes.ensures)) in
    let long : length (flat_map switch_bytes read.switches) ≡ 2 * r.header.rows = ap length read.ensures.0 ∙ omega (arith, cut.2, c.requires.size) in
    record {
      suits =
          record {
            kind = sym c.requires.kind;
            rows = ap length e ∙ omega (arith, length_switch_bytes read.switches, long);
            words = made.0;
          };
      same =
          sym (take-append-drop at bytes)
          ∙ ap (λ (t : List ℕ). t ++ drop at bytes) (sym cut.0 ∙ sym read.ensures.0)
          ∙ ap (λ (t : List ℕ). flat_map switch_bytes read.switches ++ t) (sym cut.1 ∙ sym fed)
          ∙ ap (λ (t : List Switch). flat_map switch_bytes t ++ word_bytes c.from_be_bytes.result) (sym e)
          ∙ ap (λ (n : ℕ). flat_map switch_bytes w.switches ++ word_bytes n) (sym made.2);
    }
