-- The nodes are the only ones that these bytes can be.
use Rattle.std.proofs.Common.{◌≡◌, sym, ap, ◌∙◌, subst}
use Rattle.std.specs.List.{flat_map}
use Rattle.books.proofs.Sound.{formula_sound}
use Rattle.books.specs.Nodes.{node_bytes}
use Rattle.books.specs.Rules.{SoundFormula}
use Rattle.model.specs.declared.vocabulary.Vocabulary.{Vocabulary}
use Rattle.feeder.proofs.Books.{as_formula, nodes_known, nodes_proper}
use Rattle.feeder.proofs.reading.Reading.formula_of.Goals as goal

pub returns-in_err-nodes : goal.returns-in_err-nodes
returns-in_err-nodes c =
    let r = c.args.self.now in
    rw c.from_residual.ensures
    (λ x f.
    let a = as_formula r.header r.vocabulary _ x c.requires f in
    c.in_err-nodes.ensures a.0.nodes a.0.few (nodes_proper a.0) (sym a.3))

pub returns-in_err-formula : goal.returns-in_err-formula
returns-in_err-formula c =
    let r = c.args.self.now in
    let read = c.in_ok-nodes in
    rw c.from_residual-in_err-formula.ensures
    (λ x f.
    let a = as_formula r.header r.vocabulary _ x c.requires f in
    let t = a.0 in
    let e : t.nodes ≡ c.as_slice.result.now =
    nodes_known t.nodes read.nodes (nodes_proper t) read.ensures.1 (sym a.3 ∙ sym read.ensures.0) ∙ sym c.as_slice.ensures.same
    in
    c.in_err-formula.ensures
    (subst (SoundFormula r.vocabulary) e (subst (λ (v : Vocabulary). SoundFormula v t.nodes) a.2 (formula_sound t))))

pub returns : goal.returns
returns c =
    let made = c.in_ok-formula.ensures in
    record {
      suits = record { kind = sym c.requires; words = made.0 };
      same = sym c.in_ok-nodes.ensures.0 ∙ ap (flat_map node_bytes) (sym (made.1 ∙ c.as_slice.ensures.same));
    }
