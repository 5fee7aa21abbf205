-- The lines are the only ones that these bytes can be.
use Rattle.std.proofs.Common.{◌≡◌, sym, ap, ◌∙◌, subst}
use Rattle.std.specs.List.{flat_map}
use Rattle.books.proofs.Sound.{chart_sound}
use Rattle.books.specs.Lines.{SoundChart, line_bytes}
use Rattle.model.specs.declared.vocabulary.Vocabulary.{Vocabulary}
use Rattle.feeder.proofs.Books.{as_chart, lines_known}
use Rattle.feeder.proofs.Known.{all_any}
use Rattle.feeder.proofs.reading.Reading.chart_of.Goals as goal

pub returns-in_err-lines : goal.returns-in_err-lines
returns-in_err-lines c =
    let r = c.args.self.now in
    rw c.from_residual.ensures
    (λ x f.
    let a = as_chart r.header r.vocabulary _ x c.requires f in
    c.in_err-lines.ensures a.0.lines a.0.few (all_any a.0.lines) (sym a.3))

pub returns-in_err-chart : goal.returns-in_err-chart
returns-in_err-chart c =
    let r = c.args.self.now in
    let read = c.in_ok-lines in
    rw c.from_residual-in_err-chart.ensures
    (λ x f.
    let a = as_chart r.header r.vocabulary _ x c.requires f in
    let t = a.0 in
    let e : t.lines ≡ c.as_slice.result.now =
    lines_known t.lines read.lines (sym a.3 ∙ sym read.ensures.0) ∙ sym c.as_slice.ensures.same
    in
    c.in_err-chart.ensures
    (subst (SoundChart r.vocabulary) e (subst (λ (v : Vocabulary). SoundChart v t.lines) a.2 (chart_sound t))))

pub returns : goal.returns
returns c =
    let made = c.in_ok-chart.ensures in
    record {
      suits = record { kind = sym c.requires; words = made.0 };
      same = sym c.in_ok-lines.ensures.0 ∙ ap (flat_map line_bytes) (sym (made.1 ∙ c.as_slice.ensures.same));
    }
