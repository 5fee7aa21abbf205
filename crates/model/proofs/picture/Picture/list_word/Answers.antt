use Rattle.std.proofs.Common.{◌≡◌, ℕ, ◌+◌, ◌*◌, ◌/◌, ◌%◌, ◌^◌, ◌<◌, ◌≤◌, eqb, get_or, List, [], ◌∷◌, ◌++◌, length, sym, ap, ◌∙◌, add-one, arith}
use Rattle.std.specs.Prelude.{Option, Some, None}
use Rattle.std.proofs.lemmas.List.{length-map, length_push, map_push}
use Rattle.codec.specs.Tables.{Pushed}
use Rattle.model.specs.declared.fact.Fact.{Fact}
use lib.Bits.{bit_and}
use Rattle.std.proofs.lemmas.Bool.{eq-eqb, ne_eqb}
use Rattle.model.specs.declared.picture.Picture.{Picture}
use Rattle.model.specs.Pictures.{bit, chosen, holds}
use Rattle.model.proofs.Bits.{bit_shifted}
use Rattle.model.proofs.Chosen.{chosen_few, chosen_left, chosen_taken}
use Rattle.model.proofs.picture.Picture.list_word.Goals as goal
use Rattle.model.proofs.picture.Picture.list_word.Goals.{then-word-bit-eq1, else-word-bit-eq1}

-- there is a place for one fact more
pushed : (facts : List Fact) (n : ℕ) (f : Fact) (after : List Fact) (r : Option (Unit {0})) → Pushed 512 facts f after r
    → length facts ≤ n → n < 512 → after ≡ facts ++ (f ∷ [])
pushed facts n f after (Some _) p l h = p.1
pushed facts n f after None p l h = absurd (omega (arith, p.0))

-- a fact of word w, by its bit there
there : (p : Picture) (w b i : ℕ) → b < 64 → i ≡ w → holds p (64 * w + b) ≡ eqb (bit_and (get_or p.words i 0 / 2 ^ b) 1) 1
unfolding holds
there p w b i h e =
    let d : (64 * w + b) / 64 ≡ i = omega (arith, e) in
    let m : (64 * w + b) % 64 ≡ b = omega arith in
    ap (λ (k : ℕ). bit (get_or p.words k 0) ((64 * w + b) % 64)) d ∙ ap (bit (get_or p.words i 0)) m ∙ sym (bit_shifted (get_or p.words i 0) b)

pub loop-bit-init : goal.loop-bit-init
loop-bit-init c =
    let e = c.requires.before in
    let z : 64 * c.args.w ≡ 64 * c.args.w + 0 = omega arith in (
      e ∙ ap (λ (n : ℕ). chosen n (holds c.args.self.now)) z,
      omega (arith, length-map c.args.facts.now (λ (f : Fact). f.number), ap length e, chosen_few (64 * c.args.w) (holds c.args.self.now)),
    )

pub loop-bit-preserved : goal.loop-bit-preserved
loop-bit-preserved c =
    let p = c.args.self.now in
    let b = c.loop-bit.bit in
    let n = 64 * c.args.w + b in
    let facts = c.loop-bit.facts in
    let here = there p c.args.w b c.from.result c.loop-bit-test.true c.from.ensures in
    let next : 64 * c.args.w + (b + 1) ≡ n + 1 = omega arith in
    elim c.if-word-bit-eq1.branch [
      | then-word-bit-eq1 w ↦ rw (w.facts-is, pushed facts n _ w.push.new.self w.push.result w.push.ensures c.loop-bit.invariant.1 (omega (arith, c.requires.word, c.loop-bit-test.true))) (
        map_push (λ (f : Fact). f.number) facts (record { number = n })
            ∙ ap (λ (xs : List ℕ). xs ++ (n ∷ [])) c.loop-bit.invariant.0
            ∙ sym (chosen_taken n (holds p) (here ∙ eq-eqb _ 1 w.if-word-bit-eq1.true))
            ∙ ap (λ (k : ℕ). chosen k (holds p)) (sym (add-one n) ∙ sym next),
        omega (arith, length_push facts (record { number = n }), c.loop-bit.invariant.1),
      )
      | else-word-bit-eq1 w ↦ rw w.facts-is (
        c.loop-bit.invariant.0
            ∙ sym (chosen_left n (holds p) (here ∙ ne_eqb _ 1 w.if-word-bit-eq1.false))
            ∙ ap (λ (k : ℕ). chosen k (holds p)) (sym (add-one n) ∙ sym next),
        omega (arith, c.loop-bit.invariant.1),
      )
    ]

pub returns : goal.returns
returns c = c.loop-bit.invariant.0 ∙ ap (λ (n : ℕ). chosen n (holds c.args.self.now)) (omega arith)
