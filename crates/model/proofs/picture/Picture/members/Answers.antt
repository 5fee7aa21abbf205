use Rattle.std.proofs.Common.{◌≡◌, ℕ, ◌+◌, ◌*◌, ◌/◌, ◌%◌, ◌<◌, ◌≤◌, false, length, get_or, sym, refl, ap, ◌∙◌, arith}
use Rattle.std.proofs.lemmas.List.{length-map}
use Rattle.model.specs.declared.fact.Fact.{Fact}
use Rattle.model.specs.declared.picture.Picture.{Picture}
use Rattle.model.specs.Pictures.{bit, chosen, holds, members}
use Rattle.model.proofs.Bits.{bit_none}
use Rattle.model.proofs.Chosen.{chosen_skip}
use Rattle.model.proofs.picture.Picture.members.Goals as goal
use Rattle.model.proofs.picture.Picture.members.Goals.{then-self-from-ne0, else-self-from-ne0}

-- no fact of a word that is 0 holds
none_there : (p : Picture) (w : ℕ) → get_or p.words w 0 ≡ 0 → (f : ℕ) → 64 * w ≤ f → f < 64 * w + 64 → holds p f ≡ false
unfolding holds
none_there p w e f l h =
    let d : f / 64 ≡ w = omega arith in
    ap (λ (i : ℕ). bit (get_or p.words i 0) (f % 64)) d ∙ ap (λ (x : ℕ). bit x (f % 64)) e ∙ bit_none (f % 64)

pub loop-w-init : goal.loop-w-init
unfolding chosen
loop-w-init c = rw c.empty-facts.ensures refl

pub loop-w-preserved : goal.loop-w-preserved
loop-w-preserved c =
    let p = c.args.self.now in
    let w = c.loop-w.w in
    let more : 64 * w + 64 ≡ 64 * (w + 1) = omega arith in
    elim c.if-self-from-ne0.branch [
      | then-self-from-ne0 b ↦ rw b.facts-is (b.list_word.ensures ∙ ap (λ (n : ℕ). chosen n (holds p)) more)
      | else-self-from-ne0 b ↦ rw b.facts-is (
          c.loop-w.invariant
          ∙ sym (chosen_skip (64 * w) 64 (holds p) (none_there p w (omega (arith, b.if-self-from-ne0.false, ap (λ (i : ℕ). get_or p.words i 0) c.from.ensures))))
          ∙ ap (λ (n : ℕ). chosen n (holds p)) more)
    ]

pub returns-clause-same : goal.returns-clause-same
unfolding members
returns-clause-same c = c.loop-w.invariant ∙ ap (λ (n : ℕ). chosen n (holds c.args.self.now)) (omega arith)

pub returns-clause-long : goal.returns-clause-long
unfolding members
returns-clause-long c =
    sym (length-map c.loop-w.facts (λ (f : Fact). f.number))
    ∙ ap length c.loop-w.invariant
    ∙ ap (λ (n : ℕ). length (chosen n (holds c.args.self.now))) (omega arith)
