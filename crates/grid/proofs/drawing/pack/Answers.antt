-- One word holds the three sets, and the seven others are 0.
use Rattle.std.proofs.Common.{◌≡◌, ℕ, zero, suc, ◌/◌, ◌%◌, ◌^◌, ◌<◌, ◌∷◌, get_or, replicate, sym, refl, ap, ◌∙◌, ⊎_elim, arith}
use Rattle.model.specs.Drawn.{bits_below, bits_of}
use Rattle.model.specs.Pictures.{bit, holds}
use Rattle.model.proofs.Bits.{bit_none}
use Rattle.std.proofs.lemmas.Bool.{cases_lt}
use Rattle.grid.proofs.Packing.{side_past, word_bit, word_of, word_small}
use Rattle.grid.specs.Shown.{side_by_side}
use Rattle.grid.proofs.drawing.pack.Goals as goal
use Rattle.grid.proofs.drawing.pack.Goals.{After-from-3}

zeros : (n i : ℕ) → ◌≡◌ {A = ℕ} (get_or (replicate n 0) i 0) 0
zeros zero i = refl
zeros (suc n) zero = refl
zeros (suc n) (suc i) = zeros n i

-- behind the first word
rest : (word i : ℕ) → 0 < i → ◌≡◌ {A = ℕ} (get_or (word ∷ replicate 7 0) i 0) 0
rest word zero h = absurd (omega arith)
rest word (suc i) h = zeros 7 i

small : (word : ℕ) → word < 2 ^ 64 → (i : ℕ) → get_or (word ∷ replicate 7 0) i 0 < 2 ^ 64
small word h zero = h
small word h (suc i) = let e = zeros 7 i in omega arith

-- each set is that of the bits below the number of sections
few : (c : After-from-3) → (c.from.result < 2 ^ c.args.network.now.vocabulary.objects) × (c.from-2.result < 2 ^ c.args.network.now.vocabulary.objects)
    × (c.from-3.result < 2 ^ c.args.network.now.vocabulary.objects)
few c =
    let n = c.args.network.now.vocabulary.objects in (
      omega (arith, c.from.ensures, c.within.ensures, bits_below n (bit c.args.closed.bits)),
      omega (arith, c.from-2.ensures, c.within-2.ensures, bits_below n (bit c.args.earthed.bits)),
      omega (arith, c.from-3.ensures, c.within-3.ensures, bits_below n (bit c.args.live.bits)),
    )

pub invariant_of-result : goal.invariant_of-result
invariant_of-result c =
    let v = c.args.network.now.vocabulary in
    let l = few (goal.at.invariant_of-result c).After-from-3 in
    record { places = refl; small = small _ (word_small v.objects _ _ _ v.high l.0 l.1 l.2) }

pub returns : goal.returns
unfolding holds
returns c =
    let v = c.args.network.now.vocabulary in
    let n = v.objects in
    let x = c.from.result in
    let y = c.from-2.result in
    let z = c.from-3.result in
    let l = few (goal.at.returns c).After-from-3 in
    let word = word_of n x y z in
    λ f h.
    let same : side_by_side n x y z f ≡ side_by_side n (bits_of n (bit c.args.closed.bits)) (bits_of n (bit c.args.earthed.bits)) (bits_of n (bit c.args.live.bits)) f =
    cc (c.from.ensures ∙ c.within.ensures, c.from-2.ensures ∙ c.within-2.ensures, c.from-3.ensures ∙ c.within-3.ensures)
    in
    ⊎_elim
    (λ p.
    let d : f / 64 ≡ 0 = omega arith in
    let m : f % 64 ≡ f = omega arith in
    ap (λ (i : ℕ). bit (get_or (word ∷ replicate 7 0) i 0) (f % 64)) d
    ∙ ap (bit word) m
    ∙ word_bit n x y z v.high l.0 l.1 l.2 f
    ∙ same)
    (λ p.
    ap (λ (w : ℕ). bit w (f % 64)) (rest word (f / 64) (omega arith))
    ∙ bit_none (f % 64)
    ∙ sym (side_past n x y z v.high l.0 l.1 l.2 f (omega (arith, v.high, p)))
    ∙ same)
    (cases_lt f 64)
