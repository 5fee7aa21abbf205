-- The steps of a chart while one picture stays: those from which the broken step is met within n turns grow with n, and
-- there are 17 steps, so nothing new is met after 17 turns.
use Rattle.std.proofs.lemmas.Grind.{common_steps}
use Rattle.std.specs.Prelude.{◌≡◌, ℕ, zero, suc, ◌+◌, ◌<◌, ◌≤◌, Bool, true, false, not, List, [], ◌∷◌, Decides, ◌==◌, nat_lt}
use Rattle.std.proofs.Math.Logic.{⊎_elim}
use Rattle.std.proofs.Math.Path.{refl, ap, subst}
use Rattle.std.proofs.Common.{sym, ◌∙◌}
use native.Mathlib.Omega.{arith}
use Rattle.books.specs.declared.chart.Chart.{Chart}
use Rattle.books.specs.declared.line.Line.{Line}
use Rattle.books.specs.Lines.{line_fits}
use Rattle.std.specs.List.{list_all}
use Rattle.model.specs.declared.picture.Picture.{Picture}
use Rattle.model.specs.Goals.{literal_holds}
use Rattle.model.specs.Runs.{picture_at}
use Rattle.model.specs.Vocabularies.{fact_total}
use Rattle.model.proofs.Growth.{stable_on}
use Rattle.std.proofs.lemmas.Bool.{and_from, and_left, and_parts, cases_Bool, cases_lt, cond_both, cond-false, false≢true, lt-ltb, ltb-true, ne_eqb, not_from_false, not_from_true, not-true, not-false}
use Rattle.charts.specs.Steps.{Permits, followed, leads, rests, stays, step_after, step_at}

-- the bounds of a line that fits
line_bounds : (facts : ℕ) (l : Line) → line_fits facts l ≡ true → (l.from ≤ 15) × (l.to ≤ 16)
line_bounds facts l e = grind (arith, common_steps)

-- no line leaves a step from 16 on
none_followed : (facts : ℕ) (lines : List Line) (step : ℕ) (q : Picture) → list_all (line_fits facts) lines ≡ true → 16 ≤ step → followed lines step q ≡ step
none_followed facts [] step q e h = refl
none_followed facts (l ∷ lines) step q e h =
    let p = and_parts (line_fits facts l) (list_all (line_fits facts) lines) e in
    let b = line_bounds facts l p.0 in
    cond-false (leads step q l) l.to (followed lines step q)
    (and_left (l.from == step) (literal_holds q l.literal) (ne_eqb l.from step (λ z. omega (arith, b.0))))
    ∙ none_followed facts lines step q p.1 h

-- from one of the 17 steps, list_all line leads to one of them
followed_below : (facts : ℕ) (lines : List Line) (step : ℕ) (q : Picture) → list_all (line_fits facts) lines ≡ true → step < 17 → followed lines step q < 17
followed_below facts [] step q e h = h
followed_below facts (l ∷ lines) step q e h =
    let p = and_parts (line_fits facts l) (list_all (line_fits facts) lines) e in
    let b = line_bounds facts l p.0 in
    cond_both (leads step q l) l.to (followed lines step q) (λ n. n < 17) (λ z. omega (arith, b.1)) (λ z. followed_below facts lines step q p.1 h)

module _ (c : Chart) where
  pub broken_stays : (step : ℕ) (q : Picture) → 16 ≤ step → step_after c step q ≡ step
  unfolding step_after
  broken_stays step q h = none_followed (fact_total c.vocabulary) c.lines step q c.fits h

  step_below : (step : ℕ) (q : Picture) → step < 17 → step_after c step q < 17
  unfolding step_after
  step_below step q h = followed_below (fact_total c.vocabulary) c.lines step q c.fits h

  -- the first picture taken in
  pub step_shift : (step : ℕ) (q r : Picture) (rs : List Picture) (i : ℕ) → step_at c (step_after c step q) r rs i ≡ step_at c step q (r ∷ rs) (suc i)
  unfolding step_at
  step_shift step q r rs zero = refl
  step_shift step q r rs (suc i) = ap (λ (s : ℕ). step_after c s (picture_at r rs i)) (step_shift step q r rs i)

  pub taken_in : (step : ℕ) (q r : Picture) (rs : List Picture)
      → (Permits c step q (r ∷ rs) → Permits c (step_after c step q) r rs) × (Permits c (step_after c step q) r rs → Permits c step q (r ∷ rs))
  unfolding step_at
  taken_in step q r rs = (
    λ p i. subst (λ (n : ℕ). n < 16) (sym (step_shift step q r rs i)) (p (suc i)),
    back,
  )
    where
      back : Permits c (step_after c step q) r rs → Permits c step q (r ∷ rs)
      back p zero =
          ⊎_elim (λ h. h) (λ h. let e = broken_stays step q h in let z = p zero in absurd (omega arith)) (cases_lt step 16)
      back p (suc i) = subst (λ (n : ℕ). n < 16) (step_shift step q r rs i) (p i)

  -- one picture, again and again
  module _ (q : Picture) where
    again : (step i : ℕ) → step_at c (step_after c step q) q [] i ≡ step_at c step q [] (suc i)
    unfolding step_at
    again step zero = refl
    again step (suc i) = ap (λ (s : ℕ). step_after c s q) (again step i)

    -- the steps from which the broken one is met within n turns
    abbrev Breaks : ℕ → ℕ → Bool
    Breaks n step = not (stays c q n step)

    stays_less : (n step : ℕ) → stays c q (suc n) step ≡ true → stays c q n step ≡ true
    unfolding stays
    stays_less zero step e = (and_parts (nat_lt step 16) (stays c q zero (step_after c step q)) e).0
    stays_less (suc n) step e =
        let p = and_parts (nat_lt step 16) (stays c q (suc n) (step_after c step q)) e in
        and_from (nat_lt step 16) (stays c q n (step_after c step q)) p.0 (stays_less n (step_after c step q) p.1)

    breaks_more : (n step : ℕ) → Breaks n step ≡ true → Breaks (suc n) step ≡ true
    breaks_more n step e =
        ⊎_elim
        (λ t. let z : true ≡ false = sym (stays_less n step t) ∙ not-true (stays c q n step) e in absurd (false≢true (sym z)))
        (λ f. not_from_false (stays c q (suc n) step) f)
        (cases_Bool (stays c q (suc n) step))

    breaks_stable : (n : ℕ) → ((x : ℕ) → x < 17 → Breaks n x ≡ Breaks (suc n) x) → (x : ℕ) → x < 17 → Breaks (suc n) x ≡ Breaks (suc (suc n)) x
    unfolding stays
    breaks_stable n e x h = let p = same_not (stays c q n (step_after c x q)) (stays c q (suc n) (step_after c x q)) (e (step_after c x q) (step_below x q h)) in cc
      where
        same_not : (a b : Bool) → not a ≡ not b → a ≡ b
        same_not true true k = refl
        same_not true false k = absurd (false≢true k)
        same_not false true k = absurd (false≢true (sym k))
        same_not false false k = refl

    stays_fewer : (m n step : ℕ) → stays c q (m + n) step ≡ true → stays c q n step ≡ true
    stays_fewer zero n step e = ap (λ (k : ℕ). stays c q k step) (omega arith) ∙ e
    stays_fewer (suc m) n step e =
        let z : suc m + n ≡ suc (m + n) = omega arith in
        stays_fewer m n step (stays_less (m + n) step (ap (λ (k : ℕ). stays c q k step) (sym z) ∙ e))

    -- what stays for 17 turns stays for ever
    stays_ever : (step : ℕ) → stays c q 17 step ≡ true → (n : ℕ) → stays c q n step ≡ true
    unfolding stays
    stays_ever step e n =
        let below = ltb-true step 16 (stays_fewer 17 0 step e) in
        let on : Breaks (17 + n) step ≡ Breaks 17 step = stable_on 17 Breaks breaks_more breaks_stable n step (omega arith) in
        stays_fewer 17 n step (not-false (stays c q (17 + n) step) (on ∙ not_from_true (stays c q 17 step) e))

    stays_step : (n step : ℕ) → stays c q n step ≡ true → step_at c step q [] n < 16
    unfolding stays step_at
    stays_step zero step e = ltb-true step 16 e
    stays_step (suc n) step e =
        subst (λ (k : ℕ). k < 16) (again step n)
        (stays_step n (step_after c step q) (and_parts (nat_lt step 16) (stays c q n (step_after c step q)) e).1)

    step_stays : (n step : ℕ) → Permits c step q [] → stays c q n step ≡ true
    unfolding stays step_at
    step_stays zero step p = lt-ltb step 16 (p 0)
    step_stays (suc n) step p =
        and_from (nat_lt step 16) (stays c q n (step_after c step q)) (lt-ltb step 16 (p 0))
        (step_stays n (step_after c step q) (λ i. subst (λ (k : ℕ). k < 16) (sym (again step i)) (p (suc i))))

    pub rests_decided : (step : ℕ) → Decides (rests c step q) (Permits c step q [])
    rests_decided step = (λ e i. stays_step i step (stays_ever step e i), step_stays 17 step)

  -- the broken step permits nothing
  pub broken_none : (step : ℕ) (q : Picture) (qs : List Picture) → step ≡ 16 → Permits c step q qs → ⊥
  unfolding step_at
  broken_none step q qs e p = let h = p 0 in omega arith
