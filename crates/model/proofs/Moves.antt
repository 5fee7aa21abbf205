-- The lowest number that passes a test: numbers that fail can be skipped, the first that passes is it.
use Rattle.std.proofs.Common.{◌≡◌, ℕ, zero, suc, ◌+◌, ◌-◌, ◌<◌, ◌≤◌, Bool, true, false, Some, None, ap, ◌∙◌, ⊎_elim, arith}
use Rattle.std.proofs.lemmas.Bool.{cases_lt, cond-false, cond-true}
use Rattle.model.specs.Moves.{lowest, lowest_move}

module _ (test : ℕ → Bool) where
  -- k numbers that fail
  skipped : (k a n : ℕ) → ((m : ℕ) → a ≤ m → m < a + k → test m ≡ false) → lowest test a (k + n) ≡ lowest test (a + k) n
  unfolding lowest
  skipped zero a n e =
      let p : zero + n ≡ n = omega arith in
      let q : a + zero ≡ a = omega arith in
      cc
  skipped (suc k) a n e =
      let p : suc k + n ≡ suc (k + n) = omega arith in
      let q : suc a + k ≡ a + suc k = omega arith in
      let here = cond-false (test a) (Some a) (lowest test (suc a) (k + n)) (e a (omega arith) (omega arith)) in
      let rest = skipped k (suc a) n (λ m l h. e m (omega arith) (omega arith)) in
      ap (lowest test a) p ∙ here ∙ rest ∙ ap (λ (b : ℕ). lowest test b n) q

  pub lowest_skip : (a b : ℕ) → a ≤ b → b ≤ 4096 → ((m : ℕ) → a ≤ m → m < b → test m ≡ false) → lowest_move test a ≡ lowest_move test b
  lowest_skip a b h l e =
      let k = b - a in
      let p : 4096 - a ≡ k + (4096 - b) = omega arith in
      let q : a + k ≡ b = omega arith in
      ap (lowest test a) p ∙ skipped k a (4096 - b) (λ m i j. e m i (omega arith)) ∙ ap (λ (c : ℕ). lowest test c (4096 - b)) q

  pub lowest_here : (a : ℕ) → a < 4096 → test a ≡ true → lowest_move test a ≡ Some a
  unfolding lowest
  lowest_here a h e =
      let p : 4096 - a ≡ suc (4095 - a) = omega arith in
      ap (lowest test a) p ∙ cond-true (test a) (Some a) (lowest test (suc a) (4095 - a)) e

  -- no number is left
  pub lowest_past : (a : ℕ) → 4096 ≤ a → lowest_move test a ≡ None
  unfolding lowest
  lowest_past a h = let p : 4096 - a ≡ zero = omega arith in ap (lowest test a) p

  pub lowest_none : (a : ℕ) → ((m : ℕ) → a ≤ m → m < 4096 → test m ≡ false) → lowest_move test a ≡ None
  lowest_none a e =
      ⊎_elim
      (λ h. lowest_skip a 4096 (omega arith) (omega arith) e ∙ lowest_past 4096 (omega arith))
      (λ h. lowest_past a h)
      (cases_lt a 4096)
