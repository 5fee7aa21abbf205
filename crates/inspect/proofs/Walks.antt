-- A walk from each number that passes a test to the lowest one behind it meets all numbers that pass, in their order.
use Rattle.std.proofs.Common.{◌≡◌, ℕ, zero, suc, ◌+◌, ◌-◌, ◌<◌, ◌≤◌, Bool, true, false, List, [], ◌∷◌, ◌++◌, Some, None, Option, sym, ap, ◌∙◌, subst, ⊎_elim, arith}
use Rattle.model.proofs.Chosen.{chosen_left, chosen_taken}
use Rattle.model.specs.Moves.{lowest, lowest_move}
use Rattle.model.specs.Pictures.{chosen}
use Rattle.std.proofs.lemmas.Bool.{cases_Bool, cond-false, cond-true}

module _ (test : ℕ → Bool) where
  -- what is known of the lowest of n numbers from a first one on: it is one of these, and the only one of them that
  -- passes up to itself
  abbrev Next : ℕ → ℕ → Option ℕ → Type 0
  Next from n (Some m) = (from ≤ m) × ((m < from + n) × (chosen (suc m) test ≡ chosen from test ++ (m ∷ [])))
  Next from n None = chosen (from + n) test ≡ chosen from test

  -- a number that fails, in front of the others
  later : (from n : ℕ) → test from ≡ false → (o : Option ℕ) → Next (suc from) n o → Next from (suc n) o
  later from n e (Some m) h =
      let q = chosen_left from test e in
      (omega (arith, h.0), (omega (arith, h.1.0), h.1.1 ∙ ap (λ (t : List ℕ). t ++ (m ∷ [])) q))
  later from n e None h =
      let p : from + suc n ≡ suc from + n = omega arith in
      ap (λ (k : ℕ). chosen k test) p ∙ h ∙ chosen_left from test e

  -- a number that passes
  here : (from n : ℕ) → test from ≡ true → (o : Option ℕ) → o ≡ Some from → Next from (suc n) o
  here from n e o s = subst (Next from (suc n)) (sym s) (omega arith, (omega arith, chosen_taken from test e))

  -- the lowest number, if there is one
  walked : (n from : ℕ) (o : Option ℕ) → o ≡ lowest test from n → Next from n o
  unfolding lowest
  walked zero from (Some m) q = let z : ◌≡◌ {A = ℕ} 0 1 = cc in absurd (omega arith)
  walked zero from None q = let p : from + zero ≡ from = omega arith in ap (λ (k : ℕ). chosen k test) p
  walked (suc n) from o q =
      ⊎_elim
      (λ e. here from n e o (q ∙ cond-true (test from) (Some from) (lowest test (suc from) n) e))
      (λ e. later from n e o (walked n (suc from) o (q ∙ cond-false (test from) (Some from) (lowest test (suc from) n) e)))
      (cases_Bool (test from))

  module _ (from : ℕ) (low : from ≤ 4096) where
    -- how many numbers are left
    all : from + (4096 - from) ≡ 4096
    all = omega arith

    -- a move is found
    pub next_move : (m : ℕ) → Some m ≡ lowest_move test from → (from ≤ m) × ((m < 4096) × (chosen (suc m) test ≡ chosen from test ++ (m ∷ [])))
    next_move m q = let w = walked (4096 - from) from (Some m) q in (w.0, (omega (arith, w.1.0), w.1.1))

    -- no move is left
    pub no_move : None ≡ lowest_move test from → chosen 4096 test ≡ chosen from test
    no_move q = ap (λ (k : ℕ). chosen k test) (sym all) ∙ walked (4096 - from) from None q
