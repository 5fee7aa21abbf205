-- Looking for the lowest allowed move: where an argument does not fit, no larger one does, so that all moves up to the
-- next operator, or up to the next first argument, can be skipped.
use Rattle.std.proofs.Common.{◌≡◌, ℕ, ◌+◌, ◌*◌, ◌/◌, ◌<◌, ◌≤◌, true, false, Some, None, arith, length}
use Rattle.model.specs.declared.picture.Picture.{Picture}
use Rattle.model.specs.Moves.{lowest_move}
use Rattle.model.proofs.Moves.{lowest_here, lowest_none, lowest_skip}
use Rattle.plants.specs.declared.actions.ActionTable.{ActionTable}
use Rattle.std.proofs.lemmas.Bool.Decides.{nat_tests}
use Rattle.std.proofs.lemmas.Grind.{common_steps}
use Rattle.strips.specs.declared.moves.NoMove.TheVariants.{Operator, First, Second}
use Rattle.strips.specs.Grounding.{argument_fits, first_argument, operator_at, operator_number, second_argument}
use Rattle.strips.specs.Steps.{Lacks, action_allowed, needs_hold, takes_both, takes_first, takes_second}

-- a larger argument of the same operator
above : (t : ActionTable) (m k : ℕ) → operator_number k ≡ operator_number m → (i x y : ℕ) → x ≤ y
    → argument_fits t.vocabulary.objects (operator_at t m).parameters i x ≡ false
    → argument_fits t.vocabulary.objects (operator_at t k).parameters i y ≡ false
above t m k same i x y l e = grind (arith, nat_tests)

module _ (t : ActionTable) (s : Picture) (m : ℕ) where
  -- behind the last operator no move is allowed
  pub lowest_end : Lacks t m Operator → lowest_move (action_allowed t s) m ≡ None
  lowest_end h = lowest_none (action_allowed t s) m (λ k l g. grind (arith, nat_tests))

  pub skip_operator : Lacks t m First → lowest_move (action_allowed t s) m ≡ lowest_move (action_allowed t s) ((m / 256 + 1) * 256)
  skip_operator e =
      lowest_skip (action_allowed t s) m ((m / 256 + 1) * 256) (omega arith) (omega (arith, t.few))
      (λ k l g.
      let no : takes_first t k ≡ false = above t m k (omega arith) 0 (first_argument m) (first_argument k) (omega arith) e.1 in
      grind arith)

  pub skip_argument : Lacks t m Second → lowest_move (action_allowed t s) m ≡ lowest_move (action_allowed t s) ((m / 16 + 1) * 16)
  skip_argument e =
      lowest_skip (action_allowed t s) m ((m / 16 + 1) * 16) (omega arith) (omega (arith, t.few))
      (λ k l g.
      let no : takes_second t k ≡ false = above t m k (omega arith) 1 (second_argument m) (second_argument k) (omega arith) e.1 in
      grind arith)

  -- the arguments fit, so the preconditions tell
  module _ (h : operator_number m < length t.operators) (fit : takes_both t m ≡ true) where
    pub skip_one : needs_hold t s m ≡ false → lowest_move (action_allowed t s) m ≡ lowest_move (action_allowed t s) (m + 1)
    skip_one n =
        lowest_skip (action_allowed t s) m (m + 1) (omega arith) (omega (arith, t.few)) (λ k l g. let q : k ≡ m = omega arith in grind arith)

    pub lowest_found : needs_hold t s m ≡ true → lowest_move (action_allowed t s) m ≡ Some m
    lowest_found n = lowest_here (action_allowed t s) m (omega (arith, t.few)) (grind (arith, nat_tests))

-- all that the search for the lowest move needs
pub ruleset skipping = (common_steps, lowest_end, lowest_found, skip_argument, skip_one, skip_operator)
