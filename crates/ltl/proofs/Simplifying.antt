-- Simplified connectives: progression goes through them part by part, and a formula that comes out is TRUE or FALSE just
-- where its parts say so.
use Rattle.std.proofs.Common.{rules}
use Rattle.std.proofs.Common.{◌≡◌, ℕ, ◌⊎◌, List, [], ◌∷◌, map, refl, ap, ◌∙◌, inl, inr}
use Rattle.books.specs.Trees.{Formula, always, atom, conjunction, disjunction, eventually, exists, falsity, for_all, goal, negation, next, same, truth, until}
use Rattle.model.specs.declared.goal.Goal.{Goal}
use Rattle.model.specs.declared.picture.Picture.{Picture}
use Rattle.model.specs.declared.vocabulary.Vocabulary.{Vocabulary}
use Rattle.ltl.specs.Assignments.{Assignment, unassigned}
use Rattle.ltl.specs.Progression.{all_of, any_of, both, either, opposite, pending, progress, progress_through, progressed, standing}

-- TRUE, FALSE, or neither
pub seen : (f : Formula) → (f ≡ truth) ⊎ ((f ≡ falsity) ⊎ (standing f ≡ pending))
seen truth = inl refl
seen falsity = inr (inl refl)
seen (atom a) = inr (inr refl)
seen (goal a) = inr (inr refl)
seen (same s t) = inr (inr refl)
seen (negation f) = inr (inr refl)
seen (conjunction f g) = inr (inr refl)
seen (disjunction f g) = inr (inr refl)
seen (next f) = inr (inr refl)
seen (eventually f) = inr (inr refl)
seen (always f) = inr (inr refl)
seen (until f g) = inr (inr refl)
seen (for_all range body x) = inr (inr refl)
seen (exists range body x) = inr (inr refl)

-- what holds of TRUE, of FALSE and of what is neither holds of every formula
pub by_cases : (P : Formula → Type 0) → P truth → P falsity → ((f : Formula) → standing f ≡ pending → P f) → (f : Formula) → P f
by_cases P t l p f = search rules

pub both_pending : (f g : Formula) → standing f ≡ pending → standing g ≡ pending → both f g ≡ conjunction f g
unfolding both
both_pending f g p q = cc

pub both_truth : (f : Formula) → both f truth ≡ f
unfolding both
both_truth = search rules

pub both_falsity : (f : Formula) → both f falsity ≡ falsity
unfolding both
both_falsity = search rules

pub either_pending : (f g : Formula) → standing f ≡ pending → standing g ≡ pending → either f g ≡ disjunction f g
unfolding either
either_pending f g p q = cc

pub either_truth : (f : Formula) → either f truth ≡ truth
unfolding either
either_truth = search rules

pub either_falsity : (f : Formula) → either f falsity ≡ f
unfolding either
either_falsity = search rules

module _ (v : Vocabulary) (g : Goal) (q : Picture) (env : Assignment) where
  -- progression goes through a conjunction just formed, and through the others
  pub progressed_both : (f h : Formula) → progressed v g q env (both f h) ≡ both (progressed v g q env f) (progressed v g q env h)
  unfolding both progressed
  progressed_both f h = search rules

  pub progressed_either : (f h : Formula) → progressed v g q env (either f h) ≡ either (progressed v g q env f) (progressed v g q env h)
  unfolding either progressed
  progressed_either f h = search rules

  pub progressed_opposite : (f : Formula) → progressed v g q env (opposite f) ≡ opposite (progressed v g q env f)
  unfolding opposite progressed
  progressed_opposite = search rules

module _ (v : Vocabulary) (g : Goal) where
  -- and so it does through any number of pictures
  pub through_truth : (qs : List Picture) → progress_through v g qs truth ≡ truth
  unfolding progress_through progressed
  through_truth [] = refl
  through_truth (q ∷ qs) = through_truth qs

  pub through_falsity : (qs : List Picture) → progress_through v g qs falsity ≡ falsity
  unfolding progress_through progressed
  through_falsity [] = refl
  through_falsity (q ∷ qs) = through_falsity qs

  pub through_both : (qs : List Picture) (f h : Formula) → progress_through v g qs (both f h) ≡ both (progress_through v g qs f) (progress_through v g qs h)
  unfolding progress_through
  through_both [] f h = refl
  through_both (q ∷ qs) f h =
      ap (progress_through v g qs) (progressed_both v g q unassigned f h) ∙ through_both qs (progress v g q f) (progress v g q h)

  pub through_either : (qs : List Picture) (f h : Formula) → progress_through v g qs (either f h) ≡ either (progress_through v g qs f) (progress_through v g qs h)
  unfolding progress_through
  through_either [] f h = refl
  through_either (q ∷ qs) f h =
      ap (progress_through v g qs) (progressed_either v g q unassigned f h) ∙ through_either qs (progress v g q f) (progress v g q h)

  pub through_opposite : (qs : List Picture) (f : Formula) → progress_through v g qs (opposite f) ≡ opposite (progress_through v g qs f)
  unfolding progress_through
  through_opposite [] f = refl
  through_opposite (q ∷ qs) f = ap (progress_through v g qs) (progressed_opposite v g q unassigned f) ∙ through_opposite qs (progress v g q f)

  pub through_all : (qs : List Picture) (part : ℕ → Formula) (os : List ℕ)
      → progress_through v g qs (all_of (map part os)) ≡ all_of (map (λ o. progress_through v g qs (part o)) os)
  through_all qs part [] = through_truth qs
  through_all qs part (o ∷ os) =
      through_both qs (part o) (all_of (map part os)) ∙ ap (both (progress_through v g qs (part o))) (through_all qs part os)

  pub through_any : (qs : List Picture) (part : ℕ → Formula) (os : List ℕ)
      → progress_through v g qs (any_of (map part os)) ≡ any_of (map (λ o. progress_through v g qs (part o)) os)
  through_any qs part [] = through_falsity qs
  through_any qs part (o ∷ os) =
      through_either qs (part o) (any_of (map part os)) ∙ ap (either (progress_through v g qs (part o))) (through_any qs part os)
