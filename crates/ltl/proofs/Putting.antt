-- Objects put in for variables: a formula with them put in means, and progresses to, what the formula does where the
-- variables stand for these objects.
use Rattle.std.proofs.Common.{◌≡◌, ℕ, List, map, refl, ap, ◌∙◌}
use mathlib.Core.Path.{fun_ext}
use Rattle.books.specs.Trees.{Formula, always, atom, conjunction, disjunction, eventually, exists, falsity, for_all, goal, negation, next, same, truth, until}
use Rattle.model.specs.declared.goal.Goal.{Goal}
use Rattle.model.specs.declared.picture.Picture.{Picture}
use Rattle.model.specs.declared.term.Atom.{Atom}
use Rattle.model.specs.declared.vocabulary.Vocabulary.{Vocabulary}
use Rattle.model.specs.Goals.{goal_list}
use Rattle.model.specs.Numbering.{number_of}
use Rattle.model.specs.Pictures.{chosen, holds}
use Rattle.ltl.specs.Assignments.{Assignment, bind, put_atom, unbind}
use Rattle.ltl.specs.Progression.{all_of, any_of, constant, opposite, picked, progressed, put}
use Rattle.ltl.specs.Truth.{atom_true, goal_true, picks, wanted}
use Rattle.ltl.proofs.Assigning.{ground_put, object_put, over, over_bind, over_unbind, put_put_atom, put_put_term}

module _ (v : Vocabulary) (g : Goal) where
  pub atom_put : (q : Picture) (env outer : Assignment) (a : Atom) → atom_true v q outer (put_atom env a) ≡ atom_true v q (over env outer) a
  atom_put q env outer a = ap (λ (b : Atom). holds q (number_of v b)) (ground_put env outer a)

  pub goal_put : (env outer : Assignment) (a : Atom) → goal_true v g outer (put_atom env a) ≡ goal_true v g (over env outer) a
  goal_put env outer a = ap (λ (b : Atom). wanted (goal_list g) (number_of v b)) (ground_put env outer a)

  picks_put : (q : Picture) (env outer : Assignment) (f : Formula) → picks v g q outer (put env f) ≡ picks v g q (over env outer) f
  unfolding put
  picks_put q env outer truth = refl
  picks_put q env outer falsity = refl
  picks_put q env outer (atom a) = atom_put q env outer a
  picks_put q env outer (goal a) = goal_put env outer a
  picks_put q env outer (same s t) = refl
  picks_put q env outer (negation f) = refl
  picks_put q env outer (conjunction f h) = refl
  picks_put q env outer (disjunction f h) = refl
  picks_put q env outer (next f) = refl
  picks_put q env outer (eventually f) = refl
  picks_put q env outer (always f) = refl
  picks_put q env outer (until f h) = refl
  picks_put q env outer (for_all range body x) = refl
  picks_put q env outer (exists range body x) = refl

  -- a range with objects put in for the outer variables picks the same objects
  pub range_put : (q : Picture) (env outer : Assignment) (range : Formula) (x o : ℕ)
      → picks v g q (bind x o outer) (put (unbind x env) range) ≡ picks v g q (bind x o (over env outer)) range
  range_put q env outer range x o =
      picks_put q (unbind x env) (bind x o outer) range ∙ ap (λ (e : Assignment). picks v g q e range) (over_bind env outer x o)

  picked_put : (q : Picture) (env outer : Assignment) (range : Formula) (x : ℕ)
      → picked v g q outer (put (unbind x env) range) x ≡ picked v g q (over env outer) range x
  picked_put q env outer range x = ap (chosen v.objects) (fun_ext (λ o. range_put q env outer range x o))

  -- putting in twice
  pub put_put : (f : Formula) (env outer : Assignment) → put outer (put env f) ≡ put (over env outer) f
  unfolding put
  put_put truth env outer = refl
  put_put falsity env outer = refl
  put_put (atom a) env outer = ap atom (put_put_atom env outer a)
  put_put (goal a) env outer = ap goal (put_put_atom env outer a)
  put_put (same s t) env outer = let p = put_put_term env outer s in let q = put_put_term env outer t in cc
  put_put (negation f) env outer = ap negation (put_put f env outer)
  put_put (conjunction f h) env outer = let p = put_put f env outer in let q = put_put h env outer in cc
  put_put (disjunction f h) env outer = let p = put_put f env outer in let q = put_put h env outer in cc
  put_put (next f) env outer = ap next (put_put f env outer)
  put_put (eventually f) env outer = ap eventually (put_put f env outer)
  put_put (always f) env outer = ap always (put_put f env outer)
  put_put (until f h) env outer = let p = put_put f env outer in let q = put_put h env outer in cc
  put_put (for_all range body x) env outer =
      let e = over_unbind env outer x in
      let p : put (unbind x outer) (put (unbind x env) range) ≡ put (unbind x (over env outer)) range = put_put range (unbind x env) (unbind x outer) ∙ ap (λ (a : Assignment). put a range) e in
      let q : put (unbind x outer) (put (unbind x env) body) ≡ put (unbind x (over env outer)) body = put_put body (unbind x env) (unbind x outer) ∙ ap (λ (a : Assignment). put a body) e in
      cc
  put_put (exists range body x) env outer =
      let e = over_unbind env outer x in
      let p : put (unbind x outer) (put (unbind x env) range) ≡ put (unbind x (over env outer)) range = put_put range (unbind x env) (unbind x outer) ∙ ap (λ (a : Assignment). put a range) e in
      let q : put (unbind x outer) (put (unbind x env) body) ≡ put (unbind x (over env outer)) body = put_put body (unbind x env) (unbind x outer) ∙ ap (λ (a : Assignment). put a body) e in
      cc

  pub progressed_put : (f : Formula) (q : Picture) (env outer : Assignment) → progressed v g q outer (put env f) ≡ progressed v g q (over env outer) f
  unfolding put progressed
  progressed_put truth q env outer = refl
  progressed_put falsity q env outer = refl
  progressed_put (atom a) q env outer = ap constant (atom_put q env outer a)
  progressed_put (goal a) q env outer = ap constant (goal_put env outer a)
  progressed_put (same s t) q env outer = let a = object_put env outer s in let b = object_put env outer t in cc
  progressed_put (negation f) q env outer = ap opposite (progressed_put f q env outer)
  progressed_put (conjunction f h) q env outer = let a = progressed_put f q env outer in let b = progressed_put h q env outer in cc
  progressed_put (disjunction f h) q env outer = let a = progressed_put f q env outer in let b = progressed_put h q env outer in cc
  progressed_put (next f) q env outer = put_put f env outer
  progressed_put (eventually f) q env outer =
      let a = progressed_put f q env outer in
      let b : put outer (put env (eventually f)) ≡ put (over env outer) (eventually f) = put_put (eventually f) env outer in
      cc
  progressed_put (always f) q env outer =
      let a = progressed_put f q env outer in
      let b : put outer (put env (always f)) ≡ put (over env outer) (always f) = put_put (always f) env outer in
      cc
  progressed_put (until f h) q env outer =
      let a = progressed_put f q env outer in
      let b = progressed_put h q env outer in
      let d : put outer (put env (until f h)) ≡ put (over env outer) (until f h) = put_put (until f h) env outer in
      cc
  progressed_put (for_all range body x) q env outer =
      ap (λ (part : ℕ → Formula). all_of (map part (picked v g q outer (put (unbind x env) range) x)))
      (fun_ext (λ o. progressed_put body q (unbind x env) (bind x o outer) ∙ ap (λ (e : Assignment). progressed v g q e body) (over_bind env outer x o)))
      ∙ ap (λ (os : List ℕ). all_of (map (λ o. progressed v g q (bind x o (over env outer)) body) os)) (picked_put q env outer range x)
  progressed_put (exists range body x) q env outer =
      ap (λ (part : ℕ → Formula). any_of (map part (picked v g q outer (put (unbind x env) range) x)))
      (fun_ext (λ o. progressed_put body q (unbind x env) (bind x o outer) ∙ ap (λ (e : Assignment). progressed v g q e body) (over_bind env outer x o)))
      ∙ ap (λ (os : List ℕ). any_of (map (λ o. progressed v g q (bind x o (over env outer)) body) os)) (picked_put q env outer range x)
