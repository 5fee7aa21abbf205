-- Progression is sound, operator by operator; a formula with objects put in means what it means with these objects.
use Rattle.std.proofs.Common.{ℕ, suc, eqb, ◌⊎◌, sym, ◌∙◌, subst, inl, inr, ⊎_elim, arith}
use Rattle.books.specs.Trees.{Formula, always, atom, conjunction, disjunction, eventually, exists, falsity, for_all, goal, negation, next, same, truth, until}
use Rattle.model.specs.declared.goal.Goal.{Goal}
use Rattle.model.specs.declared.picture.Picture.{Picture}
use Rattle.model.specs.declared.vocabulary.Vocabulary.{Vocabulary}
use Rattle.std.proofs.lemmas.Bool.{cases_eq, eq-eqb, eqb-true}
use Rattle.ltl.specs.Assignments.{Assignment, bind, object_under, put_atom, unassigned, unbind}
use Rattle.ltl.specs.Laws.{Iff, ProgressionSound}
use Rattle.ltl.specs.Progression.{both, progressed, put}
use Rattle.ltl.specs.Truth.{Holds, atom_true, goal_true, picks}
use Rattle.ltl.proofs.Assigning.{object_put, over, over_bind, over_unassigned}
use Rattle.ltl.proofs.Meaning.{holds_all, holds_any, holds_both, holds_constant, holds_either, holds_opposite, iff_back, iff_chain, iff_true, same_assignment}
use Rattle.ltl.proofs.Putting.{atom_put, goal_put, range_put}

module _ (v : Vocabulary) (g : Goal) (w : ℕ → Picture) where
  -- a quantifier's body, once its variable stands for an object
  rebound : (body : Formula) (env outer : Assignment) (x o i : ℕ)
      → Iff (Holds v g w (bind x o outer) (put (unbind x env) body) i) (Holds v g w (over (unbind x env) (bind x o outer)) body i)
      → Iff (Holds v g w (bind x o outer) (put (unbind x env) body) i) (Holds v g w (bind x o (over env outer)) body i)
  rebound body env outer x o i e =
      iff_chain e (same_assignment v g w body i (over (unbind x env) (bind x o outer)) (bind x o (over env outer)) (over_bind env outer x o))

  pub holds_put : (f : Formula) (env outer : Assignment) (i : ℕ) → Iff (Holds v g w outer (put env f) i) (Holds v g w (over env outer) f i)
  unfolding Holds put
  holds_put truth env outer i = (λ p. p, λ p. p)
  holds_put falsity env outer i = (λ p. p, λ p. p)
  holds_put (atom a) env outer i = iff_true (atom_true v (w i) outer (put_atom env a)) (atom_true v (w i) (over env outer) a) (atom_put v g (w i) env outer a)
  holds_put (goal a) env outer i = iff_true (goal_true v g outer (put_atom env a)) (goal_true v g (over env outer) a) (goal_put v g env outer a)
  holds_put (same s t) env outer i =
      let a = object_put env outer s in
      let b = object_put env outer t in
      (λ e. sym a ∙ e ∙ b, λ e. a ∙ e ∙ sym b)
  holds_put (negation f) env outer i = let a = holds_put f env outer i in (λ n p. n (a.1 p), λ n p. n (a.0 p))
  holds_put (conjunction f h) env outer i =
      let a = holds_put f env outer i in
      let b = holds_put h env outer i in
      (λ p. (a.0 p.0, b.0 p.1), λ p. (a.1 p.0, b.1 p.1))
  holds_put (disjunction f h) env outer i =
      let a = holds_put f env outer i in
      let b = holds_put h env outer i in
      (λ p. ⊎_elim (λ x. inl (a.0 x)) (λ x. inr (b.0 x)) p, λ p. ⊎_elim (λ x. inl (a.1 x)) (λ x. inr (b.1 x)) p)
  holds_put (next f) env outer i = holds_put f env outer (suc i)
  holds_put (eventually f) env outer i =
      (λ p. (p.0, (p.1.0, (holds_put f env outer p.0).0 p.1.1)), λ p. (p.0, (p.1.0, (holds_put f env outer p.0).1 p.1.1)))
  holds_put (always f) env outer i = (λ p j h. (holds_put f env outer j).0 (p j h), λ p j h. (holds_put f env outer j).1 (p j h))
  holds_put (until f h) env outer i = (
    λ p. (p.0, (p.1.0, ((holds_put h env outer p.0).0 p.1.1.0, λ j a b. (holds_put f env outer j).0 (p.1.1.1 j a b)))),
    λ p. (p.0, (p.1.0, ((holds_put h env outer p.0).1 p.1.1.0, λ j a b. (holds_put f env outer j).1 (p.1.1.1 j a b)))),
  )
  holds_put (for_all range body x) env outer i = (
    λ p o h e. (rebound body env outer x o i (holds_put body (unbind x env) (bind x o outer) i)).0 (p o h (range_put v g (w i) env outer range x o ∙ e)),
    λ p o h e. (rebound body env outer x o i (holds_put body (unbind x env) (bind x o outer) i)).1 (p o h (sym (range_put v g (w i) env outer range x o) ∙ e)),
  )
  holds_put (exists range body x) env outer i = (
    λ p. (p.0, (p.1.0, (sym (range_put v g (w i) env outer range x p.0) ∙ p.1.1.0, (rebound body env outer x p.0 i (holds_put body (unbind x env) (bind x p.0 outer) i)).0 p.1.1.1))),
    λ p. (p.0, (p.1.0, (range_put v g (w i) env outer range x p.0 ∙ p.1.1.0, (rebound body env outer x p.0 i (holds_put body (unbind x env) (bind x p.0 outer) i)).1 p.1.1.1))),
  )

  -- with all objects put in, nothing is left to assign
  pub holds_closed : (f : Formula) (env : Assignment) (i : ℕ) → Iff (Holds v g w env f i) (Holds v g w unassigned (put env f) i)
  holds_closed f env i = iff_back (iff_chain (holds_put f env unassigned i) (same_assignment v g w f i (over env unassigned) env (over_unassigned env)))

  -- the temporal operators, told by this position and what follows
  pub eventually_now : (f : Formula) (env : Assignment) (i : ℕ) → Iff (Holds v g w env (eventually f) i) (Holds v g w env f i ⊎ Holds v g w env (eventually f) (suc i))
  unfolding Holds
  eventually_now f env i = (
    λ p. ⊎_elim
        (λ e. inl (subst (λ (j : ℕ). Holds v g w env f j) (sym e) p.1.1))
        (λ n. let h = p.1.0 in inr (p.0, (omega arith, p.1.1)))
        (cases_eq i p.0),
    λ p. ⊎_elim (λ x. (i, (omega arith, x))) (λ x. let h = x.1.0 in (x.0, (omega arith, x.1.1))) p,
  )

  pub always_now : (f : Formula) (env : Assignment) (i : ℕ) → Iff (Holds v g w env (always f) i) (Holds v g w env f i × Holds v g w env (always f) (suc i))
  unfolding Holds
  always_now f env i = (
    λ p. (p i (omega arith), λ j h. p j (omega arith)),
    λ p j h. ⊎_elim (λ e. subst (λ (k : ℕ). Holds v g w env f k) e p.0) (λ n. p.1 j (omega arith)) (cases_eq i j),
  )

  pub until_now : (f h : Formula) (env : Assignment) (i : ℕ)
      → Iff (Holds v g w env (until f h) i) (Holds v g w env h i ⊎ (Holds v g w env f i × Holds v g w env (until f h) (suc i)))
  unfolding Holds
  until_now f h env i = (
    λ p. ⊎_elim
        (λ e. inl (subst (λ (j : ℕ). Holds v g w env h j) (sym e) p.1.1.0))
        (λ n. let l = p.1.0 in inr (p.1.1.1 i (omega arith) (omega arith), (p.0, (omega arith, (p.1.1.0, λ j a b. p.1.1.1 j (omega arith) b)))))
        (cases_eq i p.0),
    λ p. ⊎_elim
        (λ x. (i, (omega arith, (x, λ j a b. absurd (omega arith)))))
        (λ x. let l = x.1.1.0 in
        (x.1.0, (omega arith, (x.1.1.1.0, λ j a b. ⊎_elim (λ e. subst (λ (k : ℕ). Holds v g w env f k) e x.0) (λ n. x.1.1.1.1 j (omega arith) b) (cases_eq i j)))))
        p,
  )

  -- a formula now, and what is left of it at the next position
  pub sound : (f : Formula) (env : Assignment) (i : ℕ) → Iff (Holds v g w env f i) (Holds v g w unassigned (progressed v g (w i) env f) (suc i))
  unfolding Holds progressed
  sound truth env i = (λ p. p, λ p. p)
  sound falsity env i = (λ p. p, λ p. p)
  sound (atom a) env i = holds_constant v g w unassigned (suc i) (atom_true v (w i) env a)
  sound (goal a) env i = holds_constant v g w unassigned (suc i) (goal_true v g env a)
  sound (same s t) env i =
      let a = object_under env s in
      let b = object_under env t in
      iff_chain (λ e. eq-eqb a b e, λ e. eqb-true a b e) (holds_constant v g w unassigned (suc i) (eqb a b))
  sound (negation f) env i =
      let a = sound f env i in
      iff_chain {Q = Holds v g w unassigned (progressed v g (w i) env f) (suc i) → ⊥} (λ n p. n (a.1 p), λ n p. n (a.0 p))
      (holds_opposite v g w unassigned (suc i) (progressed v g (w i) env f))
  sound (conjunction f h) env i =
      let a = sound f env i in
      let b = sound h env i in
      iff_chain (λ p. (a.0 p.0, b.0 p.1), λ p. (a.1 p.0, b.1 p.1))
      (holds_both v g w unassigned (suc i) (progressed v g (w i) env f) (progressed v g (w i) env h))
  sound (disjunction f h) env i =
      let a = sound f env i in
      let b = sound h env i in
      iff_chain (λ p. ⊎_elim (λ x. inl (a.0 x)) (λ x. inr (b.0 x)) p, λ p. ⊎_elim (λ x. inl (a.1 x)) (λ x. inr (b.1 x)) p)
      (holds_either v g w unassigned (suc i) (progressed v g (w i) env f) (progressed v g (w i) env h))
  sound (next f) env i = holds_closed f env (suc i)
  sound (eventually f) env i =
      let a = sound f env i in
      let b = holds_closed (eventually f) env (suc i) in
      iff_chain (eventually_now f env i)
      (iff_chain (λ p. ⊎_elim (λ x. inl (a.0 x)) (λ x. inr (b.0 x)) p, λ p. ⊎_elim (λ x. inl (a.1 x)) (λ x. inr (b.1 x)) p)
      (holds_either v g w unassigned (suc i) (progressed v g (w i) env f) (put env (eventually f))))
  sound (always f) env i =
      let a = sound f env i in
      let b = holds_closed (always f) env (suc i) in
      iff_chain (always_now f env i)
      (iff_chain (λ p. (a.0 p.0, b.0 p.1), λ p. (a.1 p.0, b.1 p.1))
      (holds_both v g w unassigned (suc i) (progressed v g (w i) env f) (put env (always f))))
  sound (until f h) env i =
      let a = sound f env i in
      let b = sound h env i in
      let c = holds_closed (until f h) env (suc i) in
      let inner = holds_both v g w unassigned (suc i) (progressed v g (w i) env f) (put env (until f h)) in
      iff_chain (until_now f h env i)
      (iff_chain (
        λ p. ⊎_elim (λ x. inl (b.0 x)) (λ x. inr (inner.0 (a.0 x.0, c.0 x.1))) p,
        λ p. ⊎_elim (λ x. inl (b.1 x)) (λ x. let y = inner.1 x in inr (a.1 y.0, c.1 y.1)) p,
      )
      (holds_either v g w unassigned (suc i) (progressed v g (w i) env h) (both (progressed v g (w i) env f) (put env (until f h)))))
  sound (for_all range body x) env i =
      iff_chain
      (λ p o h e. (sound body (bind x o env) i).0 (p o h e), λ p o h e. (sound body (bind x o env) i).1 (p o h e))
      (holds_all v g w unassigned (suc i) (λ o. progressed v g (w i) (bind x o env) body) v.objects (λ o. picks v g (w i) (bind x o env) range))
  sound (exists range body x) env i =
      iff_chain (
        λ p. (p.0, (p.1.0, (p.1.1.0, (sound body (bind x p.0 env) i).0 p.1.1.1))),
        λ p. (p.0, (p.1.0, (p.1.1.0, (sound body (bind x p.0 env) i).1 p.1.1.1))),
      )
      (holds_any v g w unassigned (suc i) (λ o. progressed v g (w i) (bind x o env) body) v.objects (λ o. picks v g (w i) (bind x o env) range))

pub progression_sound : ProgressionSound
progression_sound v g w f i = sound v g w f unassigned i
